-- A text that grows keeps the answers that stand in it.
use Rattle.std.proofs.Common.{◌≡◌, ℕ, suc, ◌+◌, ◌<◌, ◌≤◌, List, [], ◌∷◌, ◌++◌, length, take, drop, get_or, refl, sym, ap, ◌∙◌, arith, length-drop}
use Rattle.std.proofs.lemmas.List.{drop-append-le, take-append-le, map-append, get_or-map}
use Rattle.std.proofs.Math.Seq.{drop-append_seam}
use Rattle.std.proofs.lemmas.Grind.{common_steps}
use Rattle.session_seats.specs.declared.answer_log.Mark.{Mark}
use Rattle.session_seats.specs.Said.{Said}
use Rattle.session_seats.specs.Log.{all_said, said_in, AreKept}

part_in_longer : (text more : List ℕ) (start len : ℕ) → start + len ≤ length text → take len (drop start (text ++ more)) ≡ take len (drop start text)
part_in_longer text more start len within =
    let a : start ≤ length text = omega arith in
    let b : len ≤ length (drop start text) = omega (arith, length-drop start text) in
    rw (drop-append-le start text more a, take-append-le len (drop start text) more b) refl

pub said_in_longer : (text more : List ℕ) (marks : List Mark) → AreKept text marks → all_said (text ++ more) marks ≡ all_said text marks
said_in_longer text more [] kept = refl
said_in_longer text more (mark ∷ marks) kept =
    let first : take mark.len (drop mark.start (text ++ more)) ≡ take mark.len (drop mark.start text) = part_in_longer text more mark.start mark.len (kept 0 mark (omega arith)) in
    let rest : all_said (text ++ more) marks ≡ all_said text marks = said_in_longer text more marks (λ k d within. kept (suc k) d (omega arith)) in
    rw (first, rest) refl

part_at_end : (text more : List ℕ) → take (length more) (drop (length text) (text ++ more)) ≡ more
part_at_end text more = grind (arith, common_steps, drop-append_seam text more)

pub said_more : (text more : List ℕ) (marks : List Mark) (mark : Mark) → AreKept text marks → mark.start ≡ length text → mark.len ≡ length more
    → all_said (text ++ more) (marks ++ mark ∷ []) ≡ all_said text marks ++ record { place = mark.place; number = mark.number; failed = mark.failed; text = more } ∷ []
said_more text more marks mark kept start len =
    let last : take mark.len (drop mark.start (text ++ more)) ≡ more = rw (start, len) (part_at_end text more) in
    rw (map-append (said_in (text ++ more)) marks (mark ∷ []), said_in_longer text more marks kept, last) refl

-- the same of what was pushed
pub said_pushed : (text more whole : List ℕ) (marks all : List Mark) (mark : Mark) (said : Said) → AreKept text marks → whole ≡ text ++ more → all ≡ marks ++ mark ∷ [] → mark.start ≡ length text → mark.len ≡ length more
    → record { place = mark.place; number = mark.number; failed = mark.failed; text = more } ≡ said → all_said whole all ≡ all_said text marks ++ said ∷ []
said_pushed text more whole marks all mark said kept longer grown start len same =
    ap (λ (t : List ℕ). all_said t all) longer ∙ ap (all_said (text ++ more)) grown ∙ said_more text more marks mark kept start len ∙ ap (λ (d : Said). all_said text marks ++ d ∷ []) same

-- the one that stands behind so many
pub said_there : (text : List ℕ) (marks : List Mark) (turn : ℕ) (mark : Mark) (d : Said) (part : List ℕ) → turn < length marks → mark ≡ get_or marks turn mark → part ≡ take mark.len (drop mark.start text)
    → get_or (all_said text marks) turn d ≡ record { place = mark.place; number = mark.number; failed = mark.failed; text = part }
said_there text marks turn mark d part within is part_is =
    get_or-map (said_in text) marks turn mark d within ∙ ap (said_in text) (sym is) ∙ (rw part_is refl)
