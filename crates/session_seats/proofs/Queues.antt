-- Lines that were cut, in the queue of what is to be given to rounds.
use Rattle.std.proofs.Common.{◌≡◌, ℕ, List, [], ◌∷◌, ◌++◌, length, Option, sym, ap, ◌∙◌, subst, arith, append_assoc, append-nil}
use Rattle.std.proofs.lemmas.List.{map-append}
use Rattle.dnr_io.specs.Lines.{AreEnded, ahead}
use Rattle.generation.specs.Basis.{Basis}
use Rattle.lines_ahead.specs.Cut.{CutSeen}
use Rattle.update_spec.specs.Entries.{Entry}
use Rattle.session_seats.specs.Cutting.{CutsLines, CutsReady, CutterSeen, bytes_of, given_by, GivesLines}
use Rattle.session_seats.specs.Reading.{ReadRound}
use Rattle.session_seats.proofs.SoFar.{SoFar, ended_too, line_gathered}

-- lines were read one after another
pub lines_gathered : (opening : Basis) (seats : ℕ) (before now : Option (List ℕ)) (was : List ℕ) (checker : ℕ) (finders : List ℕ) (known rest next : Option (List ℕ)) (given : ℕ) (queue lines : List (List ℕ)) (round : ReadRound) (list : List Entry)
    → SoFar opening seats before now was checker finders known rest given queue round list → GivesLines rest next lines
    → SoFar opening seats before now was checker finders known next given (queue ++ lines) round list
lines_gathered opening seats before now was checker finders known rest next given queue [] round list so_far gives =
    subst (λ (ls : List (List ℕ)). SoFar opening seats before now was checker finders known next given ls round list) (sym (append-nil queue))
    (subst (λ (r : Option (List ℕ)). SoFar opening seats before now was checker finders known r given queue round list) (sym gives) so_far)
lines_gathered opening seats before now was checker finders known rest next given queue (line ∷ lines) round list so_far gives =
    subst (λ (ls : List (List ℕ)). SoFar opening seats before now was checker finders known next given ls round list) (append_assoc queue (line ∷ []) lines)
    (lines_gathered opening seats before now was checker finders known gives.0 next given (queue ++ line ∷ []) lines round list
    (line_gathered opening seats before now was checker finders known rest gives.0 given queue round list line so_far gives.1) gives.2)

-- lines were cut behind those of a queue
pub lines_cut : (opening : Basis) (seats : ℕ) (before now : Option (List ℕ)) (was : List ℕ) (checker : ℕ) (finders : List ℕ) (known rest : Option (List ℕ)) (given : ℕ) (kept lines : List CutSeen) (Holds : Option (List ℕ) → Type 0) (round : ReadRound) (list : List Entry)
    → (cuts : CutsLines rest kept lines Holds) → SoFar opening seats before now was checker finders known rest given (bytes_of kept) round list
    → SoFar opening seats before now was checker finders known cuts.behind given (bytes_of lines) round list
lines_cut opening seats before now was checker finders known rest given kept lines Holds round list cuts so_far =
    subst (λ (ls : List (List ℕ)). SoFar opening seats before now was checker finders known cuts.behind given ls round list) (sym (ap bytes_of cuts.longer ∙ map-append (λ (line : CutSeen). line.bytes) kept cuts.more))
    (lines_gathered opening seats before now was checker finders known rest cuts.behind given (bytes_of kept) (bytes_of cuts.more) round list so_far cuts.gives)

-- they stand behind those that were served
pub served_ahead : (opening : Basis) (seats : ℕ) (before now : Option (List ℕ)) (was : List ℕ) (checker : ℕ) (finders : List ℕ) (known behind left : Option (List ℕ)) (given : ℕ) (round : ReadRound) (list : List Entry) (from to : CutterSeen)
    → from.lines ≡ [] → given ≡ from.reading.count → ahead from.reading left ≡ behind → CutsReady from to → SoFar opening seats before now was checker finders known behind given [] round list
    → SoFar opening seats before now was checker finders known (ahead to.reading left) (given_by to) (bytes_of to.lines) round list
served_ahead opening seats before now was checker finders known behind left given round list from to none here stands ready so_far =
    let cuts = ready.cut left in
    let same : given ≡ given_by to = omega (arith, here, ap length none, ready.given) in
    subst (λ (n : ℕ). SoFar opening seats before now was checker finders known (ahead to.reading left) n (bytes_of to.lines) round list) same
    (subst (λ (rest : Option (List ℕ)). SoFar opening seats before now was checker finders known rest given (bytes_of to.lines) round list) (sym cuts.holds.0)
    (lines_cut opening seats before now was checker finders known (ahead from.reading left) given from.lines to.lines _ round list cuts
    (subst (λ (ls : List CutSeen). SoFar opening seats before now was checker finders known (ahead from.reading left) given (bytes_of ls) round list) (sym none)
    (subst (λ (rest : Option (List ℕ)). SoFar opening seats before now was checker finders known rest given [] round list) (sym stands) so_far))))

pub ended_ahead : (opening : Basis) (seats : ℕ) (before now : Option (List ℕ)) (was : List ℕ) (checker : ℕ) (finders : List ℕ) (known behind left : Option (List ℕ)) (given : ℕ) (round : ReadRound) (list : List Entry) (from to : CutterSeen)
    → ahead from.reading left ≡ behind → CutsReady from to → SoFar opening seats before now was checker finders known behind given [] round list → AreEnded known behind
    → AreEnded known (ahead to.reading left)
ended_ahead opening seats before now was checker finders known behind left given round list from to stands ready so_far ended =
    let holds = (ready.cut left).holds in
    ended_too opening seats before now was checker finders known behind (ahead to.reading left) given [] round list so_far ended
    (subst (λ (rest : Option (List ℕ)). AreEnded rest (ahead to.reading left)) stands (subst (λ (rest : Option (List ℕ)). AreEnded (ahead from.reading left) rest) (sym holds.0) holds.1))
