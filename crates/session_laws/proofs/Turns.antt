-- Lines that are answered in turn are a round, whatever the number of seats.
use Rattle.std.proofs.Common.{◌≡◌, ℕ, zero, suc, ◌+◌, ◌%◌, List, [], ◌∷◌, ◌++◌, length, Bool, true, false, Result, Ok, Err, refl, sym, ap, ◌∙◌, inl, inr, subst, arith}
use Rattle.std.specs.Prelude.{All, Contains}
use Rattle.std.proofs.lemmas.List.Elements.{All-contains_itself}
use Rattle.dnr_base.specs.declared.request.Request.{Request}
use Rattle.dnr_spec.specs.Suffixes.{SuffixRule}
use Rattle.rule_spec.specs.State.{State}
use Rattle.line_spec.specs.declared.line_fault.LineFault.{LineFault}
use Rattle.line_spec.specs.Line.{Command, blank, sync, request, explain, update, batch, command_of}
use Rattle.session_spec.specs.Answers.{Setting, known_with, Explains, AnswersBy, RepliesWhy, IsAnswered, Replies, Says, LinesSay, RoundSays}
use Rattle.session_spec.specs.Rounds.{Held, with_line, holds_nothing}
use Rattle.session_spec.specs.Said.{Said, Answer}
use Rattle.session_laws.specs.Turns.{TurnsSay}

-- the state that is known alone
abbrev alone : State → List State
alone state = state ∷ []

pub only_one : (now state : State) → Contains (alone now) state → now ≡ state
only_one now state (zero, inside, is) = is
only_one now state (suc k, inside, is) = absurd (omega (arith, inside))

-- an answer on a state that the round passes through
wider_answer : (wide : List State) (now : State) (seat : ℕ) (Fits : State → Answer → Type 0) (said : Said) → Contains wide now → IsAnswered (alone now) seat Fits said → IsAnswered wide seat Fits said
wider_answer wide now seat Fits said among one = record {
  state = one.state;
  answer = one.answer;
  passed = subst (λ (s : State). Contains wide s) (only_one now one.state one.passed) among;
  fits = one.fits;
  same = one.same;
}

wider_why : (follows : Bool) (suffixes : List SuffixRule) (wide : List State) (now : State) (seat : ℕ) (r : Request) (said : Said) → Contains wide now
    → RepliesWhy follows suffixes (alone now) seat r said → RepliesWhy follows suffixes wide seat r said
wider_why true suffixes wide now seat r said among says = says
wider_why false suffixes wide now seat r said among says = wider_answer wide now seat (Explains suffixes r) said among says

wider_reply : (setting : Setting) (wide : List State) (now : State) (seat : ℕ) (read : Result Command LineFault) (said : Said) (next : State) → Contains wide now
    → Replies setting (alone now) now seat read said next → Replies setting wide now seat read said next
wider_reply setting wide now seat (Ok blank) said next among says = says
wider_reply setting wide now seat (Ok sync) said next among says = says
wider_reply setting wide now seat (Ok (request r)) said next among says = (wider_answer wide now seat (AnswersBy setting.follows setting.suffixes r) said among says.0, says.1)
wider_reply setting wide now seat (Ok (explain r)) said next among says = (wider_why setting.follows setting.suffixes wide now seat r said among says.0, says.1)
wider_reply setting wide now seat (Ok (update new)) said next among says = says
wider_reply setting wide now seat (Ok (batch all)) said next among says = says
wider_reply setting wide now seat (Err fault) said next among says = says

pub wider_line : (setting : Setting) (wide : List State) (now : State) (number seat : ℕ) (line : List ℕ) (said : Said) (next : State) → Contains wide now
    → Says setting (alone now) now number seat line said next → Says setting wide now number seat line said next
wider_line setting wide now number seat line said next among (inl says) = inl (wider_reply setting wide now seat (known_with setting.updates (command_of number line)) said next among says)
wider_line setting wide now number seat line said next among (inr stops) = inr stops

-- ---- a round of such lines

first_in : {X : Type 0} (P : X → Type 0) (x : X) (xs : List X) → All P (x ∷ xs) → P x
first_in P x xs all = all 0 x (omega arith)

rest_in : {X : Type 0} (P : X → Type 0) (x : X) (xs : List X) → All P (x ∷ xs) → All P xs
rest_in P x xs all k d inside = all (suc k) d (omega (arith, inside))

pub turns_wider : (setting : Setting) (wide : List State) (now : State) (number : ℕ) (held : Held) (lines : List (List ℕ)) (said : List Said) (through : List State) (last : State) (filled : Held)
    → All (Contains wide) through → TurnsSay setting now number held lines said through last filled → LinesSay setting wide now number held.asked lines said through last
turns_wider setting wide now number held [] said through last filled among turns = (turns.0, turns.1, turns.2)
turns_wider setting wide now number held (line ∷ lines) said through last filled among turns =
    let all : All (Contains wide) (now ∷ turns.later) = subst (λ (states : List State). All (Contains wide) states) turns.passes among in
    record {
      told = turns.told;
      next = turns.next;
      others = turns.others;
      later = turns.later;
      all = turns.all;
      passes = turns.passes;
      first = wider_line setting wide now number (held.asked % setting.workers) line turns.told turns.next (first_in (Contains wide) now turns.later all) turns.first;
      rest = turns_wider setting wide turns.next (number + 1) (with_line held number line) lines turns.others turns.later last filled (rest_in (Contains wide) now turns.later all) turns.rest;
    }

pub turns_are_round : (setting : Setting) (now : State) (number : ℕ) (lines : List (List ℕ)) (said : List Said) (through : List State) (last : State) (filled : Held)
    → TurnsSay setting now number holds_nothing lines said through last filled → RoundSays setting now number lines said last
turns_are_round setting now number lines said through last filled turns = record {
  states = through;
  says = turns_wider setting through now number holds_nothing lines said through last filled (All-contains_itself through) turns;
}

-- ---- one line more

moved : (setting : Setting) (now : State) (number other : ℕ) (seat : ℕ) (line : List ℕ) (said : Said) (next : State) → number ≡ other
    → Says setting (alone now) now number seat line said next → Says setting (alone now) now other seat line said next
moved setting now number other seat line said next same says = subst (λ (n : ℕ). Says setting (alone now) now n seat line said next) same says

one_turn : (setting : Setting) (now : State) (number : ℕ) (held : Held) (line : List ℕ) (told : Said) (next : State)
    → Says setting (alone now) now number (held.asked % setting.workers) line told next
    → TurnsSay setting now number held (line ∷ []) (told ∷ []) (now ∷ next ∷ []) next (with_line held number line)
one_turn setting now number held line told next says = record {
  told = told;
  next = next;
  others = [];
  later = next ∷ [];
  all = refl;
  passes = refl;
  first = says;
  rest = (refl, refl, refl, refl);
}

-- the states that lines pass through, and one more
pub record OneMore (setting : Setting) (now : State) (number : ℕ) (held : Held) (lines : List (List ℕ)) (said : List Said) (last : State) (filled : Held) : Type 0 where
  pub through : List State
  pub turns : TurnsSay setting now number held lines said through last filled

pub turns_more : (setting : Setting) (now : State) (number : ℕ) (held : Held) (lines : List (List ℕ)) (said : List Said) (through : List State) (last : State) (filled : Held)
    (at : ℕ) (line : List ℕ) (told : Said) (next : State) → at ≡ number + length lines
    → TurnsSay setting now number held lines said through last filled → Says setting (alone last) last at (filled.asked % setting.workers) line told next
    → OneMore setting now number held (lines ++ line ∷ []) (said ++ told ∷ []) next (with_line filled at line)
turns_more setting now number held [] said through last filled at line told next place turns says =
    let here : at ≡ number = omega (arith, place) in
    let same : Says setting (alone now) now number (held.asked % setting.workers) line told next =
    subst (λ (s : State). Says setting (alone s) s number (held.asked % setting.workers) line told next) turns.2
    (subst (λ (h : Held). Says setting (alone last) last number (h.asked % setting.workers) line told next) turns.3 (moved setting last at number (filled.asked % setting.workers) line told next here says)) in
    record {
      through = now ∷ next ∷ [];
      turns = subst (λ (h : Held). TurnsSay setting now number held (line ∷ []) (said ++ told ∷ []) (now ∷ next ∷ []) next h) (ap (λ h. with_line h number line) (sym turns.3) ∙ ap (λ n. with_line filled n line) (sym here))
          (subst (λ (ts : List Said). TurnsSay setting now number held (line ∷ []) (ts ++ told ∷ []) (now ∷ next ∷ []) next (with_line held number line)) (sym turns.0)
          (one_turn setting now number held line told next same));
    }
turns_more setting now number held (first ∷ lines) said through last filled at line told next place turns says =
    let more = turns_more setting turns.next (number + 1) (with_line held number first) lines turns.others turns.later last filled at line told next (omega (arith, place)) turns.rest says in
    record {
      through = now ∷ more.through;
      turns = record {
        told = turns.told;
        next = turns.next;
        others = turns.others ++ told ∷ [];
        later = more.through;
        all = ap (λ ts. ts ++ told ∷ []) turns.all;
        passes = refl;
        first = turns.first;
        rest = more.turns;
      };
    }
