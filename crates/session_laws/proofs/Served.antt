-- A session that serves its script in turn, one line after another and one round after another.
use Rattle.std.proofs.Common.{◌≡◌, ℕ, suc, ◌+◌, ◌%◌, List, [], ◌∷◌, ◌++◌, length, Option, Some, None, refl, sym, ap, ◌∙◌, subst, arith, append_assoc, append-nil, length-append}
use Rattle.std.specs.Prelude.{slice_get}
use Rattle.std.proofs.lemmas.List.Elements.{filter_map-append}
use Rattle.dnr_base.specs.Faults.{Count}
use Rattle.rule_spec.specs.State.{State}
use Rattle.line_spec.specs.Line.{command_of}
use Rattle.session_spec.specs.Answers.{Setting, LinesSay, RoundSays, RoundsSay, HostRisesBy, Serves}
use Rattle.session_spec.specs.Rounds.{Held, holds_nothing, with_line, asks}
use Rattle.session_spec.specs.Said.{Said, said_line, lines_text, number_by, numbers_by, NeverFallFrom, NeverFall, count_failed, count_stopped}
use Rattle.session_laws.specs.Turns.{TurnsSay, LineTold}
use Rattle.session_laws.proofs.Turns.{turns_are_round, turns_more}
use Rattle.session_laws.proofs.Told.{line_rises, line_numbered, no_fall_before, order_more, failed_more, stopped_more, text_append}
use Rattle.session_laws.proofs.Rises.{RisesWith}
use Rattle.session_laws.proofs.Cut.{alone_open}

-- how many lines rounds have
abbrev pub count_in : List (List (List ℕ)) → ℕ
count_in [] = 0
count_in (round ∷ rounds) = length round + count_in rounds

count_more : (rounds : List (List (List ℕ))) (round : List (List ℕ)) → count_in (rounds ++ round ∷ []) ≡ count_in rounds + length round
count_more [] round = omega arith
count_more (first ∷ rounds) round = omega (arith, count_more rounds round)

-- ---- rounds, one after another

round_at : (setting : Setting) (now : State) (number other : ℕ) (round : List (List ℕ)) (said : List Said) (last : State) → number ≡ other
    → RoundSays setting now number round said last → RoundSays setting now other round said last
round_at setting now number other round said last same says = subst (λ (n : ℕ). RoundSays setting now n round said last) same says

rounds_more : (setting : Setting) (now : State) (number : ℕ) (rounds : List (List (List ℕ))) (said : List Said) (middle : State) (round : List (List ℕ)) (told : List Said) (last : State) (at : ℕ)
    → at ≡ number + count_in rounds → RoundsSay setting now number rounds said middle → RoundSays setting middle at round told last
    → RoundsSay setting now number (rounds ++ round ∷ []) (said ++ told) last
rounds_more setting now number [] said middle round told last at place says more = record {
  told = told;
  next = last;
  others = [];
  all = ap (λ ts. ts ++ told) says.0 ∙ sym (append-nil told);
  first = subst (λ (s : State). RoundSays setting s number round told last) says.1 (round_at setting middle at number round told last (omega (arith, place)) more);
  rest = (refl, refl);
}
rounds_more setting now number (first ∷ rounds) said middle round told last at place says more = record {
  told = says.told;
  next = says.next;
  others = says.others ++ told;
  all = ap (λ ts. ts ++ told) says.all ∙ append_assoc says.told says.others told;
  first = says.first;
  rest = rounds_more setting says.next (number + length first) rounds says.others middle round told last at (omega (arith, place)) says.rest more;
}

-- ---- what was served

-- These rounds were served whole and make up what was written, and these lines of the next one, which make up what is
-- kept of it. The next line has this number.
pub record Served (setting : Setting) (first : State) (hosts : List Count) (rounds : List (List (List ℕ))) (begun : List (List ℕ)) (written text : List ℕ) (now : State) (held : Held) (number : ℕ) : Type 0 where
  pub said : List Said
  pub middle : State
  pub says : RoundsSay setting first 1 rounds said middle
  pub start : ℕ
  pub after_said : start ≡ 1 + length said
  pub after_rounds : start ≡ 1 + count_in rounds
  pub told : List Said
  pub through : List State
  pub turns : TurnsSay setting middle start holds_nothing begun told through now held
  pub here : number ≡ start + length begun
  pub as_many : length told ≡ length begun
  pub order : (seat : ℕ) → NeverFall (numbers_by seat (said ++ told) ++ now.count ∷ [])
  pub sent : written ≡ lines_text 1 said
  pub kept : text ≡ lines_text start told
  pub finders : (seat : ℕ) → HostRisesBy (count_failed seat (said ++ told)) (slice_get hosts (suc seat))
  pub checker : HostRisesBy (count_stopped (said ++ told)) (slice_get hosts 0)

pub served_first : (setting : Setting) (first : State) (hosts : List Count) → ((place : ℕ) → HostRisesBy 0 (slice_get hosts place))
    → Served setting first hosts [] [] [] [] first holds_nothing 1
served_first setting first hosts none = record {
  said = [];
  middle = first;
  says = (refl, refl);
  start = 1;
  after_said = refl;
  after_rounds = refl;
  told = [];
  through = first ∷ [];
  turns = (refl, refl, refl, refl);
  here = refl;
  as_many = refl;
  order = λ seat. (omega arith, tt);
  sent = refl;
  kept = refl;
  finders = λ seat. none (suc seat);
  checker = none 0;
}

times_are : (n m : ℕ) (host : Option Count) → n ≡ m → HostRisesBy n host → HostRisesBy m host
times_are n m host same rises = subst (λ (k : ℕ). HostRisesBy k host) same rises

-- one line more
pub served_more : (setting : Setting) (first : State) (hosts later : List Count) (rounds : List (List (List ℕ))) (begun : List (List ℕ)) (written text : List ℕ) (now : State) (held : Held) (number : ℕ)
    (line : List ℕ) (grown : List ℕ) (next : State)
    → Served setting first hosts rounds begun written text now held number → LineTold setting now number (held.asked % setting.workers) line text grown next (RisesWith hosts later)
    → Served setting first later rounds (begun ++ line ∷ []) written grown next (with_line held number line) (number + 1)
served_more setting first hosts later rounds begun written text now held number line grown next served one =
    let more = turns_more setting served.middle served.start holds_nothing begun served.told served.through now held number line one.told next served.here served.turns one.says in
    let all : served.said ++ (served.told ++ one.told ∷ []) ≡ (served.said ++ served.told) ++ one.told ∷ [] = sym (append_assoc served.said served.told (one.told ∷ [])) in
    let place : number ≡ served.start + length served.told = omega (arith, served.here, served.as_many) in
    record {
      said = served.said;
      middle = served.middle;
      says = served.says;
      start = served.start;
      after_said = served.after_said;
      after_rounds = served.after_rounds;
      told = served.told ++ one.told ∷ [];
      through = more.through;
      turns = more.turns;
      here = omega (arith, served.here, length-append begun (line ∷ []));
      as_many = omega (arith, served.as_many, length-append begun (line ∷ []), length-append served.told (one.told ∷ []));
      order = rw all (order_more now next (served.said ++ served.told) one.told (line_rises setting (now ∷ []) now number (held.asked % setting.workers) line one.told next one.says)
          (line_numbered setting now number (held.asked % setting.workers) line one.told next one.says) served.order);
      sent = served.sent;
      kept = one.appended ∙ ap (λ t. t ++ said_line number one.told) served.kept
          ∙ ap (λ (n : ℕ). lines_text served.start served.told ++ said_line n one.told) place
          ∙ ap (λ t. lines_text served.start served.told ++ t) (sym (append-nil (said_line (served.start + length served.told) one.told)))
          ∙ sym (text_append served.start served.told (one.told ∷ []));
      finders = λ seat. rw all (times_are (count_failed seat (served.said ++ served.told) + count_failed seat (one.told ∷ [])) _ (slice_get later (suc seat)) (sym (failed_more seat (served.said ++ served.told) (one.told ∷ [])))
          (one.rises.finders seat (count_failed seat (served.said ++ served.told)) (served.finders seat)));
      checker = rw all (times_are (count_stopped (served.said ++ served.told) + count_stopped (one.told ∷ [])) _ (slice_get later 0) (sym (stopped_more (served.said ++ served.told) (one.told ∷ [])))
          (one.rises.checker (count_stopped (served.said ++ served.told)) served.checker));
    }

-- the round is whole, and is written
pub served_round : (setting : Setting) (first : State) (hosts : List Count) (rounds : List (List (List ℕ))) (begun : List (List ℕ)) (written text : List ℕ) (now : State) (held : Held) (number : ℕ)
    → Served setting first hosts rounds begun written text now held number
    → Served setting first hosts (rounds ++ begun ∷ []) [] (written ++ text) [] now holds_nothing number
served_round setting first hosts rounds begun written text now held number served = record {
  said = served.said ++ served.told;
  middle = now;
  says = rounds_more setting first 1 rounds served.said served.middle begun served.told now served.start (omega (arith, served.after_rounds)) served.says
      (turns_are_round setting served.middle served.start begun served.told served.through now held served.turns);
  start = number;
  after_said = omega (arith, served.after_said, served.here, served.as_many, length-append served.said served.told);
  after_rounds = omega (arith, served.after_rounds, served.here, count_more rounds begun);
  told = [];
  through = now ∷ [];
  turns = (refl, refl, refl, refl);
  here = omega arith;
  as_many = refl;
  order = rw (append-nil (served.said ++ served.told)) served.order;
  sent = ap (λ t. t ++ text) served.sent ∙ ap (λ t. lines_text 1 served.said ++ t) (served.kept ∙ ap (λ (n : ℕ). lines_text n served.told) served.after_said) ∙ sym (text_append 1 served.said served.told);
  kept = refl;
  finders = rw (append-nil (served.said ++ served.told)) served.finders;
  checker = rw (append-nil (served.said ++ served.told)) served.checker;
}

-- ---- a round that is served at once

as_many_said : (setting : Setting) (states : List State) (now : State) (number asked : ℕ) (lines : List (List ℕ)) (said : List Said) (through : List State) (last : State)
    → LinesSay setting states now number asked lines said through last → length said ≡ length lines
as_many_said setting states now number asked [] said through last says = ap length says.0
as_many_said setting states now number asked (line ∷ lines) said through last says =
    let more = as_many_said setting states says.next (number + 1) (asked + asks (command_of number line)) lines says.others says.later last says.rest in
    omega (arith, more, ap length says.all)

-- numbers that go on from the last of those that never fall
order_on : (least : ℕ) (numbers : List ℕ) (last : ℕ) (later : List ℕ) → NeverFallFrom least (numbers ++ last ∷ []) → NeverFallFrom last later → NeverFallFrom least (numbers ++ later)
order_on least [] last [] order on = tt
order_on least [] last (next ∷ later) order on = (omega (arith, order.0, on.0), on.1)
order_on least (first ∷ numbers) last later order on = (order.0, order_on first numbers last later order.1 on)

-- one round more, whatever the order in which its seats worked
pub served_whole : (setting : Setting) (first : State) (hosts later : List Count) (rounds : List (List (List ℕ))) (written : List ℕ) (now : State) (number : ℕ)
    (round : List (List ℕ)) (said : List Said) (text : List ℕ) (next : State)
    → Served setting first hosts rounds [] written [] now holds_nothing number → RoundSays setting now number round said next → text ≡ lines_text number said
    → ((seat : ℕ) → NeverFallFrom now.count (numbers_by seat said ++ next.count ∷ []))
    → ((seat times : ℕ) → HostRisesBy times (slice_get hosts (suc seat)) → HostRisesBy (times + count_failed seat said) (slice_get later (suc seat)))
    → ((times : ℕ) → HostRisesBy times (slice_get hosts 0) → HostRisesBy (times + count_stopped said) (slice_get later 0))
    → Served setting first later (rounds ++ round ∷ []) [] (written ++ text) [] next holds_nothing (number + length round)
served_whole setting first hosts later rounds written now number round said text next served says grown order finders checker =
    let as_long = as_many_said setting says.states now number 0 round said says.states next says.says in
    let none : served.told ≡ [] = served.turns.0 in
    let all : served.said ++ served.told ≡ served.said = ap (λ ts. served.said ++ ts) none ∙ append-nil served.said in
    let place : number ≡ 1 + length served.said = omega (arith, served.here, served.after_said) in
    record {
      said = served.said ++ said;
      middle = next;
      says = rounds_more setting first 1 rounds served.said served.middle round said next number (omega (arith, served.after_rounds, served.here)) served.says
          (subst (λ (s : State). RoundSays setting s number round said next) served.turns.2 says);
      start = number + length round;
      after_said = omega (arith, place, as_long, length-append served.said said);
      after_rounds = omega (arith, served.after_rounds, served.here, count_more rounds round);
      told = [];
      through = next ∷ [];
      turns = (refl, refl, refl, refl);
      here = omega arith;
      as_many = refl;
      order = λ seat. rw (append-nil (served.said ++ said), filter_map-append (number_by seat) served.said said, append_assoc (numbers_by seat served.said) (numbers_by seat said) (next.count ∷ []))
          (order_on 0 (numbers_by seat served.said) now.count (numbers_by seat said ++ next.count ∷ [])
          (subst (λ (ts : List Said). NeverFall (numbers_by seat ts ++ now.count ∷ [])) all (served.order seat)) (order seat));
      sent = ap (λ t. t ++ text) served.sent ∙ ap (λ t. lines_text 1 served.said ++ t) (grown ∙ ap (λ (n : ℕ). lines_text n said) place) ∙ sym (text_append 1 served.said said);
      kept = refl;
      finders = λ seat. rw (append-nil (served.said ++ said)) (times_are (count_failed seat served.said + count_failed seat said) _ (slice_get later (suc seat)) (sym (failed_more seat served.said said))
          (finders seat (count_failed seat served.said) (times_are _ _ (slice_get hosts (suc seat)) (ap (count_failed seat) all) (served.finders seat))));
      checker = rw (append-nil (served.said ++ said)) (times_are (count_stopped served.said + count_stopped said) _ (slice_get later 0) (sym (stopped_more served.said said))
          (checker (count_stopped served.said) (times_are _ _ (slice_get hosts 0) (ap count_stopped all) served.checker)));
    }

-- ---- what is allowed

fewer : (few more : ℕ) (host : Option Count) → HostRisesBy (few + more) host → HostRisesBy few host
fewer few more None rises = omega (arith, rises)
fewer few more (Some count) rises = omega (arith, rises)

order_of_said : (seat : ℕ) (said told : List Said) (count : ℕ) → NeverFall (numbers_by seat (said ++ told) ++ count ∷ []) → NeverFall (numbers_by seat said)
order_of_said seat said told count order =
    no_fall_before 0 (numbers_by seat said) (numbers_by seat told)
    (subst NeverFall (filter_map-append (number_by seat) said told) (no_fall_before 0 (numbers_by seat (said ++ told)) (count ∷ []) order))

-- the whole rounds, without what is kept of the next one
pub serves_rounds : (setting : Setting) (first : State) (hosts : List Count) (rounds : List (List (List ℕ))) (begun : List (List ℕ)) (written text : List ℕ) (now : State) (held : Held) (number : ℕ)
    → Served setting first hosts rounds begun written text now held number → Serves hosts setting first rounds written
serves_rounds setting first hosts rounds begun written text now held number served = record {
  said = served.said;
  last = served.middle;
  says = served.says;
  order = λ seat. order_of_said seat served.said served.told now.count (served.order seat);
  text = served.sent;
  finders = λ seat. fewer (count_failed seat served.said) (count_failed seat served.told) (slice_get hosts (suc seat))
      (times_are _ _ (slice_get hosts (suc seat)) (failed_more seat served.said served.told) (served.finders seat));
  checker = fewer (count_stopped served.said) (count_stopped served.told) (slice_get hosts 0)
      (times_are _ _ (slice_get hosts 0) (stopped_more served.said served.told) served.checker);
}

nothing_kept : (setting : Setting) (middle : State) (start : ℕ) (told : List Said) (through : List State) (now : State) (held : Held) (text : List ℕ)
    → TurnsSay setting middle start holds_nothing [] told through now held → text ≡ lines_text start told → text ≡ []
nothing_kept setting middle start told through now held text turns kept = kept ∙ ap (λ (ts : List Said). lines_text start ts) turns.0

-- the script ends: what is kept is a last round, where there is any
pub serves_all : (setting : Setting) (first : State) (hosts : List Count) (rounds : List (List (List ℕ))) (begun : List (List ℕ)) (written text : List ℕ) (now : State) (held : Held) (number : ℕ)
    → Served setting first hosts rounds begun written text now held number → Serves hosts setting first (rounds ++ alone_open begun) (written ++ text)
serves_all setting first hosts rounds [] written text now held number served =
    rw (append-nil rounds, nothing_kept setting served.middle served.start served.told served.through now held text served.turns served.kept, append-nil written)
    (serves_rounds setting first hosts rounds [] written text now held number served)
serves_all setting first hosts rounds (line ∷ begun) written text now held number served =
    serves_rounds setting first hosts (rounds ++ (line ∷ begun) ∷ []) [] (written ++ text) [] now holds_nothing number
    (served_round setting first hosts rounds (line ∷ begun) written text now held number served)
