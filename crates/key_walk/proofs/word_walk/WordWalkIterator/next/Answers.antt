use Rattle.std.proofs.Common.{rules, arith, ◌≡◌, ◌++◌, take, drop, List, ℕ, ◌+◌, ◌<◌, ◌≤◌, ◌^◌, length, ◌∷◌, ap, ◌∙◌, sym, length-drop, refl}
use Rattle.key_walk.specs.Met as spec
use Rattle.index_spec.specs.Words.{words_of}
use Rattle.key_table.specs.Pairs.{near_of}
use Rattle.key_walk.proofs.Passed.{words_few, passed_one, step_new, step_met, step_none}
use Rattle.key_walk.proofs.word_walk.WordWalkIterator.next.Goals as goal

pub overflow_add-self : goal.overflow_add-self
overflow_add-self c =
    let all : List (List ℕ) = words_of c.loop-word.self-inside.text.now in
    let few : length all ≤ length c.loop-word.self-inside.text.now + 1 = words_few c.loop-word.self-inside.text.now in
    let short : length c.loop-word.self-inside.text.now < 2 ^ 63 = c.loop-word.invariant.few in
    let is : drop c.loop-word.self-inside.passed all ≡ c.in-Some-next.word.now ∷ c.next-in-loop-word.new.self = sym c.loop-word.invariant.words ∙ c.in-Some-next.ensures.steps in
    let len : length (drop c.loop-word.self-inside.passed all) ≡ length (c.in-Some-next.word.now ∷ c.next-in-loop-word.new.self) = ap length is in
    omega (arith, length-drop c.loop-word.self-inside.passed all)

pub invariant_of-self-then-not-is_met : goal.invariant_of-self-then-not-is_met
invariant_of-self-then-not-is_met c = (
  sym (passed_one (words_of c.loop-word.self-inside.text.now) c.loop-word.self-inside.passed c.in-Some-next.word.now c.next-in-loop-word.new.self (sym c.loop-word.invariant.words ∙ c.in-Some-next.ensures.steps)).1,
  c.loop-word.invariant.few,
)

pub returns-then-not-is_met-clause-steps : goal.returns-then-not-is_met-clause-steps
returns-then-not-is_met-clause-steps c =
    sym c.self.view_is
    ∙ ap (λ places. places ++ spec.places_behind c.self.inside.table.now c.self.inside.shown (take c.self.inside.passed (words_of c.self.inside.text.now)) c.self.inside.words) c.in_default.ensures.steps.0
    ∙ sym c.loop-word.invariant.left
    ∙ step_new c.loop-word.self-inside.table.now c.loop-word.self-inside.shown (words_of c.loop-word.self-inside.text.now) c.loop-word.self-inside.words c.loop-word.self-inside.passed c.in-Some-next.word.now c.next-in-loop-word.new.self c.in-Some-next-2.place c.next-in-Some-next.new.self
    c.loop-word.invariant.words c.in-Some-next.ensures.steps (ap (λ key. near_of key c.loop-word.self-inside.shown c.loop-word.self-inside.table.now) (sym c.in_lower_case.ensures) ∙ sym c.asked-places.ensures ∙ c.in-Some-next-2.ensures.steps) (sym c.is_met.ensures ∙ c.if-not-is_met.true)

pub returns-then-not-is_met-clause-goes : goal.returns-then-not-is_met-clause-goes
returns-then-not-is_met-clause-goes c = let e = returns-then-not-is_met-clause-steps c in rw e (search rules)

pub loop-word-preserved-else-not-is_met : goal.loop-word-preserved-else-not-is_met
loop-word-preserved-else-not-is_met c = record {
  places = c.loop-word.invariant.places;
  few = c.loop-word.invariant.few;
  words = sym (passed_one (words_of c.loop-word.self-inside.text.now) c.loop-word.self-inside.passed c.in-Some-next.word.now c.next-in-loop-word.new.self (sym c.loop-word.invariant.words ∙ c.in-Some-next.ensures.steps)).1;
  left = step_met c.loop-word.self-inside.table.now c.loop-word.self-inside.shown (words_of c.loop-word.self-inside.text.now) c.loop-word.self-inside.words c.loop-word.self-inside.passed c.in-Some-next.word.now c.next-in-loop-word.new.self
      c.loop-word.invariant.words c.in-Some-next.ensures.steps (sym c.is_met.ensures ∙ c.if-not-is_met.false) ∙ c.loop-word.invariant.left;
}

pub loop-word-preserved : goal.loop-word-preserved
loop-word-preserved c = record {
  places = c.loop-word.invariant.places;
  few = c.loop-word.invariant.few;
  words = sym (passed_one (words_of c.loop-word.self-inside.text.now) c.loop-word.self-inside.passed c.in-Some-next.word.now c.next-in-loop-word.new.self (sym c.loop-word.invariant.words ∙ c.in-Some-next.ensures.steps)).1;
  left = step_none c.loop-word.self-inside.table.now c.loop-word.self-inside.shown (words_of c.loop-word.self-inside.text.now) c.loop-word.self-inside.words c.loop-word.self-inside.passed c.in-Some-next.word.now c.next-in-loop-word.new.self
      c.loop-word.invariant.words c.in-Some-next.ensures.steps (ap (λ key. near_of key c.loop-word.self-inside.shown c.loop-word.self-inside.table.now) (sym c.in_lower_case.ensures) ∙ sym c.asked-places.ensures ∙ c.in_default-next-2.ensures.steps.0) ∙ c.loop-word.invariant.left;
}

pub returns-clause-steps : goal.returns-clause-steps
returns-clause-steps c = (
  sym c.self.view_is
      ∙ ap (λ places. places ++ spec.places_behind c.self.inside.table.now c.self.inside.shown (take c.self.inside.passed (words_of c.self.inside.text.now)) c.self.inside.words) c.in_default.ensures.steps.0
      ∙ sym c.loop-word.invariant.left
      ∙ ap (spec.places_behind c.loop-word.self-inside.table.now c.loop-word.self-inside.shown (take c.loop-word.self-inside.passed (words_of c.loop-word.self-inside.text.now))) c.in_default-next.ensures.steps.0,
  rw (c.loop-word.invariant.places, c.in_default-next.ensures.steps.1) refl,
)
