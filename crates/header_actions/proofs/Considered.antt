-- What is kept of a direction goes on as the definition does.
use Rattle.std.proofs.Common.{◌≡◌, ℕ, ◌+◌, List, [], ◌∷◌, ◌++◌, bytes_eq, Bool, true, false, cond, not, ◌&&◌, nat_lt, is_some, Option, Some, None, Result, Ok, Err, IfOk, refl, sym, ap, ◌∙◌, subst, ⊎_elim, arith}
use Rattle.std.proofs.lemmas.Bool.{cases_Bool, cond-true, cond-false}
use Rattle.dnr_base.specs.declared.no_memory.NoMemory.{NoMemory}
use Rattle.dnr_base.specs.declared.direction.Direction.{Direction}
use Rattle.dnr_base.specs.declared.direction.Direction.TheVariants.{Request, Response}
use Rattle.dnr_base.specs.declared.offered.Offered.{Offered}
use Rattle.dnr_spec.specs.Headers.{is_same_direction, takes_effect, max_effective}
use Rattle.header_actions.specs.declared.effects.Effects.{Effects}
use Rattle.header_actions.specs.declared.standing.Standing.{Standing}
use Rattle.header_actions.specs.Effects.{First, first_on, count_on, lets, IsSettled, with_first, with_taken, first_kept, admits, Keeps, Takes, Goes}
use Rattle.header_actions.specs.Standing.{Stands, Tells}
use Rattle.header_actions.proofs.Settled.{not_not, bytes_same, bytes_turned, first_on_other, first_on_same, settled_more, count_more}

-- ---- the first change that is kept

pub kept_new : (f g : List ℕ → Option First) (name : List ℕ) (offer : Offered) → f name ≡ None → ((q : List ℕ) → g q ≡ cond (bytes_eq name q) (Some (offer.operation, offer.age)) (f q))
    → (q : List ℕ) → g q ≡ cond (bytes_eq name q) (with_first (f name) offer) (f q)
kept_new f g name offer none after q = after q ∙ ap (λ o. cond (bytes_eq name q) (with_first o offer) (f q)) (sym none)

pub none_of : (first : Option First) → is_some first ≡ false → first ≡ None
none_of None h = refl
none_of (Some first) h = cc

by_kept : (first : Option First) (offer : Offered) → is_some first ≡ true → with_first first offer ≡ first
by_kept None offer h = cc
by_kept (Some first) offer h = refl

pub kept_old : (f : List ℕ → Option First) (name : List ℕ) (offer : Offered) → is_some (f name) ≡ true → (q : List ℕ) → f q ≡ cond (bytes_eq name q) (with_first (f name) offer) (f q)
kept_old f name offer some q =
    ⊎_elim
    (λ (same : bytes_eq name q ≡ true). ap f (sym (bytes_same name q same)) ∙ sym (by_kept (f name) offer some) ∙ sym (cond-true (bytes_eq name q) (with_first (f name) offer) (f q) same))
    (λ (other : bytes_eq name q ≡ false). sym (cond-false (bytes_eq name q) (with_first (f name) offer) (f q) other))
    (cases_Bool (bytes_eq name q))

-- ---- one direction

admits_is : (effects : Effects) (before : List Offered) (offer : Offered) → Keeps effects offer.direction before → IsSettled before → admits effects.count (first_kept effects offer.name) offer ≡ takes_effect before offer
admits_is effects before offer keeps settled =
    let count = count_on offer.direction before in
    let first = first_on offer.direction offer.name before in
    ap (λ n. nat_lt n max_effective && lets (first_kept effects offer.name) offer) keeps.count
    ∙ ap (λ f. nat_lt count max_effective && lets f offer) (keeps.first offer.name)
    ∙ ap (λ b. nat_lt count max_effective && b) (sym (not_not (lets first offer)) ∙ ap not (sym (settled offer)))

same_direction : (d : Direction) → is_same_direction d d ≡ true
same_direction Request = refl
same_direction Response = refl

keeps_taken : (old new : Effects) (before : List Offered) (offer : Offered) → Keeps old offer.direction before → Takes old new offer → Keeps new offer.direction (before ++ offer ∷ [])
keeps_taken old new before offer keeps takes = record {
  count = takes.count ∙ ap (λ n. n + 1) keeps.count ∙ sym (count_more offer.direction before offer ∙ ap (λ b. count_on offer.direction before + cond b 1 0) (same_direction offer.direction));
  first = λ name.
      let here = same_direction offer.direction in
      ⊎_elim
      (λ (same : bytes_eq offer.name name ≡ true).
      let e = bytes_same offer.name name same in
      takes.first name ∙ cond-true (bytes_eq offer.name name) (with_first (first_kept old offer.name) offer) (first_kept old name) same
      ∙ ap (λ f. with_first f offer) (keeps.first offer.name)
      ∙ sym (first_on_same offer.direction offer.name before offer (ap (λ b. b && bytes_eq offer.name offer.name) here ∙ ap (λ n. bytes_eq offer.name n) e ∙ same))
      ∙ ap (λ n. first_on offer.direction n (before ++ offer ∷ [])) e)
      (λ (other : bytes_eq offer.name name ≡ false).
      takes.first name ∙ cond-false (bytes_eq offer.name name) (with_first (first_kept old offer.name) offer) (first_kept old name) other
      ∙ keeps.first name
      ∙ sym (first_on_other offer.direction name before offer (ap (λ b. b && bytes_eq name offer.name) here ∙ bytes_turned offer.name name other)))
      (cases_Bool (bytes_eq offer.name name));
}

pub keeps_told : (old new : Effects) (before : List Offered) (offer : Offered) (took : Bool) → Keeps old offer.direction before → IsSettled before → Goes old new offer (Ok took) → (took ≡ takes_effect before offer) × Keeps new offer.direction (with_taken before offer took)
keeps_told old new before offer true keeps settled goes = (sym goes.0 ∙ admits_is old before offer keeps settled, keeps_taken old new before offer keeps goes.1)
keeps_told old new before offer false keeps settled goes = (sym goes.0 ∙ admits_is old before offer keeps settled, subst (λ (e : Effects). Keeps e offer.direction before) (sym goes.1) keeps)

-- the other direction
pub keeps_other : (effects : Effects) (direction : Direction) (before : List Offered) (offer : Offered) (took : Bool) → is_same_direction direction offer.direction ≡ false → Keeps effects direction before → Keeps effects direction (with_taken before offer took)
keeps_other effects direction before offer false apart keeps = keeps
keeps_other effects direction before offer true apart keeps = record {
  count = keeps.count ∙ sym (count_more direction before offer ∙ ap (λ b. count_on direction before + cond b 1 0) apart ∙ omega arith);
  first = λ name. keeps.first name ∙ sym (first_on_other direction name before offer (ap (λ b. b && bytes_eq name offer.name) apart));
}

settled_told : (before : List Offered) (offer : Offered) (took : Bool) → IsSettled before → took ≡ takes_effect before offer → IsSettled (with_taken before offer took)
settled_told before offer true settled told = settled_more before offer settled (sym told)
settled_told before offer false settled told = settled

-- ---- both directions

pub request_told : (old new : Standing) (offer : Offered) (result : Result Bool NoMemory) → offer.direction ≡ Request → new.responses ≡ old.responses → Goes old.requests new.requests offer result
    → (before : List Offered) → Stands old before → IfOk result (Tells before offer new)
request_told old new offer (Err e) is same goes before stands = tt
request_told old new offer (Ok took) is same goes before stands =
    let told = keeps_told old.requests new.requests before offer took (subst (λ (d : Direction). Keeps old.requests d before) (sym is) stands.requests) stands.settled goes in
    record {
      told = told.0;
      stands = record {
        settled = settled_told before offer took stands.settled told.0;
        requests = subst (λ (d : Direction). Keeps new.requests d (with_taken before offer took)) is told.1;
        responses = subst (λ (e : Effects). Keeps e Response (with_taken before offer took)) (sym same) (keeps_other old.responses Response before offer took (ap (is_same_direction Response) is) stands.responses);
      };
    }

pub response_told : (old new : Standing) (offer : Offered) (result : Result Bool NoMemory) → offer.direction ≡ Response → new.requests ≡ old.requests → Goes old.responses new.responses offer result
    → (before : List Offered) → Stands old before → IfOk result (Tells before offer new)
response_told old new offer (Err e) is same goes before stands = tt
response_told old new offer (Ok took) is same goes before stands =
    let told = keeps_told old.responses new.responses before offer took (subst (λ (d : Direction). Keeps old.responses d before) (sym is) stands.responses) stands.settled goes in
    record {
      told = told.0;
      stands = record {
        settled = settled_told before offer took stands.settled told.0;
        requests = subst (λ (e : Effects). Keeps e Request (with_taken before offer took)) (sym same) (keeps_other old.requests Request before offer took (ap (is_same_direction Request) is) stands.requests);
        responses = subst (λ (d : Direction). Keeps new.responses d (with_taken before offer took)) is told.1;
      };
    }
