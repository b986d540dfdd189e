-- A state does the same without one rule that is shadowed, and without all that a proof removes.
use Rattle.std.proofs.Common.{◌≡◌, ℕ, ◌+◌, ◌<◌, List, [], ◌∷◌, ◌++◌, map, filter, get_or, length, suc, zero, Bool, true, false, cond, not, ◌==◌, Option, Some, None, inl, inr, refl, sym, ap, ◌∙◌, subst, ⊎_elim, append_assoc, arith, Ok}
use Rattle.std.specs.Prelude.{option_map}
use Rattle.std.specs.List.{AllByRecursion, Contains}
use Rattle.std.proofs.lemmas.Bool.{not-false, not_from_false, eqb-true, eq-eqb, true≢false}
use Rattle.std.proofs.lemmas.List.{map-append}
use Rattle.dnr_base.specs.declared.request.Request.{Request}
use Rattle.dnr_spec.specs.Suffixes.{SuffixRule}
use Rattle.rule_spec.specs.Rule.{Rule}
use Rattle.rule_spec.specs.IsRule.{IsRule}
use Rattle.rule_spec.specs.Access.{has_access}
use Rattle.rule_spec.specs.State.{Live}
use Rattle.rule_spec.specs.Scan.{Verdict, scan}
use Rattle.prune_spec.specs.declared.shadow.Shadow.{Shadow}
use Rattle.prune_spec.specs.declared.check_refusal.CheckRefusal.{CheckRefusal}
use Rattle.prune_spec.specs.declared.check_refusal.CheckRefusal.TheVariants.{UnknownId, RemovedTwice, KeeperRemoved, NotShadowed}
use Rattle.prune_spec.specs.Shadows.{shadows}
use Rattle.prune_spec.specs.Pruned.{is_removed, rest_of, rule_of, is_known, is_shadowed, holds_true, fault_of, or_later, first_fault, unless_at_fault}
use Rattle.compile_laws.specs.Origins.{HasViews}
use Rattle.prune_spec.specs.Pruned.{IdsDiffer}
use Rattle.prune_laws.specs.Laws.{Around, holding, DoTheSame, OneIsNeedless, RestDoesTheSame}
use Rattle.compile_laws.proofs.Lists.{In, has_left, has_right, has_either, has_mapped, has_weaker, in_filtered, in_unfiltered, any_out, any_in, each_in, each_of_all, true_or_false}
use Rattle.prune_laws.proofs.Removal.{find_there}
use Rattle.prune_laws.proofs.Single.{says_the_same, offers_the_same}
use Rattle.prune_laws.proofs.Bare.{said_by, winner_in, offers_of_lives}
use Rattle.prune_laws.proofs.States.{here, ahead_of, behind_of, lives_of, do_the_same}
use Rattle.prune_laws.proofs.Shadowed.{outdoes}

contained_at : {X : Type 0} (x : X) (xs : List X) (k : ℕ) → k < length xs → get_or xs k x ≡ x → In x xs
contained_at x [] k less is = absurd (omega arith)
contained_at x (y ∷ ys) zero less is = inl is
contained_at x (y ∷ ys) (suc k) less is = inr (contained_at x ys k (omega arith) is)

contained : {X : Type 0} (x : X) (xs : List X) → Contains xs x → In x xs
contained x xs c = contained_at x xs c.0 c.1 c.2

in_image : {X Y : Type 0} (f : X → Y) (x : X) (xs : List X) → In x xs → In (f x) (map f xs)
in_image f x xs i = has_mapped (λ y. y ≡ f x) f xs (has_weaker (λ y. y ≡ x) (λ y. f y ≡ f x) (λ y e. ap f e) xs i)

-- ---- verdicts that do the same

same_again : (one : Verdict) → DoTheSame one one
same_again one = record { outcome = refl; target = refl; ops = refl; request_headers = refl; response_headers = refl }

same_through : (one two three : Verdict) → DoTheSame one two → DoTheSame two three → DoTheSame one three
same_through one two three a b = record {
  outcome = a.outcome ∙ b.outcome;
  target = a.target ∙ b.target;
  ops = a.ops ∙ b.ops;
  request_headers = a.request_headers ∙ b.request_headers;
  response_headers = a.response_headers ∙ b.response_headers;
}

module _ (suffixes : List SuffixRule) (request : Request) (views : HasViews request) (around : Around) where
  abbrev verdict : List Rule → List (List ℕ) → Verdict
  verdict rules origins = scan suffixes (holding around rules origins) request

  -- ---- one rule

  module _ (front : List Rule) (s : Rule) (back : List Rule) where
    abbrev fore : List Live
    fore = ahead_of around ++ map (here around) front

    abbrev aft : List Live
    aft = map (here around) back ++ behind_of around

    with_s : lives_of around (front ++ s ∷ back) ≡ fore ++ here around s ∷ aft
    with_s =
        ap (λ l. ahead_of around ++ (l ++ behind_of around)) (map-append (here around) front (s ∷ back))
        ∙ ap (λ l. ahead_of around ++ l) (append_assoc (map (here around) front) (here around s ∷ map (here around) back) (behind_of around))
        ∙ sym (append_assoc (ahead_of around) (map (here around) front) (here around s ∷ aft))

    without_s : lives_of around (front ++ back) ≡ fore ++ aft
    without_s =
        ap (λ l. ahead_of around ++ (l ++ behind_of around)) (map-append (here around) front back)
        ∙ ap (λ l. ahead_of around ++ l) (append_assoc (map (here around) front) (map (here around) back) (behind_of around))
        ∙ sym (append_assoc (ahead_of around) (map (here around) front) aft)

    k_there : (k : Rule) → In k (front ++ back) → In (here around k) (fore ++ aft)
    k_there k i =
        let live = here around k in
        ⊎_elim
        (λ first. has_left (λ y. y ≡ live) fore aft (has_right (λ y. y ≡ live) (ahead_of around) (map (here around) front) (in_image (here around) k front first)))
        (λ later. has_right (λ y. y ≡ live) fore aft (has_left (λ y. y ≡ live) (map (here around) back) (behind_of around) (in_image (here around) k back later)))
        (has_either (λ y. y ≡ k) front back i)

    one_less : (k : Rule) → In k (front ++ back) → IsRule k → shadows k s ≡ true → (origins others : List (List ℕ)) → DoTheSame (verdict (front ++ s ∷ back) origins) (verdict (front ++ back) others)
    one_less k i rule h origins others =
        let access = has_access around.access request in
        let o = outdoes suffixes request views k s rule h around.name access in
        let there = k_there k i in
        do_the_same suffixes request around (front ++ s ∷ back) (front ++ back) origins others
        (ap (λ l. option_map (said_by around.name request) (winner_in suffixes around.name access request l)) with_s
        ∙ says_the_same suffixes around.name access request fore (here around s) aft (here around k) there o
        ∙ sym (ap (λ l. option_map (said_by around.name request) (winner_in suffixes around.name access request l)) without_s))
        (λ age. ap (offers_of_lives suffixes around.name access request age) with_s
        ∙ offers_the_same suffixes around.name access request fore (here around s) aft (here around k) age there o
        ∙ sym (ap (offers_of_lives suffixes around.name access request age) without_s))

  -- whatever lines the rules come from
  lines_aside : (rules : List Rule) (origins others : List (List ℕ)) → DoTheSame (verdict rules origins) (verdict rules others)
  lines_aside rules origins others = do_the_same suffixes request around rules rules origins others refl (λ age. refl)

  -- ---- all that are not kept, each of which a rule shadows that is kept

  abbrev pub HasKeeper : List Rule → Rule → Type 0
  HasKeeper kept r = (k : Rule) × In k kept × IsRule k × (shadows k r ≡ true)

  moved : (kept : List Rule) (r : Rule) (todo : List Rule) (s : Rule) → HasKeeper (kept ++ r ∷ todo) s → HasKeeper ((kept ++ r ∷ []) ++ todo) s
  moved kept r todo s k = (k.0, subst (λ (l : List Rule). In k.0 l) (sym (append_assoc kept (r ∷ []) todo)) k.1, k.2, k.3)

  module _ (keep : Rule → Bool) where
    stays_in : (kept todo : List Rule) (k : Rule) → In k (kept ++ filter keep todo) → In k (kept ++ todo)
    stays_in kept todo k i =
        ⊎_elim (λ first. has_left (λ y. y ≡ k) kept todo first) (λ later. has_right (λ y. y ≡ k) kept todo (in_unfiltered keep k todo later).0)
        (has_either (λ y. y ≡ k) kept (filter keep todo) i)

    all_less : (kept todo : List Rule) → ((s : Rule) → In s todo → keep s ≡ false → HasKeeper (kept ++ filter keep todo) s) → DoTheSame (verdict (kept ++ todo) []) (verdict (kept ++ filter keep todo) [])
    all_less kept [] have = same_again (verdict (kept ++ []) [])
    all_less kept (r ∷ todo) have =
        ⊎_elim
        (λ (stays : keep r ≡ true).
        let cut : filter keep (r ∷ todo) ≡ r ∷ filter keep todo = ap (λ b. cond b (r ∷ filter keep todo) (filter keep todo)) stays in
        let rest = all_less (kept ++ r ∷ []) todo (λ s i no. moved kept r (filter keep todo) s (subst (λ (l : List Rule). HasKeeper (kept ++ l) s) cut (have s (inr i) no))) in
        subst (λ (l : List Rule). DoTheSame (verdict (kept ++ r ∷ todo) []) (verdict (kept ++ l) [])) (sym cut)
        (subst (λ (l : List Rule). DoTheSame (verdict (kept ++ r ∷ todo) []) (verdict l [])) (append_assoc kept (r ∷ []) (filter keep todo))
        (subst (λ (l : List Rule). DoTheSame (verdict l []) (verdict ((kept ++ r ∷ []) ++ filter keep todo) [])) (append_assoc kept (r ∷ []) todo) rest)))
        (λ (goes : keep r ≡ false).
        let cut : filter keep (r ∷ todo) ≡ filter keep todo = ap (λ b. cond b (r ∷ filter keep todo) (filter keep todo)) goes in
        let k = subst (λ (l : List Rule). HasKeeper (kept ++ l) r) cut (have r (inl refl) goes) in
        let first = one_less kept r todo k.0 (stays_in kept todo k.0 k.1) k.2 k.3 [] [] in
        let rest = all_less kept todo (λ s i no. subst (λ (l : List Rule). HasKeeper (kept ++ l) s) cut (have s (inr i) no)) in
        subst (λ (l : List Rule). DoTheSame (verdict (kept ++ r ∷ todo) []) (verdict (kept ++ l) [])) (sym cut)
        (same_through (verdict (kept ++ r ∷ todo) []) (verdict (kept ++ todo) []) (verdict (kept ++ filter keep todo) []) first rest))
        (true_or_false (keep r))

-- ---- what a proof shows

pub same_rule : (rules : List Rule) → IdsDiffer rules → (a b : Rule) → In a rules → In b rules → a.id ≡ b.id → a ≡ b
same_rule [] differ a b i j same = absurd i
same_rule (rule ∷ rules) differ a b (inl x) (inl y) same = sym x ∙ y
same_rule (rule ∷ rules) differ a b (inl x) (inr j) same =
    absurd (true≢false (sym (any_in (λ r. r.id == rule.id) b rules j (eq-eqb b.id rule.id (sym same ∙ sym (ap (λ (r : Rule). r.id) x)))) ∙ differ.0))
same_rule (rule ∷ rules) differ a b (inr i) (inl y) same =
    absurd (true≢false (sym (any_in (λ r. r.id == rule.id) a rules i (eq-eqb a.id rule.id (same ∙ sym (ap (λ (r : Rule). r.id) y)))) ∙ differ.0))
same_rule (rule ∷ rules) differ a b (inr i) (inr j) same = same_rule rules differ.1 a b i j same

-- an entry without a fault
pub record Stands (rules : List Rule) (proof : List Shadow) (one : Shadow) : Type 0 where
  pub kept : is_removed proof one.by ≡ false
  pub shown : holds_true rules one ≡ true

passed : {X : Type 0} (b : Bool) (x : X) (later : Option X) → cond b (Some x) later ≡ None → (b ≡ false) × (later ≡ None)
passed true x later h = cc
passed false x later h = (refl, h)

stands : (rules : List Rule) (proof earlier : List Shadow) (place : ℕ) (one : Shadow) → fault_of rules proof earlier place one ≡ None → Stands rules proof one
stands rules proof earlier place one h =
    let a = passed (not (is_known rules one)) (UnknownId place) _ h in
    let b = passed (is_removed earlier one.removed) (RemovedTwice place) _ a.1 in
    let c = passed (is_removed proof one.by) (KeeperRemoved place) _ b.1 in
    let d = passed (not (holds_true rules one)) (NotShadowed place) None c.1 in
    record { kept = c.0; shown = not-false (holds_true rules one) d.0 }

neither : (o later : Option CheckRefusal) → or_later o later ≡ None → (o ≡ None) × (later ≡ None)
neither None later h = (refl, h)
neither (Some refusal) later h = cc

all_stand : (rules : List Rule) (proof earlier : List Shadow) (place : ℕ) (todo : List Shadow) → first_fault rules proof earlier place todo ≡ None → AllByRecursion (Stands rules proof) todo
all_stand rules proof earlier place [] h = tt
all_stand rules proof earlier place (one ∷ todo) h =
    let n = neither (fault_of rules proof earlier place one) (first_fault rules proof (earlier ++ one ∷ []) (place + 1) todo) h in
    (stands rules proof earlier place one n.0, all_stand rules proof (earlier ++ one ∷ []) (place + 1) todo n.1)

accepted : (rest left : List Rule) (fault : Option CheckRefusal) → unless_at_fault rest fault ≡ Ok left → (fault ≡ None) × (rest ≡ left)
accepted rest left None h = (refl, cc)
accepted rest left (Some refusal) h = cc

both_there : (k s : Option Rule) → is_shadowed k s ≡ true → (a : Rule) × (b : Rule) × (k ≡ Some a) × (s ≡ Some b) × (shadows a b ≡ true)
both_there None s h = cc
both_there (Some k) None h = cc
both_there (Some k) (Some s) h = (k, s, refl, refl, h)

module _ (rules : List Rule) (proof : List Shadow) (are : AllByRecursion IsRule rules) (differ : IdsDiffer rules) (all : AllByRecursion (Stands rules proof) proof) where
  abbrev keeps : Rule → Bool
  keeps rule = not (is_removed proof rule.id)

  -- a rule that an entry removes has a keeper in the rest
  keeper_of : (s : Rule) → In s rules → keeps s ≡ false → (k : Rule) × In k (rest_of rules proof) × IsRule k × (shadows k s ≡ true)
  keeper_of s i gone =
      let r = any_out (λ (one : Shadow). one.removed == s.id) proof (not-false (is_removed proof s.id) gone) in
      let entry = r.0 in
      let stood = each_in (Stands rules proof) entry proof r.1 all in
      let t = both_there (rule_of rules entry.by) (rule_of rules entry.removed) stood.shown in
      let k = find_there (λ (rule : Rule). rule.id == entry.by) rules t.0 t.2 in
      let other = find_there (λ (rule : Rule). rule.id == entry.removed) rules t.1 t.3 in
      let same : t.1 ≡ s = same_rule rules differ t.1 s other.0 i (eqb-true t.1.id entry.removed other.1 ∙ eqb-true entry.removed s.id r.2) in
      let stays : keeps t.0 ≡ true = not_from_false (is_removed proof t.0.id) (ap (is_removed proof) (eqb-true t.0.id entry.by k.1) ∙ stood.kept) in
      (t.0, in_filtered keeps t.0 rules k.0 stays, each_in IsRule t.0 rules k.0 are, subst (λ (x : Rule). shadows t.0 x ≡ true) same t.4)

pub one_is_needless : OneIsNeedless
one_is_needless front s back k there rule h suffixes request views around origins others =
    one_less suffixes request views around front s back k (contained k (front ++ back) there) rule h origins others

pub rest_does_the_same : RestDoesTheSame
rest_does_the_same rules proof rest are differ h suffixes request views around origins others =
    let a = accepted (rest_of rules proof) rest (first_fault rules proof [] 0 proof) h in
    let all = all_stand rules proof [] 0 proof a.0 in
    let left = rest_of rules proof in
    let same = all_less suffixes request views around (λ rule. not (is_removed proof rule.id)) [] rules (keeper_of rules proof (each_of_all IsRule rules are) differ all) in
    let verdict = λ (l : List Rule) (o : List (List ℕ)). scan suffixes (holding around l o) request in
    subst (λ (l : List Rule). DoTheSame (verdict rules origins) (verdict l others)) a.1
    (same_through (verdict rules origins) (verdict rules []) (verdict left others) (lines_aside suffixes request views around rules origins [])
    (same_through (verdict rules []) (verdict left []) (verdict left others) same (lines_aside suffixes request views around left [] others)))
