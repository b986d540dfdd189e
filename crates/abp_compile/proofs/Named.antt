-- Domains that a rule may name.
use Rattle.std.proofs.Common.{◌≡◌, ℕ, ◌+◌, ◌<◌, ◌≤◌, Bool, true, false, cond, List, [], ◌∷◌, ◌++◌, length, get_or, map, not, refl, sym, ap, subst, arith, Option, Some, None, Ok, length-append}
use Rattle.std.specs.Prelude.{position, All, IsTrue}
use Rattle.std.proofs.Math.ListN.{get_or-map}
use Rattle.std.proofs.lemmas.Bool.Decides.{nat_tests}
use Rattle.std.proofs.lemmas.List.{length-map, get_or_append_left, get_or-append-add}
use Rattle.dnr_spec.specs.Domains.{is_domain, lower_case, domains_of, unless_bad}
use Rattle.domain_set.proofs.Lowered.{domains_of-lower}
use Rattle.rule_spec.specs.IsRule.{AreDomains, IsRule, is_number}
use Rattle.compile_spec.specs.Initiators.{Initiators, list_if_any, single, initiators_of}
use Rattle.compile_spec.specs.Compiled.{Standing, Effect, Draft, drafts_with, rule_of}
use Rattle.abp_compile.specs.Parted.{in_common, CanBeNamed}
use Rattle.abp_compile.specs.Work.{draft, IsGiven, GiveRules, GivesAllRules}

again : (list domains : List (List ℕ)) (bad : Option ℕ) → position (λ entry. not (is_domain entry)) list ≡ bad → unless_bad list bad ≡ Ok domains → domains_of domains ≡ Ok domains
again list domains None e h =
    let is : map lower_case list ≡ domains = cc in
    subst (λ (l : List (List ℕ)). domains_of l ≡ Ok l) is (domains_of-lower list e)
again list domains (Some place) e h = cc

-- they are read as they are
pub named_again : (domains : List (List ℕ)) → AreDomains domains → domains_of domains ≡ Ok domains
named_again domains are = again are.0 domains (position (λ entry. not (is_domain entry)) are.0) refl are.1

-- ---- those of a rule

pub one_if : (b : Bool) (n : ℕ) → cond b 1 0 ≡ n → b ≡ true → n ≡ 1
one_if true n e h = sym e
one_if false n e h = cc

-- with no rule of a single domain there is one rule
pub alone_one : (excluded others nested : List (List ℕ)) → map (single excluded) nested ≡ [] → length (in_common excluded others nested) ≡ 1
alone_one excluded [] [] e = refl
alone_one excluded (domain ∷ others) [] e = refl
alone_one excluded others (domain ∷ nested) e = let none : length (single excluded domain ∷ map (single excluded) nested) ≡ 0 = ap length e in absurd (omega (arith, none))

pub others_named : (excluded others nested : List (List ℕ)) → All CanBeNamed (in_common excluded others nested) → length (in_common excluded others nested) ≡ 1
    → AreDomains others
others_named excluded [] nested named is = ([], refl)
others_named excluded (domain ∷ others) nested named is = (named 0 (record { among = None; not_among = excluded }) (omega arith)).among

pub excluded_named : (excluded others nested : List (List ℕ)) → All CanBeNamed (in_common excluded others nested) → length (in_common excluded others nested) ≡ 1
    → AreDomains excluded
excluded_named excluded [] [] named is = (named 0 (record { among = None; not_among = excluded }) (omega arith)).not_among
excluded_named excluded [] (domain ∷ nested) named is = absurd (omega (arith, is))
excluded_named excluded (domain ∷ others) nested named is = (named 0 (record { among = None; not_among = excluded }) (omega arith)).not_among

pub in_common_is : (excluded others nested : List (List ℕ)) → length (in_common excluded others nested) ≡ 1
    → in_common excluded others nested ≡ record { among = list_if_any others; not_among = excluded } ∷ []
in_common_is excluded [] [] is = refl
in_common_is excluded [] (domain ∷ nested) is = absurd (omega (arith, is))
in_common_is excluded (domain ∷ others) nested is = refl

all_left : {X : Type 0} (P : X → Type 0) (xs ys : List X) → All P (xs ++ ys) → All P xs
all_left P xs ys all = λ k d less. subst P (get_or_append_left xs ys d k less) (all k d (omega (arith, length-append xs ys)))

all_right : {X : Type 0} (P : X → Type 0) (xs ys : List X) → All P (xs ++ ys) → All P ys
all_right P xs ys all = λ k d less. subst P (get_or-append-add xs ys k d) (all (length xs + k) d (omega (arith, length-append xs ys)))

pub all_unmapped : {X Y : Type 0} (P : Y → Type 0) (f : X → Y) (xs : List X) → All P (map f xs) → All (λ x. P (f x)) xs
all_unmapped P f xs all = λ k d less. subst P (get_or-map f xs k d) (all k (f d) (omega (arith, length-map xs f)))

pub give_left : (standing : Standing) (effect : Effect) (xs ys : List Initiators) → GiveRules standing effect (xs ++ ys) → GiveRules standing effect xs
give_left standing effect xs ys give id number = all_left (IsGiven id standing effect) xs ys (give id number)

pub give_right : (standing : Standing) (effect : Effect) (xs ys : List Initiators) → GiveRules standing effect (xs ++ ys) → GiveRules standing effect ys
give_right standing effect xs ys give id number = all_right (IsGiven id standing effect) xs ys (give id number)

-- what rules keep of their initiators
pub named_given : (id : ℕ) (standing : Standing) (effect : Effect) (initiators : Initiators) → IsGiven id standing effect initiators → CanBeNamed initiators
named_given id standing effect initiators rule = record { among = rule.condition.initiators.1; not_among = rule.condition.not_initiators }

pub number : (id : ℕ) → 0 < id → id ≤ 300000 → IsTrue (is_number id)
number id some few = grind (arith, nat_tests)

pub all_named : (standing : Standing) (effect : Effect) (list : List Initiators) → GiveRules standing effect list → All CanBeNamed list
all_named standing effect list give = λ k d less. named_given 1 standing effect (get_or list k d) (give 1 (number 1 (omega arith) (omega arith)) k d less)

-- the one rule of a list
pub only_given : (id : ℕ) (standing : Standing) (effect : Effect) (list : List Initiators) (initiators : Initiators) → GiveRules standing effect list → list ≡ initiators ∷ []
    → 0 < id → id ≤ 300000 → IsGiven id standing effect initiators
only_given id standing effect list initiators give is some few =
    subst (λ (l : List Initiators). All (IsGiven id standing effect) l) is (give id (number id some few)) 0 initiators (omega arith)

-- the rule of a single domain
pub single_given : (id : ℕ) (standing : Standing) (effect : Effect) (excluded nested : List (List ℕ)) (i : ℕ) (domain : List ℕ) → GiveRules standing effect (map (single excluded) nested)
    → i < length nested → domain ≡ get_or nested i domain → 0 < id → id ≤ 300000 → IsGiven id standing effect (single excluded domain)
single_given id standing effect excluded nested i domain give less is some few =
    subst (λ (d : List ℕ). IsGiven id standing effect (single excluded d)) (sym is)
    (all_unmapped (IsGiven id standing effect) (single excluded) nested (give id (number id some few)) i domain less)

-- the rules of filters that stand as one
pub gives_all : (standing : Standing) → ((effect : Effect) (id : ℕ) → IsTrue (is_number id) → All (λ one. IsRule (rule_of id one)) (drafts_with standing effect)) → GivesAllRules standing
gives_all standing law effect id numbered = all_unmapped (λ (one : Draft). IsRule (rule_of id one)) (draft standing effect) (initiators_of standing.filter.domains) (law effect id numbered)
