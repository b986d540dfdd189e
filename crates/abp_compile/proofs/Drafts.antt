-- Rules that come behind others.
use Rattle.std.proofs.Common.{◌≡◌, ℕ, ◌+◌, ◌<◌, ◌≤◌, List, [], ◌∷◌, ◌++◌, length, map, get_or, sym, ap, ◌∙◌, subst, arith, take, length-append, length-take-le, append_assoc}
use Rattle.std.proofs.lemmas.List.{map-append, length-map, append-nil, take_more}
use Rattle.std.specs.Prelude.{Result, Ok, Err, OnOk}
use Rattle.std.specs.List.{flat_map}
use Rattle.compile_spec.specs.Initiators.{Initiators, single, initiators_of}
use Rattle.rule_spec.specs.Rule.{Rule}
use Rattle.compile_spec.specs.Compiled.{Standing, Effect, effects_of, drafts_with, drafts_of, Draft, CompiledRule, rule_of, max_compiled, with_ids, rules_in, origins_in}
use Rattle.abp_compile.specs.declared.work.Work.{Work}
use Rattle.abp_compile.specs.Work.{draft, drafts, Gains, Keeps}

pub with_ids-append : (id : ℕ) (xs ys : List Draft) → with_ids id (xs ++ ys) ≡ with_ids id xs ++ with_ids (id + length xs) ys
with_ids-append id [] ys = ap (λ n. with_ids n ys) (omega arith)
with_ids-append id (x ∷ xs) ys =
    let next : id + 1 + length xs ≡ id + length (x ∷ xs) = omega arith in
    ap (λ rules. record { rule = rule_of id x; lines = x.standing.lines } ∷ rules) (with_ids-append (id + 1) xs ys ∙ ap (λ n. with_ids (id + 1) xs ++ with_ids n ys) next)

pub rules_behind : (id : ℕ) (xs ys : List Draft) → rules_in (with_ids id (xs ++ ys)) ≡ rules_in (with_ids id xs) ++ rules_in (with_ids (id + length xs) ys)
rules_behind id xs ys = ap rules_in (with_ids-append id xs ys) ∙ map-append (λ (one : CompiledRule). one.rule) (with_ids id xs) (with_ids (id + length xs) ys)

pub origins_behind : (id : ℕ) (xs ys : List Draft) → origins_in (with_ids id (xs ++ ys)) ≡ origins_in (with_ids id xs) ++ origins_in (with_ids (id + length xs) ys)
origins_behind id xs ys = ap origins_in (with_ids-append id xs ys) ∙ map-append (λ (one : CompiledRule). one.lines) (with_ids id xs) (with_ids (id + length xs) ys)

-- ---- nothing, one, and all

pub keeps_none : (id : ℕ) (before now : Work) → now.rules.items ≡ before.rules.items → now.origins.items ≡ before.origins.items → Keeps id [] before now
keeps_none id before now r o = record { rules = r ∙ sym (append-nil before.rules.items); origins = o ∙ sym (append-nil before.origins.items) }

pub gains_kept : (more : List Draft) (before now : Work) → now.count ≡ before.count + length more
    → (now.count ≤ max_compiled → Keeps (before.count + 1) more before now) → Gains more before now
gains_kept more before now count kept held has =
    let fits : now.count ≤ max_compiled → before.count ≤ max_compiled = λ few. omega arith in
    let first : before.count + 1 ≡ 1 + length held = omega (arith, has.counted) in
    record {
      counted = count ∙ ap (λ n. n + length more) has.counted ∙ sym (length-append held more);
      rules = λ few. (kept few).rules ∙ ap (λ old. old ++ rules_in (with_ids (before.count + 1) more)) (has.rules (fits few))
          ∙ ap (λ n. rules_in (with_ids 1 held) ++ rules_in (with_ids n more)) first ∙ sym (rules_behind 1 held more);
      origins = λ few. (kept few).origins ∙ ap (λ old. old ++ origins_in (with_ids (before.count + 1) more)) (has.origins (fits few))
          ∙ ap (λ n. origins_in (with_ids 1 held) ++ origins_in (with_ids n more)) first ∙ sym (origins_behind 1 held more);
    }

-- nothing was gained
pub gains_none : (before now : Work) → now.count ≡ before.count → now.rules.items ≡ before.rules.items → now.origins.items ≡ before.origins.items → Gains [] before now
gains_none before now c r o = gains_kept [] before now (c ∙ omega arith) (λ few. keeps_none (before.count + 1) before now r o)

pub gains_twice : (xs ys : List Draft) (before mid now : Work) → Gains xs before mid → Gains ys mid now → Gains (xs ++ ys) before now
gains_twice xs ys before mid now first second held has = rw (← append_assoc held xs ys) (second (held ++ xs) (first held has))

-- ---- the rules of an effect

pub keeps_one : (id : ℕ) (standing : Standing) (effect : Effect) (initiators : Initiators) (rule : Rule) (before now : Work)
    → rule ≡ rule_of id (draft standing effect initiators) → now.rules.items ≡ before.rules.items ++ rule ∷ [] → now.origins.items ≡ before.origins.items ++ standing.lines ∷ []
    → Keeps id (drafts standing effect (initiators ∷ [])) before now
keeps_one id standing effect initiators rule before now is r o = record { rules = r ∙ ap (λ one. before.rules.items ++ one ∷ []) is; origins = o }

keeps_twice : (id next : ℕ) (xs ys : List Draft) (before mid now : Work) → next ≡ id + length xs → Keeps id xs before mid → Keeps next ys mid now → Keeps id (xs ++ ys) before now
keeps_twice id next xs ys before mid now n one two =
    record {
      rules = two.rules ∙ (λ i. one.rules i ++ rules_in (with_ids (n i) ys)) ∙ append_assoc before.rules.items (rules_in (with_ids id xs)) (rules_in (with_ids (id + length xs) ys))
          ∙ ap (λ rules. before.rules.items ++ rules) (sym (rules_behind id xs ys));
      origins = two.origins ∙ (λ i. one.origins i ++ origins_in (with_ids (n i) ys)) ∙ append_assoc before.origins.items (origins_in (with_ids id xs)) (origins_in (with_ids (id + length xs) ys))
          ∙ ap (λ origins. before.origins.items ++ origins) (sym (origins_behind id xs ys));
    }

-- those of some initiators, and then of others
pub keeps_both : (id next : ℕ) (standing : Standing) (effect : Effect) (xs ys : List Initiators) (before mid now : Work) → next ≡ id + length xs
    → Keeps id (drafts standing effect xs) before mid → Keeps next (drafts standing effect ys) mid now → Keeps id (drafts standing effect (xs ++ ys)) before now
keeps_both id next standing effect xs ys before mid now n one two =
    let long : length (drafts standing effect xs) ≡ length xs = length-map xs (draft standing effect) in
    subst (λ (list : List Draft). Keeps id list before now) (sym (map-append (draft standing effect) xs ys))
    (keeps_twice id next (drafts standing effect xs) (drafts standing effect ys) before mid now (n ∙ ap (λ m. id + m) (sym long)) one two)

-- those of single domains, with one more
pub keeps_single : (first id : ℕ) (standing : Standing) (effect : Effect) (excluded nested : List (List ℕ)) (i : ℕ) (domain : List ℕ) (before mid now : Work)
    → id ≡ first + i → i < length nested → domain ≡ get_or nested i domain
    → Keeps first (drafts standing effect (map (single excluded) (take i nested))) before mid
    → Keeps id (drafts standing effect (single excluded domain ∷ [])) mid now
    → Keeps first (drafts standing effect (map (single excluded) (take (i + 1) nested))) before now
keeps_single first id standing effect excluded nested i domain before mid now e less is one two =
    let taken = map (single excluded) (take i nested) in
    let long : length taken ≡ i = length-map (take i nested) (single excluded) ∙ length-take-le i nested (omega arith) in
    let more : map (single excluded) (take (i + 1) nested) ≡ taken ++ single excluded domain ∷ [] =
    ap (map (single excluded)) (take_more nested i domain less ∙ ap (λ d. take i nested ++ d ∷ []) (sym is)) ∙ map-append (single excluded) (take i nested) (domain ∷ []) in
    subst (λ (list : List Initiators). Keeps first (drafts standing effect list) before now) (sym more)
    (keeps_both first id standing effect taken (single excluded domain ∷ []) before mid now (e ∙ ap (λ m. first + m) (sym long)) one two)

-- the effects of filters
pub gains_effect : (standing : Standing) (effect : Effect) (list : List Initiators) (before now : Work) → now.count ≡ before.count + length list
    → (now.count ≤ max_compiled → Keeps (before.count + 1) (drafts standing effect list) before now) → Gains (drafts standing effect list) before now
gains_effect standing effect list before now count kept =
    gains_kept (drafts standing effect list) before now (count ∙ ap (λ n. before.count + n) (sym (length-map list (draft standing effect)))) kept

pub both_drafts : (standing : Standing) (first second : Effect) (list : List Initiators) → first ∷ second ∷ [] ≡ effects_of standing.filter → list ≡ initiators_of standing.filter.domains
    → drafts standing first list ++ drafts standing second list ≡ drafts_of standing
both_drafts standing first second list effects is =
    (λ i. drafts standing first (is i) ++ drafts standing second (is i))
    ∙ ap (λ more. drafts standing first (initiators_of standing.filter.domains) ++ more) (sym (append-nil (drafts standing second (initiators_of standing.filter.domains))))
    ∙ ap (flat_map (drafts_with standing)) effects

pub one_draft : (standing : Standing) (effect : Effect) (list : List Initiators) → effect ∷ [] ≡ effects_of standing.filter → list ≡ initiators_of standing.filter.domains
    → drafts standing effect list ≡ drafts_of standing
one_draft standing effect list effects is =
    ap (drafts standing effect) is ∙ sym (append-nil (drafts standing effect (initiators_of standing.filter.domains))) ∙ ap (flat_map (drafts_with standing)) effects

pub on_ok : {T E : Type 0} {P Q : Type 0} (r : Result T E) → (P → Q) → OnOk r P → OnOk r Q
on_ok (Ok x) f h = f h
on_ok (Err e) f h = tt
