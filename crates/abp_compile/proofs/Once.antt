-- Domains that are put in one by one, each once.
use Rattle.std.proofs.Common.{◌≡◌, ℕ, List, [], ◌∷◌, ◌++◌, map, fold, filter, Bool, true, false, cond, not, ◌||◌, ◌&&◌, refl, sym, ap, ◌∙◌, subst, ⊎_elim, append_assoc}
use Rattle.std.proofs.Math.Path.{fun_ext}
use Rattle.std.proofs.lemmas.Bool.{cases_Bool}
use Rattle.std.proofs.lemmas.List.{append-nil}
use Rattle.std.proofs.lemmas.List.Folds.{list_any-append}
use Rattle.std.specs.Str.{bytes_eq}
use Rattle.std.specs.Cmp.Lexicographic.{same_text, nat_list_eq_equiv}
use Rattle.list_spec.specs.declared.domain_entry.DomainEntry.{DomainEntry}
use Rattle.domain_set.specs.Table.{has_text}
use Rattle.compile_spec.specs.Initiators.{each_once}
use Rattle.abp_compile.specs.Domains.{these_in, with_domain, with_entry}

-- ---- filters

pub filter_same : {X : Type 0} (p q : X → Bool) → ((x : X) → p x ≡ q x) → (xs : List X) → filter p xs ≡ filter q xs
filter_same p q same xs = ap (λ f. filter f xs) (fun_ext same)

filter_kept : {X : Type 0} (p : X → Bool) (b : Bool) (x : X) (xs : List X) → filter p (cond b (x ∷ xs) xs) ≡ cond (b && p x) (x ∷ filter p xs) (filter p xs)
filter_kept p true x xs = refl
filter_kept p false x xs = refl

filter_filter : {X : Type 0} (p q : X → Bool) (xs : List X) → filter p (filter q xs) ≡ filter (λ x. q x && p x) xs
filter_filter p q [] = refl
filter_filter p q (x ∷ xs) = filter_kept p (q x) x (filter q xs) ∙ ap (λ ys. cond (q x && p x) (x ∷ ys) ys) (filter_filter p q xs)

filter_all : {X : Type 0} (xs : List X) → filter (λ x. true) xs ≡ xs
filter_all [] = refl
filter_all (x ∷ xs) = ap (λ ys. x ∷ ys) (filter_all xs)

-- ---- each once

turned : (a b : List ℕ) → bytes_eq a b ≡ bytes_eq b a
turned a b = nat_list_eq_equiv.symm a b

has_more : (kept : List (List ℕ)) (x other : List ℕ) → has_text (kept ++ x ∷ []) other ≡ (has_text kept other || (bytes_eq x other || false))
has_more kept x other = list_any-append (λ entry. bytes_eq entry other) kept (x ∷ [])

or_cond : (old new : Bool) → (old || (new || false)) ≡ cond new true old
or_cond true true = refl
or_cond true false = refl
or_cond false true = refl
or_cond false false = refl

pub has_one_more : (kept : List (List ℕ)) (x other : List ℕ) → has_text (kept ++ x ∷ []) other ≡ cond (bytes_eq x other) true (has_text kept other)
has_one_more kept x other = has_more kept x other ∙ or_cond (has_text kept other) (bytes_eq x other)

abbrev is_new : List (List ℕ) → List ℕ → Bool
is_new kept other = not (has_text kept other)

known : (a b : Bool) → (b ≡ true → a ≡ true) → (not b && not a) ≡ not a
known true true h = refl
known true false h = refl
known false true h = h refl
known false false h = refl

unknown : (a b c : Bool) → b ≡ c → (not b && not a) ≡ not (a || (c || false))
unknown true true c e = refl
unknown true false c e = refl
unknown false b c e = rw (← e) (two b)
  where
    two : (b : Bool) → (not b && true) ≡ not (b || false)
    two true = refl
    two false = refl

has_same : (kept : List (List ℕ)) (x other : List ℕ) → has_text kept x ≡ true → bytes_eq other x ≡ true → has_text kept other ≡ true
has_same kept x other there e = subst (λ (t : List ℕ). has_text kept t ≡ true) (sym (same_text other x (sym e))) there

pub once : (kept xs : List (List ℕ)) → fold with_domain kept xs ≡ kept ++ filter (is_new kept) (each_once xs)
once kept [] = sym (append-nil kept)
once kept (x ∷ xs) =
    let later = filter (λ other. not (bytes_eq other x)) (each_once xs) in
    ⊎_elim
    (λ there.
    let less : filter (is_new kept) later ≡ filter (is_new kept) (each_once xs) =
    filter_filter (is_new kept) (λ other. not (bytes_eq other x)) (each_once xs)
    ∙ filter_same _ (is_new kept) (λ other. known (has_text kept other) (bytes_eq other x) (has_same kept x other there)) (each_once xs) in
    ap (λ b. fold with_domain (cond b kept (kept ++ x ∷ [])) xs) there ∙ once kept xs
    ∙ sym (ap (λ b. kept ++ cond (not b) (x ∷ filter (is_new kept) later) (filter (is_new kept) later)) there ∙ ap (λ ys. kept ++ ys) less))
    (λ absent.
    let more : filter (is_new (kept ++ x ∷ [])) (each_once xs) ≡ filter (is_new kept) later =
    sym (filter_filter (is_new kept) (λ other. not (bytes_eq other x)) (each_once xs)
    ∙ filter_same _ (is_new (kept ++ x ∷ [])) (λ other. unknown (has_text kept other) (bytes_eq other x) (bytes_eq x other) (turned other x) ∙ ap not (sym (has_more kept x other))) (each_once xs)) in
    ap (λ b. fold with_domain (cond b kept (kept ++ x ∷ [])) xs) absent ∙ once (kept ++ x ∷ []) xs
    ∙ append_assoc kept (x ∷ []) (filter (is_new (kept ++ x ∷ [])) (each_once xs))
    ∙ ap (λ ys. kept ++ x ∷ ys) more
    ∙ sym (ap (λ b. kept ++ cond (not b) (x ∷ filter (is_new kept) later) (filter (is_new kept) later)) absent))
    (cases_Bool (has_text kept x))

all_once : (xs : List (List ℕ)) → fold with_domain [] xs ≡ each_once xs
all_once xs = once [] xs ∙ filter_all (each_once xs)

-- ---- entries

fold_kept : (b : Bool) (kept : List (List ℕ)) (x : List ℕ) (xs : List (List ℕ)) (e : DomainEntry) (es : List DomainEntry)
    → fold with_domain kept (map (λ (e : DomainEntry). e.domain) (cond b (e ∷ es) es)) ≡ fold with_domain (cond b (with_domain kept e.domain) kept) (map (λ (e : DomainEntry). e.domain) es)
fold_kept true kept x xs e es = refl
fold_kept false kept x xs e es = refl

turned_cond : {X : Type 0} (b : Bool) (x y : X) → cond (not b) x y ≡ cond b y x
turned_cond true x y = refl
turned_cond false x y = refl

excluded : (kept : List (List ℕ)) (entries : List DomainEntry) → fold (with_entry true) kept entries ≡ fold with_domain kept (map (λ entry. entry.domain) (filter (λ entry. entry.excluded) entries))
excluded kept [] = refl
excluded kept (e ∷ es) =
    excluded (cond e.excluded (with_domain kept e.domain) kept) es
    ∙ sym (fold_kept e.excluded kept [] [] e (filter (λ entry. entry.excluded) es))

listed : (kept : List (List ℕ)) (entries : List DomainEntry) → fold (with_entry false) kept entries ≡ fold with_domain kept (map (λ entry. entry.domain) (filter (λ entry. not entry.excluded) entries))
listed kept [] = refl
listed kept (e ∷ es) =
    listed (cond e.excluded kept (with_domain kept e.domain)) es
    ∙ ap (λ k. fold with_domain k (map (λ (e : DomainEntry). e.domain) (filter (λ (e : DomainEntry). not e.excluded) es))) (sym (turned_cond e.excluded (with_domain kept e.domain) kept))
    ∙ sym (fold_kept (not e.excluded) kept [] [] e (filter (λ entry. not entry.excluded) es))

pub these : (which : Bool) (entries : List DomainEntry) → fold (with_entry which) [] entries ≡ these_in which entries
these true entries = excluded [] entries ∙ all_once (map (λ entry. entry.domain) (filter (λ entry. entry.excluded) entries))
these false entries = listed [] entries ∙ all_once (map (λ entry. entry.domain) (filter (λ entry. not entry.excluded) entries))
