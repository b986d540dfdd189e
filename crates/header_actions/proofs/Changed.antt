-- The values of each header, change by change.
use Rattle.std.proofs.Common.{◌≡◌, ℕ, List, [], ◌∷◌, ◌++◌, map, filter, fold, bytes_eq, true, false, cond, not, Option, Some, None, option_map, option_to_list, refl, sym, ap, ◌∙◌, ⊎_elim, append-nil}
use Rattle.std.proofs.lemmas.Bool.{cases_Bool, cond-true, cond-false}
use Rattle.dnr_base.specs.declared.operation.Operation.{Operation}
use Rattle.dnr_base.specs.declared.operation.Operation.TheVariants.{Append, Set, Remove}
use Rattle.dnr_base.specs.declared.header.Header.{Header}
use Rattle.dnr_spec.specs.Headers.{HeaderOp, without, added_by, changed_by, changed}
use Rattle.header_actions.specs.Table.{values_of, changed_values, Texts, texts_of, kept_of}
use Rattle.header_actions.proofs.Settled.{bytes_same, bytes_eq_itself}

-- ---- values in a list

values_here : (q : List ℕ) (h : Header) (t : List Header) → bytes_eq h.name q ≡ true → values_of q (h ∷ t) ≡ h.value ∷ values_of q t
values_here q h t e = ap (map (λ (x : Header). x.value)) (cond-true (bytes_eq h.name q) (h ∷ filter (λ x. bytes_eq x.name q) t) (filter (λ x. bytes_eq x.name q) t) e)

pub values_there : (q : List ℕ) (h : Header) (t : List Header) → bytes_eq h.name q ≡ false → values_of q (h ∷ t) ≡ values_of q t
values_there q h t e = ap (map (λ (x : Header). x.value)) (cond-false (bytes_eq h.name q) (h ∷ filter (λ x. bytes_eq x.name q) t) (filter (λ x. bytes_eq x.name q) t) e)

values_append : (q : List ℕ) (xs ys : List Header) → values_of q (xs ++ ys) ≡ values_of q xs ++ values_of q ys
values_append q [] ys = refl
values_append q (h ∷ xs) ys =
    ⊎_elim
    (λ here. values_here q h (xs ++ ys) here ∙ ap (λ l. h.value ∷ l) (values_append q xs ys) ∙ ap (λ l. l ++ values_of q ys) (sym (values_here q h xs here)))
    (λ there. values_there q h (xs ++ ys) there ∙ values_append q xs ys ∙ ap (λ l. l ++ values_of q ys) (sym (values_there q h xs there)))
    (cases_Bool (bytes_eq h.name q))

kept_without : (n : List ℕ) (h : Header) (t : List Header) → bytes_eq h.name n ≡ false → without n (h ∷ t) ≡ h ∷ without n t
kept_without n h t e = cond-true (not (bytes_eq h.name n)) (h ∷ without n t) (without n t) (ap not e)

dropped_without : (n : List ℕ) (h : Header) (t : List Header) → bytes_eq h.name n ≡ true → without n (h ∷ t) ≡ without n t
dropped_without n h t e = cond-false (not (bytes_eq h.name n)) (h ∷ without n t) (without n t) (ap not e)

-- of the name that is left out, and of another
pub values_without_same : (n : List ℕ) (list : List Header) → values_of n (without n list) ≡ []
values_without_same n [] = refl
values_without_same n (h ∷ t) =
    ⊎_elim
    (λ here. ap (values_of n) (dropped_without n h t here) ∙ values_without_same n t)
    (λ there. ap (values_of n) (kept_without n h t there) ∙ values_there n h (without n t) there ∙ values_without_same n t)
    (cases_Bool (bytes_eq h.name n))

pub values_without_other : (n q : List ℕ) (list : List Header) → bytes_eq n q ≡ false → values_of q (without n list) ≡ values_of q list
values_without_other n q [] apart = refl
values_without_other n q (h ∷ t) apart =
    ⊎_elim
    (λ (here : bytes_eq h.name n ≡ true).
    let other : bytes_eq h.name q ≡ false = ap (λ m. bytes_eq m q) (bytes_same h.name n here) ∙ apart in
    ap (values_of q) (dropped_without n h t here) ∙ values_without_other n q t apart ∙ sym (values_there q h t other))
    (λ (there : bytes_eq h.name n ≡ false).
    ap (values_of q) (kept_without n h t there)
    ∙ ⊎_elim
    (λ (found : bytes_eq h.name q ≡ true). values_here q h (without n t) found ∙ ap (λ l. h.value ∷ l) (values_without_other n q t apart) ∙ sym (values_here q h t found))
    (λ (lost : bytes_eq h.name q ≡ false). values_there q h (without n t) lost ∙ values_without_other n q t apart ∙ sym (values_there q h t lost))
    (cases_Bool (bytes_eq h.name q)))
    (cases_Bool (bytes_eq h.name n))

-- ---- one change

values_added_same : (op : HeaderOp) (value : Option (List ℕ)) (q : List ℕ) → bytes_eq op.name q ≡ true → values_of q (option_to_list (option_map (λ v. record { name = op.name; value = v }) value)) ≡ option_to_list value
values_added_same op None q e = refl
values_added_same op (Some v) q e = values_here q (record { name = op.name; value = v }) [] e

values_added_other : (op : HeaderOp) (value : Option (List ℕ)) (q : List ℕ) → bytes_eq op.name q ≡ false → values_of q (option_to_list (option_map (λ v. record { name = op.name; value = v }) value)) ≡ []
values_added_other op None q e = refl
values_added_other op (Some v) q e = values_there q (record { name = op.name; value = v }) [] e

same_name : (operation : Operation) (list : List Header) (op : HeaderOp) → values_of op.name (changed_by operation list op) ≡ changed_values operation (values_of op.name list) op.value
same_name Append list op = values_append op.name list (added_by op) ∙ ap (λ l. values_of op.name list ++ l) (values_added_same op op.value op.name (bytes_eq_itself op.name))
same_name Set list op =
    values_append op.name (without op.name list) (added_by op)
    ∙ ap (λ l. l ++ values_of op.name (added_by op)) (values_without_same op.name list)
    ∙ values_added_same op op.value op.name (bytes_eq_itself op.name)
same_name Remove list op = values_without_same op.name list

other_name : (operation : Operation) (list : List Header) (op : HeaderOp) (q : List ℕ) → bytes_eq op.name q ≡ false → values_of q (changed_by operation list op) ≡ values_of q list
other_name Append list op q e = values_append q list (added_by op) ∙ ap (λ l. values_of q list ++ l) (values_added_other op op.value q e) ∙ append-nil (values_of q list)
other_name Set list op q e =
    values_append q (without op.name list) (added_by op)
    ∙ ap (λ l. values_of q (without op.name list) ++ l) (values_added_other op op.value q e) ∙ append-nil (values_of q (without op.name list))
    ∙ values_without_other op.name q list e
other_name Remove list op q e = values_without_other op.name q list e

pub values_changed : (list : List Header) (op : HeaderOp) (q : List ℕ) → values_of q (changed list op) ≡ cond (bytes_eq op.name q) (changed_values op.operation (values_of op.name list) op.value) (values_of q list)
values_changed list op q =
    ⊎_elim
    (λ (same : bytes_eq op.name q ≡ true).
    ap (λ n. values_of n (changed list op)) (sym (bytes_same op.name q same)) ∙ same_name op.operation list op
    ∙ sym (cond-true (bytes_eq op.name q) (changed_values op.operation (values_of op.name list) op.value) (values_of q list) same))
    (λ (apart : bytes_eq op.name q ≡ false).
    other_name op.operation list op q apart
    ∙ sym (cond-false (bytes_eq op.name q) (changed_values op.operation (values_of op.name list) op.value) (values_of q list) apart))
    (cases_Bool (bytes_eq op.name q))

-- ---- what is kept

-- taken out, changed, and put in again
pub put_again : (old mid new : List ℕ → Option Texts) (name : List ℕ) (texts : Texts) (values : List (List ℕ)) → ((q : List ℕ) → mid q ≡ cond (bytes_eq name q) None (old q)) → ((q : List ℕ) → new q ≡ cond (bytes_eq name q) (Some texts) (mid q))
    → texts_of texts ≡ values → (q : List ℕ) → kept_of (new q) ≡ cond (bytes_eq name q) values (kept_of (old q))
put_again old mid new name texts values out in_again are q =
    ⊎_elim
    (λ (same : bytes_eq name q ≡ true). ap kept_of (in_again q ∙ cond-true (bytes_eq name q) (Some texts) (mid q) same) ∙ are ∙ sym (cond-true (bytes_eq name q) values (kept_of (old q)) same))
    (λ (apart : bytes_eq name q ≡ false). ap kept_of (in_again q ∙ cond-false (bytes_eq name q) (Some texts) (mid q) apart ∙ out q ∙ cond-false (bytes_eq name q) None (old q) apart) ∙ sym (cond-false (bytes_eq name q) values (kept_of (old q)) apart))
    (cases_Bool (bytes_eq name q))

-- what is kept goes on as the list does
pub goes_on : (old new : List ℕ → List (List ℕ)) (list : List Header) (op : HeaderOp) → ((q : List ℕ) → old q ≡ values_of q list)
    → ((q : List ℕ) → new q ≡ cond (bytes_eq op.name q) (changed_values op.operation (old op.name) op.value) (old q))
    → (q : List ℕ) → new q ≡ values_of q (changed list op)
goes_on old new list op stands changes q =
    changes q
    ∙ ap (λ l. cond (bytes_eq op.name q) (changed_values op.operation l op.value) (old q)) (stands op.name)
    ∙ ap (λ l. cond (bytes_eq op.name q) (changed_values op.operation (values_of op.name list) op.value) l) (stands q)
    ∙ sym (values_changed list op q)

-- ---- one more of a list

pub same_header : (header : Header) (name value : List ℕ) → name ≡ header.name → value ≡ header.value → record { name = name; value = value } ≡ header
same_header header name value n v = ap (λ m. record { name = m; value = value }) n ∙ ap (λ m. record { name = header.name; value = m }) v

pub same_op : (op : HeaderOp) (name : List ℕ) (operation : Operation) (value : Option (List ℕ)) → name ≡ op.name → operation ≡ op.operation → value ≡ op.value → record { name = name; operation = operation; value = value } ≡ op
same_op op name operation value n o v =
    ap (λ m. record { name = m; operation = operation; value = value }) n
    ∙ ap (λ m. record { name = op.name; operation = m; value = value }) o
    ∙ ap (λ m. record { name = op.name; operation = op.operation; value = m }) v

pub fold_more : (list : List Header) (ops : List HeaderOp) (op : HeaderOp) → fold changed list (ops ++ op ∷ []) ≡ changed (fold changed list ops) op
fold_more list [] op = refl
fold_more list (first ∷ ops) op = fold_more (changed list first) ops op
