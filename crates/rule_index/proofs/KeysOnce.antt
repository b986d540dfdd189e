-- The keys of a part, kind by kind, each once.
use Rattle.std.proofs.Common.{◌≡◌, ℕ, List, [], ◌∷◌, ◌++◌, map, Bool, false, cond, Some, None, refl, sym, ap, ◌∙◌, append_assoc, append-nil}
use Rattle.std.specs.List.{list_any}
use Rattle.std.proofs.lemmas.List.Folds.{list_any-append}
use Rattle.dnr_base.specs.View.{text_of, host_of}
use Rattle.dnr_base.specs.Request.{Part}
use Rattle.dnr_spec.specs.Domains.{lower_case}
use Rattle.index_spec.specs.Words.{words_of}
use Rattle.index_spec.specs.declared.key.Key.{Key}
use Rattle.index_spec.specs.declared.key.Key.TheVariants.{Host, Token, Initiator, All}
use Rattle.rule_spec.specs.Rule.{Condition}
use Rattle.index_spec.specs.Keys.{same_key, has_key, keys_by_initiators, keys_by_token, keys_by_hosts, domains_over, domains_over_some, keys_of_part, keys_of_condition}
use Rattle.index_spec.specs.Pairs.{once_behind}
use Rattle.index_spec.specs.Pairs as spec
use Rattle.rule_index.specs.Index.{once, token_in}
use Rattle.rule_index.proofs.Counted.{IsKind, hosts_in, tokens_in, initiators_in, none_map, once_as}

once_both : (before xs ys : List Key) → once_behind before (xs ++ ys) ≡ once_behind before xs ++ once_behind (before ++ xs) ys
once_both before [] ys = ap (λ keys. once_behind keys ys) (sym (append-nil before))
once_both before (key ∷ xs) ys =
    let first : List Key = cond (has_key before key) [] (key ∷ []) in
    ap (λ keys. first ++ keys) (once_both (before ++ key ∷ []) xs ys)
    ∙ sym (append_assoc first (once_behind (before ++ key ∷ []) xs) (once_behind ((before ++ key ∷ []) ++ xs) ys))
    ∙ ap (λ keys. (first ++ once_behind (before ++ key ∷ []) xs) ++ once_behind keys ys) (append_assoc before (key ∷ []) xs)

-- keys of one kind, behind keys of others
new_kind : (key : List ℕ → Key) → IsKind key → (before : List Key) (texts : List (List ℕ)) → ((text : List ℕ) → has_key before (key text) ≡ false) → once_behind before (map key texts) ≡ map key (once texts)
new_kind key kind before texts none = once_as key kind before (λ text. false) texts none

none_both : (test : Key → Bool) (xs ys : List Key) → list_any test xs ≡ false → list_any test ys ≡ false → list_any test (xs ++ ys) ≡ false
none_both test xs ys first second = list_any-append test xs ys ∙ rw (first, second) refl

all_same : (a b c d e f g h : List Key) → a ≡ b → c ≡ d → e ≡ f → g ≡ h → (((a ++ c) ++ e) ++ g) ≡ (((b ++ d) ++ f) ++ h)
all_same a b c d e f g h ab cd ef gh = ap (λ x. ((x ++ c) ++ e) ++ g) ab ∙ ap (λ x. ((b ++ x) ++ e) ++ g) cd ∙ ap (λ x. ((b ++ d) ++ x) ++ g) ef ∙ ap (λ x. ((b ++ d) ++ f) ++ x) gh

pub part_keys : (part : Part) → ((map Host (once (domains_over (host_of part.view))) ++ map Token (once (map lower_case (words_of (text_of part.view))))) ++ map Initiator (once (domains_over_some part.initiator))) ++ All ∷ [] ≡ spec.once (keys_of_part part)
part_keys part =
    let H = hosts_in part in
    let T = tokens_in part in
    let I = initiators_in part in
    let h : once_behind [] H ≡ map Host (once (domains_over (host_of part.view))) = new_kind Host (λ a b. refl) [] (domains_over (host_of part.view)) (λ text. refl) in
    let t : once_behind H T ≡ map Token (once (map lower_case (words_of (text_of part.view)))) =
    new_kind Token (λ a b. refl) H (map lower_case (words_of (text_of part.view))) (λ text. none_map Host (λ other. same_key other (Token text)) (domains_over (host_of part.view)) (λ x. refl)) in
    let i : once_behind (H ++ T) I ≡ map Initiator (once (domains_over_some part.initiator)) =
    new_kind Initiator (λ a b. refl) (H ++ T) (domains_over_some part.initiator)
    (λ text. none_both (λ other. same_key other (Initiator text)) H T (none_map Host (λ other. same_key other (Initiator text)) (domains_over (host_of part.view)) (λ x. refl))
    (none_map Token (λ other. same_key other (Initiator text)) (map lower_case (words_of (text_of part.view))) (λ x. refl))) in
    let none : has_key ((H ++ T) ++ I) All ≡ false =
    none_both (λ other. same_key other All) (H ++ T) I
    (none_both (λ other. same_key other All) H T (none_map Host (λ other. same_key other All) (domains_over (host_of part.view)) (λ x. refl)) (none_map Token (λ other. same_key other All) (map lower_case (words_of (text_of part.view))) (λ x. refl)))
    (none_map Initiator (λ other. same_key other All) (domains_over_some part.initiator) (λ x. refl)) in
    let a : once_behind ((H ++ T) ++ I) (All ∷ []) ≡ All ∷ [] = rw none refl in
    let joined : once_behind [] (((H ++ T) ++ I) ++ All ∷ []) ≡ ((once_behind [] H ++ once_behind H T) ++ once_behind (H ++ T) I) ++ once_behind ((H ++ T) ++ I) (All ∷ []) =
    once_both [] ((H ++ T) ++ I) (All ∷ [])
    ∙ ap (λ keys. keys ++ once_behind ((H ++ T) ++ I) (All ∷ [])) (once_both [] (H ++ T) I ∙ ap (λ keys. keys ++ once_behind (H ++ T) I) (once_both [] H T)) in
    sym (joined ∙ all_same _ _ _ _ _ _ _ _ h t i a)

-- ---- of a rule

pub host_keys : (condition : Condition) (domains : List (List ℕ)) → condition.hosts ≡ Some domains → map Host (once domains) ≡ spec.once (keys_of_condition condition)
host_keys condition domains is = sym (ap (λ hosts. spec.once (keys_by_hosts hosts condition)) is ∙ new_kind Host (λ a b. refl) [] domains (λ text. refl))

without_hosts : (condition : Condition) → condition.hosts ≡ None → spec.once (keys_of_condition condition) ≡ spec.once (keys_by_token (token_in condition) condition)
without_hosts condition none = ap (λ hosts. spec.once (keys_by_hosts hosts condition)) none

pub token_keys : (condition : Condition) (token : List ℕ) → condition.hosts ≡ None → token_in condition ≡ Some token → Token token ∷ [] ≡ spec.once (keys_of_condition condition)
token_keys condition token none is = sym (without_hosts condition none ∙ ap (λ own. spec.once (keys_by_token own condition)) is)

without_token : (condition : Condition) → condition.hosts ≡ None → token_in condition ≡ None → spec.once (keys_of_condition condition) ≡ spec.once (keys_by_initiators condition.initiators)
without_token condition none no_token = without_hosts condition none ∙ ap (λ own. spec.once (keys_by_token own condition)) no_token

pub initiator_keys : (condition : Condition) (domains : List (List ℕ)) → condition.hosts ≡ None → token_in condition ≡ None → condition.initiators ≡ Some domains → map Initiator (once domains) ≡ spec.once (keys_of_condition condition)
initiator_keys condition domains none no_token is =
    sym (without_token condition none no_token ∙ ap (λ initiators. spec.once (keys_by_initiators initiators)) is ∙ new_kind Initiator (λ a b. refl) [] domains (λ text. refl))

pub no_keys : (condition : Condition) → condition.hosts ≡ None → token_in condition ≡ None → condition.initiators ≡ None → All ∷ [] ≡ spec.once (keys_of_condition condition)
no_keys condition none no_token is = sym (without_token condition none no_token ∙ ap (λ initiators. spec.once (keys_by_initiators initiators)) is)
