-- Steps along a list of rules, of which each has an id of its own.
use Rattle.std.proofs.Common.{◌≡◌, ◌≤◌, ◌<◌, ◌+◌, ℕ, List, [], ◌∷◌, ◌++◌, Bool, true, false, ◌||◌, ◌==◌, length, drop, refl, sym, ap, ◌∙◌, subst, inl, inr, arith, get_or, Result, Ok, Err, Some}
use Rattle.std.specs.Result.{IfErr}
use Rattle.std.proofs.lemmas.List.{drop_more, drop_all}
use Rattle.std.proofs.lemmas.List.Folds.{list_any-append}
use Rattle.serde_json.specs.Data.{Data, Items, item}
use Rattle.serde_json.specs.declared.value.Value.{Value}
use Rattle.serde_json.specs.View.{view, items_view}
use Rattle.dnr_base.specs.Faults.{Rose}
use Rattle.rule_spec.specs.declared.rule_kind.RuleKind.{RuleKind}
use Rattle.rule_spec.specs.declared.rule_refusal.RuleRefusal.{RuleRefusal}
use Rattle.rule_spec.specs.declared.rule_refusal.RuleRefusal.TheVariants.{HostFault, NoMemory}
use Rattle.rule_spec.specs.declared.placed_refusal.PlacedRefusal.{PlacedRefusal}
use Rattle.rule_spec.specs.Rule.{Rule}
use Rattle.json_spec.specs.ReadRule.{rule_in, has_id, placed, read_next, read_from, read_rule, IsRuleAtPattern, StopsAtPattern}
use Rattle.json_spec.specs.MayRefuse.{MayRefuse}
use Rattle.rule_read.specs.Reading.{is_taken, Taken, ReadsNext, StopsAt, MayStop, MayStopBy}

-- ---- the ids that are taken

-- a rule among none
pub rule_alone : (kind : RuleKind) (d : Data) (taken : List ℕ) (rule : Rule) → taken ≡ [] → rule_in kind (is_taken taken) d ≡ Ok rule → read_rule kind d ≡ Ok rule
rule_alone kind d taken rule empty h = subst (λ (ids : List ℕ). rule_in kind (is_taken ids) d ≡ Ok rule) empty h

pub refused_alone : (kind : RuleKind) (d : Data) (taken : List ℕ) (rose : Type 0) (result : Result Rule RuleRefusal) → taken ≡ []
    → IfErr result (MayRefuse (rule_in kind (is_taken taken) d) (rose × IsRuleAtPattern (is_taken taken) d))
    → IfErr result (MayRefuse (read_rule kind d) (rose × IsRuleAtPattern (λ id. false) d))
refused_alone kind d taken rose result empty h =
    subst (λ (ids : List ℕ). IfErr result (MayRefuse (rule_in kind (is_taken ids) d) (rose × IsRuleAtPattern (is_taken ids) d))) empty h

pub none_taken : (taken : List ℕ) → taken ≡ [] → Taken taken []
none_taken taken empty id = ap (λ ids. is_taken ids id) empty

pub same_ids : (taken : List ℕ) (rules : List Rule) → Taken taken rules → is_taken taken ≡ has_id rules
same_ids taken rules ids = λ i id. ids id i

or_false : (b : Bool) → (b || false) ≡ b
or_false true = refl
or_false false = refl

has_id-append : (rules : List Rule) (rule : Rule) (id : ℕ) → has_id (rules ++ rule ∷ []) id ≡ (has_id rules id || rule.id == id)
has_id-append rules rule id = list_any-append (λ (r : Rule). r.id == id) rules (rule ∷ []) ∙ ap (λ b. has_id rules id || b) (or_false (rule.id == id))

pub id_more : (taken new : List ℕ) (rules more : List Rule) (rule : Rule) → Taken taken rules → ((id : ℕ) → is_taken new id ≡ (is_taken taken id || rule.id == id)) → more ≡ rules ++ rule ∷ [] → Taken new more
id_more taken new rules more rule ids added push id =
    added id ∙ ap (λ t. t || rule.id == id) (ids id) ∙ sym (has_id-append rules rule id) ∙ ap (λ rs. has_id rs id) (sym push)

-- ---- one rule

pub reads_next : (kind : RuleKind) (d : Data) (taken : List ℕ) (rules more : List Rule) (rule : Rule) → Taken taken rules
    → rule_in kind (is_taken taken) d ≡ Ok rule → more ≡ rules ++ rule ∷ [] → ReadsNext kind d rules more
reads_next kind d taken rules more rule ids read push = (rule, subst (λ test. rule_in kind test d ≡ Ok rule) (same_ids taken rules ids) read, push)

pub stops_at : (kind : RuleKind) (d : Data) (taken : List ℕ) (rules : List Rule) (rose : Type 0) (cause : RuleRefusal) (refusal : PlacedRefusal) → Taken taken rules
    → MayRefuse (rule_in kind (is_taken taken) d) (rose × IsRuleAtPattern (is_taken taken) d) cause
    → refusal ≡ placed (length rules) d cause → StopsAt kind d rules rose refusal
stops_at kind d taken rules rose cause refusal ids h is =
    subst (StopsAt kind d rules rose) (sym is) (record {
      placed = refl;
      cause = subst (λ test. MayRefuse (rule_in kind test d) (rose × IsRuleAtPattern test d) cause) (same_ids taken rules ids) h;
    })

-- ---- the list

-- what was read, and what is still to be read
pub record IsReadSoFar (kind : RuleKind) (values : List Value) (rules : List Rule) (next : ℕ) : Type 0 where
  pub same : read_from kind [] (items_view values) ≡ read_from kind rules (items_view (drop next values))
  pub stops : (refusal : PlacedRefusal) → StopsAtPattern kind rules (items_view (drop next values)) refusal → StopsAtPattern kind [] (items_view values) refusal

pub list_begins : (kind : RuleKind) (values : List Value) → IsReadSoFar kind values [] 0
list_begins kind values = record { same = refl; stops = λ refusal h. h }

rest_is : (values : List Value) (next : ℕ) (value : Value) → next < length values → value ≡ get_or values next value → items_view (drop next values) ≡ item (view value) (items_view (drop (next + 1) values))
rest_is values next value inside is =
    ap items_view (drop_more values next value inside) ∙ ap (λ v. item (view v) (items_view (drop (next + 1) values))) (sym is)

step_is : (kind : RuleKind) (rules : List Rule) (d : Data) (items : Items) (read : Result Rule RuleRefusal) → rule_in kind (has_id rules) d ≡ read
    → read_from kind rules (item d items) ≡ read_next (λ rule. read_from kind (rules ++ rule ∷ []) items) (length rules) d read
step_is kind rules d items read is = ap (λ r. read_next (λ rule. read_from kind (rules ++ rule ∷ []) items) (length rules) d r) is

pub list_goes : (kind : RuleKind) (values : List Value) (next : ℕ) (value : Value) (rules more : List Rule) → next < length values → value ≡ get_or values next value
    → IsReadSoFar kind values rules next → ReadsNext kind (view value) rules more → IsReadSoFar kind values more (next + 1)
list_goes kind values next value rules more inside is so_far (rule, read, push) =
    let items = items_view (drop (next + 1) values) in
    let rest = rest_is values next value inside is in
    record {
      same = so_far.same ∙ ap (read_from kind rules) rest ∙ step_is kind rules (view value) items (Ok rule) read ∙ ap (λ rs. read_from kind rs items) (sym push);
      stops = λ refusal h.
          so_far.stops refusal (subst (λ l. StopsAtPattern kind rules l refusal) (sym rest) (inr (rule, read, subst (λ rs. StopsAtPattern kind rs items refusal) push h)));
    }

pub list_ends : (kind : RuleKind) (values : List Value) (next : ℕ) (rules : List Rule) → length values ≤ next → IsReadSoFar kind values rules next → read_from kind [] (items_view values) ≡ Ok rules
list_ends kind values next rules end so_far = so_far.same ∙ ap (λ vs. read_from kind rules (items_view vs)) (drop_all next values end)

stops_by : (kind : RuleKind) (values : List Value) (next : ℕ) (value : Value) (rules : List Rule) (rose late : Type 0) (refusal : PlacedRefusal) (cause : RuleRefusal)
    → next < length values → value ≡ get_or values next value → IsReadSoFar kind values rules next → (rose → late) → refusal ≡ placed (length rules) (view value) cause
    → MayRefuse (rule_in kind (has_id rules) (view value)) (rose × IsRuleAtPattern (has_id rules) (view value)) cause
    → MayStopBy (read_from kind [] (items_view values)) (late × StopsAtPattern kind [] (items_view values) refusal) refusal cause
stops_by kind values next value rules rose late refusal HostFault inside is so_far f placed_so h =
    (f h.0, so_far.stops refusal (subst (λ l. StopsAtPattern kind rules l refusal) (sym (rest_is values next value inside is)) (inl (placed_so, h.1))))
stops_by kind values next value rules rose late refusal NoMemory inside is so_far f placed_so h = tt
stops_by kind values next value rules rose late refusal cause inside is so_far f placed_so h =
    so_far.same ∙ ap (read_from kind rules) (rest_is values next value inside is)
    ∙ step_is kind rules (view value) (items_view (drop (next + 1) values)) (Err _) h ∙ ap Err (sym placed_so)

pub rose_later : (before then now : ℕ) → before ≤ then → Rose then now → Rose before now
rose_later before then now later rose = omega (arith, later, rose)

pub list_stops : (kind : RuleKind) (values : List Value) (next : ℕ) (value : Value) (rules : List Rule) (before then now : ℕ) (refusal : PlacedRefusal)
    → next < length values → value ≡ get_or values next value → IsReadSoFar kind values rules next → before ≤ then → StopsAt kind (view value) rules (Rose then now) refusal
    → MayStop kind (Some (items_view values)) (Rose before now) refusal
list_stops kind values next value rules before then now refusal inside is so_far later at =
    stops_by kind values next value rules (Rose then now) (Rose before now) refusal refusal.cause inside is so_far (rose_later before then now later) at.placed at.cause
