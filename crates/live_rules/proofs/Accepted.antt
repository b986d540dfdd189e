-- Updates of an extension that is installed alone.
use Rattle.std.proofs.Common.{◌≡◌, ℕ, suc, ◌<◌, ◌≤◌, Bool, true, false, cond, not, ◌||◌, List, [], ◌∷◌, length, Option, Some, None, All, refl, ap, ◌∙◌, arith, le-ltb, bytes_eq}
use Rattle.std.specs.Prelude.{find, count_by, nat_le, option_map, option_and_then}
use Rattle.std.proofs.lemmas.Bool.{lt-leb}
use Rattle.std.proofs.lemmas.Slice.Eq.{bytes_eq-Decides}
use Rattle.rule_spec.specs.Rule.{Rule}
use Rattle.rule_spec.specs.State.{Extension}
use Rattle.update_spec.specs.declared.refusal.Refusal.{Refusal}
use Rattle.update_spec.specs.declared.refusal.Refusal.TheVariants.{NoExtension, DuplicateId, DynamicLimit, UnsafeLimit, RegexLimit, TooManyUpdates}
use Rattle.update_spec.specs.Update.{NewExtension, Update, dynamic, installed, without_ids, replaced, updated, has_name, counted}
use Rattle.update_spec.specs.Judge.{judge_update, first_refusal, refused_if, first_duplicate, limited, count_unsafe, uses_regex, has_id, max_updates}
use Rattle.live_rules.specs.Live.{IsMade}
use Rattle.live_rules.specs.Laws.{alone, MadeUpdatesAreAccepted, UpdatesReplaceRules}

same_name : (name : List ℕ) → bytes_eq name name ≡ true
same_name name = (bytes_eq-Decides name name).1 refl

-- none is found that passes a test which each fails
none_found : (test : Rule → Bool) (rules : List Rule) → All (λ rule. test rule ≡ false) rules → find test rules ≡ None
none_found test [] each = refl
none_found test (rule ∷ rules) each =
    ap (λ (b : Bool). cond b (Some rule) (find test rules)) (each 0 rule (omega arith))
    ∙ none_found test rules (λ at other less. each (suc at) other (omega (arith, less)))

not_limited : (most count : ℕ) (refusal : ℕ → Refusal) → count ≤ most → limited most refusal count ≡ None
not_limited most count refusal few = ap (λ (b : Bool). refused_if b (refusal count)) (le-ltb most count few)

module _ (new : NewExtension) (remove : List ℕ) (add old : List Rule) where
  abbrev extension : Extension
  extension = record (installed new) { dynamic = old }

  abbrev update : Update
  update = dynamic new.name remove add

  -- what is asked of the extension
  asked : (test : Extension → Option Refusal) → option_and_then test (find (has_name new.name) (extension ∷ [])) ≡ test extension
  asked test = ap (λ (b : Bool). option_and_then test (cond b (Some extension) None)) (same_name new.name)

  module _ (rules : List Rule) (count : ℕ) (less : count < max_updates) (made : IsMade remove add old rules) where
    accepted : judge_update (alone new old count) update ≡ None
    unfolding judge_update
    accepted =
        let there : refused_if (not (bytes_eq new.name new.name || false)) (NoExtension new.name) ≡ None =
        ap (λ (b : Bool). refused_if (not (b || false)) (NoExtension new.name)) (same_name new.name) in
        let others : first_duplicate remove add old ≡ None =
        ap (option_map (λ (rule : Rule). DuplicateId rule.id)) (none_found (λ rule. has_id (without_ids remove old) rule.id) add made.others) in
        let all : length (replaced remove add old) ≤ 30000 = omega (arith, ap length made.is, made.few.all) in
        let unsafe : count_unsafe (replaced remove add old) ≤ 5000 = omega (arith, ap count_unsafe made.is, made.few.unsafe_rules) in
        let patterns : count_by uses_regex (replaced remove add old) ≤ 1000 = omega (arith, ap (count_by uses_regex) made.is, made.few.patterns) in
        let duplicate = asked (λ e. first_duplicate remove add e.dynamic) ∙ others in
        let many = asked (λ e. limited 30000 DynamicLimit (length (updated update e).dynamic)) ∙ not_limited 30000 (length (replaced remove add old)) DynamicLimit all in
        let unsafe_many = asked (λ e. limited 5000 UnsafeLimit (count_unsafe (updated update e).dynamic))
        ∙ not_limited 5000 (count_unsafe (replaced remove add old)) UnsafeLimit unsafe in
        let regex = asked (λ e. limited 1000 RegexLimit (count_by uses_regex (updated update e).dynamic))
        ∙ not_limited 1000 (count_by uses_regex (replaced remove add old)) RegexLimit patterns in
        let late : refused_if (nat_le max_updates count) (TooManyUpdates max_updates) ≡ None =
        ap (λ (b : Bool). refused_if b (TooManyUpdates max_updates)) (lt-leb max_updates count less) in
        λ i. first_refusal (
        there i
        ∷ None
        ∷ None
        ∷ duplicate i
        ∷ None
        ∷ None
        ∷ None
        ∷ None
        ∷ None
        ∷ None
        ∷ None
        ∷ many i
        ∷ unsafe_many i
        ∷ None
        ∷ regex i
        ∷ None
        ∷ late i
        ∷ []
        )

pub made_updates_are_accepted : MadeUpdatesAreAccepted
made_updates_are_accepted new remove add old rules count less made = accepted new remove add old rules count less made

pub updates_replace_rules : UpdatesReplaceRules
updates_replace_rules new remove add old count =
    ap (λ (b : Bool). counted (record {
      extensions = cond b (updated (update new remove add old) (extension new remove add old) ∷ []) (extension new remove add old ∷ []);
      count = count;
    })) (same_name new.name)
