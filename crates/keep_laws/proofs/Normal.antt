-- What becomes of rules, and of what is judged of them, in their normal form.
use Rattle.std.proofs.Common.{◌≡◌, ℕ, ◌+◌, List, [], ◌∷◌, ◌++◌, map, length, Bool, true, false, not, ◌||◌, ◌==◌, cond, count_by, find, Option, Some, None, option_map, option_and_then, refl, sym, ap, ◌∙◌}
use Rattle.std.specs.List.{list_any}
use Rattle.std.proofs.lemmas.List.{map-append, length-map}
use Rattle.std.proofs.lemmas.List.Sums.{sum_by-cons}
use Rattle.rule_spec.specs.Rule.{Rule, is_unsafe}
use Rattle.rule_spec.specs.State.{Extension, State, has_number}
use Rattle.written_laws.specs.Normal.{normal}
use Rattle.written_laws.specs.Alike.{normal_extension, normal_state}
use Rattle.update_spec.specs.declared.refusal.Refusal.{Refusal}
use Rattle.update_spec.specs.declared.refusal.Refusal.TheVariants.{DuplicateId, DynamicLimit, UnsafeLimit, RegexLimit}
use Rattle.update_spec.specs.Update.{Update, dynamic, without_ids, replaced, with_first, has_name, updated, changed}
use Rattle.update_spec.specs.Judge.{has_id, first_duplicate, named, limited, uses_regex, count_unsafe}

-- ---- rules

without-normal : (remove : List ℕ) (rules : List Rule) → without_ids remove (map normal rules) ≡ map normal (without_ids remove rules)
without-normal remove [] = refl
without-normal remove (rule ∷ rules) =
    ap (λ l. cond (not (has_number remove rule.id)) (normal rule ∷ l) l) (without-normal remove rules)
    ∙ by (not (has_number remove rule.id))
  where
    by : (b : Bool) → cond b (normal rule ∷ map normal (without_ids remove rules)) (map normal (without_ids remove rules)) ≡ map normal (cond b (rule ∷ without_ids remove rules) (without_ids remove rules))
    by true = refl
    by false = refl

pub replaced-normal : (remove : List ℕ) (add rules : List Rule) → replaced remove (map normal add) (map normal rules) ≡ map normal (replaced remove add rules)
replaced-normal remove add rules =
    ap (λ l. l ++ map normal add) (without-normal remove rules) ∙ sym (map-append normal (without_ids remove rules) add)

has-normal : (rules : List Rule) (id : ℕ) → has_id (map normal rules) id ≡ has_id rules id
has-normal [] id = refl
has-normal (rule ∷ rules) id = ap (λ b. (id == rule.id) || b) (has-normal rules id)

count-normal : (p : Rule → Bool) → ((rule : Rule) → p (normal rule) ≡ p rule) → (rules : List Rule) → count_by p (map normal rules) ≡ count_by p rules
count-normal p same [] = refl
count-normal p same (rule ∷ rules) =
    sum_by-cons (λ r. cond (p r) 1 0) (normal rule) (map normal rules) ∙ (λ i. cond (same rule i) 1 0 + count-normal p same rules i)
    ∙ sym (sum_by-cons (λ r. cond (p r) 1 0) rule rules)

find-normal : (p q : Rule → Bool) → ((rule : Rule) → p (normal rule) ≡ q rule) → (rules : List Rule) → find p (map normal rules) ≡ option_map normal (find q rules)
find-normal p q same [] = refl
find-normal p q same (rule ∷ rules) = (λ i. cond (same rule i) (Some (normal rule)) (find-normal p q same rules i)) ∙ by (q rule)
  where
    by : (b : Bool) → cond b (Some (normal rule)) (option_map normal (find q rules)) ≡ option_map normal (cond b (Some rule) (find q rules))
    by true = refl
    by false = refl

pub duplicate-normal : (remove : List ℕ) (add rules : List Rule) → first_duplicate remove (map normal add) (map normal rules) ≡ first_duplicate remove add rules
duplicate-normal remove add rules =
    ap (option_map (λ (rule : Rule). DuplicateId rule.id))
    (find-normal (λ rule. has_id (without_ids remove (map normal rules)) rule.id) (λ rule. has_id (without_ids remove rules) rule.id)
    (λ rule. ap (λ l. has_id l rule.id) (without-normal remove rules) ∙ has-normal (without_ids remove rules) rule.id) add)
    ∙ named-by (find (λ rule. has_id (without_ids remove rules) rule.id) add)
  where
    named-by : (o : Option Rule) → option_map (λ (rule : Rule). DuplicateId rule.id) (option_map normal o) ≡ option_map (λ (rule : Rule). DuplicateId rule.id) o
    named-by None = refl
    named-by (Some rule) = refl

-- ---- extensions

module _ (name remove : List ℕ) (add : List Rule) where
  abbrev pub first : Update
  first = dynamic name remove add

  abbrev pub second : Update
  second = dynamic name remove (map normal add)

  pub updated-normal : (extension : Extension) → updated second (normal_extension extension) ≡ normal_extension (updated first extension)
  updated-normal extension = λ i. record {
    name = extension.name;
    sets = (normal_extension extension).sets;
    access = extension.access;
    dynamic = replaced-normal remove add extension.dynamic i;
    session = (normal_extension extension).session;
  }

  pub extensions-normal : (extensions : List Extension) → with_first (has_name name) (updated second) (map normal_extension extensions) ≡ map normal_extension (with_first (has_name name) (updated first) extensions)
  extensions-normal [] = refl
  extensions-normal (extension ∷ extensions) =
      (λ i. cond (has_name name extension) (updated-normal extension i ∷ map normal_extension extensions) (normal_extension extension ∷ extensions-normal extensions i))
      ∙ by (has_name name extension)
    where
      by : (b : Bool) → cond b (normal_extension (updated first extension) ∷ map normal_extension extensions) (normal_extension extension ∷ map normal_extension (with_first (has_name name) (updated first) extensions))
          ≡ map normal_extension (cond b (updated first extension ∷ extensions) (extension ∷ with_first (has_name name) (updated first) extensions))
      by true = refl
      by false = refl

  -- the state after the update, in its normal form
  pub changed-normal : (state : State) → changed (normal_state state) second ≡ normal_state (changed state first)
  changed-normal state = λ i. record { extensions = extensions-normal state.extensions i; count = state.count }

pub there-normal : (name : List ℕ) (extensions : List Extension) → list_any (has_name name) (map normal_extension extensions) ≡ list_any (has_name name) extensions
there-normal name [] = refl
there-normal name (extension ∷ extensions) = ap (λ b. has_name name extension || b) (there-normal name extensions)

named-normal : (name : List ℕ) (extensions : List Extension) → named name (map normal_extension extensions) ≡ option_map normal_extension (named name extensions)
named-normal name [] = refl
named-normal name (extension ∷ extensions) =
    ap (λ o. cond (has_name name extension) (Some (normal_extension extension)) o) (named-normal name extensions) ∙ by (has_name name extension)
  where
    by : (b : Bool) → cond b (Some (normal_extension extension)) (option_map normal_extension (named name extensions)) ≡ option_map normal_extension (cond b (Some extension) (named name extensions))
    by true = refl
    by false = refl

-- a test of the extension of this name
pub test-normal : (name : List ℕ) (extensions : List Extension) (test other : Extension → Option Refusal)
    → ((extension : Extension) → test (normal_extension extension) ≡ other extension)
    → option_and_then test (named name (map normal_extension extensions)) ≡ option_and_then other (named name extensions)
test-normal name extensions test other same = ap (option_and_then test) (named-normal name extensions) ∙ by (named name extensions)
  where
    by : (o : Option Extension) → option_and_then test (option_map normal_extension o) ≡ option_and_then other o
    by None = refl
    by (Some extension) = same extension

-- ---- limits

module _ (name remove : List ℕ) (add : List Rule) (extension : Extension) where
  abbrev Now : Extension
  Now = updated (first name remove add) extension

  moved : {X : Type 0} (f : Extension → X) → f (updated (second name remove add) (normal_extension extension)) ≡ f (normal_extension Now)
  moved f = ap f (updated-normal name remove add extension)

  pub dynamic-limit : limited 30000 DynamicLimit (length (updated (second name remove add) (normal_extension extension)).dynamic) ≡ limited 30000 DynamicLimit (length Now.dynamic)
  dynamic-limit = moved (λ e. limited 30000 DynamicLimit (length e.dynamic)) ∙ ap (limited 30000 DynamicLimit) (length-map Now.dynamic normal)

  pub unsafe-limit : limited 5000 UnsafeLimit (count_unsafe (updated (second name remove add) (normal_extension extension)).dynamic) ≡ limited 5000 UnsafeLimit (count_unsafe Now.dynamic)
  unsafe-limit = moved (λ e. limited 5000 UnsafeLimit (count_unsafe e.dynamic)) ∙ ap (limited 5000 UnsafeLimit) (count-normal (λ rule. is_unsafe rule.action) (λ rule. refl) Now.dynamic)

  pub regex-limit : limited 1000 RegexLimit (count_by uses_regex (updated (second name remove add) (normal_extension extension)).dynamic) ≡ limited 1000 RegexLimit (count_by uses_regex Now.dynamic)
  regex-limit = moved (λ e. limited 1000 RegexLimit (count_by uses_regex e.dynamic)) ∙ ap (limited 1000 RegexLimit) (count-normal uses_regex (λ rule. refl) Now.dynamic)
