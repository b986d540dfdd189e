-- What a pattern that was parsed or built, and one that was refused, say of the definitions.
use Rattle.std.proofs.Common.{◌≡◌, ◌≢◌, ◌⊎◌, ℕ, ◌+◌, ◌-◌, ◌<◌, ◌≤◌, All, Fits, w8, get_or, Bool, true, false, cond, List, length, Option, Some, None, IsSome, IsSomeAnd, option_map, refl, sym, ap, ◌∙◌, subst, inl, inr, arith, nat_le}
use Rattle.std.specs.Prelude.{option_and_then, IfSome, string_bytes}
use Rattle.std.specs.Coded.{Coded, code_by, coded×, coded_ℕ, coded_list, coded_option, Coded-set}
use Rattle.std.specs.Str.{chars}
use Rattle.std.proofs.lemmas.Bool.Decides.{nat_tests}
use Rattle.std.proofs.lemmas.List.{get_or_default, length-map}
use Rattle.dnr_base.specs.declared.span.Span.{Span}
use Rattle.dnr_spec.specs.Patterns.{options, pattern_in, groups_of, found, first_places, places, ends_of}
use Rattle.regex.specs.Patterns.{Re, Match, SameCaptures, Reads, Refuses}
use Rattle.regex.specs.Strings.{regex_pattern, regex_source, regex_config, regex_names, group_count as count_in, IsReadFromSource}
use Rattle.regex.specs.declared.string.regex.Regex.{Regex}
use Rattle.std.proofs.Math.Logic.{∥∥₁_elim}
use Rattle.regex_hir.specs.Meaning.{meaning}
use Rattle.regex_hir.specs.declared.hir.Hir.{Hir}
use Rattle.regex_syntax.specs.Brackets.{Nested}
use Rattle.regex_syntax.specs.Grammar.{Names, read, group_count}
use Rattle.regex_syntax.specs.declared.error.ErrorKind.{ErrorKind}
use Rattle.regex_syntax.specs.declared.error.ErrorKind.TheVariants.{OutOfMemory}
use Rattle.regex_syntax.proofs.CapturesLemmas.{find_str_alike}

-- what the definition takes of what the grammar reads
abbrev within_nesting : Option (Nested Re × Names) → Option (Re × ℕ)
within_nesting r = option_and_then (λ (p : Nested Re × Names). cond (nat_le p.0.depth 250) (Some (p.0.value, length p.1 - 1)) None) r

abbrev IsReadAs : Option (Nested Re × Names) → Hir → Names → Type 0
IsReadAs r hir names =
    IsSomeAnd r (λ p. (p.0.depth ≤ 250) × SameCaptures (meaning hir) p.0.value × (names ≡ p.1) × (group_count (meaning hir) ≤ length names))

read_within : (r : Option (Nested Re × Names)) (hir : Hir) (names : Names) → IsReadAs r hir names
    → (re : Re) × (within_nesting r ≡ Some (re, length names - 1)) × SameCaptures (meaning hir) re
read_within None hir names h = absurd h
read_within (Some p) hir names h =
    let deep : nat_le p.0.depth 250 ≡ true = grind (arith, nat_tests, h.0) in
    (p.0.value, rw (deep, h.2) refl, h.1)

-- the pattern of a text that is read, which matches alike
pub pattern_read : (fold : Bool) (pattern : List ℕ) (hir : Hir) (names : Names) → Reads (options fold) pattern hir names
    → (re : Re) × (pattern_in pattern fold ≡ Some (re, length names - 1)) × SameCaptures (meaning hir) re
unfolding Reads pattern_in
pattern_read fold pattern hir names h = read_within (read (options fold) (chars pattern)) hir names h

pub pattern_is_some : (fold : Bool) (pattern : List ℕ) (hir : Hir) (names : Names) → Reads (options fold) pattern hir names → IsSome (pattern_in pattern fold)
pattern_is_some fold pattern hir names h = let p = pattern_read fold pattern hir names h in rw p.1 refl

pub groups_are_some : (pattern : List ℕ) (hir : Hir) (names : Names) → Reads (options false) pattern hir names → IsSome (groups_of pattern)
unfolding groups_of
groups_are_some pattern hir names h = let p = pattern_read false pattern hir names h in rw p.1 refl

pub groups_read : (pattern : List ℕ) (hir : Hir) (names : Names) → Reads (options false) pattern hir names → groups_of pattern ≡ Some (length names - 1)
unfolding groups_of
groups_read pattern hir names h = let p = pattern_read false pattern hir names h in rw p.1 refl

none_within : (r : Option (Nested Re × Names)) → (r ≡ None) ⊎ IfSome r (λ p. 250 < p.0.depth) → within_nesting r ≡ None
none_within None h = refl
none_within (Some p) (inl h) = cc
none_within (Some p) (inr h) =
    let deep : nat_le p.0.depth 250 ≡ false = grind (arith, nat_tests, h) in
    rw deep refl

-- a text that is refused is no pattern
pub pattern_refused : (fold : Bool) (pattern : List ℕ) (kind : ErrorKind) → Refuses (options fold) pattern kind → kind ≢ OutOfMemory → pattern_in pattern fold ≡ None
unfolding Refuses pattern_in
pattern_refused fold pattern kind (inl memory) other = absurd (other memory)
pattern_refused fold pattern kind (inr (inl none)) other = none_within (read (options fold) (chars pattern)) (inl none)
pattern_refused fold pattern kind (inr (inr deep)) other = none_within (read (options fold) (chars pattern)) (inr deep.1)

pub groups_refused : (pattern : List ℕ) (kind : ErrorKind) → Refuses (options false) pattern kind → kind ≢ OutOfMemory → groups_of pattern ≡ None
unfolding groups_of
groups_refused pattern kind h other = rw (pattern_refused false pattern kind h other) refl

-- no pattern matches nowhere
pub found_nowhere : (fold : Bool) (pattern text : List ℕ) → pattern_in pattern fold ≡ None → found pattern fold text ≡ None
unfolding found
found_nowhere fold pattern text h = rw h refl

two_steps : {A B C : Type 0} (f : A → B) (g : B → C) (o : Option A) → option_map (λ x. g (f x)) o ≡ option_map g (option_map f o)
two_steps f g None = refl
two_steps f g (Some x) = refl

places_alike : (count : ℕ) (o p : Option Match) → option_map ends_of o ≡ option_map ends_of p
    → option_map (λ m. places count (ends_of m)) o ≡ option_map (λ m. places count (ends_of m)) p
places_alike count o p e = two_steps ends_of (places count) o ∙ ap (option_map (places count)) e ∙ sym (two_steps ends_of (places count) p)

-- the first match of a text that is read is that of its tree
pub found_read : (fold : Bool) (pattern : List ℕ) (hir : Hir) (names : Names) (text : List ℕ) → All (λ x. x < 256) text
    → Reads (options fold) pattern hir names → found pattern fold text ≡ first_places (meaning hir) (length names - 1) text
unfolding found
found_read fold pattern hir names text bytes h =
    let p = pattern_read fold pattern hir names h in
    rw p.1 (sym (places_alike (length names - 1) _ _ (find_str_alike (meaning hir) p.0 p.2 text bytes 0)))

pub bytes_below : (text : List ℕ) → ((i : ℕ) → Fits w8 (get_or text i 0)) → All (λ x. x < 256) text
bytes_below text h k d lt = subst (λ x. x < 256) (get_or_default text k 0 d lt) (let f = h k in omega (arith, f))

span_code : Coded Span
span_code = code_by (ℕ × ℕ) (coded× coded_ℕ coded_ℕ) (λ span. (span.start, span.end)) (λ p. record { start = p.0; end = p.1 }) (λ _. refl)

-- the same of what was built
pub found_built : (regex : Regex) (fold : Bool) (text : List ℕ) → All (λ x. x < 256) text → regex_config regex ≡ options fold → ∥ IsReadFromSource regex ∥₁
    → found (regex_source regex) fold text ≡ first_places (regex_pattern regex) (length (regex_names regex) - 1) text
found_built regex fold text bytes config is_read =
    ∥∥₁_elim is_read (Coded-set (coded_option (coded_list (coded_option span_code))) _ _) (λ (r : IsReadFromSource regex). found_read fold (regex_source regex) _ (regex_names regex) text bytes (rw config at r))

-- a pattern has the whole match beside its groups
pub groups_counted : (regex : Regex) → count_in regex ≡ length (regex_names regex) - 1 + 1
groups_counted regex =
    let named = regex.pattern.has_group_zero in
    let stored = regex.pattern.names.ok.0 in
    omega (arith, named, stored, length-map regex.pattern.names.items (option_map string_bytes))
