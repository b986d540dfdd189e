-- What a line says that is a supported filter.
use Rattle.std.proofs.Common.{◌≡◌, ℕ, zero, suc, ◌-◌, List, [], ◌∷◌, length, map, fold, take, drop, Bool, true, false, cond, not, ◌||◌, ◌&&◌, Option, Some, None, Ok, Err, refl, subst, arith}
use Rattle.std.specs.Prelude.{codes, nat_lt, nat_le, nat_eq, is_some, unwrap_or, IfSome, IsTrue, ◌==◌}
use Rattle.std.specs.List.{list_all, list_any, starts_with, ends_with, AllByRecursion}
use Rattle.std.specs.Char.{is_ascii, to_ascii_lowercase}
use Rattle.std.proofs.lemmas.Bool.{and_parts, and_from, or_parts, not-true, not-false}
use Rattle.std.proofs.lemmas.Bool.Decides.{nat_tests}
use Rattle.std.proofs.lemmas.List.{length-take, length-drop}
use Rattle.std.proofs.lemmas.Str.Ascii.{lowercase-lowercase}
use Rattle.dnr_spec.specs.Domains.{is_domain, lower_case}
use Rattle.dnr_spec.specs.UrlFilter.{max_pattern}
use Rattle.dnr_spec.specs.UrlFilter as url
use Rattle.dnr_spec.specs.declared.pattern_refusal.PatternRefusal.TheVariants as url_reason
use Rattle.dnr_spec.specs.Patterns.{groups_of}
use Rattle.rule_spec.specs.IsRule.{is_regex_filter}
use Rattle.compile_spec.specs.Compiled.{url_filter_of, regex_filter_of}
use Rattle.list_spec.specs.declared.domain_entry.DomainEntry.{DomainEntry}
use Rattle.list_spec.specs.declared.reason.Reason.{Reason}
use Rattle.list_spec.specs.declared.reason.Reason.TheVariants as reason
use Rattle.list_spec.specs.Pieces.{pieces_of, before_place, behind_place, without_tilde}
use Rattle.list_spec.specs.Entries.{entry_of, entries_of, is_domain_list, is_empty_entry, has_conflict}
use Rattle.list_spec.specs.Options.{Written, Subject, on_types, on_party, on_domains, on_case, on_document, subject_named, option_fault, subject_fault, value_fault, entries_fault, first_fault, or_else, speaks_of_domains, Asked, nothing_asked, asked_of, after_option, after_subject, options_in, options_place}
use Rattle.list_spec.specs.LineKind.{FilterPattern, FilterLine, Line, trimmed, pattern_of, every_url, plain, regex, is_regex, filter_asked, line_of_pattern, line_of_options, line_cut, is_exception, filter_body, filter_of, line_of_trimmed, line_of, max_list_line, is_header, hides, is_space}
use Rattle.list_spec.specs.Says.{max_regex, is_usable, filter_in}
use Rattle.compile_laws.proofs.Lists.{each_passes}

-- ---- the domains

-- a domain in lower case
pub record IsEntry (entry : DomainEntry) : Type 0 where
  pub domain : is_domain entry.domain ≡ true
  pub lower : lower_case entry.domain ≡ entry.domain

-- domains, none of which is both listed and excluded
pub record AreEntries (entries : List DomainEntry) : Type 0 where
  pub each : AllByRecursion IsEntry entries
  pub apart : has_conflict entries ≡ false

lower_again : (text : List ℕ) → lower_case (map to_ascii_lowercase text) ≡ map to_ascii_lowercase text
lower_again [] = refl
lower_again (b ∷ text) = cc (lowercase-lowercase b, lower_again text)

entries_pass : (pieces : List (List ℕ)) → AllByRecursion (λ entry. is_domain entry.domain ≡ true) (map entry_of pieces) → AllByRecursion IsEntry (map entry_of pieces)
entries_pass [] h = tt
entries_pass (piece ∷ pieces) h = (record { domain = h.0; lower = lower_again (without_tilde piece) }, entries_pass pieces h.1)

-- no fault was found
all_good : (name : List ℕ) (list all : Bool) → cond (not list) (Some (reason.OptionValue name)) (cond all None (Some reason.BadDomain)) ≡ None → (list ≡ true) × (all ≡ true)
all_good name true true h = (refl, refl)
all_good name true false h = cc
all_good name false all h = cc

good_entries : (name value : List ℕ) → entries_fault name (entries_of value) ≡ None → AreEntries (entries_of value)
good_entries name value h =
    let entries = entries_of value in
    let good = all_good name (is_domain_list entries) (list_all (λ entry. is_domain entry.domain) entries) h in
    let apart = or_parts (list_any is_empty_entry entries) (has_conflict entries) (not-true (list_any is_empty_entry entries || has_conflict entries) good.0) in
    record { each = entries_pass (pieces_of 124 value) (each_passes (λ entry. is_domain entry.domain) entries good.1); apart = apart.1 }

-- ---- the options

both_none : (a b : Option Reason) → or_else a b ≡ None → (a ≡ None) × (b ≡ None)
both_none None b h = (refl, h)
both_none (Some r) b h = cc

second_none : (b : Bool) (r : Reason) (later : Option Reason) → cond b (Some r) later ≡ None → later ≡ None
second_none true r later h = cc
second_none false r later h = h

good_value : (name : List ℕ) (value : Option (List ℕ)) → value_fault name value ≡ None → AreEntries (entries_of (unwrap_or value []))
good_value name None h = cc
good_value name (Some value) h = good_entries name value h

kept_subject : (exception repeated : Bool) (asked : Asked) (written : Written) (subject : Option Subject) → AreEntries asked.domains
    → subject_fault exception repeated written subject ≡ None → AreEntries (after_subject asked written subject).domains
kept_subject exception repeated asked written None e h = cc
kept_subject exception repeated asked written (Some (on_types these)) e h = e
kept_subject exception repeated asked written (Some on_party) e h = e
kept_subject exception repeated asked written (Some on_domains) e h =
    good_value written.name written.value (second_none (written.inverse || repeated) (reason.OptionValue written.name) (value_fault written.name written.value) h)
kept_subject exception repeated asked written (Some on_case) e h = e
kept_subject exception repeated asked written (Some on_document) e h = e

kept_options : (exception repeated : Bool) (asked : Asked) (options : List Written) → AreEntries asked.domains
    → first_fault exception repeated options ≡ None → AreEntries (fold after_option asked options).domains
kept_options exception repeated asked [] e h = e
kept_options exception repeated asked (written ∷ options) e h =
    let later = repeated || speaks_of_domains (subject_named written.name) in
    let p = both_none (option_fault exception repeated written) (first_fault exception later options) h in
    kept_options exception later (after_option asked written) options (kept_subject exception repeated asked written (subject_named written.name) e p.0) p.1

-- ---- the pattern

-- the texts of its pattern are those of a rule
pub record IsPattern (pattern : FilterPattern) : Type 0 where
  pub url : IfSome (url_filter_of pattern) (λ text. url.pattern_of text ≡ Ok text)
  pub regex : IfSome (regex_filter_of pattern) (λ text. IsTrue (is_regex_filter text))

ascii_behind : (n : ℕ) (text : List ℕ) → list_all is_ascii text ≡ true → list_all is_ascii (drop n text) ≡ true
ascii_behind zero text h = h
ascii_behind (suc n) [] h = h
ascii_behind (suc n) (b ∷ text) h = ascii_behind n text (and_parts (is_ascii b) (list_all is_ascii text) h).1

ascii_before : (n : ℕ) (text : List ℕ) → list_all is_ascii text ≡ true → list_all is_ascii (take n text) ≡ true
ascii_before zero text h = refl
ascii_before (suc n) [] h = refl
ascii_before (suc n) (b ∷ text) h =
    let p = and_parts (is_ascii b) (list_all is_ascii text) h in and_from (is_ascii b) (list_all is_ascii (take n text)) p.0 (ascii_before n text p.1)

plain_reads : (text : List ℕ) (empty long star ascii : Bool) → empty ≡ false → long ≡ false → star ≡ false → ascii ≡ true
    → cond empty (Err url_reason.Empty) (cond long (Err url_reason.TooLong) (cond star (Err url_reason.AnchorStar) (cond ascii (Ok text) (Err url_reason.NotAscii)))) ≡ Ok text
plain_reads text empty long star ascii e l s a = rw (e, l, s, a) refl

regex_some : (pattern : List ℕ) → is_regex pattern ≡ true → nat_le 1 (length (take (length pattern - 2) (drop 1 pattern))) ≡ true
regex_some pattern h =
    let two = (and_parts (nat_le 3 (length pattern) && starts_with nat_eq pattern (codes "/")) (ends_with nat_eq pattern (codes "/")) h).0 in
    let three = (and_parts (nat_le 3 (length pattern)) (starts_with nat_eq pattern (codes "/")) two).0 in
    grind (arith, nat_tests, length-take {A = ℕ}, length-drop {A = ℕ})

regex_reads : (some short ascii groups : Bool) → some ≡ true → (short && groups) ≡ true → ascii ≡ true → ((some && short && ascii) && groups) ≡ true
regex_reads true true true true s u a = refl
regex_reads true true true false s u a = cc
regex_reads true true false g s u a = cc
regex_reads true false a g s u i = cc
regex_reads false b a g s u i = cc

good_pattern : (pattern : List ℕ) (empty in_slashes : Bool) → (length pattern == 0) ≡ empty → is_regex pattern ≡ in_slashes → list_all is_ascii pattern ≡ true
    → nat_lt max_pattern (length pattern) ≡ false → starts_with nat_eq pattern (codes "||*") ≡ false
    → is_usable (cond empty every_url (cond in_slashes (regex (take (length pattern - 2) (drop 1 pattern))) (plain pattern))) ≡ true
    → IsPattern (cond empty every_url (cond in_slashes (regex (take (length pattern - 2) (drop 1 pattern))) (plain pattern)))
good_pattern pattern true in_slashes e s a l n u = record { url = tt; regex = tt }
good_pattern pattern false true e s a l n u =
    let text = take (length pattern - 2) (drop 1 pattern) in
    record {
      url = tt;
      regex = regex_reads (nat_le 1 (length text)) (nat_le (length text) max_regex) (list_all is_ascii text) (is_some (groups_of text)) (regex_some pattern s) u
          (ascii_before (length pattern - 2) (drop 1 pattern) (ascii_behind 1 pattern a));
    }
good_pattern pattern false false e s a l n u = record { url = plain_reads pattern _ _ _ _ e l n a; regex = tt }

-- ---- the line

past : (b : Bool) (line rest : Line) (filter : FilterLine) → filter_in line ≡ None → filter_in (cond b line rest) ≡ Some filter → (b ≡ false) × (filter_in rest ≡ Some filter)
past true line rest filter none h = cc
past false line rest filter none h = (refl, h)

-- what is known of a supported filter
pub record IsSupported (filter : FilterLine) : Type 0 where
  pub entries : AreEntries filter.domains
  pub pattern : IsPattern filter.pattern

usable : (b : Bool) (filter found : FilterLine) → cond b (Some filter) None ≡ Some found → (b ≡ true) × (filter ≡ found)
usable true filter found h = (refl, cc)
usable false filter found h = cc

of_pattern : (exception has_options : Bool) (pattern : List ℕ) (asked : Asked) (filter : FilterLine) → AreEntries asked.domains → list_all is_ascii pattern ≡ true
    → filter_in (line_of_pattern exception pattern has_options asked) ≡ Some filter → IsSupported filter
of_pattern exception has_options pattern asked filter entries ascii h =
    let a = past (length pattern == 0 && not has_options) _ _ filter refl h in
    let b = past (nat_lt max_pattern (length pattern)) _ _ filter refl a.1 in
    let c = past (starts_with nat_eq pattern (codes "||*")) _ _ filter refl b.1 in
    let d = usable (is_usable (pattern_of pattern)) (filter_asked exception pattern asked) filter c.1 in
    subst IsSupported d.1 (record { entries = entries; pattern = good_pattern pattern _ _ refl refl ascii b.0 c.0 d.0 })

of_options : (exception has_options : Bool) (pattern : List ℕ) (options : List Written) (fault : Option Reason) (filter : FilterLine) → first_fault exception false options ≡ fault
    → list_all is_ascii pattern ≡ true → filter_in (line_of_options exception pattern has_options options fault) ≡ Some filter → IsSupported filter
of_options exception has_options pattern options (Some r) filter e ascii h = cc
of_options exception has_options pattern options None filter e ascii h =
    of_pattern exception has_options pattern (asked_of options) filter (kept_options exception false nothing_asked options (record { each = tt; apart = refl }) e) ascii h

ascii_place : (place : Option ℕ) (text : List ℕ) → list_all is_ascii text ≡ true → list_all is_ascii (before_place place text) ≡ true
ascii_place None text h = h
ascii_place (Some place) text h = ascii_before place text h

ascii_body : (b : Bool) (text : List ℕ) → list_all is_ascii text ≡ true → list_all is_ascii (cond b (drop 2 text) text) ≡ true
ascii_body true text h = ascii_behind 2 text h
ascii_body false text h = h

of_body : (exception : Bool) (text : List ℕ) (place : Option ℕ) (filter : FilterLine) → list_all is_ascii text ≡ true
    → filter_in (line_cut exception text place) ≡ Some filter → IsSupported filter
of_body exception text place filter ascii h =
    of_options exception (is_some place) (before_place place text) (options_in (behind_place place text)) _ filter refl (ascii_place place text ascii) h

pub supported : (line : List ℕ) (filter : FilterLine) → filter_in (line_of line) ≡ Some filter → IsSupported filter
supported line filter h =
    let text = trimmed line in
    let a = past (nat_lt max_list_line (length line)) _ (line_of_trimmed text) filter refl h in
    let b = past (length text == 0) _ _ filter refl a.1 in
    let c = past (starts_with nat_eq text (codes "!")) _ _ filter refl b.1 in
    let d = past (is_header text) _ _ filter refl c.1 in
    let e = past (hides text) _ _ filter refl d.1 in
    let f = past (not (list_all is_ascii text)) _ _ filter refl e.1 in
    let g = past (list_any is_space text) _ (filter_of text) filter refl f.1 in
    of_body (is_exception text) (filter_body text) (options_place (filter_body text)) filter (ascii_body (is_exception text) text (not-false (list_all is_ascii text) f.0)) g.1
