-- No bytes are a suffix list without rules.
use Rattle.std.proofs.Common.{◌≡◌, List, [], Bool, true, false, cond, Result, Ok, Err, refl, sym, ap, ◌∙◌}
use Rattle.std.specs.Str.{is_utf8}
use Rattle.dnr_spec.specs.declared.suffix_refusal.SuffixRefusal.{SuffixRefusal}
use Rattle.dnr_spec.specs.declared.suffix_refusal.SuffixRefusal.TheVariants.{NotUtf8}
use Rattle.dnr_spec.specs.Suffixes.{SuffixRule, read_suffixes}

abbrev rules_or_none : Result (List SuffixRule) SuffixRefusal → List SuffixRule
rules_or_none (Ok rules) = rules
rules_or_none (Err refusal) = []

either_way : (test : Bool) → rules_or_none (cond test (Ok []) (Err NotUtf8)) ≡ []
either_way true = refl
either_way false = refl

nothing_read : rules_or_none (read_suffixes []) ≡ []
unfolding read_suffixes
nothing_read = either_way (is_utf8 [])

pub no_rules : (list : List SuffixRule) → read_suffixes [] ≡ Ok list → list ≡ []
no_rules list read = ap rules_or_none (sym read) ∙ nothing_read
