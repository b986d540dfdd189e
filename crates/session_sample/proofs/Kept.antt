-- What the rules of hosts keep.
use Rattle.std.proofs.Common.{◌≡◌, List, ℕ, [], Bool, true, false, cond, Some, Ok, Err, codes, nat_eq, length, ◌==◌, subst, sym, refl}
use Rattle.std.specs.Prelude.{nat_lt}
use Rattle.std.specs.List.{list_all, starts_with}
use Rattle.std.specs.Char.{is_ascii}
use Rattle.dnr_base.specs.declared.kind.Kind.{Kind}
use Rattle.dnr_spec.specs.declared.pattern_refusal.PatternRefusal.TheVariants.{Empty, TooLong, AnchorStar, NotAscii}
use Rattle.dnr_spec.specs.UrlFilter.{pattern_of, max_pattern}
use Rattle.rule_spec.specs.IsRule.{AreDomains, IsCondition}
use Rattle.rule_spec.specs.Rule.{Condition, plain_condition}

same_text : (a b c d : Bool) (text other : List ℕ) → cond a (Err Empty) (cond b (Err TooLong) (cond c (Err AnchorStar) (cond d (Ok text) (Err NotAscii)))) ≡ Ok other → text ≡ other
same_text true b c d text other h = cc
same_text false true c d text other h = cc
same_text false false true d text other h = cc
same_text false false false true text other h = cc
same_text false false false false text other h = cc

-- a filter that was read is the text, and reads as itself
pub read_as_it_is : (text filter : List ℕ) → pattern_of text ≡ Ok filter → (filter ≡ text) × (pattern_of filter ≡ Ok filter)
read_as_it_is text filter h =
    let same = same_text (length text == 0) (nat_lt max_pattern (length text)) (starts_with nat_eq text (codes "||*")) (list_all is_ascii text) text filter h in
    (sym same, subst (λ t. pattern_of t ≡ Ok filter) same h)

no_domains : AreDomains []
no_domains = ([], refl)

-- a condition that gives a filter, and its types
pub with_filter : (condition : Condition) (kinds : List Kind) (filter : List ℕ) → condition ≡ record (plain_condition kinds) { url_filter = Some filter } → pattern_of filter ≡ Ok filter → IsCondition condition
with_filter condition kinds filter same read = subst IsCondition (sym same) (record {
  one_filter = refl;
  url_filter = read;
  regex_filter = tt;
  initiators = (tt, tt);
  not_initiators = no_domains;
  hosts = (tt, tt);
  not_hosts = no_domains;
  methods = tt;
  tabs = (tt, tt);
  not_tabs = refl;
  header_tests = (tt, tt);
  not_header_tests = refl;
})
