-- Of the values that the tests make.
use Rattle.std.proofs.Common.{◌≡◌, ℕ, List, [], Bool, true, false, cond, Ok, Err, codes, nat_eq, length, ◌==◌, subst, sym, refl}
use Rattle.std.specs.Prelude.{nat_lt}
use Rattle.std.specs.List.{list_all, starts_with}
use Rattle.std.specs.Char.{is_ascii}
use Rattle.dnr_spec.specs.declared.pattern_refusal.PatternRefusal.TheVariants.{Empty, TooLong, AnchorStar, NotAscii}
use Rattle.dnr_spec.specs.UrlFilter.{pattern_of, max_pattern}
use Rattle.dnr_base.specs.declared.kind.Kind.{Kind}
use Rattle.rule_spec.specs.IsRule.{AreDomains, IsCondition}
use Rattle.rule_spec.specs.Rule.{Condition, plain_condition}

same_text : (a b c d : Bool) (text other : List ℕ) → cond a (Err Empty) (cond b (Err TooLong) (cond c (Err AnchorStar) (cond d (Ok text) (Err NotAscii)))) ≡ Ok other → text ≡ other
same_text true b c d text other h = cc
same_text false true c d text other h = cc
same_text false false true d text other h = cc
same_text false false false true text other h = cc
same_text false false false false text other h = cc

-- a filter that was read reads as itself
pub read_again : (text filter : List ℕ) → pattern_of text ≡ Ok filter → pattern_of filter ≡ Ok filter
read_again text filter h =
    let same = same_text (length text == 0) (nat_lt max_pattern (length text)) (starts_with nat_eq text (codes "||*")) (list_all is_ascii text) text filter h in
    subst (λ t. pattern_of t ≡ Ok filter) same h

-- ---- conditions

pub no_domains : AreDomains []
no_domains = ([], refl)

-- one that gives its types alone
plain_whole : (kinds : List Kind) → IsCondition (plain_condition kinds)
plain_whole kinds = record {
  one_filter = refl;
  url_filter = tt;
  regex_filter = tt;
  initiators = (tt, tt);
  not_initiators = no_domains;
  hosts = (tt, tt);
  not_hosts = no_domains;
  methods = tt;
  tabs = (tt, tt);
  not_tabs = refl;
  header_tests = (tt, tt);
  not_header_tests = refl;
}

pub plain_is : (condition : Condition) (kinds : List Kind) → condition ≡ plain_condition kinds → IsCondition condition
plain_is condition kinds same = subst IsCondition (sym same) (plain_whole kinds)
