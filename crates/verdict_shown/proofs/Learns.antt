-- What a verdict shows whose parts are written.
use Rattle.std.proofs.Common.{◌≡◌, ℕ, ◌≤◌, List, map, length, take, Bool, true, false, ◌&&◌, nat_le, rules, arith, refl, sym, ap, ◌∙◌}
use Rattle.std.proofs.Math.Seq.{take-length}
use Rattle.rule_spec.specs.Scan.{Verdict}
use Rattle.verdict_shown.specs.Shown.{outcome_number, text_at, rule_at, if_given, change_at, change_of, learnt_at, learnt_of, Shows, TakesMore}
use Rattle.verdict_shown.specs.Written.{Grows, text_ends, IsRuleWithin, AreWithin, IsWritten}
use Rattle.verdict_shown.specs.declared.shown.ShownChange.{ShownChange}
use Rattle.verdict_shown.specs.declared.shown.ShownVerdict.{ShownVerdict}
use Rattle.verdict_shown.proofs.Places.{grows_on, given_stays, rule_given_stays, rule_within_on}
use Rattle.verdict_shown.proofs.Changes.{changes_stay}

pub written_so : (number : ℕ) (verdict : Verdict) (count : ℕ) (before bytes : List ℕ) (shown : ShownVerdict)
    → if_given shown.has_rule (rule_at before shown.rule) ≡ verdict.rule → IsRuleWithin (length before) shown.rule → Grows before bytes
    → if_given shown.has_target (text_at bytes shown.target) ≡ verdict.target → text_ends shown.target ≤ length bytes
    → shown.generation ≡ number → shown.outcome ≡ outcome_number verdict.outcome → shown.bytes ≡ length bytes → shown.changes ≡ count
    → IsWritten number verdict count bytes shown
written_so number verdict count before bytes shown rule rule_within grows target target_within generation outcome long many = record {
  generation = generation;
  outcome = outcome;
  rule = rule_given_stays before bytes shown.has_rule shown.rule grows rule_within ∙ rule;
  target = target;
  rule_within = rule_within_on before bytes shown.rule grows rule_within;
  target_within = target_within;
  long = long;
  many = many;
}

pub shows_so : (generation : ℕ) (verdict : Verdict) (shown : ShownVerdict) (before bytes out : List ℕ) (list changes : List ShownChange)
    → map (change_at before) list ≡ map change_of verdict.ops → AreWithin (length before) list → Grows before bytes
    → IsWritten generation verdict (length list) bytes shown
    → length bytes ≤ length out → take (length bytes) out ≡ bytes → length list ≤ length changes → take (length list) changes ≡ list
    → Shows (learnt_of generation verdict) shown out changes
unfolding Grows
shows_so generation verdict shown before bytes out list changes same within grows written room begins most first =
    let goes_on : Grows bytes out = (room, begins) in
    let rule = rule_given_stays bytes out shown.has_rule shown.rule goes_on written.rule_within ∙ written.rule in
    let target = given_stays bytes out shown.has_target shown.target goes_on written.target_within ∙ written.target in
    let count = ap (λ n. take n changes) written.many ∙ first in
    let changed = ap (map (change_at out)) count ∙ changes_stay before out list (grows_on before bytes out grows goes_on) within ∙ same in
    let long = written.long in
    let counted = written.many in
    record {
      long = omega (arith, room, long);
      many = omega (arith, most, counted);
      same = rw (written.generation, written.outcome, rule, target, changed) refl;
    }

pub takes_more : (generation : ℕ) (verdict : Verdict) (shown : ShownVerdict) (before bytes : List ℕ) (list : List ShownChange) (room most : ℕ)
    → map (change_at before) list ≡ map change_of verdict.ops → AreWithin (length before) list → Grows before bytes
    → IsWritten generation verdict (length list) bytes shown
    → (nat_le shown.bytes room && nat_le shown.changes most) ≡ false
    → TakesMore (learnt_of generation verdict) shown room most
takes_more generation verdict shown before bytes list room most same within grows written more = record {
  bytes = bytes;
  changes = list;
  shows = shows_so generation verdict shown before bytes bytes list list same within grows written (omega arith) (take-length bytes) (omega arith) (take-length list);
  long = sym written.long;
  many = sym written.many;
  more = more;
}
