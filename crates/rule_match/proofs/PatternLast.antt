-- A condition holds where each group of its fields does, its urlFilter fits, and its pattern has a match.
use Rattle.std.specs.Prelude.{◌≡◌, List, Bool, true, false, not, ◌&&◌, refl}
use Rattle.std.proofs.Math.Bool.{and-true}
use Rattle.dnr_base.specs.Kind.{has_kind}
use Rattle.dnr_base.specs.View.{host_of}
use Rattle.dnr_base.specs.Request.{Part}
use Rattle.dnr_spec.specs.Domains.{covers_some}
use Rattle.dnr_spec.specs.Suffixes.{SuffixRule}
use Rattle.rule_spec.specs.Rule.{Condition}
use Rattle.rule_spec.specs.Holds.{holds_on, has_match, fits_url, is_by, is_not_by, has_tab, is_in, is_among, is_from, is_not_from, is_party, has_response, has_no_response}
use Rattle.rule_match.specs.Patterns.{without_pattern}
use Rattle.rule_match.specs.Prepared.{is_third}
use Rattle.rule_match.specs.Groups.{holds_by_type, holds_by_domains, holds_by_rest, holds_by_response, holds_by_party}

pub holds_by_match : (suffixes : List SuffixRule) (condition : Condition) (part : Part)
    → holds_on suffixes condition part
    ≡ (holds_on suffixes (without_pattern condition) part && has_match condition.regex_filter (not condition.case_sensitive) part.view)
holds_by_match suffixes condition part = simp and-true

and_false : (b : Bool) → (b && false) ≡ false
and_false true = refl
and_false false = refl

-- the fields in the order of the definition, and in the order in which they are tested
in_order : (kind by not_by tabs not_tabs hosts not_hosts fits from not_from party response not_response : Bool)
    → (kind && by && not_by && tabs && not_tabs && hosts && not_hosts && fits && from && not_from && party && response && not_response && true)
    ≡ ((kind && by && not_by) && (hosts && from) && fits && (not_hosts && not_from && tabs && not_tabs) && (response && not_response) && party)
in_order false b c t n h x f i y p r s = refl
in_order true false c t n h x f i y p r s = refl
in_order true true false t n h x f i y p r s = refl
in_order true true true false n h x f i y p r s = simp and_false
in_order true true true true false h x f i y p r s = simp and_false
in_order true true true true true false x f i y p r s = refl
in_order true true true true true true false f i y p r s = simp and_false
in_order true true true true true true true false i y p r s = simp and_false
in_order true true true true true true true true false y p r s = refl
in_order true true true true true true true true true false p r s = refl
in_order true true true true true true true true true true false r s = simp and_false
in_order true true true true true true true true true true true false s = refl
in_order true true true true true true true true true true true true false = refl
in_order true true true true true true true true true true true true true = refl

pub holds_by_groups : (suffixes : List SuffixRule) (condition : Condition) (part : Part)
    → holds_on suffixes (without_pattern condition) part
    ≡ (holds_by_type condition part && holds_by_domains condition part && fits_url condition.url_filter (not condition.case_sensitive) part.view
    && holds_by_rest condition part && holds_by_response condition part && holds_by_party suffixes condition part)
holds_by_groups suffixes condition part =
    in_order (has_kind condition.kinds part.kind) (is_by condition.methods part.view.scheme part.method)
    (is_not_by condition.not_methods part.view.scheme part.method) (is_in condition.tabs part.tab) (not (has_tab condition.not_tabs part.tab))
    (is_among condition.hosts (host_of part.view)) (not (covers_some condition.not_hosts (host_of part.view)))
    (fits_url condition.url_filter (not condition.case_sensitive) part.view) (is_from condition.initiators part.initiator)
    (is_not_from condition.not_initiators part.initiator) (is_party condition.third_party (is_third suffixes part))
    (has_response condition.header_tests part.response_headers) (has_no_response condition.not_header_tests part.response_headers)
