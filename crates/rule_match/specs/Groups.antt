-- The fields of a condition but its pattern, in groups: the cheapest first.
use Rattle.std.specs.Prelude.{List, Bool, not, ◌&&◌}
use Rattle.dnr_base.specs.Kind.{has_kind}
use Rattle.dnr_base.specs.View.{host_of}
use Rattle.dnr_base.specs.Request.{Part}
use Rattle.dnr_spec.specs.Domains.{covers_some}
use Rattle.dnr_spec.specs.Suffixes.{SuffixRule}
use Rattle.rule_spec.specs.Rule.{Condition}
use Rattle.rule_spec.specs.Holds.{is_by, is_not_by, has_tab, is_in, is_among, is_from, is_not_from, is_party, has_response, has_no_response}
use Rattle.rule_match.specs.Prepared.{is_third}

-- by its type and its method
abbrev pub holds_by_type : Condition → Part → Bool
holds_by_type condition part =
    has_kind condition.kinds part.kind
    && is_by condition.methods part.view.scheme part.method
    && is_not_by condition.not_methods part.view.scheme part.method

-- by the domains where it goes and from which it comes
abbrev pub holds_by_domains : Condition → Part → Bool
holds_by_domains condition part =
    is_among condition.hosts (host_of part.view)
    && is_from condition.initiators part.initiator

-- by what few conditions give
abbrev pub holds_by_rest : Condition → Part → Bool
holds_by_rest condition part =
    not (covers_some condition.not_hosts (host_of part.view))
    && is_not_from condition.not_initiators part.initiator
    && is_in condition.tabs part.tab
    && not (has_tab condition.not_tabs part.tab)

-- by the headers of the response
abbrev pub holds_by_response : Condition → Part → Bool
holds_by_response condition part =
    has_response condition.header_tests part.response_headers
    && has_no_response condition.not_header_tests part.response_headers

-- by its party
abbrev pub holds_by_party : List SuffixRule → Condition → Part → Bool
holds_by_party suffixes condition part = is_party condition.third_party (is_third suffixes part)
