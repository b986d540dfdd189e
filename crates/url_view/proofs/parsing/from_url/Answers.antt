use Rattle.std.proofs.Common.{◌≡◌, ◌<◌, ◌≤◌, true, false, length, Some, None, sym, ap, ◌∙◌, subst}
use Rattle.std.specs.Prelude.{Ok, string_bytes}
use Rattle.url.specs.Parts.{serialize}
use Rattle.dnr_base.specs.View.{IsView}
use Rattle.dnr_spec.specs.UrlView.{max_url}
use Rattle.url_view.proofs.UrlViews.{scheme_told, host_told, placed, refused_scheme, refused_host, refused_length, given_view, own_view_is_view}
use Rattle.url_view.proofs.parsing.from_url.Goals as goal

pub returns-in_default : goal.returns-in_default
returns-in_default c =
    let url = c.args.url in
    let none = scheme_told url _ _ None c.scheme.ensures.value c.named.ensures c.in_default.is in
    refused_scheme url c.scheme.ensures.valid none

pub returns-then-not-is_host : goal.returns-then-not-is_host
returns-then-not-is_host c =
    let url = c.args.url in
    let scheme = scheme_told url _ _ (Some c.in-Some.scheme) c.scheme.ensures.value c.named.ensures c.in-Some.is in
    let host = host_told url _ _ false c.slice.ensures.value c.is_host.ensures c.if-not-is_host.true in
    refused_host url c.scheme.ensures.valid c.in-Some.scheme scheme host

pub returns-then-as_str-gt-MAX_URL : goal.returns-then-as_str-gt-MAX_URL
returns-then-as_str-gt-MAX_URL c =
    let url = c.args.url in
    let scheme = scheme_told url _ _ (Some c.in-Some.scheme) c.scheme.ensures.value c.named.ensures c.in-Some.is in
    let host = host_told url _ _ true c.slice.ensures.value c.is_host.ensures c.if-not-is_host.false in
    let long : max_url < length (serialize url) = subst (λ t. max_url < length t) c.as_str.ensures.value c.if-as_str-gt-MAX_URL.true in
    refused_length url c.scheme.ensures.valid c.in-Some.scheme scheme host long

pub build-requires-2 : goal.build-requires-2
build-requires-2 c =
    let url = c.args.url in
    let host = host_told url _ _ true c.slice.ensures.value c.is_host.ensures c.if-not-is_host.false in
    let kept = own_view_is_view url c.scheme.ensures.valid c.in-Some.scheme host in
    let text : string_bytes c.from.result ≡ serialize url = c.from.ensures in
    subst IsView (sym (placed url c.in-Some.scheme c.build.result c.index-cut.result c.index.result c.index-2.result (c.build.ensures ∙ text) c.index-cut.ensures c.index.ensures c.index-2.ensures)) kept

pub returns : goal.returns
returns c =
    let url = c.args.url in
    let scheme = scheme_told url _ _ (Some c.in-Some.scheme) c.scheme.ensures.value c.named.ensures c.in-Some.is in
    let host = host_told url _ _ true c.slice.ensures.value c.is_host.ensures c.if-not-is_host.false in
    let short : length (serialize url) ≤ max_url = subst (λ t. length t ≤ max_url) c.as_str.ensures.value c.if-as_str-gt-MAX_URL.false in
    let text : string_bytes c.from.result ≡ serialize url = c.from.ensures in
    ap Ok (c.build-2.ensures ∙ placed url c.in-Some.scheme c.build.result c.index-cut.result c.index.result c.index-2.result (c.build.ensures ∙ text) c.index-cut.ensures c.index.ensures c.index-2.ensures)
    ∙ given_view url c.scheme.ensures.valid c.in-Some.scheme scheme host short
