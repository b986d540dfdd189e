use Rattle.std.proofs.Common.{◌≡◌, ◌+◌, false, sym, ap, ◌∙◌, rules}
use Rattle.dnr_spec.specs.Hosts.{labels_of}
use Rattle.dnr_spec.specs.Suffixes.{is_domain, last_labels}
use Rattle.suffix_list.proofs.Registrable.{no_domain, of_domain}
use Rattle.suffix_list.proofs.list.SuffixList.registrable.Goals as goal

pub returns-then-not-is_domain : goal.returns-then-not-is_domain
returns-then-not-is_domain c =
    let none : is_domain c.without_dot-name.result.now ≡ false = search rules in
    no_domain c.args.self.now c.args.host.now c.without_dot-name.result.now c.without_dot-name.ensures none

pub returns : goal.returns
returns c =
    c.labels_from.ensures ∙ ap (λ n. last_labels (n + 1) (labels_of c.without_dot-name.result.now)) c.suffix_len.ensures
    ∙ sym (of_domain c.args.self.now c.args.host.now c.without_dot-name.result.now c.without_dot-name.ensures (sym c.is_domain.ensures ∙ c.if-not-is_domain.false))
