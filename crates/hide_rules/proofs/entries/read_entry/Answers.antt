use Rattle.std.proofs.Common.{◌≡◌, false, true, sym, ap, ◌∙◌}
use Rattle.dnr_spec.specs.Domains.{is_domain}
use Rattle.hide_rules.proofs.Domains.{utf8_domain}
use Rattle.hide_rules.proofs.entries.read_entry.Goals as goal

pub unreachable-requires : goal.unreachable-requires
unreachable-requires c =
    let never : false ≡ true = c.in_default.ensures.succeeds (utf8_domain c.in_ok-lower.lower.items (ap is_domain (sym c.deref.ensures.value) ∙ sym c.is_domain.ensures ∙ c.if-not-is_domain.false)) in cc
