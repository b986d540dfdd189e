use Rattle.std.proofs.Common.{◌≡◌, ℕ, List, true, sym, ap, subst}
use Rattle.std.specs.List.{list_all}
use Rattle.rule_spec.specs.IsRule.{is_number}
use Rattle.rule_spec.specs.Rule.{Rule}
use Rattle.written_laws.specs.Read.{IdsDiffer}
use Rattle.keep_spec.specs.Written.{are_tabless}
use Rattle.ruleset_store.specs.Seen.{update_seen}
use Rattle.rule_keep.proofs.Puts.{parts}
use Rattle.rule_keep.proofs.keep.Keep.payload.Goals as goal

pub payload_of-requires-clause-ids : goal.payload_of-requires-clause-ids
payload_of-requires-clause-ids c =
    subst (λ (l : List ℕ). list_all is_number l ≡ true) (sym c.as_slice.ensures)
    (parts c.args.self.now.name c.in-Dynamic.extension c.in-Dynamic.remove c.in-Dynamic.add (update_seen c.args.update.now) c.requires (ap update_seen c.in-Dynamic.is)).ids

pub payload_of-requires-clause-differ : goal.payload_of-requires-clause-differ
payload_of-requires-clause-differ c =
    subst IdsDiffer (sym c.as_slice-in-Dynamic.ensures)
    (parts c.args.self.now.name c.in-Dynamic.extension c.in-Dynamic.remove c.in-Dynamic.add (update_seen c.args.update.now) c.requires (ap update_seen c.in-Dynamic.is)).differ

pub payload_of-requires-clause-tabless : goal.payload_of-requires-clause-tabless
payload_of-requires-clause-tabless c =
    subst (λ (l : List Rule). are_tabless l ≡ true) (sym c.as_slice-in-Dynamic.ensures)
    (parts c.args.self.now.name c.in-Dynamic.extension c.in-Dynamic.remove c.in-Dynamic.add (update_seen c.args.update.now) c.requires (ap update_seen c.in-Dynamic.is)).tabless
