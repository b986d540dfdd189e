use Rattle.written_laws.proofs.written_rules_are_read.Goals as goal
use Rattle.written_laws.proofs.Rules as proof
use Rattle.written_laws.proofs.TextsWritten.{written_texts_are_utf8}

-- src/lib.rt
pub returns : goal.returns
returns c = record {
  text = proof.written_texts_are_trees;
  tree = proof.written_trees_are_read c.changes_read_again.ensures;
  session = proof.written_rules_are_read c.changes_read_again.ensures;
  any_kind = proof.tabless_rules_are_read c.changes_read_again.ensures;
  utf8 = written_texts_are_utf8;
  apart = proof.texts_tell_rules_apart c.changes_read_again.ensures;
}
