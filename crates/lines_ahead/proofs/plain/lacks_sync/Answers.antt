use Rattle.std.proofs.Common.{ℕ, List, not, sym, ap, ◌∙◌}
use Rattle.std.proofs.lemmas.Bool.{true≢false}
use Rattle.lines_ahead.specs.Plain.{quoted}
use Rattle.lines_ahead.proofs.Commands.{no_sync, sync_word}
use Rattle.lines_ahead.proofs.Searches.{nothing_found, never_needle, never_escape, not_none}
use Rattle.lines_ahead.proofs.plain.lacks_sync.Goals as goal

pub returns-then-is_none-clause-told : goal.returns-then-is_none-clause-told
returns-then-is_none-clause-told c = (
  λ yes. nothing_found (quoted sync_word) c.args.bytes.now c.find.result c.memchr.result c.find.ensures c.memchr.ensures c.if-is_none.ensures (c.is_none-then-is_none.ensures ∙ ap not yes),
  λ lacks. let none = never_escape (quoted sync_word) c.args.bytes.now c.memchr.result c.memchr.ensures lacks in not_none c.is_none-then-is_none.result (sym c.is_none-then-is_none.ensures ∙ none),
)

pub returns-then-is_none-clause-no_sync : goal.returns-then-is_none-clause-no_sync
returns-then-is_none-clause-no_sync c = λ yes number. no_sync number c.args.bytes.now ((returns-then-is_none-clause-told c).0 yes)

pub returns-else-is_none-clause-told : goal.returns-else-is_none-clause-told
returns-else-is_none-clause-told c = (
  λ yes. absurd (true≢false (sym yes ∙ c.if-is_none.false)),
  λ lacks. let none = never_needle (quoted sync_word) c.args.bytes.now c.find.result c.find.ensures lacks in not_none c.is_none.result (sym c.is_none.ensures ∙ none),
)
