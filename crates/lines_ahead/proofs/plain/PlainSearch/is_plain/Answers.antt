use Rattle.std.proofs.Common.{ℕ, List, not, sym, ap, ◌∙◌, subst}
use Rattle.std.proofs.lemmas.Bool.{true≢false}
use Rattle.memchr.specs.Find.{FindsNeedle}
use Rattle.lines_ahead.proofs.Bytes.{cmd}
use Rattle.lines_ahead.proofs.Commands.{plain_at_most}
use Rattle.lines_ahead.proofs.Searches.{nothing_found, never_needle, never_escape, not_none}
use Rattle.lines_ahead.proofs.plain.PlainSearch.is_plain.Goals as goal

pub returns-then-is_none-clause-told : goal.returns-then-is_none-clause-told
returns-then-is_none-clause-told c = (
  λ yes. nothing_found cmd c.args.bytes.now c.find.result c.memchr.result (subst (λ (word : List ℕ). FindsNeedle c.args.bytes.now word 0 c.find.result) c.self.invariant c.find.ensures) c.memchr.ensures c.if-is_none.ensures (c.is_none-then-is_none.ensures ∙ ap not yes),
  λ plain. let none = never_escape cmd c.args.bytes.now c.memchr.result c.memchr.ensures plain in not_none c.is_none-then-is_none.result (sym c.is_none-then-is_none.ensures ∙ none),
)

pub returns-then-is_none-clause-request_at_most : goal.returns-then-is_none-clause-request_at_most
returns-then-is_none-clause-request_at_most c = λ yes number. plain_at_most number c.args.bytes.now ((returns-then-is_none-clause-told c).0 yes)

pub returns-else-is_none-clause-told : goal.returns-else-is_none-clause-told
returns-else-is_none-clause-told c = (
  λ yes. absurd (true≢false (sym yes ∙ c.if-is_none.false)),
  λ plain. let none = never_needle cmd c.args.bytes.now c.find.result (subst (λ (word : List ℕ). FindsNeedle c.args.bytes.now word 0 c.find.result) c.self.invariant c.find.ensures) plain in not_none c.is_none.result (sym c.is_none.ensures ∙ none),
)
