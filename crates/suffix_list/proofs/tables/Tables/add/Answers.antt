use Rattle.std.proofs.Common.{ap, sym, ◌∙◌, ◌||◌}
use Rattle.std.specs.HashSet.{contains_text}
use Rattle.std.specs.Str.{bytes_eq}
use Rattle.suffix_list.proofs.Places.{tables_plain, tables_starred, tables_other}
use Rattle.suffix_list.proofs.tables.Tables.add.Goals as goal

pub returns-then-is_plain : goal.returns-then-is_plain
returns-then-is_plain c = λ rules at t.
    tables_plain rules c.args.self.now.plain.texts c.args.self.now.starred.texts c.insert.new.self.texts c.args.self.now.others.items c.args.rule.now t
    (sym c.is_plain.ensures ∙ c.if-is_plain.true)
    (λ q. c.in_ok-insert.ensures q ∙ ap (λ s. bytes_eq s q || contains_text c.args.self.now.plain.texts q) c.as_str.ensures.value)

pub returns-in-Some : goal.returns-in-Some
returns-in-Some c = λ rules at t.
    tables_starred rules c.args.self.now.plain.texts c.args.self.now.starred.texts c.insert-in-Some.new.self.texts c.args.self.now.others.items c.args.rule.now t
    (sym c.is_plain.ensures ∙ c.if-is_plain.false) c.in-Some.ensures.0
    (λ q. c.in_ok-insert-2.ensures q ∙ ap (λ s. bytes_eq s q || contains_text c.args.self.now.starred.texts q) c.in-Some.ensures.1)

pub returns : goal.returns
returns c = λ rules at t.
    rw c.in_ok-push.ensures.items
    (tables_other rules c.args.self.now.plain.texts c.args.self.now.starred.texts c.args.self.now.others.items c.args.rule.now c.args.place t
    (sym c.is_plain.ensures ∙ c.if-is_plain.false) c.in_default.ensures at)
