use Rattle.std.proofs.Common.{◌≡◌, ◌∙◌, ◌-◌, length, get_or, true, arith, sym}
use Rattle.std.specs.Str.{bytes_eq}
use Rattle.std.proofs.lemmas.Grind.{common_steps}
use Rattle.std.proofs.lemmas.Slice.Eq.{bytes_eq-Decides}
use Rattle.key_table.specs.declared.entry.Entry.{Entry}
use Rattle.key_table.specs.Kept.{key_in}
use Rattle.key_table.proofs.Search.{all_between}
use Rattle.key_table.proofs.bucket.are_of.Goals as goal

pub returns-then-has_text : goal.returns-then-has_text
returns-then-has_text c holds =
    let entries = c.args.entries.now in
    let e : Entry = record { needed = 0; tag = 0; at = 0; len = 0; place = 0 } in
    let first : bytes_eq (key_in c.args.texts.now (get_or entries 0 e)) c.args.asked.now ≡ true = sym c.if-has_text.ensures in
    let last : bytes_eq (key_in c.args.texts.now (get_or entries (length entries - 1) e)) c.args.asked.now ≡ true = sym c.has_text-then-has_text.ensures ∙ holds in
    all_between c.args.texts.now c.args.asked.now entries e c.requires.all c.requires.rising (grind (arith, common_steps, c.if-is_empty.ensures))
    ((bytes_eq-Decides (key_in c.args.texts.now (get_or entries 0 e)) c.args.asked.now).0 first)
    ((bytes_eq-Decides (key_in c.args.texts.now (get_or entries (length entries - 1) e)) c.args.asked.now).0 last)
