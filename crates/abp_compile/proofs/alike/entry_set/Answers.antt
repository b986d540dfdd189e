use Rattle.std.proofs.Common.{◌≡◌, ◌<◌, ◌+◌, ◌++◌, ◌∷◌, [], map, take, length, string_bytes, sym, ap, ◌∙◌, arith}
use Rattle.std.proofs.lemmas.Grind.{take_at_read}
use Rattle.std.proofs.lemmas.List.{map-append}
use Rattle.compile_spec.specs.Alike.{written_entry}
use Rattle.abp_compile.proofs.Turned.{inserted, put_behind}
use Rattle.abp_compile.proofs.alike.entry_set.Goals as goal

pub loop-entry-preserved : goal.loop-entry-preserved
loop-entry-preserved c =
    let i = c.loop-entry.entry-index in
    let all = c.args.entries.now in
    let within : i < length all = omega arith in
    let taken : take (i + 1) all ≡ take i all ++ c.entry-item.result ∷ [] = (take_at_read all i c.entry-item.result within).1 ∙ ap (λ r. take i all ++ r ∷ []) (sym c.entry-item.is) in
    let more : map written_entry (take (i + 1) all) ≡ map written_entry (take i all) ++ written_entry c.entry-item.result ∷ [] =
    ap (map written_entry) taken ∙ map-append written_entry (take i all) (c.entry-item.result ∷ []) in
    ap (map string_bytes) c.in_ok-insert.ensures.keys ∙ inserted c.loop-entry.set.keys c.in_ok-written_entry.field-0
    ∙ put_behind (map written_entry (take i all)) (map written_entry (take (i + 1) all)) (string_bytes c.in_ok-written_entry.field-0)
    (more ∙ ap (λ t. map written_entry (take i all) ++ t ∷ []) (sym c.in_ok-written_entry.ensures)) (map string_bytes c.loop-entry.set.keys) c.loop-entry.invariant
