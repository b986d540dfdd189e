use Rattle.std.proofs.Common.{◌≡◌, ◌≤◌, ◌++◌, ◌∷◌, [], List, ℕ, length, replicate, rules, sym, ◌∙◌, ap, arith}
use Rattle.keep_disk.specs.Images.{written}
use Rattle.keep_disk.specs.declared.call.Call.{Call}
use Rattle.keep_disk.specs.declared.call.Call.TheVariants.{Wrote}
use Rattle.keep_disk.specs.Calls.{seen_after, settled_after, marked_after}
use Rattle.keep_disk.specs.Memory.{Memory, seen_of}
use Rattle.keep_disk.proofs.Pushed.{push_settled, wrote_seen, wrote_marked, marked_long}
use Rattle.keep_disk.proofs.memory.MemoryDisk.record_write.Goals as goal

pub overwritten-requires-2 : goal.overwritten-requires-2
overwritten-requires-2 c =
    omega (
      arith,
      c.requires,
      ap length c.deref-2.ensures.value,
      ap length c.self.invariant.2,
      marked_long c.self.inside.first.items c.self.inside.calls.items,
      ap (λ (m : Memory). length (seen_of m)) c.self.view_is,
    )

pub invariant_of-self-2 : goal.invariant_of-self-2
invariant_of-self-2 c =
    let first = c.self.inside.first.items in
    let before = c.self.inside.calls.items in
    let bytes = c.args.bytes.now in
    let call = Wrote c.args.at bytes in
    let same : c.in_ok-to_vec.field-0.items ≡ bytes = search rules in
    let copy : c.of-copy.result ≡ bytes = c.of-copy.ensures ∙ same in
    let calls : c.push.new.self.items ≡ before ++ call ∷ [] = c.in_ok-push.ensures.items ∙ ap (λ (b : List ℕ). before ++ Wrote c.args.at b ∷ []) copy in
    let long : c.args.at ≤ length (seen_after first before) = omega (arith, c.requires, ap (λ (m : Memory). length (seen_of m)) c.self.view_is) in
    let held_is : c.in_ok-held.held.items ≡ written c.args.at bytes c.self.inside.held.items =
    c.in_ok-held.ensures ∙ ap (λ (file : List ℕ). written c.args.at bytes file) c.deref.ensures.value in
    let wild_is : c.in_ok-wild.wild.items ≡ replicate (length bytes) 255 = search rules in
    let marked_is : c.in_ok-marked.marked.items ≡ written c.args.at c.in_ok-wild.wild.items c.self.inside.marked.items =
    c.in_ok-marked.ensures ∙ ap (λ (w : List ℕ). written c.args.at w c.deref-2.result.now) c.deref-3.ensures.value
    ∙ ap (λ (file : List ℕ). written c.args.at c.in_ok-wild.wild.items file) c.deref-2.ensures.value in (
      wrote_seen first before c.args.at bytes c.self.inside.held.items c.in_ok-held.held.items c.self.invariant.0
          (omega (arith, long, ap length c.self.invariant.0)) held_is
          ∙ ap (λ (l : List Call). seen_after first l) (sym calls),
      c.self.invariant.1 ∙ sym (push_settled before call first first) ∙ ap (λ (l : List Call). settled_after first first l) (sym calls),
      wrote_marked first before c.args.at bytes c.in_ok-wild.wild.items c.self.inside.marked.items c.in_ok-marked.marked.items c.self.invariant.2 long wild_is marked_is
          ∙ ap (λ (l : List Call). marked_after first first l) (sym calls),
    )
