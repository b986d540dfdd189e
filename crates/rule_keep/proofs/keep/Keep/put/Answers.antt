use Rattle.std.proofs.Common.{◌≡◌, ℕ, ◌+◌, [], ◌∷◌, ◌++◌, length, sym, ◌∙◌, ap, subst, arith}
use Rattle.update_spec.specs.Entries.{one, after}
use Rattle.ruleset_store.specs.Seen.{update_seen}
use Rattle.keep_spec.specs.Kept.{Kept, update_at, kept, state_of}
use Rattle.keep_records.specs.Ends.{AllEnd, Adds}
use Rattle.keep_laws.specs.Laws.{AreDynamic}
use Rattle.rule_keep.specs.Listed.{list_of}
use Rattle.rule_keep.proofs.Puts.{at_ok, all_end, text_is_some, added_push, kept_push, may_be_dynamic, leaves, afterwards, stays_sound, agrees_after}
use Rattle.rule_keep.proofs.keep.Keep.put.Goals as goal

pub invariant_of-self-then-is_err : goal.invariant_of-self-then-is_err
invariant_of-self-then-is_err g c =
    let name_is : c.self.inside.name ≡ c.args.self.now.name = ap (λ (k : Kept). k.name) c.self.view_is in
    let list_is : list_of c.self.inside.name c.self.inside.base.items c.self.inside.added.items ≡ c.args.self.now.list = ap (λ (k : Kept). k.list) c.self.view_is in
    let new_is = added_push (kept c.self.inside.name c.self.inside.base.items) c.self.inside.added.items c.push.new.self.items c.in_ok-copy.copy c.args.update.now c.in_ok-push.ensures.items c.in_ok-copy.ensures in
    let store_is = c.in_ok-next.ensures ∙ (λ i. after (state_of (sym name_is i) (sym list_is i)) (one (update_seen c.args.update.now))) in
    kept_push c.self.inside.name (list_of c.self.inside.name c.self.inside.base.items c.self.inside.added.items) (list_of c.self.inside.name c.self.inside.base.items c.push.new.self.items) (update_seen c.args.update.now) c.in_ok-next.next
    new_is store_is c.self.invariant.1 (may_be_dynamic c.args.self.now.name (update_seen c.args.update.now) c.requires.update)

pub invariant_of-self-2 : goal.invariant_of-self-2
invariant_of-self-2 g c =
    let name_is : c.self.inside.name ≡ c.args.self.now.name = ap (λ (k : Kept). k.name) c.self.view_is in
    let list_is : list_of c.self.inside.name c.self.inside.base.items c.self.inside.added.items ≡ c.args.self.now.list = ap (λ (k : Kept). k.list) c.self.view_is in
    let new_is = added_push (kept c.self.inside.name c.self.inside.base.items) c.self.inside.added.items c.push.new.self.items c.in_ok-copy.copy c.args.update.now c.in_ok-push.ensures.items c.in_ok-copy.ensures in
    let store_is = c.in_ok-next.ensures ∙ (λ i. after (state_of (sym name_is i) (sym list_is i)) (one (update_seen c.args.update.now))) in
    kept_push c.self.inside.name (list_of c.self.inside.name c.self.inside.base.items c.self.inside.added.items) (list_of c.self.inside.name c.self.inside.base.items c.push.new.self.items) (update_seen c.args.update.now) c.in_ok-next.next
    new_is store_is c.self.invariant.1 (may_be_dynamic c.args.self.now.name (update_seen c.args.update.now) c.requires.update)

pub append-requires-clause-ends : goal.append-requires-clause-ends
append-requires-clause-ends g c = λ told.
    subst (λ (n : ℕ). AllEnd (g.D.Disk.images c.args.disk.now) n) (ap (λ (k : Kept). k.place) (sym c.self.view_is))
    (all_end (g.D.Disk.images c.args.disk.now) c.args.self.now (update_seen c.args.update.now) c.in_ok-payload.payload.items
    c.alike_updates_are_judged_alike.ensures.stays c.in_ok-payload.ensures.read (c.requires.agrees told))

pub append-requires-clause-some : goal.append-requires-clause-some
append-requires-clause-some g c =
    omega (arith, ap length c.in_ok-payload.ensures.text, text_is_some c.args.self.now.name (update_seen c.args.update.now) c.requires.update)

pub returns-then-is_err-clause-any_moment : goal.returns-then-is_err-clause-any_moment
returns-then-is_err-clause-any_moment g c = λ told.
    leaves g.D.Disk.moment g.D.Disk.left_since g.D.Disk.images g.met.D.Disk.counts_now c.args.disk.now c.append.new.disk c.args.self.now
    (update_seen c.args.update.now) c.deref-2.result.now c.alike_updates_are_judged_alike.ensures.stays
    (ap (update_at c.args.self.now.name) c.deref-2.ensures.value ∙ c.in_ok-payload.ensures.read)
    (c.requires.agrees told) (c.append.ensures.any_moment told)

pub returns-then-is_err-clause-afterwards : goal.returns-then-is_err-clause-afterwards
returns-then-is_err-clause-afterwards g c = λ told.
    afterwards g.D.Disk.moment g.D.Disk.left_since g.D.Disk.images g.met.D.Disk.counts_now c.args.disk.now c.append.new.disk c.args.self.now
    (update_seen c.args.update.now) c.deref-2.result.now c.alike_updates_are_judged_alike.ensures.stays
    (ap (update_at c.args.self.now.name) c.deref-2.ensures.value ∙ c.in_ok-payload.ensures.read)
    (c.requires.agrees told) (c.append.ensures.any_moment told)

pub returns-then-is_err-clause-sound : goal.returns-then-is_err-clause-sound
returns-then-is_err-clause-sound g c = λ told.
    stays_sound g.D.Disk.moment g.D.Disk.left_since g.D.Disk.images g.met.D.Disk.counts_now c.args.disk.now c.append.new.disk c.args.self.now
    (update_seen c.args.update.now) c.deref-2.result.now c.alike_updates_are_judged_alike.ensures.stays
    (ap (update_at c.args.self.now.name) c.deref-2.ensures.value ∙ c.in_ok-payload.ensures.read)
    (c.requires.agrees told) (c.append.ensures.any_moment told) c.alike_updates_are_judged_alike.ensures.judged
    (subst AreDynamic (ap (λ (k : Kept). k.list) c.self.view_is) c.self.invariant.1)
    (may_be_dynamic c.args.self.now.name (update_seen c.args.update.now) c.requires.update) c.requires.accepted

pub returns-clause-any_moment : goal.returns-clause-any_moment
returns-clause-any_moment g c = λ told.
    leaves g.D.Disk.moment g.D.Disk.left_since g.D.Disk.images g.met.D.Disk.counts_now c.args.disk.now c.append.new.disk c.args.self.now
    (update_seen c.args.update.now) c.deref-2.result.now c.alike_updates_are_judged_alike.ensures.stays
    (ap (update_at c.args.self.now.name) c.deref-2.ensures.value ∙ c.in_ok-payload.ensures.read)
    (c.requires.agrees told) (c.append.ensures.any_moment told)

pub returns-clause-afterwards : goal.returns-clause-afterwards
returns-clause-afterwards g c = λ told.
    afterwards g.D.Disk.moment g.D.Disk.left_since g.D.Disk.images g.met.D.Disk.counts_now c.args.disk.now c.append.new.disk c.args.self.now
    (update_seen c.args.update.now) c.deref-2.result.now c.alike_updates_are_judged_alike.ensures.stays
    (ap (update_at c.args.self.now.name) c.deref-2.ensures.value ∙ c.in_ok-payload.ensures.read)
    (c.requires.agrees told) (c.append.ensures.any_moment told)

pub returns-clause-sound : goal.returns-clause-sound
returns-clause-sound g c = λ told.
    stays_sound g.D.Disk.moment g.D.Disk.left_since g.D.Disk.images g.met.D.Disk.counts_now c.args.disk.now c.append.new.disk c.args.self.now
    (update_seen c.args.update.now) c.deref-2.result.now c.alike_updates_are_judged_alike.ensures.stays
    (ap (update_at c.args.self.now.name) c.deref-2.ensures.value ∙ c.in_ok-payload.ensures.read)
    (c.requires.agrees told) (c.append.ensures.any_moment told) c.alike_updates_are_judged_alike.ensures.judged
    (subst AreDynamic (ap (λ (k : Kept). k.list) c.self.view_is) c.self.invariant.1)
    (may_be_dynamic c.args.self.now.name (update_seen c.args.update.now) c.requires.update) c.requires.accepted

pub returns-clause-agrees : goal.returns-clause-agrees
returns-clause-agrees g c = λ told.
    let payload = c.deref-2.result.now in
    let place = c.self.inside.place + (c.len-2.result + 5) in
    let name_is : c.self.inside.name ≡ c.args.self.now.name = ap (λ (k : Kept). k.name) c.self.view_is in
    let new_is = added_push (kept c.self.inside.name c.self.inside.base.items) c.self.inside.added.items c.push.new.self.items c.in_ok-copy.copy c.args.update.now c.in_ok-push.ensures.items c.in_ok-copy.ensures in
    let list_is = new_is ∙ ap (λ (k : Kept). k.list ++ update_seen c.args.update.now ∷ []) c.self.view_is in
    let count : c.self.inside.place + 5 + length payload ≡ place = omega (arith, c.len-2.ensures, c.deref-2.ensures.len) in
    let added = at_ok c.append.result _ (sym c.is_err.ensures.value ∙ c.if-is_err.false) c.append.ensures.added told in
    agrees_after (g.D.Disk.images c.args.disk.now) (g.D.Disk.images c.append.new.disk) c.args.self.now (update_seen c.args.update.now) payload
    c.alike_updates_are_judged_alike.ensures.stays (ap (update_at c.args.self.now.name) c.deref-2.ensures.value ∙ c.in_ok-payload.ensures.read)
    (c.requires.agrees told) c.self.inside.name (list_of c.self.inside.name c.self.inside.base.items c.push.new.self.items) place name_is list_is
    (λ image left. subst (λ (n : ℕ). Adds (g.D.Disk.images c.args.disk.now) n payload image) count (added image left))

pub append-requires-clause-fits : goal.append-requires-clause-fits
append-requires-clause-fits g c =
    let text = ap length c.in_ok-payload.ensures.text in
    let some = text_is_some c.args.self.now.name (update_seen c.args.update.now) c.requires.update in
    omega (arith, c.room_behind.ensures, c.if-room_behind-len.false, c.len.ensures, c.deref-2.ensures.len, ap length c.deref-2.ensures.value, text, some)

pub overflow_add-self-2 : goal.overflow_add-self-2
overflow_add-self-2 g c =
    let text = ap length c.in_ok-payload.ensures.text in
    let some = text_is_some c.args.self.now.name (update_seen c.args.update.now) c.requires.update in
    omega (
      arith,
      c.room_behind.ensures,
      c.if-room_behind-len.false,
      c.len.ensures,
      c.len-2.ensures,
      c.deref-2.ensures.len,
      ap length c.deref-2.ensures.value,
      text,
      some,
    )

pub returns-then-is_err-clause-full : goal.returns-then-is_err-clause-full
returns-then-is_err-clause-full g c = λ not_memory.
    let text = ap length c.in_ok-payload.ensures.text in
    let some = text_is_some c.args.self.now.name (update_seen c.args.update.now) c.requires.update in
    let place_is : c.self.inside.place ≡ c.args.self.now.place = ap (λ (k : Kept). k.place) c.self.view_is in (
      (λ is. absurd (cc is)),
      (λ over.
          absurd (omega (
            arith,
            c.room_behind.ensures,
            c.if-room_behind-len.false,
            c.len.ensures,
            c.deref-2.ensures.len,
            ap length c.deref-2.ensures.value,
            text,
            some,
            place_is,
            over,
          ))),
    )

pub returns-clause-full : goal.returns-clause-full
returns-clause-full g c = λ not_memory.
    let text = ap length c.in_ok-payload.ensures.text in
    let some = text_is_some c.args.self.now.name (update_seen c.args.update.now) c.requires.update in
    let place_is : c.self.inside.place ≡ c.args.self.now.place = ap (λ (k : Kept). k.place) c.self.view_is in (
      (λ is. absurd (cc is)),
      (λ over.
          absurd (omega (
            arith,
            c.room_behind.ensures,
            c.if-room_behind-len.false,
            c.len.ensures,
            c.deref-2.ensures.len,
            ap length c.deref-2.ensures.value,
            text,
            some,
            place_is,
            over,
          ))),
    )
