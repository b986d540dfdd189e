use Rattle.std.proofs.Common.{ℕ, List, map, Some, sym, ◌∙◌, ap, subst, arith}
use Rattle.keep_records.specs.Records.{payloads, end_of}
use Rattle.keep_records.proofs.Mended.{end_fits}
use Rattle.keep_spec.specs.Kept.{update_at, kept, start, state_of, all_accepted}
use Rattle.keep_laws.specs.Laws.{AreDynamic}
use Rattle.keep_laws.proofs.Accepted.{are_dynamic}
use Rattle.rule_keep.proofs.Replays.{list_opened}
use Rattle.rule_keep.proofs.Opens.{read_leaves, open_leaves}
use Rattle.rule_keep.proofs.keep.Keep.open_list.Goals as goal

pub returns-in_err-bytes-clause-any_moment : goal.returns-in_err-bytes-clause-any_moment
returns-in_err-bytes-clause-any_moment g c = λ told.
    read_leaves g.D.Disk.moment g.D.Disk.left_since g.D.Disk.images c.args.disk.now c.bytes_of.new.disk c.bytes_of.ensures.any_moment

pub returns-in_err-found-clause-any_moment : goal.returns-in_err-found-clause-any_moment
returns-in_err-found-clause-any_moment g c = λ told.
    read_leaves g.D.Disk.moment g.D.Disk.left_since g.D.Disk.images c.args.disk.now c.bytes_of.new.disk c.bytes_of.ensures.any_moment

pub returns-in_err-named-clause-any_moment : goal.returns-in_err-named-clause-any_moment
returns-in_err-named-clause-any_moment g c = λ told.
    read_leaves g.D.Disk.moment g.D.Disk.left_since g.D.Disk.images c.args.disk.now c.bytes_of.new.disk c.bytes_of.ensures.any_moment

pub returns-in_err-mend_end-clause-any_moment : goal.returns-in_err-mend_end-clause-any_moment
returns-in_err-mend_end-clause-any_moment g c = λ told.
    open_leaves g.D.Disk.moment g.D.Disk.left_since g.D.Disk.images c.args.disk.now c.bytes_of.new.disk c.bytes_of.ensures.any_moment c.mend_end.new.disk
    (g.D.Disk.seen c.args.disk.now) (g.D.Disk.seen c.bytes_of.new.disk) (g.met.D.Disk.seen_is_image c.args.disk.now told) c.bytes_of.ensures.seen
    (c.mend_end.ensures.any_moment (c.bytes_of.ensures.told ∙ told))

pub returns-clause-any_moment : goal.returns-clause-any_moment
returns-clause-any_moment g c = λ told.
    open_leaves g.D.Disk.moment g.D.Disk.left_since g.D.Disk.images c.args.disk.now c.bytes_of.new.disk c.bytes_of.ensures.any_moment c.mend_end.new.disk
    (g.D.Disk.seen c.args.disk.now) (g.D.Disk.seen c.bytes_of.new.disk) (g.met.D.Disk.seen_is_image c.args.disk.now told) c.bytes_of.ensures.seen
    (c.mend_end.ensures.any_moment (c.bytes_of.ensures.told ∙ told))

pub mend_end-requires-clause-fits : goal.mend_end-requires-clause-fits
mend_end-requires-clause-fits g c =
    omega (arith, c.in_ok-found.ensures.found.place_is, ap end_of c.deref.ensures.value, end_fits c.in_ok-bytes.bytes.items c.in_ok-bytes.ensures.short)

pub invariant_of-keep : goal.invariant_of-keep
invariant_of-keep g c =
    let name = c.args.name.now in
    let bytes = c.deref.result.now in
    let list_is = list_opened name bytes c.in_ok-named.named c.in_ok-bytes.bytes.items _ c.in_ok-named.ensures (sym c.deref.ensures.value) c.new.ensures.items in
    let found = c.in_ok-found.ensures.found in (
      found.store_is ∙ (λ i. state_of (sym c.in_ok-named.ensures i) (sym list_is i)),
      subst AreDynamic (sym list_is) (are_dynamic name (payloads bytes) (kept name bytes) found.read),
    )

pub returns-clause-read : goal.returns-clause-read
returns-clause-read g c = λ told.
    let name = c.args.name.now in
    let bytes = c.deref.result.now in
    let list_is = list_opened name bytes c.in_ok-named.named c.in_ok-bytes.bytes.items _ c.in_ok-named.ensures (sym c.deref.ensures.value) c.new.ensures.items in
    let bytes_is = c.deref.ensures.value ∙ c.in_ok-bytes.ensures.bytes told in
    ap (λ (f : List ℕ). map (update_at name) (payloads f)) (sym bytes_is) ∙ c.in_ok-found.ensures.found.read ∙ ap (map Some) (sym list_is)

pub returns-clause-updates : goal.returns-clause-updates
returns-clause-updates g c =
    let name = c.args.name.now in
    let bytes = c.deref.result.now in
    let list_is = list_opened name bytes c.in_ok-named.named c.in_ok-bytes.bytes.items _ c.in_ok-named.ensures (sym c.deref.ensures.value) c.new.ensures.items in
    subst (g.U.Updates.stands c.in_ok-found.found.updates) (sym list_is) c.in_ok-found.ensures.updates

pub returns-clause-accepted : goal.returns-clause-accepted
returns-clause-accepted g c =
    let name = c.args.name.now in
    let bytes = c.deref.result.now in
    let list_is = list_opened name bytes c.in_ok-named.named c.in_ok-bytes.bytes.items _ c.in_ok-named.ensures (sym c.deref.ensures.value) c.new.ensures.items in
    ap (all_accepted (start name)) list_is ∙ c.in_ok-found.ensures.found.accepted
