use Rattle.std.proofs.Common.{rules, ℕ, Err, sym, ◌∙◌, ap, subst}
use Rattle.ruleset_store.specs.Seen.{updates_seen}
use Rattle.keep_records.specs.Records.{payloads}
use Rattle.keep_spec.specs.Agrees.{IsFirstRefused}
use Rattle.rule_keep.specs.declared.refusals.OpenRefusal.TheVariants.{BadRecord}
use Rattle.rule_keep.proofs.Reading.{read_pushed, end_read, end_place, read_refused}
use Rattle.rule_keep.proofs.Stops.{same_err, bad_at}
use Rattle.rule_keep.proofs.listed.read_list.Goals as goal

pub loop-payload-preserved : goal.loop-payload-preserved
loop-payload-preserved g c = record {
  so_far = read_pushed c.args.name.now c.args.bytes.now c.loop-payload.list.items c.push.new.self.items c.loop-payload.at c.loop-payload.store c.in-Ok.taken.store
      c.in-Some.payload.now c.in-Ok.taken.update c.loop-payload.invariant.so_far c.in-Some.ensures c.in-Ok.ensures.read c.in-Ok.ensures.accepted c.in-Ok.ensures.after
      c.in_ok-push-in-Ok.ensures.items;
  calm = search rules;
}

pub returns-in-Err-clause-bad : goal.returns-in-Err-clause-bad
returns-in-Err-clause-bad g c = λ offset is.
    let at = bad_at c.in-Err.stop c.loop-payload.at offset (sym c.refusal_of.ensures ∙ same_err c.refusal_of.result (BadRecord offset) is) in
    subst (λ (n : ℕ). IsFirstRefused c.args.name.now (payloads c.args.bytes.now) n) at.1
    (read_refused c.args.name.now c.args.bytes.now (updates_seen c.loop-payload.list.items) c.loop-payload.at c.loop-payload.store c.loop-payload.invariant.so_far
    c.in-Some.payload.now c.in-Some.ensures (c.in-Err.ensures.refused (ap Err at.0)))

pub returns-clause-read : goal.returns-clause-read
returns-clause-read g c =
    end_read c.args.name.now c.args.bytes.now (updates_seen c.loop-payload.list.items) c.loop-payload.at c.loop-payload.store c.loop-payload.invariant.so_far c.in_default.ensures

pub returns-clause-place : goal.returns-clause-place
returns-clause-place g c =
    end_place c.args.name.now c.args.bytes.now (updates_seen c.loop-payload.list.items) c.loop-payload.at c.loop-payload.store c.loop-payload.invariant.so_far c.in_default.ensures
