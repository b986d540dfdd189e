use Rattle.std.proofs.Common.{◌≡◌, ◌^◌, ◌<◌, take}
use Rattle.rule_spec.specs.Redirects.{number_in}
use Rattle.action_read.proofs.transforms.number_in.Given as goal

abbrev pub invariant-loop-digit : goal.invariant-loop-digit
invariant-loop-digit l = record {
  same : l.number ≡ number_in (take l.digit-index l.digits);
  small : l.number < 10 ^ l.digit-index;
}
