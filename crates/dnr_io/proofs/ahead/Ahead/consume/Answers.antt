use Rattle.std.proofs.Common.{◌≡◌, ◌+◌, min, arith, ◌∙◌, ap, drop}
use Rattle.dnr_io.proofs.Window.{consumed}
use Rattle.dnr_io.proofs.ahead.Ahead.consume.Goals as goal

pub returns : goal.returns
returns c =
    let inside = c.self.inside in
    let is : c.min-self-inside.result ≡ min (inside.start + c.args.count) inside.end = omega (arith, c.self.inside.buffer.ok.0, c.self.inside.buffer.small) in
    consumed inside.buffer.items inside.start inside.end c.args.count c.min-self-inside.result c.self.invariant.0 is ∙ ap (drop c.args.count) c.self.view_is
