use Rattle.std.proofs.Common.{◌≡◌, ◌∙◌, List, IfOk, ap, refl, subst}
use Rattle.rule_spec.specs.Scan.{Verdict}
use Rattle.generation.specs.Choice.{IsDecidingPattern, deciding_in, ops_in, verdict_of}
use Rattle.generation.specs.Kept.{Kept}
use Rattle.rule_spec.specs.PatternRule.{NamesPattern}
use Rattle.generation.proofs.Blamed.{decided_names}
use Rattle.generation.proofs.Scanned.{scan_is}
use Rattle.generation.proofs.Walked.{ends_in}
use Rattle.generation.proofs.generation.Generation.concluded.Goals as goal

pub returns-clause-verdict : goal.returns-clause-verdict
returns-clause-verdict g c =
    let known = c.args.self.now in
    let request = c.args.request.now in
    subst (λ (told : Verdict). IfOk c.conclude.result (λ verdict. verdict ≡ told))
    (ap (λ kepts. verdict_of request (ops_in kepts) (deciding_in kepts)) c.requires ∙ scan_is known.suffixes known.state request) c.conclude.ensures.verdict

pub returns-clause-ends : goal.returns-clause-ends
returns-clause-ends g c =
    let known = c.args.self.now in
    let request = c.args.request.now in
    ends_in (IsDecidingPattern (deciding_in c.args.kepts.now)) (NamesPattern known.state) (g.H.RegexHost.faults c.args.host.now) (g.H.RegexHost.faults c.args.host.now)
    (g.H.RegexHost.faults c.conclude.new.host) c.conclude.result refl
    (λ rule h. decided_names known.suffixes known.state request rule (subst (λ (kepts : List Kept). IsDecidingPattern (deciding_in kepts) rule) c.requires h)) c.conclude.ensures.ends
