-- What becomes of a request by what is kept of each extension is what the scan answers.
use Rattle.std.proofs.Common.{◌≡◌, List, fold, Option, Some, None, refl, sym, ap, ◌∙◌}
use Rattle.dnr_base.specs.declared.request.Request.{Request}
use Rattle.dnr_base.specs.declared.verb.Verb.{Verb}
use Rattle.dnr_base.specs.declared.verb.Verb.TheVariants as verb
use Rattle.dnr_spec.specs.Suffixes.{SuffixRule}
use Rattle.rule_spec.specs.State.{State}
use Rattle.rule_spec.specs.Scan.{Decision, decided, deciding, decisions_from, named_ops, scan, verdict_by}
use Rattle.generation.specs.Choice.{decided_by, deciding_in, goes_before, ops_by, ops_in, verdict_of}
use Rattle.generation.specs.Kept.{better_of, kept_from}
use Rattle.generation.proofs.Best.{goes_before_is_order, unbeaten_is}
use Rattle.generation.proofs.Offered.{offers_are}
use Rattle.generation.proofs.Said.{decisions_are}

decided_same : (suffixes : List SuffixRule) (state : State) (request : Request) (decision : Decision) (v : Verb)
    → decided_by request (named_ops suffixes state request) decision v ≡ decided suffixes state request decision v
decided_same suffixes state request decision verb.Block = refl
decided_same suffixes state request decision verb.Redirect = refl
decided_same suffixes state request decision verb.UpgradeScheme = refl
decided_same suffixes state request decision verb.Allow = refl
decided_same suffixes state request decision verb.AllowAllRequests = refl

verdict_same : (suffixes : List SuffixRule) (state : State) (request : Request) (decision : Option Decision)
    → verdict_of request (named_ops suffixes state request) decision ≡ verdict_by suffixes state request decision
verdict_same suffixes state request None = refl
verdict_same suffixes state request (Some decision) = decided_same suffixes state request decision decision.verb

pub deciding_is : (suffixes : List SuffixRule) (state : State) (request : Request)
    → deciding_in (kept_from suffixes request 0 state.extensions) ≡ deciding suffixes state request
deciding_is suffixes state request =
    ap (fold (better_of goes_before) None) (decisions_are suffixes request 0 state.extensions)
    ∙ sym (unbeaten_is goes_before goes_before_is_order (decisions_from suffixes request 0 state.extensions))

pub scan_is : (suffixes : List SuffixRule) (state : State) (request : Request)
    → verdict_of request (ops_in (kept_from suffixes request 0 state.extensions)) (deciding_in (kept_from suffixes request 0 state.extensions)) ≡ scan suffixes state request
unfolding scan
scan_is suffixes state request =
    ap (λ ops. verdict_of request ops (deciding_in (kept_from suffixes request 0 state.extensions))) (ap ops_by (offers_are suffixes request 0 state.extensions))
    ∙ ap (verdict_of request (named_ops suffixes state request)) (deciding_is suffixes state request)
    ∙ verdict_same suffixes state request (deciding suffixes state request)
