-- A chain of readings, of which the first that is refused refuses the whole.
use Rattle.std.proofs.Common.{◌≡◌, List, [], ◌∷◌, Result, Ok, Err, Option, sym, subst, ℕ}
use Rattle.std.specs.Result.{IfErr, IsErrAnd}
use Rattle.rule_spec.specs.declared.rule_refusal.RuleRefusal.{RuleRefusal}
use Rattle.json_spec.specs.RuleFields.{first_refusal, refusal_in, unless_refused}
use Rattle.rule_spec.specs.declared.rule_path.RulePath.TheVariants as path
use Rattle.json_spec.specs.RuleFields.{Fields}
use Rattle.json_spec.specs.MayRefuse.{MayRefuse, IsRefused}
use Rattle.json_spec.specs.ReadRule.{domains_in, domain_lists_in, domain_lists_of}
use Rattle.json_spec.proofs.Refused.{refused_on}

-- a reading that is not refused leaves it to the rest
pub passes : {X Y : Type 0} (part : Result X RuleRefusal) (x : X) (rest : List (Option RuleRefusal)) (whole : Y) (fault : Type 0) (refusal : RuleRefusal) → part ≡ Ok x
    → MayRefuse (unless_refused (first_refusal rest) whole) fault refusal → MayRefuse (unless_refused (first_refusal (refusal_in part ∷ rest)) whole) fault refusal
passes part x rest whole fault refusal is h = subst (λ p. MayRefuse (unless_refused (first_refusal (refusal_in p ∷ rest)) whole) fault refusal) (sym is) h

-- what `?` hands on is what was refused
pub handed_on : {X E : Type 0} (result : Result X E) (e : E) (P : E → Type 0) → IsErrAnd result (λ x. x ≡ e) → P e → IfErr result P
handed_on (Ok x) e P is h = tt
handed_on (Err x) e P is h = subst P (sym is) h

pub last_list_refused : (f : Fields) (x y z u v : Option (List (List ℕ))) (refusal : RuleRefusal)
    → domains_in path.InitiatorDomains f.initiators ≡ Ok x → domains_in path.ExcludedInitiatorDomains f.not_initiators ≡ Ok y
    → domains_in path.Domains f.old_initiators ≡ Ok z → domains_in path.ExcludedDomains f.old_not_initiators ≡ Ok u → domains_in path.RequestDomains f.hosts ≡ Ok v
    → IsRefused (domains_in path.ExcludedRequestDomains f.not_hosts) refusal → IsRefused (domain_lists_in f) refusal
unfolding domain_lists_in
last_list_refused f x y z u v refusal a b c d e h =
    let whole = domain_lists_of f in
    let sixth = refusal_in (domains_in path.ExcludedRequestDomains f.not_hosts) ∷ [] in
    let fifth = refusal_in (domains_in path.RequestDomains f.hosts) ∷ sixth in
    let fourth = refusal_in (domains_in path.ExcludedDomains f.old_not_initiators) ∷ fifth in
    let third = refusal_in (domains_in path.Domains f.old_initiators) ∷ fourth in
    let second = refusal_in (domains_in path.ExcludedInitiatorDomains f.not_initiators) ∷ third in
    passes (domains_in path.InitiatorDomains f.initiators) x second whole ⊥ refusal a
    (passes (domains_in path.ExcludedInitiatorDomains f.not_initiators) y third whole ⊥ refusal b
    (passes (domains_in path.Domains f.old_initiators) z fourth whole ⊥ refusal c
    (passes (domains_in path.ExcludedDomains f.old_not_initiators) u fifth whole ⊥ refusal d
    (passes (domains_in path.RequestDomains f.hosts) v sixth whole ⊥ refusal e
    (refused_on (domains_in path.ExcludedRequestDomains f.not_hosts) [] whole ⊥ refusal h)))))
