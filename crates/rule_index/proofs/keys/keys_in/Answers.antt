use Rattle.std.proofs.Common.{◌≡◌, ◌∙◌, map, Some, None, sym, ap}
use Rattle.std.specs.Option.{option_copied}
use Rattle.std.specs.Prelude.{option_map}
use Rattle.std.proofs.lemmas.Result.{IfOk-weaker}
use Rattle.dnr_spec.specs.Domains.{lower_case}
use Rattle.index_spec.specs.declared.key.Key.TheVariants.{Host, Initiator}
use Rattle.index_spec.specs.Keys.{keys_of_condition}
use Rattle.index_spec.specs.Pairs as spec
use Rattle.rule_index.specs.Index.{once, token_in}
use Rattle.rule_index.proofs.KeysOnce.{host_keys, initiator_keys}
use Rattle.rule_index.proofs.keys.keys_in.Goals as goal

pub returns-in-Some : goal.returns-in-Some
returns-in-Some c =
    let condition = c.args.condition.now in
    let is : condition.hosts ≡ Some c.in-Some.domains.now = sym c.hosts.ensures ∙ ap option_copied c.in-Some.is in
    IfOk-weaker c.keys_for.result (λ keys. keys.items ≡ map Host (once c.entries.result.now)) (λ keys. keys.items ≡ spec.once (keys_of_condition condition))
    (λ keys same. same ∙ ap (λ texts. map Host (once texts)) c.entries.ensures.value ∙ host_keys condition c.in-Some.domains.now is) c.keys_for.ensures

pub returns-in-Some-initiators : goal.returns-in-Some-initiators
returns-in-Some-initiators c =
    let condition = c.args.condition.now in
    let no_hosts : condition.hosts ≡ None = sym c.hosts.ensures ∙ ap option_copied c.in_default.is in
    let no_token : token_in condition ≡ None = sym c.token_in.ensures ∙ ap (λ token. option_map lower_case (option_copied token)) c.in_default-token_in.is in
    let is : condition.initiators ≡ Some c.in-Some-initiators.domains.now = sym c.initiators.ensures ∙ ap option_copied c.in-Some-initiators.is in
    IfOk-weaker c.keys_for-in-Some-initiators.result (λ keys. keys.items ≡ map Initiator (once c.entries-in-Some-initiators.result.now)) (λ keys. keys.items ≡ spec.once (keys_of_condition condition))
    (λ keys same. same ∙ ap (λ texts. map Initiator (once texts)) c.entries-in-Some-initiators.ensures.value ∙ initiator_keys condition c.in-Some-initiators.domains.now no_hosts no_token is)
    c.keys_for-in-Some-initiators.ensures
