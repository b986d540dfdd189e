use Rattle.std.proofs.Common.{◌∙◌, ◌++◌, ◌∷◌, [], map, ap}
use Rattle.dnr_base.specs.View.{text_of, host_of}
use Rattle.dnr_spec.specs.Domains.{lower_case}
use Rattle.index_spec.specs.Words.{words_of}
use Rattle.index_spec.specs.declared.key.Key.TheVariants.{Host, Token, Initiator, All}
use Rattle.index_spec.specs.Keys.{domains_over, domains_over_some}
use Rattle.rule_index.specs.Index.{once}
use Rattle.rule_index.proofs.KeysOnce.{part_keys}
use Rattle.rule_index.proofs.keys.keys_of.Goals as goal

pub returns : goal.returns
returns c =
    let part = c.args.part.now in
    c.in_ok-push.ensures.items
    ∙ ap (λ keys. keys ++ All ∷ []) (c.in_ok-push_initiators.ensures
    ∙ ap (λ keys. keys ++ map Initiator (once (domains_over_some part.initiator))) (c.in_ok-push_words.ensures
    ∙ ap (λ keys. keys ++ map Token (once (map lower_case (words_of (text_of part.view))))) (c.in_ok-push_hosts.ensures
    ∙ ap (λ keys. keys ++ map Host (once (domains_over (host_of part.view)))) c.new-keys.ensures.items)))
    ∙ part_keys part
