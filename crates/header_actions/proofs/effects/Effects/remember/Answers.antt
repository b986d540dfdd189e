use Rattle.std.proofs.Common.{refl, ap, sym, ◌∙◌, ◌≡◌, cond, Some, None, is_some, bytes_eq}
use Rattle.std.proofs.lemmas.Map.Text.{hash_map_updates_str}
use Rattle.header_actions.specs.declared.effects.Effects.{Effects}
use Rattle.header_actions.specs.Effects.{first_kept}
use Rattle.header_actions.proofs.Considered.{kept_new, none_of}
use Rattle.header_actions.proofs.effects.Effects.remember.Goals as goal

pub returns : goal.returns
returns c =
    let old = c.args.self.now in
    let new : Effects = record { count = old.count; first = c.insert.new.self } in
    let offer = c.args.offer.now in
    let none : first_kept old offer.name ≡ None = none_of _ (ap (λ n. is_some (first_kept old n)) (sym c.as_str-name.ensures) ∙ sym c.contains_key.ensures ∙ c.if-contains_key.false) in
    let after = hash_map_updates_str c.as_str-name.result.now old.first c.insert.new.self _ c.in_ok-insert.ensures.updates in
    record {
      count = refl;
      first = kept_new (first_kept old) (first_kept new) offer.name offer none
          (λ q. after q ∙ ap (λ n. cond (bytes_eq n q) (Some (offer.operation, offer.age)) (first_kept old q)) c.as_str-name.ensures);
    }
