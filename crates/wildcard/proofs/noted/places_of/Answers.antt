use Rattle.std.proofs.Common.{◌≡◌, ◌<◌, ◌==◌, ◌∙◌, ap, arith, get_or}
use Rattle.wildcard.specs.Words.{key}
use Rattle.wildcard.proofs.Bytes.{same_by_key}
use Rattle.wildcard.proofs.noted.places_of.Goals as goal

pub returns : goal.returns
returns c text to count i j noted less at =
    let is_key : c.from.result ≡ key c.args.fold c.args.wanted = c.from.ensures ∙ c.key.ensures in
    let small : c.from.result < 256 = let e = c.from.ensures in let t = c.key.type_inv in omega arith in
    noted.told c.from.result i j small less at
    ∙ ap (λ k. key c.args.fold (get_or text j 0) == k) is_key
    ∙ same_by_key c.args.fold (get_or text j 0) c.args.wanted
