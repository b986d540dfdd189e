use Rattle.std.proofs.Common.{◌≡◌, Some, is_some, true, arith, ap, subst}
use Rattle.std.proofs.lemmas.Grind.{common_steps}
use Rattle.std.specs.List.{position}
use Rattle.dnr_io.specs.Files.{is_named, held_in, bytes_at}
use Rattle.dnr_io.proofs.Places.{place_known}
use Rattle.dnr_io.proofs.files.OpenFiles.start.Goals as goal

pub returns-clause-found : goal.returns-clause-found
returns-clause-found c =
    let files = c.self.inside.files.items in
    let place = c.place_of-place.result in
    let found : place ≡ position (is_named c.args.name.now) files = grind arith in
    let some : is_some place ≡ true = grind (arith, common_steps) in
    λ _. subst (λ held. Some (bytes_at files place) ≡ held_in held c.args.name.now) (ap (λ v. v.files) c.self.view_is) (place_known files c.args.name.now place found some)
