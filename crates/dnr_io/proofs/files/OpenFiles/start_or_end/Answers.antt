use Rattle.std.proofs.Common.{◌≡◌, [], arith, ap, subst}
use Rattle.std.specs.Prelude.{unwrap_or}
use Rattle.std.specs.List.{position}
use Rattle.dnr_io.specs.Files.{is_named, held_in, bytes_at}
use Rattle.dnr_io.proofs.Places.{place_held}
use Rattle.dnr_io.proofs.files.OpenFiles.start_or_end.Goals as goal

pub returns-clause-left : goal.returns-clause-left
returns-clause-left c =
    let files = c.self.inside.files.items in
    let place = c.place_of-self-inside.result in
    let found : place ≡ position (is_named c.args.name.now) files = grind arith in
    subst (λ held. bytes_at files place ≡ unwrap_or (held_in held c.args.name.now) []) (ap (λ v. v.files) c.self.view_is)
    (ap (λ held. unwrap_or held []) (place_held files c.args.name.now place found))
