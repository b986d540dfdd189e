use Rattle.std.proofs.Common.{ℕ, List, sym, subst}
use Rattle.std.specs.Prelude.{IfSome}
use Rattle.dnr_io.specs.Shelf.{Holds}
use Rattle.manifest_read.specs.Reading.{IsFaultOfBytes}
use Rattle.manifest_read.specs.Refusals.{RefusesManifest}
use Rattle.manifest_read.proofs.Manifests.{manifest_refused}
use Rattle.manifest_read.proofs.extension.read_manifest.Goals as goal

pub returns-in-Err-read_bytes-clause-refused : goal.returns-in-Err-read_bytes-clause-refused
returns-in-Err-read_bytes-clause-refused g c =
    let known = g.F.Source.files c.args.shelf.now in
    let bytes = c.fetch.new.into.items in
    let fault = c.in-Err-read_bytes.fault in
    let held = subst (λ (f : List ℕ). Holds known f bytes) c.as_str.ensures c.in_default.ensures.bytes in
    let why = subst (λ (b : List ℕ). IsFaultOfBytes b fault) c.deref.ensures.value c.in-Err-read_bytes.ensures.refused in
    subst (λ r. IfSome known (λ files. RefusesManifest files c.args.name.now r)) (sym c.manifest_refusal.ensures)
    (manifest_refused known c.args.name.now c.in_ok-file.file bytes fault c.in_ok-file.ensures held c.in_default.ensures.within why)
