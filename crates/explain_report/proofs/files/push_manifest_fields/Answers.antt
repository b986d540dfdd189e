use Rattle.explain_report.proofs.files.push_manifest_fields.Goals as goal

pub returns : goal.returns
returns c = rw c.name-path.ensures at c.in_ok-write.ensures.bytes
