use Rattle.std.proofs.Common.{subst}
use Rattle.std.proofs.lemmas.List.{get_or_default}
use Rattle.json_fields.specs.Held.{Shows}
use Rattle.json.specs.Json.{value}
use Rattle.json.proofs.Grammar.{left_some}
use Rattle.serde_json.specs.Read.{of_json, converted}
use Rattle.json_fields.proofs.Filled.{put_here, put_nowhere, keys_stay}
use Rattle.json_fields.proofs.fields.next_field.Goals as goal

pub returns-in_ok-held-in-Some-clause-ok : goal.returns-in_ok-held-in-Some-clause-ok
returns-in_ok-held-in-Some-clause-ok c =
    let read = c.in_ok-held-in-Some.ensures.ok in
    let shows = subst (λ s. Shows s.keeps c.in_ok-held-in-Some.held read.0) (get_or_default c.args.fields.now c.in-Some.at c.index-fields-at.result c.index-fields-at-in-Some.result c.in-Some.ensures.0) read.2 in
    (read.0, read.1, put_here c.args.fields.now c.in-Some.at c.args.name.now c.in_ok-held-in-Some.held read.0 c.index-fields-at-in-Some.result c.requires.apart c.in-Some.ensures.0 c.in-Some.ensures.1 shows)

pub returns-in_ok-held-in-Some-clause-keys : goal.returns-in_ok-held-in-Some-clause-keys
returns-in_ok-held-in-Some-clause-keys c =
    let read = c.in_ok-held-in-Some.ensures.ok in
    keys_stay c.args.fields.now c.in-Some.at c.args.name.now c.in_ok-held-in-Some.held read.0 c.index-fields-at-in-Some.result

pub returns-in_ok-pass_value-in-None-clause-ok : goal.returns-in_ok-pass_value-in-None-clause-ok
returns-in_ok-pass_value-in-None-clause-ok c =
    let d = left_some (converted of_json (value c.args.depth c.args.reader.now)) c.pass_value.new.reader c.in_ok-pass_value-in-None.ensures.value in
    (d.0, d.1, put_nowhere c.args.fields.now c.args.name.now d.0 c.in-None.ensures)
