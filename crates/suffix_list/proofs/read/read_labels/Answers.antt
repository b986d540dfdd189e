use Rattle.std.proofs.Common.{◌≡◌, ◌++◌, Some, string_bytes, sym, ap, ◌∙◌}
use Rattle.std.specs.Option.{option_map}
use Rattle.dnr_spec.specs.Hosts.{labels_of}
use Rattle.dnr_spec.specs.Suffixes.{read_label, read_labels}
use Rattle.suffix_list.proofs.Words.{read_first, read_more}
use Rattle.suffix_list.proofs.read.read_labels.Goals as goal

pub loop-rest-init : goal.loop-rest-init
loop-rest-init c =
    read_first c.args.word.now c.split_first_label.result.0.now (string_bytes c.in-Some.text) c.split_first_label.result.1 c.split_first_label.ensures.labels
    (sym c.in_ok-text.ensures ∙ ap (λ o. option_map string_bytes o) c.in-Some.is)

pub loop-rest-preserved : goal.loop-rest-preserved
loop-rest-preserved c =
    let so_far : read_labels (labels_of c.args.word.now) ≡ option_map (λ more. labels_of (string_bytes c.loop-rest.text) ++ more) (read_labels (labels_of c.in-Some-rest.others.now)) = rw c.in-Some-rest.is at c.loop-rest.invariant in
    let read : read_label c.split_first_label-in-Some-rest.result.0.now ≡ Some (string_bytes c.in-Some-2.label) = sym c.in_ok-label.ensures ∙ ap (λ o. option_map string_bytes o) c.in-Some-2.is in
    let more = read_more (read_labels (labels_of c.args.word.now)) (string_bytes c.loop-rest.text) c.in-Some-rest.others.now c.split_first_label-in-Some-rest.result.0.now (string_bytes c.in-Some-2.label) c.split_first_label-in-Some-rest.result.1 so_far c.split_first_label-in-Some-rest.ensures.labels read in
    rw (c.in_ok-add_label.ensures, c.as_str.ensures.value) more
