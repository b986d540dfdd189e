use Rattle.dnr_spec.proofs.Labels.{labels_of-split, labels_of-no_char}
use Rattle.dnr_spec.proofs.host.split_first_label.Goals as goal

pub returns-in-Some-clause-labels : goal.returns-in-Some-clause-labels
returns-in-Some-clause-labels c = labels_of-split _ _ _ c.in-Some.ensures.cases

pub returns-in-None-clause-labels : goal.returns-in-None-clause-labels
returns-in-None-clause-labels c = labels_of-no_char _ c.in-None.ensures.cases
