use Rattle.index_laws.proofs.Anchors as anchors
use Rattle.index_laws.proofs.firm_words_are_shown.Goals as goal

pub returns : goal.returns
returns c = anchors.firm_words_are_shown
