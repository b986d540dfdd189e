use Rattle.view_laws.proofs.Read.{texts_give_views}
use Rattle.view_laws.proofs.texts_give_views.Goals as goal

pub returns : goal.returns
returns c = texts_give_views
