use Rattle.run_laws.proofs.Views.{requests_have_views}
use Rattle.run_laws.proofs.requests_have_views.Goals as goal

pub returns : goal.returns
returns c = requests_have_views
