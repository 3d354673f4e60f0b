use Rattle.aggregate_store.proofs.Contents.{contents}
use Rattle.aggregate_store.proofs.laws.contents_are_views.Goals as goal

pub returns : goal.returns
returns c = contents
