use Rattle.flat_meaning.proofs.Whole.{flats_are_complete}
use Rattle.flat_meaning.proofs.complete.flats_are_complete.Goals as goal

pub returns : goal.returns
returns c = flats_are_complete
