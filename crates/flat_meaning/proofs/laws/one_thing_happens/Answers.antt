use Rattle.flat_meaning.proofs.OneThing.{one_thing}
use Rattle.flat_meaning.proofs.laws.one_thing_happens.Goals as goal

pub returns : goal.returns
returns c items inputs o t x y here there = one_thing items inputs o t x y here there
