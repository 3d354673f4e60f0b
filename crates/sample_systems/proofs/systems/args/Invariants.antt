use Rattle.std.proofs.Common.{◌≡◌, take}
use Rattle.sample_systems.proofs.systems.args.Given as goal

abbrev pub invariant-loop-id : goal.invariant-loop-id
invariant-loop-id l = l.args ≡ take l.id-index l.ids
