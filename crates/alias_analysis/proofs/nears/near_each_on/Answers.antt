use Rattle.std.proofs.Common.{refl}
use Rattle.alias_nears.proofs.Nearing.{near_more}
use Rattle.alias_analysis.proofs.nears.near_each_on.Goals as goal

pub loop-place-preserved : goal.loop-place-preserved
loop-place-preserved c =
    near_more c.args.flat.now c.args.set.now c.loop-place.nears.items c.push.new.self.items c.loop-place.place _ c.in_ok-next.next refl c.in_ok-push.ensures.items c.in_ok-next.ensures c.loop-place.invariant
