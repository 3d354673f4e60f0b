use Rattle.std.proofs.Common.{[], get_or, sym, subst}
use Rattle.alias_paths.specs.inner.Pairs.{AreTurned}
use Rattle.alias_paths.proofs.Adding.{turned_none, turned_more, read_again}
use Rattle.alias_paths.proofs.pairs.turned.Goals as goal

pub loop-first-init : goal.loop-first-init
loop-first-init c = subst (AreTurned []) (sym c.new-turned.ensures) turned_none

pub loop-first-preserved : goal.loop-first-preserved
loop-first-preserved c =
    let pairs = c.args.pairs.now in
    let k = c.loop-first.first-index in
    turned_more pairs c.loop-first.turned c.push.new.self k (get_or pairs k (0, 0)) c.loop-first-test.true (read_again pairs k (0, 0) c.loop-first-test.true) c.loop-first.invariant c.in_ok-push.ensures
