use Rattle.std.proofs.Common.{◌<◌, length}
use Rattle.trigger_starts.proofs.AtomLists.{atoms_read, adds_each_next}
use Rattle.trigger_starts.proofs.gather.add_each.Goals as goal

pub loop-arg-preserved : goal.loop-arg-preserved
loop-arg-preserved c =
    let low : c.arg-item.result < length c.args.all.now = rw c.arg-item.is (c.requires c.loop-arg.arg-index c.arg-item.result c.loop-arg-test.true) in
    let read = atoms_read c.args.all.now c.arg-item.result c.get.result c.index-all-get.result c.list.result.now c.get.ensures c.index-all-get.is c.list.ensures low in
    adds_each_next c.args.all.now c.args.args.now c.loop-arg.arg-index c.arg-item.result c.list.result.now c.args.atoms.now c.loop-arg.atoms c.add_all.new.self c.loop-arg-test.true c.arg-item.is read c.loop-arg.invariant c.in_ok-add_all.ensures
