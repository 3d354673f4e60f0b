use Rattle.trigger_starts.proofs.AtomLists.{adds_next}
use Rattle.trigger_starts.proofs.atoms.Atoms.add_all.Goals as goal

pub loop-atom-preserved : goal.loop-atom-preserved
loop-atom-preserved c = adds_next c.args.atoms.now c.loop-atom.atom-index c.atom-item.result c.args.self.now c.loop-atom.self c.add.new.self c.loop-atom-test.true c.atom-item.is c.loop-atom.invariant c.in_ok-add.ensures
