use Rattle.trigger_starts.proofs.AtomLists.{adds_one}
use Rattle.trigger_starts.proofs.atoms.Atoms.add.Goals as goal

pub returns-in_ok-push : goal.returns-in_ok-push
returns-in_ok-push c = adds_one c.args.self.now c.self.inside.list.items c.push.new.self.items c.args.atom c.has.result c.self.view_is c.has.ensures c.if-not-has.true c.in_ok-push.ensures.items
