use Rattle.translation_order.proofs.Marks.{met_back}
use Rattle.translation_order.proofs.search.meet.Goals as goal

pub returns-in-Some : goal.returns-in-Some
returns-in-Some c =
    met_back _ c.joined.result c.args.number c.args.last c.in-Some.before c.args.others.now.items c.pop.new.self.items c.if-number-last.true c.in-Some.ensures.items c.joined.ensures
