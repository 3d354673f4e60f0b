use Rattle.translation_order.proofs.Ends.{start_answer, end_answer}
use Rattle.translation_order.proofs.search.visit_all.Goals as goal

pub loop-search-init : goal.loop-search-init
loop-search-init c =
    start_answer c.args.successors.now c.args.count c.requires.count c.requires.inside c.in_ok-last.last c.in_ok-last.ensures.start c.in_ok-last.ensures.within c.in_ok-last.ensures.all _ _ c.in_ok-all_new.ensures c.new.ensures.items

pub returns : goal.returns
returns c =
    end_answer c.args.successors.now c.step.new.self.visits.items c.step.new.self.entered _ c.in_ok-next.field-0 c.step.new.self.others.items c.in_default.is c.in_ok-next.ensures
