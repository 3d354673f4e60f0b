use Rattle.std.proofs.Common.{◌<◌, length, reverse, sym, ◌∙◌, arith}
use Rattle.std.proofs.lemmas.List.{get_or_read}
use Rattle.translation_order.specs.declared.search.Visit.TheVariants.{New}
use Rattle.translation_order.proofs.SearchLists.{last_target}
use Rattle.translation_order.proofs.Enter.{target_inside}
use Rattle.translation_order.proofs.Pass.{done_goes_on, met_goes_on}
use Rattle.translation_order.proofs.search.Search.step.Goals as goal

pub index-requires : goal.index-requires
index-requires c =
    let targets = c.in-Some.ensures in
    let low = target_inside c.args.successors.now c.args.self.now.visits.items c.args.self.now.entered c.args.last (reverse c.args.self.now.others.items) c.requires.search c.in-Some.node (last_target c.args.last.targets targets.0 c.in-Some.node targets.1) in
    let long = c.requires.search.one_each in
    omega (arith, c.args.self.now.visits.ok.0)

pub enter-requires-clause-target : goal.enter-requires-clause-target
enter-requires-clause-target c = let targets = c.in-Some.ensures in last_target c.args.last.targets targets.0 c.in-Some.node targets.1

pub returns-in_ok-meet-in-OnPath : goal.returns-in_ok-meet-in-OnPath
returns-in_ok-meet-in-OnPath c =
    let targets = c.in-Some.ensures in
    let low = target_inside c.args.successors.now c.args.self.now.visits.items c.args.self.now.entered c.args.last (reverse c.args.self.now.others.items) c.requires.search c.in-Some.node (last_target c.args.last.targets targets.0 c.in-Some.node targets.1) in
    let long = c.requires.search.one_each in
    let inside : c.in-Some.node < length c.args.self.now.visits.items = omega arith in
    met_goes_on c.args.successors.now c.args.self.now.visits.items c.args.self.now.entered c.args.last c.args.self.now.others.items c.requires.search c.in-Some.node targets.0 targets.1 c.in-OnPath.number
    (sym (get_or_read c.args.self.now.visits.items c.in-Some.node c.index.result.now inside c.index.ensures New) ∙ c.in-OnPath.is)
    c.in_ok-meet-in-OnPath.field-0 c.meet.new.others.items c.in_ok-meet-in-OnPath.ensures

pub returns-in-Done : goal.returns-in-Done
returns-in-Done c =
    let targets = c.in-Some.ensures in
    let low = target_inside c.args.successors.now c.args.self.now.visits.items c.args.self.now.entered c.args.last (reverse c.args.self.now.others.items) c.requires.search c.in-Some.node (last_target c.args.last.targets targets.0 c.in-Some.node targets.1) in
    let long = c.requires.search.one_each in
    let inside : c.in-Some.node < length c.args.self.now.visits.items = omega arith in
    done_goes_on c.args.successors.now c.args.self.now.visits.items c.args.self.now.entered c.args.last (reverse c.args.self.now.others.items) c.requires.search c.in-Some.node targets.0 targets.1 c.passed.result c.passed.ensures.passed c.in-Done.on_cycle
    (sym (get_or_read c.args.self.now.visits.items c.in-Some.node c.index.result.now inside c.index.ensures New) ∙ c.in-Done.is)
    c.passed.ensures.cyclic
