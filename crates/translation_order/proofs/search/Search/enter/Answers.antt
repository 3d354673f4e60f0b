use Rattle.std.proofs.Common.{[], reverse, arith}
use Rattle.std.proofs.lemmas.List.{get_or_read}
use Rattle.translation_order.proofs.Enter.{target_inside, entered_few, entered_answer}
use Rattle.translation_order.proofs.search.Search.enter.Goals as goal

pub bounds-successors-node : goal.bounds-successors-node
bounds-successors-node c =
    target_inside c.args.successors.now c.args.self.now.visits.items c.args.self.now.entered c.args.last (reverse c.args.self.now.others.items) c.requires.search c.args.node c.requires.target

pub index_mut-requires : goal.index_mut-requires
index_mut-requires c =
    let low = target_inside c.args.successors.now c.args.self.now.visits.items c.args.self.now.entered c.args.last (reverse c.args.self.now.others.items) c.requires.search c.args.node c.requires.target in
    let long = c.requires.search.one_each in
    omega (arith, c.args.self.now.visits.ok.0)

pub overflow_add-self : goal.overflow_add-self
overflow_add-self c =
    let few = entered_few c.args.successors.now c.args.self.now.visits.items c.args.self.now.entered c.args.last (reverse c.args.self.now.others.items) c.requires.search c.args.node c.requires.target c.requires.new in
    let small = c.requires.small in
    omega arith

pub returns : goal.returns
returns c =
    let low = target_inside c.args.successors.now c.args.self.now.visits.items c.args.self.now.entered c.args.last (reverse c.args.self.now.others.items) c.requires.search c.args.node c.requires.target in
    entered_answer c.args.successors.now c.args.self.now.visits.items c.args.self.now.entered c.args.last c.args.self.now.others.items c.push.new.self.items c.args.node c.in_ok-group.group c.index-successors-node.result c.requires.search c.requires.target c.requires.new
    (get_or_read c.args.successors.now c.args.node c.index-successors-node.result low c.index-successors-node.is [])
    c.in_ok-group.ensures c.in_ok-push.ensures.items
