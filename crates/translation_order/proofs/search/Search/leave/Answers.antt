use Rattle.std.proofs.Common.{◌≡◌, length, drop, reverse, ◌∷◌, sym, subst, ◌∙◌, take_at}
use Rattle.translation_order.specs.inner.Searching.{GoesOn, path_of, steps_left}
use Rattle.translation_order.proofs.Leave.{nodes_inside, left_answer}
use Rattle.translation_order.proofs.search.Search.leave.Goals as goal

pub mark-requires : goal.mark-requires
mark-requires c =
    nodes_inside c.args.successors.now c.args.self.now.visits.items c.args.self.now.entered c.args.last (reverse c.args.self.now.others.items) c.requires.search c.as_slice.result.now c.as_mut_slice.result.now c.as_slice.ensures c.as_mut_slice.ensures.value

pub returns : goal.returns
returns c =
    let on = left_answer c.args.successors.now c.args.self.now.visits.items c.mark.new.visits c.args.self.now.entered c.args.last c.args.self.now.others.items c.pop.new.self.items c.pop.result c.args.self.now.others.len c.pop.new.self.len c.as_slice.result.now c.as_mut_slice.result.now c.requires.search c.requires.followed c.as_slice.ensures c.as_mut_slice.ensures.value c.mark.ensures c.args.self.now.others.ok.0 c.pop.ensures.items c.pop.ensures.cases in
    let long : length c.mark.new.visits ≡ c.args.self.now.visits.len = c.mark.ensures.same_length ∙ c.as_mut_slice.ensures.len in
    subst (λ v. GoesOn c.args.successors.now v c.args.self.now.entered (path_of c.pop.result c.pop.new.self.items) (steps_left c.args.successors.now c.args.self.now.entered (c.args.last ∷ reverse c.args.self.now.others.items))) (sym (take_at c.mark.new.visits (drop (length c.mark.new.visits) c.args.self.now.visits.items) c.args.self.now.visits.len long)) on
