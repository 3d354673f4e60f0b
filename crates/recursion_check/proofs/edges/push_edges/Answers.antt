use Rattle.std.proofs.Common.{ℕ, ◌∷◌, [], ◌++◌, ap, ◌∙◌}
use Rattle.std.proofs.lemmas.List.{get_or_read}
use Rattle.recursion_check.proofs.FeedLemmas.{edges_next}
use Rattle.recursion_check.proofs.edges.push_edges.Goals as goal

pub loop-argument-preserved : goal.loop-argument-preserved
loop-argument-preserved c =
    let read = c.get.ensures ∙ get_or_read c.args.arguments.now c.loop-argument.argument-index c.argument-item.result c.loop-argument-test.true c.argument-item.is 0 in
    edges_next c.args.equation c.args.arguments.now c.loop-argument.argument-index c.args.edges.now c.loop-argument.edges c.push.new.self c.loop-argument-test.true c.loop-argument.invariant (c.in_ok-push.ensures ∙ ap (λ (a : ℕ). c.loop-argument.edges ++ (a, c.args.equation) ∷ []) read)
