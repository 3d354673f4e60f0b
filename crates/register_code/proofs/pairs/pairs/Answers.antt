use Rattle.std.proofs.Common.{ℕ, ◌++◌, sym, ap, ◌∙◌}
use Rattle.register_code.specs.inner.Pairs.{argument_pairs, pairs_at}
use Rattle.register_code.proofs.Gathered.{gathered_more}
use Rattle.register_code.proofs.pairs.pairs.Goals as goal

pub loop-number-preserved : goal.loop-number-preserved
loop-number-preserved c =
    let s = c.args.flat.now in
    c.in_ok-push_equation.ensures
    ∙ ap (λ l. l ++ pairs_at s c.new.result) c.loop-number.invariant
    ∙ ap (λ (j : ℕ). argument_pairs s c.loop-number.number ++ pairs_at s j) c.new.ensures
    ∙ sym (gathered_more (pairs_at s) c.loop-number.number)
