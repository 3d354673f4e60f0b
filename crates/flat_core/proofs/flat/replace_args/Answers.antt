use Rattle.std.proofs.Common.{set, get_or, sym, ap, ◌∙◌}
use Rattle.std.proofs.lemmas.List.Edits.{map_over_more}
use Rattle.flat_core.specs.declared.equation.Equation.{Equation}
use Rattle.flat_core.specs.Renumbered.{with_new_args}
use Rattle.flat_core.proofs.flat.replace_args.Goals as goal

pub loop-equation-preserved : goal.loop-equation-preserved
loop-equation-preserved c =
    let equations = c.loop-equation.equations in
    let index = c.loop-equation.equation-index in
    let item = c.equation-item in
    let lent : Equation = get_or equations index item.result in
    ap (λ args. set equations index (record lent { args = args })) c.replace.ensures
    ∙ ap (λ e. set equations index (with_new_args c.args.replaced.now e)) (sym item.is)
    ∙ map_over_more (with_new_args c.args.replaced.now) c.args.equations.now equations index item.result c.loop-equation-test.true c.loop-equation.invariant item.is
