use Rattle.std.proofs.Common.{set, get_or, sym, ap, ◌∙◌}
use Rattle.std.proofs.lemmas.List.Edits.{map_over_more}
use Rattle.flat_core.specs.declared.equation.Output.{Output}
use Rattle.flat_core.specs.Renumbered.{with_new_equation}
use Rattle.flat_core.proofs.flat.replace_outputs.Goals as goal

pub loop-output-preserved : goal.loop-output-preserved
loop-output-preserved c =
    let outputs = c.loop-output.outputs in
    let index = c.loop-output.output-index in
    let item = c.output-item in
    let lent : Output = get_or outputs index item.result in
    ap (λ id. set outputs index (record lent { equation = id })) c.new_number-output.ensures
    ∙ ap (λ o. set outputs index (with_new_equation c.args.replaced.now o)) (sym item.is)
    ∙ map_over_more (with_new_equation c.args.replaced.now) c.args.outputs.now outputs index item.result c.loop-output-test.true c.loop-output.invariant item.is
