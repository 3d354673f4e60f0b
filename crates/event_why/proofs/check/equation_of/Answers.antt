use Rattle.std.proofs.Common.{ap, get_or, ◌∙◌}
use Rattle.std.proofs.lemmas.Option.{get_or_from_slice_get}
use Rattle.flat_core.specs.declared.equation.Output.{Output}
use Rattle.event_why.proofs.check.equation_of.Goals as goal

pub returns : goal.returns
returns c output at =
    let own = c.index-outputs-output.result in
    ap (λ (o : Output). o.equation) (ap (λ os. get_or os c.args.output own) c.outputs.ensures ∙ get_or_from_slice_get c.args.flat.now.outputs c.args.output output own at)
