use Rattle.std.proofs.Common.{◌≡◌, ◌+◌, Some, length, get_or, sym, ap, ◌∙◌, arith}
use Rattle.std.specs.Prelude.{slice_get}
use Rattle.std.proofs.lemmas.Option.{slice_get-get_or}
use Rattle.flat_core.specs.declared.equation.Output.{Output}
use Rattle.alias_paths.proofs.Adding.{adds_pushed}
use Rattle.alias_nears.proofs.Constraining.{prints_next, prints_all}
use Rattle.alias_nears.proofs.steps.push_prints.Goals as goal

pub loop-place-preserved : goal.loop-place-preserved
loop-place-preserved c =
    let s = c.args.flat.now in
    let k = c.loop-place.place in
    let o : Output = get_or c.outputs-outputs.result.now k c.index-outputs-place.result in
    let found : slice_get s.outputs k ≡ Some o =
    ap (λ os. slice_get os k) (sym c.outputs-outputs.ensures) ∙ slice_get-get_or c.outputs-outputs.result.now k c.index-outputs-place.result c.loop-place-test.true in
    prints_next s k c.count-count.result c.get-printed.result o c.args.pairs.now c.loop-place.pairs c.push.new.self found c.count-count.ensures.count c.get-printed.ensures c.loop-place.invariant (adds_pushed c.loop-place.pairs c.push.new.self c.get-printed.result (c.count-count.result + k) c.in_ok-push.ensures)

pub returns : goal.returns
returns c =
    let s = c.args.flat.now in
    let size = ap length c.outputs-outputs.ensures in
    prints_all s c.loop-place.place c.args.pairs.now c.loop-place.pairs (omega arith) c.loop-place.invariant
