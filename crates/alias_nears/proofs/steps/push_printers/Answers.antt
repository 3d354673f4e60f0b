use Rattle.std.proofs.Common.{◌≡◌, Some, length, get_or, sym, ap, ◌∙◌, arith}
use Rattle.std.specs.Prelude.{slice_get}
use Rattle.std.proofs.lemmas.Option.{slice_get-get_or}
use Rattle.flat_core.specs.declared.equation.Output.{Output}
use Rattle.flat_core.specs.inner.Marks.{has_mark}
use Rattle.alias_nears.proofs.Constraining.{printers_next, printers_all}
use Rattle.alias_nears.proofs.steps.push_printers.Goals as goal

pub loop-place-preserved : goal.loop-place-preserved
loop-place-preserved c =
    let s = c.args.flat.now in
    let marks = c.args.marks.now in
    let k = c.loop-place.place in
    let o : Output = get_or c.outputs-outputs.result.now k c.index-outputs-place.result in
    let found : slice_get s.outputs k ≡ Some o =
    ap (λ os. slice_get os k) (sym c.outputs-outputs.ensures) ∙ slice_get-get_or c.outputs-outputs.result.now k c.index-outputs-place.result c.loop-place-test.true in
    printers_next s marks c.args.update k c.count-count.result (has_mark marks c.get-printed.result) o c.args.pairs.now c.loop-place.pairs c.push_if.new.pairs found c.count-count.ensures.count (ap (has_mark marks) c.get-printed.ensures) c.loop-place.invariant c.in_ok-push_if.ensures

pub returns : goal.returns
returns c =
    let s = c.args.flat.now in
    let size = ap length c.outputs-outputs.ensures in
    printers_all s c.args.marks.now c.args.update c.loop-place.place c.args.pairs.now c.loop-place.pairs (omega arith) c.loop-place.invariant
