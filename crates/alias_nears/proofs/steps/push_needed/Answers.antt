use Rattle.std.proofs.Common.{◌≡◌, Some, sym, ap, ◌∙◌, arith}
use Rattle.flat_core.specs.System.{equation, runs}
use Rattle.alias_nears.proofs.Constraining.{needed_next, needed_all}
use Rattle.alias_nears.proofs.steps.push_needed.Goals as goal

pub loop-number-preserved : goal.loop-number-preserved
loop-number-preserved c =
    let s = c.args.flat.now in
    let k = c.loop-number.number in
    let e = c.equation.result.now in
    let found : equation s k ≡ Some e = ap (equation s) (sym c.new-id.ensures) ∙ c.equation.ensures in
    needed_next s k c.unguarded.result.now c.runs.result e c.args.pairs.now c.loop-number.pairs c.push_arguments.new.pairs found c.unguarded.ensures (c.runs.ensures ∙ ap (runs s) c.new-id.ensures) c.loop-number.invariant c.in_ok-push_arguments.ensures

pub returns : goal.returns
returns c = let count = c.count-number-end.ensures.count in needed_all c.args.flat.now c.loop-number.number c.args.pairs.now c.loop-number.pairs (omega arith) c.loop-number.invariant
