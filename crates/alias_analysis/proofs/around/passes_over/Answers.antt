use Rattle.std.proofs.Common.{◌<◌, length, sym, subst}
use Rattle.flat_core.specs.System.{System}
use Rattle.alias_nears.proofs.Bypassing.{merged_low}
use Rattle.alias_analysis.proofs.around.passes_over.Goals as goal

pub implies-requires-clause-there : goal.implies-requires-clause-there
implies-requires-clause-there c =
    let s = c.args.flat.now in
    subst (λ (t : System). c.in-Some.other < length t.equations) (sym c.requires.answers) (merged_low s c.args.equation c.args.second c.equation.result.now c.equation.ensures c.assert_whole.ensures.is_flat c.in-Some.other c.in-Some.ensures)
