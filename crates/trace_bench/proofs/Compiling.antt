-- Of a source that is compiled there is one system, which has streams for all inputs.
use Rattle.std.proofs.Common.{◌≡◌, ℕ, List}
use Rattle.flat_core.specs.Case.{Streams}
use Rattle.flat_core.specs.Events.{Inputs}
use Rattle.flat_core.specs.Solution.{Solves}
use Rattle.flat_core.specs.System.{System}
use Rattle.flat_simplify.proofs.Fit.{simplified_fit}
use Rattle.compiled_meaning.specs.Compiled.{CompilesSomething}
use Rattle.compiled_meaning.proofs.Kept.{one_is_compiled, refused_compiles_none}
use Rattle.trace_bench.specs.inner.Laws.{RefusedBenchesNone}

pub one_system : (source : List ℕ) (s u : System) → CompilesSomething source s → CompilesSomething source u → s ≡ u
one_system source s u here there = (one_is_compiled source here.0 there.0 s u here.1 there.1).1

pub solution : (source : List ℕ) (s : System) → CompilesSomething source s → (inputs : Inputs) (bound : ℕ) → (z : Streams) × Solves s inputs bound z
solution source s compiles inputs bound =
    let c = compiles.1 in
    let whole = c.spells.system.is_flat in
    (simplified_fit c.flat s whole.proper whole.complete.typed c.spells.well_formed whole.outputs_run c.simplified).solved inputs bound

pub refused_benches_none : RefusedBenchesNone
refused_benches_none source fault count a refused benched = refused_compiles_none source fault benched.compiles.0 benched.system refused benched.compiles.1
