-- Whole systems that are well-formed can be run, and so can what is compiled.
use Rattle.std.proofs.Common.{◌≡◌, sym, subst, arith}
use Rattle.flat_core.specs.Complete.{IsFlat}
use Rattle.flat_core.specs.System.{System}
use Rattle.flat_core.specs.WellFormed.{IsWellFormed}
use Rattle.flat_core.proofs.Uniqueness.{agree_before}
use Rattle.flat_core.proofs.WellFormedOrder.{ranked_solution}
use Rattle.flat_core.proofs.WellFormedRank.{rank_of, well_formed_ranked}
use Rattle.flat_simplify.proofs.Fit.{simplified_fit, simplified_flat}
use Rattle.compiled_meaning.specs.inner.Laws.{CompiledIsReady}
use Rattle.compiled_meaning.specs.inner.Ready.{IsReady}

pub ready_of : (s : System) → IsFlat s → IsWellFormed s → IsReady s
ready_of s flat good = record {
  is_flat = flat;
  well_formed = good;
  proper = flat.proper;
  outputs_run = flat.outputs_run;
  exists = λ inputs bound. ranked_solution s (rank_of s good) flat.proper (well_formed_ranked s good) inputs bound;
  agree = λ inputs bound z w zs ws i run t lt.
      agree_before s inputs (rank_of s good) flat.proper (well_formed_ranked s good) bound z w zs ws bound (omega arith) i run t lt;
}

-- also where the system is known to be well-formed under another name
pub ready_as : (s u : System) → u ≡ s → IsFlat u → IsWellFormed s → IsReady u
ready_as s u same flat good = ready_of u flat (subst IsWellFormed (sym same) good)

pub compiled_is_ready : CompiledIsReady
compiled_is_ready source items u c =
    let s = c.flat in
    let flat = c.spells.system.is_flat in
    let good = c.spells.well_formed in
    ready_of u (simplified_flat s u flat good c.simplified) (simplified_fit s u flat.proper flat.complete.typed good flat.outputs_run c.simplified).well_formed
