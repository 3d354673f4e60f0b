-- The code of a program is one, and whole.
use Rattle.std.proofs.Common.{◌≡◌, sym, subst, ◌∙◌}
use Rattle.alias_rules.specs.Fine.{IsFinePlan}
use Rattle.alias_rules.proofs.TakenPlan.{one_plan, taken_is_fine}
use Rattle.flat_core.specs.Complete.{IsFlat}
use Rattle.flat_core.specs.System.{System}
use Rattle.flat_simplify.specs.inner.Laws.{IsFit}
use Rattle.register_code.specs.Code.{Code, IsCode}
use Rattle.trace_run.specs.Program.{IsCodeOf, Program, coded, specified}
use Rattle.trace_run.proofs.CanBeRun.{CanBeRun}
use Rattle.trace_run.proofs.Unseen.{fit, flat}

-- there is no other code of a program
pub one_code : (p : Program) (a b : Code) → IsCodeOf p a → IsCodeOf p b → a ≡ b
one_code (specified items s) a b is too =
    let one = one_plan s a.in_place a.order b.in_place b.order is.1 too.1 in
    λ k. record { system = (is.0 ∙ sym too.0) k; in_place = one.set_is k; order = one.order_is k }
one_code (coded c) a b is too = is ∙ sym too

-- that of one that can be run has what all code has
pub code_of_run : (p : Program) → CanBeRun p → (c : Code) → IsCodeOf p c → IsCode c
code_of_run (specified items s) can c is =
    let f : IsFit can.1.flat s = fit can.0 items s can.1 in record {
      is_flat = subst IsFlat (sym is.0) (flat can.0 items s can.1);
      fine = subst (λ (t : System). IsFinePlan t c.in_place c.order) (sym is.0) (taken_is_fine s c.in_place c.order f.proper f.outputs_run f.well_formed is.1);
    }
code_of_run (coded d) can c is = subst IsCode (sym is) can.is_code
