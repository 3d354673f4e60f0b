use Rattle.std.proofs.Common.{◌≡◌, subst, sym}
use Rattle.std.specs.Prelude.{IsTrue}
use Rattle.tsl_value.specs.View.{Plain}
use Rattle.plain_solver.specs.declared.value.Held.{Held}
use Rattle.plain_solver.specs.inner.ValueView.{view_of}
use Rattle.plain_solver.proofs.ValueLemmas.{scalar_test}
use Rattle.plain_solver.proofs.value.is_held_scalar.Goals as goal

pub returns-in-Scalar : goal.returns-in-Scalar
returns-in-Scalar c =
    subst (λ (h : Held). (IsTrue c.eq.result → view_of h ≡ Plain c.args.scalar.now) × (view_of h ≡ Plain c.args.scalar.now → IsTrue c.eq.result)) (sym c.in-Scalar.is)
    (scalar_test c.in-Scalar.own c.args.scalar.now c.eq.result c.eq.ensures)
