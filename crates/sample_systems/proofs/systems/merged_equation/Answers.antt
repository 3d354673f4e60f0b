use Rattle.std.proofs.Common.{◌≡◌, ℕ, ◌-◌, List, Some, ap, ◌∙◌, arith}
use Rattle.std.proofs.lemmas.Result.{IfOk-weaker}
use Rattle.std.specs.Prelude.{slice_get}
use Rattle.flat_core.specs.declared.equation.Op.TheVariants as op
use Rattle.flat_core.specs.Typed.{int_type}
use Rattle.sample_systems.specs.Systems.{equation_of, growing_equations, merged_equations}
use Rattle.sample_systems.proofs.MergedLemmas.{chain_at, growing_at}
use Rattle.sample_systems.proofs.systems.merged_equation.Goals as goal

pub returns-then-n-lt35 : goal.returns-then-n-lt35
returns-then-n-lt35 c =
    let made = c.equation-then-n-lt35.ensures in
    chain_at c.args.n c.if-n-lt18.false c.if-n-lt35.true c.equation-then-n-lt35.result (made ∙ ap (λ (args : List ℕ). equation_of op.Merge args int_type) c.in_ok-two.ensures)

pub returns : goal.returns
returns c = IfOk-weaker c.growing_equation.result (λ e. slice_get growing_equations (c.args.n - 35) ≡ Some e) (λ e. slice_get merged_equations c.args.n ≡ Some e) (λ e is. growing_at c.args.n (omega arith) c.requires e is) c.growing_equation.ensures
