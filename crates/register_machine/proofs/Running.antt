-- Running equations and prints, with what stands before them.
use Rattle.std.proofs.Common.{◌≡◌, ℕ, List, Some, Contains}
use Rattle.std.specs.Prelude.{IsTrue}
use Rattle.flat_core.specs.declared.equation.Equation.{Equation}
use Rattle.flat_core.specs.System.{System, runs, equation}
use Rattle.flat_core.specs.WellFormed.{unguarded_of}
use Rattle.alias_rules.specs.Uses.{IsPrinted}
use Rattle.alias_rules.specs.Steps as steps
use Rattle.alias_rules.specs.Steps.{print_step}
use Rattle.alias_rules.specs.Conflict as conflict
use Rattle.alias_rules.specs.Conflict.{StandsBefore}

-- equation i is there and runs
pub record Running (s : System) (i : ℕ) (e : Equation) : Type 0 where
  pub is : equation s i ≡ Some e
  pub runs_too : IsTrue (runs s i)

-- a step is the print of an output with equation x
pub record Prints (s : System) (x step : ℕ) : Type 0 where
  pub number : ℕ
  pub printed : IsPrinted s x number
  pub step_is : step ≡ print_step s number

-- an argument stands before its equation, and an equation before its print
pub argument_before : (s : System) (set : List ℕ) (a i : ℕ) (e : Equation) → Running s i e → Contains (unguarded_of e.op e.args) a → StandsBefore s set a i
argument_before s set a i e running found = conflict.needed (steps.argument running.runs_too (record { at = e; is = running.is; argument = found }))

pub printed_before : (s : System) (set : List ℕ) (x step : ℕ) → Prints s x step → StandsBefore s set x step
printed_before s set x step p = conflict.needed (steps.printed p.number p.printed.output p.printed.is p.printed.of p.step_is)
