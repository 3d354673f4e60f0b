-- The trigger formula of each equation: it says when the equation has an event, by what is at that time.
use Rattle.std.specs.Prelude.{ℕ, true, false, if◌then◌else◌, List, [], ◌∷◌}
use Rattle.std.specs.Option.{option_map_or}
use Rattle.flat_core.specs.declared.equation.Op.{Op}
use Rattle.flat_core.specs.declared.equation.Op.TheVariants as op
use Rattle.flat_core.specs.System.{System, equation}
use Rattle.flat_core.specs.Updates.{is_update}
use Rattle.trigger_rules.specs.declared.atom.Atom.TheVariants.{Start, Happens, Holds}
use Rattle.trigger_rules.specs.Formula.{Formula, Never, If, IfNot, Of, Both, Unless, all_of, any_of}

-- the formula of equation x with an operation and arguments; no other number of arguments occurs
abbrev pub formula_of : Op → ℕ → List ℕ → Formula
formula_of op.Input x args = If (Happens x)
formula_of op.Nil x args = Never
formula_of op.Unit x args = If Start
formula_of op.Empty x args = If Start
formula_of (op.Lift body true) x args = all_of args
formula_of (op.Lift body false) x args = Both (If (Happens x)) (any_of args)
formula_of op.Any x args = any_of args
formula_of op.Merge x args = any_of args
formula_of op.Time x args = all_of args
formula_of op.Filter x (e ∷ c ∷ []) = Both (Of e) (Both (Of c) (If (Holds c)))
formula_of op.Pick x args = all_of args
formula_of op.Last x (v ∷ r ∷ []) = Both (IfNot Start) (Both (Of r) (Unless v (Happens x)))
formula_of op.Delay x args = Both (IfNot Start) (If (Happens x))
formula_of o x args = if is_update o then all_of args else Never

-- at time 0 there is no last value, and no delay is due
abbrev pub at_zero : Op → Formula → Formula
at_zero op.Last p = Never
at_zero op.Delay p = Never
at_zero o p = p

module _ (s : System) where
  -- the formula of equation x, and its formula at time 0
  abbrev pub formula : ℕ → Formula
  formula x = option_map_or (λ e. formula_of e.op x e.args) (equation s x) Never

  abbrev pub zero_formula : ℕ → Formula
  zero_formula x = option_map_or (λ e. at_zero e.op (formula_of e.op x e.args)) (equation s x) Never
