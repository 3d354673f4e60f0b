-- What is kept of an equation: its trigger formula.
use Rattle.std.specs.Prelude.{◌≡◌, ℕ, ◌<◌, ◌⊎◌, Bool, true, false, IsTrue}
use Rattle.std.specs.Prelude.{List, [], ◌∷◌, ◌++◌, length, map, Option, Some, None, slice_get, slice_index_or}
use Rattle.std.specs.List.{All, AllByRecursion, Contains}
use Rattle.std.specs.Option.{option_map_or}
use Rattle.flat_core.specs.declared.equation.Equation.{Equation}
use Rattle.flat_core.specs.declared.equation.Op.{Op}
use Rattle.flat_core.specs.declared.equation.Op.TheVariants as op
use Rattle.flat_core.specs.System.{System}
use Rattle.trigger_rules.specs.declared.atom.Atom.TheVariants.{Start, Happens, Holds}
use Rattle.trigger_rules.specs.Formula as formula
use Rattle.trigger_rules.specs.Formula.{Formula, If, IfNot, Of, Both, Unless, all_of, any_of}
use Rattle.trigger_starts.specs.declared.rules.Rule.{Rule}
use Rattle.trigger_starts.specs.declared.rules.Rule.TheVariants as rule

-- the arguments, if there are just two
abbrev pub pair_of : List ℕ → Option (ℕ × ℕ)
pair_of (a ∷ b ∷ []) = Some (a, b)
pair_of _ = None

abbrev pub filter_by : Option (ℕ × ℕ) → Rule
filter_by None = rule.Never
filter_by (Some p) = rule.Filter p.0 p.1

abbrev pub last_by : Option (ℕ × ℕ) → Rule
last_by None = rule.Never
last_by (Some p) = rule.Last p.0 p.1

abbrev pub lift_by : Bool → List ℕ → Rule
lift_by true args = rule.All args
lift_by false args = rule.AnyAndOwn args

-- the rule of an operation and its arguments
abbrev pub rule_by : Op → List ℕ → Rule
rule_by op.Input args = rule.Own
rule_by op.Nil args = rule.Never
rule_by op.Unit args = rule.Start
rule_by op.Empty args = rule.Start
rule_by (op.Lift body strict) args = lift_by strict args
rule_by op.Any args = rule.Any args
rule_by op.Merge args = rule.Any args
rule_by op.Filter args = filter_by (pair_of args)
rule_by op.Last args = last_by (pair_of args)
rule_by op.Delay args = rule.Delay
rule_by o args = rule.All args

abbrev pub rule_of : Equation → Rule
rule_of e = rule_by e.op e.args

-- the rules of a system
abbrev pub rules_of : System → List Rule
rules_of s = map rule_of s.equations

-- the formula that a rule is for equation x
abbrev pub formula_by : Rule → ℕ → Formula
formula_by rule.Never x = formula.Never
formula_by rule.Start x = If Start
formula_by rule.Own x = If (Happens x)
formula_by (rule.All args) x = all_of args
formula_by (rule.Any args) x = any_of args
formula_by (rule.AnyAndOwn args) x = Both (If (Happens x)) (any_of args)
formula_by (rule.Filter e c) x = Both (Of e) (Both (Of c) (If (Holds c)))
formula_by (rule.Last v r) x = Both (IfNot Start) (Both (Of r) (Unless v (Happens x)))
formula_by rule.Delay x = Both (IfNot Start) (If (Happens x))

-- a rule looks back where its formula at time 0 is false
abbrev pub looks_back : Rule → Bool
looks_back (rule.Last v r) = true
looks_back rule.Delay = true
looks_back _ = false

abbrev pub zero_formula_by : Rule → ℕ → Formula
zero_formula_by (rule.Last v r) x = formula.Never
zero_formula_by rule.Delay x = formula.Never
zero_formula_by it x = formula_by it x

-- the formulas of a list of rules, at time 0 or else at any time
abbrev pub either_formula : Bool → Rule → ℕ → Formula
either_formula true it x = zero_formula_by it x
either_formula false it x = formula_by it x

abbrev pub ruled : Bool → List Rule → ℕ → Formula
ruled at_zero rules x = option_map_or (λ it. either_formula at_zero it x) (slice_get rules x) formula.Never

-- the arguments whose formulas a rule needs, and all that it names
abbrev pub used_by : Rule → List ℕ
used_by (rule.All args) = args
used_by (rule.Any args) = args
used_by (rule.AnyAndOwn args) = args
used_by (rule.Filter e c) = e ∷ c ∷ []
used_by (rule.Last v r) = r ∷ []
used_by _ = []

abbrev pub named_by : Rule → List ℕ
named_by (rule.Last v r) = v ∷ r ∷ []
named_by it = used_by it

-- all arguments are numbers of rules
abbrev pub ArgumentsBelow : ℕ → Rule → Type 0
ArgumentsBelow count it = All (λ a. a < count) (named_by it)

abbrev pub AreClosed : List Rule → Type 0
AreClosed rules = (x : ℕ) (it : Rule) → slice_get rules x ≡ Some it → ArgumentsBelow (length rules) it

-- The steps come once each, after those in front whose formulas they need.
abbrev pub IsReady : List Rule → List ℕ → ℕ → Type 0
IsReady rules front x = (it : Rule) → slice_get rules x ≡ Some it → AllByRecursion (Contains front) (used_by it)

abbrev pub AreReady : List Rule → List ℕ → List ℕ → Type 0
AreReady rules front [] = Unit {0}
AreReady rules front (x ∷ steps) =
    (x < length rules) × (Contains front x → ⊥) × IsReady rules front x × AreReady rules (front ++ x ∷ []) steps

-- whether an equation starts, as it is kept
abbrev pub starts_at : List Bool → ℕ → Bool
starts_at starts x = slice_index_or starts x false

-- one of some arguments has a property
abbrev pub HasSome : (ℕ → Type 0) → List ℕ → Type 0
HasSome P args = (a : ℕ) × Contains args a × P a

-- marks of equations: the arguments whose formulas a marked one needs are marked
abbrev pub is_marked : List Bool → ℕ → Bool
is_marked marks x = slice_index_or marks x false

abbrev pub UsedMarked : List Rule → List Bool → ℕ → Type 0
UsedMarked rules marks x =
    IsTrue (is_marked marks x) →
    (it : Rule) → slice_get rules x ≡ Some it → AllByRecursion (λ a. IsTrue (is_marked marks a)) (used_by it)

-- the new marks are the old ones and those of a property
pub record Marks (P : ℕ → Type 0) (old new : List Bool) : Type 0 where
  pub kept : (x : ℕ) → IsTrue (is_marked old x) → IsTrue (is_marked new x)
  pub there : (x : ℕ) → P x → IsTrue (is_marked new x)
  pub from : (x : ℕ) → IsTrue (is_marked new x) → IsTrue (is_marked old x) ⊎ P x
