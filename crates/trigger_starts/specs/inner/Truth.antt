-- When the formula of a rule is true.
use Rattle.std.specs.Prelude.{ℕ, Bool, true, false, not, ◌&&◌, ◌||◌, ◌⊎◌, List, IsTrue, IsFalse}
use Rattle.std.specs.List.{AllByRecursion, list_all, list_any}
use Rattle.trigger_rules.specs.declared.atom.Atom.TheVariants.{Start, Happens, Holds}
use Rattle.trigger_rules.specs.Formula.{Assignment, Of, Meets}
use Rattle.trigger_starts.specs.declared.rules.Rule.{Rule}
use Rattle.trigger_starts.specs.declared.starts.Given.{Given}
use Rattle.trigger_starts.specs.declared.rules.Rule.TheVariants as rule
use Rattle.trigger_starts.specs.inner.Rules.{HasSome, ruled, starts_at}

-- the formula of a rule is true in an assignment, by the arguments whose formulas are
abbrev pub TrueBy : Rule → ℕ → List Bool → (ℕ → Type 0) → Assignment → Type 0
TrueBy rule.Never x starts P holds = ⊥
TrueBy rule.Start x starts P holds = IsTrue (holds Start)
TrueBy rule.Own x starts P holds = IsTrue (holds (Happens x))
TrueBy (rule.All args) x starts P holds = AllByRecursion P args
TrueBy (rule.Any args) x starts P holds = HasSome P args
TrueBy (rule.AnyAndOwn args) x starts P holds = IsTrue (holds (Happens x)) × HasSome P args
TrueBy (rule.Filter e c) x starts P holds = P e × P c × IsTrue (holds (Holds c))
TrueBy (rule.Last v r) x starts P holds = IsFalse (holds Start) × P r × (IsTrue (starts_at starts v) ⊎ IsTrue (holds (Happens x)))
TrueBy rule.Delay x starts P holds = IsFalse (holds Start) × IsTrue (holds (Happens x))

-- its value, by those of its arguments
abbrev pub value_by : Rule → ℕ → List Bool → (ℕ → Bool) → Assignment → Bool
value_by rule.Never x starts f holds = false
value_by rule.Start x starts f holds = holds Start
value_by rule.Own x starts f holds = holds (Happens x)
value_by (rule.All args) x starts f holds = list_all f args
value_by (rule.Any args) x starts f holds = list_any f args
value_by (rule.AnyAndOwn args) x starts f holds = holds (Happens x) && list_any f args
value_by (rule.Filter e c) x starts f holds = f e && (f c && holds (Holds c))
value_by (rule.Last v r) x starts f holds = not (holds Start) && (f r && (starts_at starts v || holds (Happens x)))
value_by rule.Delay x starts f holds = not (holds Start) && holds (Happens x)

-- the equations that are kept as starting
abbrev pub Started : List Bool → ℕ → Type 0
Started starts v = IsTrue (starts_at starts v)

-- the formulas of rules, where those equations start that are kept as starting
abbrev pub IsMet : Bool → List Rule → List Bool → Assignment → ℕ → Type 0
IsMet at_zero rules starts holds x = Meets (ruled at_zero rules) (Started starts) holds (Of x)

-- what is given of the start, and the same of all else
abbrev pub assignment_of : Given → Assignment
assignment_of g Start = g.start
assignment_of g _ = g.others

-- It is 0, and nothing else is true.
abbrev pub start_alone : Assignment
start_alone = assignment_of (record { start = true; others = false })

-- all is true, and of the start what is given
abbrev pub all_but_start : Bool → Assignment
all_but_start start = assignment_of (record { start = start; others = true })
