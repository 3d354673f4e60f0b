-- What a walk over expressions answers.
use Rattle.std.specs.Prelude.{◌≡◌, List, [], ◌∷◌, Option, Some, None, Result, Ok, Err, Vec, vec_items}
use Rattle.std.specs.Option.{option_map}
use Rattle.type_rules.specs.declared.rule.ExprType.{ExprType}
use Rattle.type_rules.specs.Asked.{Verdict}
use Rattle.expr_types.specs.declared.wrong.Wrong.{Wrong}
use Rattle.expr_types.specs.declared.stop.Stop.{Stop}
use Rattle.expr_types.specs.declared.stop.Stop.TheVariants as stop

abbrev pub first : {A : Type 0} → List A → Option A
first [] = None
first (x ∷ xs) = Some x

-- the types that are listed, if there are any
abbrev pub types_in : {Z : Type 0} → Option (Vec ExprType Z) → Option (List ExprType)
types_in types = option_map vec_items types

-- a walk ends early at the first that is wrong, and then what it walks over is nothing
abbrev pub Stops : {A : Type 0} → List Wrong → Option A → Stop → Type 0
Stops ws t (stop.Wrong w) = (first ws ≡ Some w) × (t ≡ None)
Stops ws t stop.Memory = Unit {0}

-- what an expression is, where nothing in it is wrong
abbrev pub IsFound : List Wrong → Option ExprType → Result (Option ExprType) Stop → Type 0
IsFound ws t (Ok u) = (ws ≡ []) × (u ≡ t)
IsFound ws t (Err s) = Stops ws t s

-- An expression is judged, with what is wrong inside of it. Where its own rule is broken, no more of it is looked at.
abbrev pub IsWhole : List Wrong → Option Verdict → Type 0
IsWhole ws (Some (Err clash)) = Unit {0}
IsWhole ws v = ws ≡ []

abbrev pub IsJudged : List Wrong → Option Verdict → Result (Option Verdict) Stop → Type 0
IsJudged ws v (Ok u) = IsWhole ws u × (u ≡ v)
IsJudged ws v (Err s) = Stops ws v s

-- what some expressions are, where nothing in them is wrong
abbrev pub AreFound : {Z : Type 0} → List Wrong → Option (List ExprType) → Result (Option (Vec ExprType Z)) Stop → Type 0
AreFound ws ts (Ok us) = (ws ≡ []) × (types_in us ≡ ts)
AreFound ws ts (Err s) = Stops ws ts s
