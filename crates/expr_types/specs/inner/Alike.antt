-- Where names stand for the same, and the same is known of what they stand for.
use Rattle.std.specs.Prelude.{◌≡◌, ℕ, List, Option, Some, None}
use Rattle.std.specs.List.{AllByRecursion}
use Rattle.syntax_tree.specs.Tree as tree
use Rattle.syntax_tree.specs.Tree.{Expr}
use Rattle.name_check.specs.declared.declaration.Declaration.{Declaration}
use Rattle.name_check.specs.declared.declaration.Declaration.TheVariants as declaration
use Rattle.name_check.specs.Scope.{meaning}
use Rattle.name_check.specs.Parts.{Part, Operand, Function, parts}
use Rattle.type_rules.specs.declared.rule.ExprType.{ExprType}
use Rattle.expr_types.specs.Around.{Around, Callee, callee_at, declared_type}
use Rattle.type_rules.specs.Kinds.{Kinds}
use Rattle.expr_types.specs.Judge.{judge}

-- what a call of a name takes and gives
abbrev pub declared_callee : Around → Declaration → Option Callee
declared_callee at (declaration.Macro i) = callee_at at i
declared_callee at (declaration.Function i) = callee_at at i
declared_callee at d = None

pub record IsAlike (at to : Around) (n : List ℕ) : Type 0 where
  pub stands : meaning at.scope n ≡ meaning to.scope n
  pub types : (d : Declaration) → meaning at.scope n ≡ Some d → declared_type at d ≡ declared_type to d
  pub calls : (d : Declaration) → meaning at.scope n ≡ Some d → declared_callee at d ≡ declared_callee to d

-- the name that a part mentions, if it mentions one
abbrev pub IsPartAlike : Around → Around → Part → Type 0
IsPartAlike at to (Operand (tree.Name p n)) = IsAlike at to n
IsPartAlike at to (Operand (tree.Call p n es)) = IsAlike at to n
IsPartAlike at to (Function (tree.Name p n)) = IsAlike at to n
IsPartAlike at to p = Unit {0}

-- all the names that an expression mentions
pub record MentionsAlike (at to : Around) (e : Expr) : Type 0 where
  pub same_setting : at.setting ≡ to.setting
  pub names : AllByRecursion (IsPartAlike at to) (parts e)

-- ---- tables of kinds that say the same of a name
-- what a table says of a declared name in the item of number i
abbrev pub known : Kinds → ℕ → Declaration → Option ExprType
known kinds i (declaration.Input j) = kinds.item j
known kinds i (declaration.Stream j) = kinds.item j
known kinds i (declaration.Macro j) = kinds.item j
known kinds i (declaration.Function j) = kinds.item j
known kinds i (declaration.Local k) = kinds.local i k
known kinds i d = None

pub record IsKnownAlike (at : Around) (kinds : Kinds) (n : List ℕ) : Type 0 where
  pub same : (d : Declaration) → meaning at.scope n ≡ Some d → known at.kinds at.number d ≡ known kinds at.number d

abbrev pub IsPartKnownAlike : Around → Kinds → Part → Type 0
IsPartKnownAlike at kinds (Operand (tree.Name p n)) = IsKnownAlike at kinds n
IsPartKnownAlike at kinds (Operand (tree.Call p n es)) = IsKnownAlike at kinds n
IsPartKnownAlike at kinds (Function (tree.Name p n)) = IsKnownAlike at kinds n
IsPartKnownAlike at kinds p = Unit {0}

-- two tables that say the same of the names that an expression mentions give it the same
abbrev pub HasKindByNames : Type 0
HasKindByNames =
    (at : Around) (kinds : Kinds) (e : Expr) →
    AllByRecursion (IsPartKnownAlike at kinds) (parts e) →
    judge at e ≡ judge (record at { kinds = kinds }) e
