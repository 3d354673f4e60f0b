-- From where the content of an aggregate variable comes at a time, where a set of updates changes content in place: such an update
-- hands the content of its source on, while all others make a new one.
use Rattle.std.specs.Prelude.{◌≡◌, ℕ, Bool, true, ◌&&◌, not, List, Some, IsTrue}
use Rattle.flat_core.specs.declared.equation.Equation.{Equation}
use Rattle.flat_core.specs.declared.equation.Op.{Op}
use Rattle.flat_core.specs.declared.equation.Op.TheVariants as op
use Rattle.translation_order.specs.Graph.{Walk}
use Rattle.flat_core.specs.Members.{is_in}
use Rattle.flat_core.specs.System.{System, equation}
use Rattle.flat_core.specs.Updates.{is_update}
use Rattle.alias_rules.specs.Uses.{IsVariable, IsPassed, IsLast, IsWritten}

-- where content begins at a time, by the operation and whether the equation is in the set
abbrev pub begins_content : Op → Bool → Bool
begins_content op.Last inside = true
begins_content op.Empty inside = true
begins_content o inside = is_update o && not inside

module _ (s : System) (set : List ℕ) where
  -- a carrier edge from x to i
  pub data Carries (x i : ℕ) : Type 0 where
    passed : IsPassed s x i → Carries x i
    written : IsTrue (is_in set i) → IsWritten s x i → Carries x i

  -- content begins at the aggregate variable r
  pub record IsOrigin (r : ℕ) : Type 0 where
    pub variable : IsVariable s r
    pub at : Equation
    pub is : equation s r ≡ Some at
    pub begins : IsTrue (begins_content at.op (is_in set r))

  -- r is a root of x
  pub record IsRoot (r x : ℕ) : Type 0 where
    pub origin : IsOrigin r
    pub leads : Walk Carries r x

  -- x has a root that is the last value of u
  pub record ComesFromLast (x u : ℕ) : Type 0 where
    pub root : ℕ
    pub is_root : IsRoot root x
    pub last : IsLast s u root
