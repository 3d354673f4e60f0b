-- What is run.
use Rattle.std.specs.Prelude.{◌≡◌, List}
use Rattle.alias_rules.specs.Fine.{IsTakenPlan}
use Rattle.flat_core.specs.System.{System}
use Rattle.register_code.specs.Code.{Code}
use Rattle.syntax_tree.specs.Tree as tree

-- The items of a specification and their simplified system, or code, whatever it was made from.
pub data Program : Type 0 where
  specified : List tree.Item → System → Program
  coded : Code → Program

abbrev pub system_of : Program → System
system_of (specified items s) = s
system_of (coded c) = c.system

-- The code by which it runs: that of the system by the plan that is taken, or the code itself.
abbrev pub IsCodeOf : Program → Code → Type 0
IsCodeOf (specified items s) c = (c.system ≡ s) × IsTakenPlan s c.in_place c.order
IsCodeOf (coded d) c = c ≡ d
