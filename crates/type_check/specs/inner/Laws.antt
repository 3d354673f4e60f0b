-- Laws of the check of types.
use Rattle.std.specs.Prelude.{◌≡◌, ℕ, List}
use Rattle.tsl_value.specs.declared.place.Place.{Place}
use Rattle.syntax_tree.specs.Tree as tree
use Rattle.type_rules.specs.Kinds.{Kinds}
use Rattle.expr_types.specs.Bodies.{AreKinds}
use Rattle.type_check.specs.declared.fault.TypeFault.{TypeFault}
use Rattle.type_check.specs.Faults.{HasNoCycle, IsAccepted, IsFirstFault}

-- two tables say the same of each item and of each definition in a block
pub record SameKinds (a b : Kinds) : Type 0 where
  pub items_same : (i : ℕ) → a.item i ≡ b.item i
  pub locals_same : (i k : ℕ) → a.local i k ≡ b.local i k

-- where there is no cycle the declared names are one thing
abbrev pub OneKinds : Type 0
OneKinds = (items : List tree.Item) (a b : Kinds) → HasNoCycle items → AreKinds items a → AreKinds items b → SameKinds a b

-- a specification has at most one first fault, and none where it is accepted
abbrev pub OneFault : Type 0
OneFault = (items : List tree.Item) (end : Place) (f g : TypeFault) → IsFirstFault items end f → IsFirstFault items end g → f ≡ g

abbrev pub AcceptedHasNoFault : Type 0
AcceptedHasNoFault =
    (items : List tree.Item) (end : Place) (kinds : Kinds) (f : TypeFault) → IsAccepted items end kinds → IsFirstFault items end f → ⊥
