-- Which variables may have, beside an update in place, the content that it changes.
use Rattle.std.specs.Prelude.{◌≡◌, ℕ, List, [], ◌∷◌, Some}
use Rattle.flat_core.specs.declared.equation.Equation.{Equation}
use Rattle.flat_core.specs.declared.equation.Op.TheVariants as op
use Rattle.translation_order.specs.Graph.{Walk}
use Rattle.flat_core.specs.System.{System, equation}
use Rattle.trigger_rules.specs.Question.{Implies, Together}
use Rattle.alias_rules.specs.Uses.{IsVariable, IsWritten}
use Rattle.alias_rules.specs.Roots.{Carries, IsOrigin, IsRoot}
use Rattle.alias_rules.specs.Sharing.{Alias}

-- Equation i merges another equation with x, and wherever y has an event the other has one too: so i does not pass x on then. Where x is
-- both arguments, i passes it on as the first.
pub record PassesOver (s : System) (y i x : ℕ) : Type 0 where
  pub at : Equation
  pub is : equation s i ≡ Some at
  pub merges : at.op ≡ op.Merge
  pub other : ℕ
  pub args_are : at.args ≡ other ∷ x ∷ []
  pub differ : other ≡ x → ⊥
  pub implied : Implies s y other

module _ (s : System) (set : List ℕ) (y : ℕ) where
  -- a carrier edge from x to i that goes around update y; the edge from the source of y is the only one to y
  pub record GoesAround (x i : ℕ) : Type 0 where
    pub carries : Carries s set x i
    pub avoids : i ≡ y → ⊥
    pub enters : PassesOver s y i x → ⊥

  -- x may have an event together with y, and content that begins as that of the source of y comes to it around y
  pub record Bypasses (x : ℕ) : Type 0 where
    pub variable : IsVariable s x
    pub together : Together s y x
    pub source : ℕ
    pub written : IsWritten s source y
    pub root : ℕ
    pub source_root : IsRoot s set root source
    pub origin : ℕ
    pub begins : IsOrigin s set origin
    pub aliases : Alias s set origin root
    pub around : Walk GoesAround origin x
