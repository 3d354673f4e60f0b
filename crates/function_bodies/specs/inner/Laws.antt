-- Laws of value functions that have an order in which called functions come first.
use Rattle.std.specs.Prelude.{◌≡◌, ℕ, zero, suc, List, length}
use Rattle.syntax_tree.specs.Tree as tree
use Rattle.lift_func.specs.BodyTree.{BodyTree}
use Rattle.lift_func.specs.inner.Placed.{placed}
use Rattle.spec_meaning.specs.Function.{function_tree, function_at, function_body}
use Rattle.definition_cycles.specs.Calls.{Calls}
use Rattle.function_bodies.specs.inner.Calls.{IsCallOrder, IsFunction, ArePlain}

-- calls in item i nest no deeper than the number says, its own body counted
abbrev pub NestsWithin : List tree.Item → ℕ → ℕ → Type 0
NestsWithin items zero i = ⊥
NestsWithin items (suc deep) i = (j : ℕ) → Calls items i j → NestsWithin items deep j

-- calls nest no deeper than there are items, and a number that is large enough is as good as any other
abbrev pub DepthIsEnough : Type 0
DepthIsEnough =
    (items : List tree.Item) (order : List ℕ) →
    IsCallOrder items order →
    ArePlain items →
    (deep i : ℕ) (ts : List BodyTree) → IsFunction items i →
    NestsWithin items deep i →
    function_tree items deep i ts ≡ function_tree items (length items) i ts

-- a value function at operands is its body with them in the place of its arguments
abbrev pub BodiesArePlaced : Type 0
BodiesArePlaced =
    (items : List tree.Item) (order : List ℕ) →
    IsCallOrder items order →
    ArePlain items →
    (i : ℕ) (ts : List BodyTree) → IsFunction items i →
    function_at items i ts ≡ placed ts (function_body items i)
