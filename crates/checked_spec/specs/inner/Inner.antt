-- What stands in the parts of an expression stands in the expression itself.
use Rattle.std.specs.Prelude.{◌≡◌, ℕ, Bool, true, false, List, [], ◌∷◌, Some}
use Rattle.std.specs.List.{AllByRecursion, Contains}
use Rattle.tsl_value.specs.declared.place.Place.{Place}
use Rattle.syntax_tree.specs.Tree as tree
use Rattle.syntax_tree.specs.Tree.{Expr, Exprs, Links, no_links, more_links}
use Rattle.syntax_tree.specs.declared.tree.Level.{Level}
use Rattle.name_check.specs.Builtin.{is_lift}
use Rattle.name_check.specs.Parts.{Part, parts}
use Rattle.spec_meaning.specs.Occurrence.{Occurrence}
use Rattle.spec_meaning.specs.Shape.{Shape, shape, expressions}
use Rattle.spec_meaning.specs.Makes.{is_own}

-- all that stands in an expression is among these
abbrev pub StandsIn : List Part → Expr → Type 0
StandsIn among e = (part : Part) → Contains (parts e) part → Contains among part

abbrev pub has_links : Expr → Bool
has_links (tree.Chain p l e (more_links o f ls)) = true
has_links e = false

-- of a chain with an operator the part on the left is a beginning of it, which stands in no expression
abbrev pub SubsAreFormed : Type 0
SubsAreFormed =
    (items : List tree.Item) (o : Occurrence) (sh : Shape) →
    shape items o ≡ Some sh →
    is_own sh.construct ≡ true →
    has_links o.expr ≡ false →
    AllByRecursion (λ a. StandsIn (parts o.expr) a.expr) sh.parts

abbrev pub operands_after : Links → List Expr
operands_after no_links = []
operands_after (more_links o f ls) = f ∷ operands_after ls

-- its operands do
abbrev pub OperandsStandIn : Type 0
OperandsStandIn =
    (p : Place) (l : Level) (e : Expr) (ls : Links) (f : Expr) →
    Contains (e ∷ operands_after ls) f →
    StandsIn (parts (tree.Chain p l e ls)) f

-- and so do the arguments of a call that is no `lift`
abbrev pub ArgumentsStandIn : Type 0
ArgumentsStandIn =
    (p : Place) (x : List ℕ) (es : Exprs) →
    is_lift x ≡ false →
    AllByRecursion (StandsIn (parts (tree.Call p x es))) (expressions es)
