-- What is printed of a part, and its size, are the same wherever it stands.
use Rattle.std.proofs.Common.{◌≡◌, refl, sym, ap, ◌∙◌}
use Rattle.tsl_value.specs.declared.place.Place.{Place}
use Rattle.syntax_tree.specs.declared.tree.TypeShape.{TypeShape}
use Rattle.syntax_tree.specs.declared.tree.TypeShape.TheVariants as shape
use Rattle.syntax_tree.specs.declared.tree.Node.{Node}
use Rattle.syntax_tree.specs.declared.tree.Node.TheVariants as node
use Rattle.syntax_tree.specs.inner.OneLevel.{type_of, size_of_type, expr_of, size_of}
use Rattle.syntax_tree.specs.Tree.{TypeName, Expr, place_of}
use Rattle.syntax_tree.specs.Places.{type_place}
use Rattle.syntax_tree.proofs.Sizes as sizes
use Rattle.spec_printer.specs.inner.Same.{nowhere}
use Rattle.spec_printer.specs.inner.Print.{type_marks, expr_marks, shape_marks, node_marks}

pub type_marks_anywhere : (p q : Place) (s : TypeShape) → type_marks (type_of p s) ≡ type_marks (type_of q s)
type_marks_anywhere p q shape.Unit = refl
type_marks_anywhere p q shape.Int = refl
type_marks_anywhere p q shape.Bool = refl
type_marks_anywhere p q shape.Text = refl
type_marks_anywhere p q (shape.Aggregate a) = refl
type_marks_anywhere p q (shape.Option y) = refl
type_marks_anywhere p q (shape.Events y) = refl

pub expr_marks_anywhere : (p q : Place) (n : Node) → expr_marks (expr_of p n) ≡ expr_marks (expr_of q n)
expr_marks_anywhere p q (node.If a b c) = refl
expr_marks_anywhere p q (node.Chain a b c) = refl
expr_marks_anywhere p q (node.Compare a b c) = refl
expr_marks_anywhere p q (node.Negate a) = refl
expr_marks_anywhere p q (node.Not a) = refl
expr_marks_anywhere p q (node.Number a) = refl
expr_marks_anywhere p q (node.Negative a) = refl
expr_marks_anywhere p q (node.Text a) = refl
expr_marks_anywhere p q (node.Boolean a) = refl
expr_marks_anywhere p q node.Unit = refl
expr_marks_anywhere p q (node.Name a) = refl
expr_marks_anywhere p q (node.Call a b) = refl
expr_marks_anywhere p q (node.CallDotted a b) = refl
expr_marks_anywhere p q (node.Nil a) = refl
expr_marks_anywhere p q (node.None a) = refl
expr_marks_anywhere p q (node.Empty a) = refl

-- what is printed of the one level of a type, and of an expression
pub marks_of_shape : (y : TypeName) (s : TypeShape) → type_of (type_place y) s ≡ y → type_marks y ≡ shape_marks s
marks_of_shape y s is = ap type_marks (sym is) ∙ type_marks_anywhere (type_place y) nowhere s

pub marks_of_node : (e : Expr) (n : Node) → expr_of (place_of e) n ≡ e → expr_marks e ≡ node_marks n
marks_of_node e n is = ap expr_marks (sym is) ∙ expr_marks_anywhere (place_of e) nowhere n

-- ---- sizes
pub type_size_anywhere : (p q : Place) (s : TypeShape) → size_of_type (type_of p s) ≡ size_of_type (type_of q s)
type_size_anywhere p q shape.Unit = refl
type_size_anywhere p q shape.Int = refl
type_size_anywhere p q shape.Bool = refl
type_size_anywhere p q shape.Text = refl
type_size_anywhere p q (shape.Aggregate a) = refl
type_size_anywhere p q (shape.Option y) = refl
type_size_anywhere p q (shape.Events y) = refl

pub size_of_shape : (y : TypeName) (s : TypeShape) → type_of (type_place y) s ≡ y → size_of_type y ≡ size_of_type (type_of nowhere s)
size_of_shape y s is = ap size_of_type (sym is) ∙ type_size_anywhere (type_place y) nowhere s

pub size_of_node : (e : Expr) (n : Node) → expr_of (place_of e) n ≡ e → size_of e ≡ size_of (expr_of nowhere n)
size_of_node e n is = sizes.size_of_node e n nowhere is
