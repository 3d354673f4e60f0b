-- The shape of an expression by its uppermost level.
use Rattle.std.proofs.Common.{◌≡◌, ℕ, true, false, if◌then◌else◌, List, [], Option, Some, None, refl, sym, ap, ◌∙◌}
use Rattle.std.proofs.lemmas.Bool.{true≢false, false≢true}
use Rattle.std.proofs.lemmas.Option.{same_Some, none-some}
use Rattle.tsl_value.specs.declared.place.Place.{Place}
use Rattle.lift_func.specs.BodyTree.{BodyTree}
use Rattle.syntax_tree.specs.Tree as tree
use Rattle.syntax_tree.specs.Tree.{Expr, place_of}
use Rattle.syntax_tree.specs.inner.OneLevel.{expr_of}
use Rattle.syntax_tree.specs.declared.tree.Node.{Node}
use Rattle.syntax_tree.specs.declared.tree.Node.TheVariants as node
use Rattle.name_check.specs.declared.declaration.Declaration.{Declaration}
use Rattle.name_check.specs.declared.declaration.Declaration.TheVariants as declaration
use Rattle.name_check.specs.Builtin.{is_unit}
use Rattle.name_check.specs.Scope.{Scope, meaning}
use Rattle.name_check.specs.inner.Shown.{nowhere}
use Rattle.spec_meaning.specs.Occurrence.{Call, scope_at, stands_for}
use Rattle.spec_meaning.specs.Shape as meaning
use Rattle.spec_meaning.specs.Shape.{shape, expr_shape, with_parts, same_as, name_shape, input_number}
use Rattle.stream_constructs.specs.Construct as construct
use Rattle.spec_meaning.specs.Makes.{is_own}
use Rattle.stream_shapes.specs.declared.construct.Shape.{Shape}
use Rattle.stream_shapes.specs.inner.Shape.{HasShape, IsShapeAt, IsShapeWhere, IsShapeOf, is_chain}
use Rattle.stream_shapes.proofs.ShapeLemmas.{anywhere, over_at, same_where, same_no_own}

-- ---- at a level that is known
pub at_node : (functions : List (Option BodyTree)) (scope : List Scope) (n known : Node) (f : List tree.Item → List Call → Option meaning.Shape) (found : Shape) → n ≡ known → ((items : List tree.Item) (cs : List Call) → expr_shape items cs (expr_of nowhere known) ≡ f items cs) → IsShapeAt f found → IsShapeOf functions scope (expr_of nowhere n) found
at_node functions scope n known f found is same h = λ chain.
    anywhere functions scope _ f found (λ items cs. ap (λ m. expr_shape items cs (expr_of nowhere m)) is ∙ same items cs) h

pub where_node : (functions : List (Option BodyTree)) (scope : List Scope) (n known : Node) (f : List tree.Item → List Call → Option meaning.Shape) (found : Shape) → n ≡ known → ((items : List tree.Item) (cs : List Call) → expr_shape items cs (expr_of nowhere known) ≡ f items cs) → IsShapeWhere functions scope f found → IsShapeOf functions scope (expr_of nowhere n) found
where_node functions scope n known f found is same h = λ chain.
    same_where functions scope _ f found (λ items cs. ap (λ m. expr_shape items cs (expr_of nowhere m)) is ∙ same items cs) h

-- ---- names
name_no_own : (items : List tree.Item) (cs : List Call) (d : Option Declaration) (sh : meaning.Shape) → name_shape items cs d ≡ Some sh → is_own sh.construct ≡ true → ⊥
name_no_own items cs (Some (declaration.Input i)) sh is own =
    false≢true (ap (λ (s : meaning.Shape). is_own s.construct) (same_Some (record { construct = construct.Input (input_number items i); parts = [] }) sh is) ∙ own)
name_no_own items cs (Some d) sh is own = same_no_own (stands_for items cs d) sh is own
name_no_own items cs None sh is own = none-some sh is

pub no_construct : (n : List ℕ) (found : Shape) → is_unit n ≡ false → IsShapeAt (λ items cs. expr_shape items cs (tree.Name nowhere n)) found
no_construct n found plain = record {
  at = λ items cs sh is own.
      absurd (name_no_own items cs (meaning (scope_at items cs) n) sh (ap (λ b. if b then with_parts cs construct.Unit [] else name_shape items cs (meaning (scope_at items cs) n)) (sym plain) ∙ is) own);
}

pub unit_name : (n : List ℕ) (found : Shape) → is_unit n ≡ true → HasShape found construct.Unit [] → IsShapeAt (λ items cs. expr_shape items cs (tree.Name nowhere n)) found
unit_name n found unit h = over_at _ found construct.Unit [] (λ items cs. ap (λ b. if b then with_parts cs construct.Unit [] else name_shape items cs (meaning (scope_at items cs) n)) unit) h

-- ---- at any place
chain_alike : (p q : Place) (n : Node) → is_chain (expr_of p n) ≡ is_chain (expr_of q n)
chain_alike p q (node.Chain l e ls) = refl
chain_alike p q n = refl

shape_alike : (items : List tree.Item) (cs : List Call) (p q : Place) (n : Node) → is_chain (expr_of p n) ≡ false → expr_shape items cs (expr_of p n) ≡ expr_shape items cs (expr_of q n)
shape_alike items cs p q (node.Chain l e ls) chain = absurd (true≢false chain)
shape_alike items cs p q n chain = refl

pub at_place : (functions : List (Option BodyTree)) (scope : List Scope) (e : Expr) (n : Node) (found : Shape) → expr_of (place_of e) n ≡ e → IsShapeOf functions scope (expr_of nowhere n) found → IsShapeOf functions scope e found
at_place functions scope e n found is h = λ chain. (
    let here : is_chain (expr_of (place_of e) n) ≡ false = ap is_chain is ∙ chain in
    same_where functions scope _ _ found (λ items cs. ap (expr_shape items cs) (sym is) ∙ shape_alike items cs (place_of e) nowhere n here)
    (h (sym (chain_alike (place_of e) nowhere n) ∙ here)))
