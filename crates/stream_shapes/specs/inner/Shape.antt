-- Constructs and shapes as the code has them, and what they say of an expression.
use Rattle.std.specs.Prelude.{◌≡◌, ℕ, Bool, true, false, List, [], ◌∷◌, map, Option, Some, None}
use Rattle.std.specs.Borrow.{Bor}
use Rattle.lift_func.specs.BodyTree.{BodyTree}
use Rattle.syntax_tree.specs.Tree as tree
use Rattle.syntax_tree.specs.Tree.{Expr}
use Rattle.syntax_tree.specs.inner.OneLevel.{exprs_of}
use Rattle.vocabulary.specs.declared.plain.Plain.{Plain}
use Rattle.vocabulary.specs.declared.signature.Role.{Role}
use Rattle.name_check.specs.Scope.{Scope, meaning as meant, seen, Agree}
use Rattle.spec_meaning.specs.Occurrence.{Call, scope_at}
use Rattle.spec_meaning.specs.Function.{role_tree}
use Rattle.spec_meaning.specs.Shape as meaning
use Rattle.spec_meaning.specs.Shape.{operand, beside, shape, with_parts, signal_of, update_of, const_shape, filter_shape, lift_shape}
use Rattle.spec_meaning.specs.Shape.{declared_shape}
use Rattle.spec_meaning.specs.inner.Plain.{by_plain}
use Rattle.tsl_value.specs.declared.operation.Update.{Update as UpdateOp}
use Rattle.stream_constructs.specs.Construct as construct
use Rattle.spec_meaning.specs.Makes.{is_own}
use Rattle.function_bodies.specs.Bodies.{AreBodies, too_large_bodies}
use Rattle.stream_shapes.specs.declared.construct.Construct.{Construct}
use Rattle.stream_shapes.specs.declared.construct.Construct.TheVariants as given
use Rattle.stream_shapes.specs.declared.construct.Shape.{Shape}

abbrev pub construct_of : Construct → construct.Construct
construct_of given.Nil = construct.Nil
construct_of given.Unit = construct.Unit
construct_of (given.Literal s) = construct.Literal s
construct_of (given.Empty of) = construct.Empty of
construct_of given.Time = construct.Time
construct_of given.Last = construct.Last
construct_of given.Delay = construct.Delay
construct_of given.Merge = construct.Merge
construct_of (given.Const s) = construct.Const s
construct_of given.Filter = construct.Filter
construct_of (given.FilterBy b) = construct.FilterBy b
construct_of (given.Lift f) = construct.Lift f
construct_of (given.Signal f) = construct.Signal f
construct_of (given.Update o os) = construct.Update o (map operand os.items)

-- expressions by reference
abbrev pub expressions_in : List (Bor Expr) → List Expr
expressions_in es = map (λ e. e.now) es

-- this construct, and these expressions of parts
pub record HasShape (found : Shape) (c : construct.Construct) (es : List Expr) : Type 0 where
  pub construct_is : construct_of found.construct ≡ c
  pub parts_are : expressions_in found.parts.items ≡ es

-- the shape of an occurrence: the parts are at the same calls
pub record IsBeside (cs : List Call) (sh : meaning.Shape) (found : Shape) : Type 0 where
  pub construct_is : construct_of found.construct ≡ sh.construct
  pub parts_are : map (beside cs) (expressions_in found.parts.items) ≡ sh.parts

-- the same shape in any specification and at any calls, if it is one with equations of its own
pub record IsShapeAt (shape : List tree.Item → List Call → Option meaning.Shape) (found : Shape) : Type 0 where
  pub at :
      (items : List tree.Item) (cs : List Call) (sh : meaning.Shape) →
      shape items cs ≡ Some sh →
      is_own sh.construct ≡ true →
      IsBeside cs sh found

-- the same in a specification whose value functions have these bodies, none of which is too large, where these names are seen
pub record IsShapeWhere (functions : List (Option BodyTree)) (scope : List Scope)
    (shape : List tree.Item → List Call → Option meaning.Shape) (found : Shape) : Type 0 where
  pub at :
      (items : List tree.Item) (cs : List Call) (sh : meaning.Shape) →
      AreBodies items functions →
      too_large_bodies items ≡ [] →
      Agree (seen scope) (scope_at items cs) →
      shape items cs ≡ Some sh →
      is_own sh.construct ≡ true →
      IsBeside cs sh found

abbrev pub is_chain : Expr → Bool
is_chain (tree.Chain p l e ls) = true
is_chain e = false

-- The shape of an expression that is no chain: the left operands of a chain are no expression of their own.
abbrev pub IsShapeOf : List (Option BodyTree) → List Scope → Expr → Shape → Type 0
IsShapeOf functions scope e found =
    is_chain e ≡ false → IsShapeWhere functions scope (λ items cs. shape items (record { calls = cs; expr = e })) found

-- a function with a dot, as the update that it may be
abbrev pub update_or : Option UpdateOp → Role → List Call → List Expr → Option meaning.Shape
update_or (Some o) r cs es = update_of cs o es
update_or None r cs es = signal_of cs (role_tree r) es

-- a filter, by the literal that its condition may be
abbrev pub filter_by : Option Bool → List Call → Expr → Expr → Option meaning.Shape
filter_by (Some b) cs e c = with_parts cs (construct.FilterBy b) (e ∷ [])
filter_by None cs e c = with_parts cs construct.Filter (e ∷ c ∷ [])

-- a call of a name, by what is found of the name among the language's own
abbrev pub plain_shape : List tree.Item → List Call → List ℕ → List Expr → Option Plain → Option meaning.Shape
plain_shape items cs n es =
    by_plain (λ c. with_parts cs c es) (with_parts cs construct.Delay es) (const_shape cs es) (filter_shape cs es)
    (lift_shape items cs [] es) (declared_shape items cs (meant (scope_at items cs) n) (exprs_of es))
