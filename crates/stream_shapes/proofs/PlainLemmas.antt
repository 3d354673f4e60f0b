-- A call of a name is what the name says that is found of it among the language's own.
use Rattle.std.proofs.Common.{◌≡◌, ℕ, if◌then◌else◌, List, [], Option, Some, None, refl, ap, ◌∙◌, ◌⊎◌, inl, inr}
use Rattle.lift_func.specs.BodyTree.{BodyTree}
use Rattle.syntax_tree.specs.Tree as tree
use Rattle.syntax_tree.specs.Tree.{Expr}
use Rattle.syntax_tree.specs.inner.OneLevel.{exprs_of}
use Rattle.vocabulary.specs.declared.plain.Plain.{Plain}
use Rattle.vocabulary.specs.declared.plain.Plain.TheVariants as plain
use Rattle.vocabulary.specs.PlainTable.{plain_of}
use Rattle.name_check.specs.Builtin.{is_lift}
use Rattle.name_check.specs.Scope.{Scope, meaning}
use Rattle.stream_constructs.specs.Construct.{Construct}
use Rattle.stream_constructs.specs.Construct as construct
use Rattle.spec_meaning.specs.Occurrence.{Call, scope_at}
use Rattle.spec_meaning.specs.Shape.{Shape, with_parts, plain_name, is_delay, is_const, is_filter, const_shape, filter_shape, lift_shape, declared_shape, call_shape}
use Rattle.spec_meaning.specs.inner.Plain.{by_tests}
use Rattle.spec_meaning.proofs.Names.{tests_as_found}
use Rattle.stream_shapes.specs.declared.construct.Shape.{Shape as Found}
use Rattle.stream_shapes.specs.inner.Shape.{HasShape, IsShapeAt, IsShapeWhere, plain_shape}
use Rattle.stream_shapes.proofs.ShapeLemmas.{listed, anywhere, over_at, same_where}

as_tested : (items : List tree.Item) (cs : List Call) (n : List ℕ) (es : List Expr) (o : Option Construct) → call_shape items cs n (exprs_of es) o ≡ by_tests (λ c. with_parts cs c es) (with_parts cs construct.Delay es) (const_shape cs es) (filter_shape cs es) (lift_shape items cs [] es) (declared_shape items cs (meaning (scope_at items cs) n) (exprs_of es)) o (is_delay n) (is_const n) (is_filter n) (is_lift n)
as_tested items cs n es (Some c) = ap (with_parts cs c) (listed es)
as_tested items cs n es None =
    ap
    (λ xs.
    if is_delay n then with_parts cs construct.Delay xs
    else if is_const n then const_shape cs xs
    else if is_filter n then filter_shape cs xs
    else if is_lift n then lift_shape items cs [] xs
    else declared_shape items cs (meaning (scope_at items cs) n) (exprs_of es))
    (listed es)

pub call_as_plain : (items : List tree.Item) (cs : List Call) (n : List ℕ) (es : List Expr) → call_shape items cs n (exprs_of es) (plain_name n) ≡ plain_shape items cs n es (plain_of n)
call_as_plain items cs n es =
    as_tested items cs n es (plain_name n)
    ∙ tests_as_found (λ c. with_parts cs c es) (with_parts cs construct.Delay es) (const_shape cs es) (filter_shape cs es) (lift_shape items cs [] es) (declared_shape items cs (meaning (scope_at items cs) n) (exprs_of es)) n

-- ---- what is found for one of the language's own names
module _ (functions : List (Option BodyTree)) (scope : List Scope) (n : List ℕ) (es : List Expr) (p q : Plain) (is : p ≡ q) where
  by_name : (items : List tree.Item) (cs : List Call) → plain_shape items cs n es (Some p) ≡ plain_shape items cs n es (Some q)
  by_name items cs = ap (λ (r : Plain). plain_shape items cs n es (Some r)) is

  pub own_where : (g : List tree.Item → List Call → Option Shape) (found : Found) → ((items : List tree.Item) (cs : List Call) → plain_shape items cs n es (Some q) ≡ g items cs) → IsShapeWhere functions scope g found → IsShapeWhere functions scope (λ items cs. plain_shape items cs n es (Some p)) found
  own_where g found same h = same_where functions scope (λ items cs. plain_shape items cs n es (Some p)) g found (λ items cs. by_name items cs ∙ same items cs) h

  pub own_at : (g : List tree.Item → List Call → Option Shape) (found : Found) → ((items : List tree.Item) (cs : List Call) → plain_shape items cs n es (Some q) ≡ g items cs) → IsShapeAt g found → IsShapeWhere functions scope (λ items cs. plain_shape items cs n es (Some p)) found
  own_at g found same h = anywhere functions scope (λ items cs. plain_shape items cs n es (Some p)) g found (λ items cs. by_name items cs ∙ same items cs) h

  pub own_over : (c : Construct) (found : Found) → ((items : List tree.Item) (cs : List Call) → plain_shape items cs n es (Some q) ≡ with_parts cs c es) → HasShape found c es → IsShapeWhere functions scope (λ items cs. plain_shape items cs n es (Some p)) found
  own_over c found same h = own_at (λ items cs. with_parts cs c es) found same (over_at (λ items cs. with_parts cs c es) found c es (λ items cs. refl) h)

-- an operation on an option is none of streams
pub option_where : (functions : List (Option BodyTree)) (scope : List Scope) (n : List ℕ) (es : List Expr) (p : Plain) → (p ≡ plain.IsSome) ⊎ ((p ≡ plain.IsNone) ⊎ ((p ≡ plain.GetSome) ⊎ (p ≡ plain.Some))) → (found : Found) → IsShapeWhere functions scope (λ items cs. declared_shape items cs (meaning (scope_at items cs) n) (exprs_of es)) found → IsShapeWhere functions scope (λ items cs. plain_shape items cs n es (Some p)) found
option_where functions scope n es p (inl is) found h = own_where functions scope n es p plain.IsSome is _ found (λ items cs. refl) h
option_where functions scope n es p (inr (inl is)) found h = own_where functions scope n es p plain.IsNone is _ found (λ items cs. refl) h
option_where functions scope n es p (inr (inr (inl is))) found h = own_where functions scope n es p plain.GetSome is _ found (λ items cs. refl) h
option_where functions scope n es p (inr (inr (inr is))) found h = own_where functions scope n es p plain.Some is _ found (λ items cs. refl) h
