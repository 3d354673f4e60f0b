-- From what is found to the shape of an occurrence.
use Rattle.std.proofs.Common.{◌≡◌, ℕ, suc, Bool, true, List, [], ◌∷◌, ◌++◌, map, filter, length, Option, Some, None, refl, sym, ap, ◌∙◌, append_assoc, arith}
use Rattle.std.specs.Prelude.{slice_index_or}
use Rattle.std.specs.List.{AllByRecursion}
use Rattle.std.proofs.lemmas.Bool.{false≢true}
use Rattle.std.proofs.lemmas.Option.{same_Some, none-some}
use Rattle.std.proofs.lemmas.List.Elements.{All-from_recursion}
use Rattle.std.proofs.lemmas.List.{append-nil}
use Rattle.lift_func.specs.BodyTree.{BodyTree, node_count}
use Rattle.lift_func.specs.inner.Placed.{within}
use Rattle.syntax_tree.specs.Tree as tree
use Rattle.syntax_tree.specs.Tree.{Expr, Exprs}
use Rattle.syntax_tree.specs.inner.OneLevel.{exprs_of}
use Rattle.name_check.specs.declared.declaration.Declaration.{Declaration}
use Rattle.name_check.specs.declared.declaration.Declaration.TheVariants as declaration
use Rattle.name_check.specs.Scope.{Scope, meaning, seen, Agree}
use Rattle.spec_meaning.specs.Occurrence.{Call, Occurrence, scope_at, macro_result}
use Rattle.spec_meaning.specs.Function.{function_at, function_body}
use Rattle.spec_meaning.specs.Shape as meaning
use Rattle.spec_meaning.specs.Shape.{beside, with_parts, same_as, expressions, operands, is_part, is_delay, is_const, is_filter, const_shape, filter_shape, lift_by, lift_shape, function_named, declared_shape, call_shape}
use Rattle.spec_meaning.specs.Makes.{is_own}
use Rattle.stream_constructs.specs.Construct as construct
use Rattle.stream_constructs.specs.Construct.{Operand, Fixed, Varying, operand_trees}
use Rattle.function_bodies.specs.Bodies.{AreBodies, too_large_bodies}
use Rattle.function_bodies.specs.inner.Calls.{IsFunction}
use Rattle.function_bodies.proofs.SizeLemmas.{few_nodes, body_is_there, call_is_there}
use Rattle.stream_shapes.specs.declared.construct.Shape.{Shape}
use Rattle.stream_shapes.specs.inner.Shape.{HasShape, IsBeside, IsShapeAt, IsShapeWhere, filter_by}
use Rattle.stream_shapes.proofs.ScopeLemmas.{function_meant}

-- ---- shapes
beside_found : (found : Shape) (c : construct.Construct) (es : List Expr) (cs : List Call) (sh : meaning.Shape) → HasShape found c es → with_parts cs c es ≡ Some sh → IsBeside cs sh found
beside_found found c es cs sh h is =
    let same = same_Some (record { construct = c; parts = map (beside cs) es }) sh is in
    record {
      construct_is = h.construct_is ∙ ap (λ (s : meaning.Shape). s.construct) same;
      parts_are = ap (map (beside cs)) h.parts_are ∙ ap (λ (s : meaning.Shape). s.parts) same;
    }

-- what is found wherever it is looked for
pub anywhere : (functions : List (Option BodyTree)) (scope : List Scope) (f g : List tree.Item → List Call → Option meaning.Shape) (found : Shape) → ((items : List tree.Item) (cs : List Call) → f items cs ≡ g items cs) → IsShapeAt g found → IsShapeWhere functions scope f found
anywhere functions scope f g found same h = record { at = λ items cs sh bodies small agree is own. h.at items cs sh (sym (same items cs) ∙ is) own }

pub over_at : (f : List tree.Item → List Call → Option meaning.Shape) (found : Shape) (c : construct.Construct) (es : List Expr) → ((items : List tree.Item) (cs : List Call) → f items cs ≡ with_parts cs c es) → HasShape found c es → IsShapeAt f found
over_at f found c es same h = record { at = λ items cs sh is own. beside_found found c es cs sh h (sym (same items cs) ∙ is) }

pub same_where : (functions : List (Option BodyTree)) (scope : List Scope) (f g : List tree.Item → List Call → Option meaning.Shape) (found : Shape) → ((items : List tree.Item) (cs : List Call) → f items cs ≡ g items cs) → IsShapeWhere functions scope g found → IsShapeWhere functions scope f found
same_where functions scope f g found same h = record { at = λ items cs sh bodies small agree is own. h.at items cs sh bodies small agree (sym (same items cs) ∙ is) own }

pub listed : (es : List Expr) → expressions (exprs_of es) ≡ es
listed [] = refl
listed (e ∷ es) = ap (λ xs. e ∷ xs) (listed es)

-- ---- value functions
singles : (k : ℕ) (os : List Operand) → AllByRecursion (λ t. node_count t ≡ 1) (operand_trees k os)
singles k [] = tt
singles k (Fixed s ∷ os) = (refl, singles k os)
singles k (Varying ∷ os) = (refl, singles (suc k) os)

pub call_found : (items : List tree.Item) (functions : List (Option BodyTree)) (i : ℕ) (os : List Operand) → AreBodies items functions → too_large_bodies items ≡ [] → IsFunction items i → within (function_at items i (operand_trees 0 os)) ≡ Some (function_at items i (operand_trees 0 os))
call_found items functions i os right small function =
    call_is_there items functions right i (operand_trees 0 os) function (All-from_recursion (λ t. node_count t ≡ 1) (operand_trees 0 os) (singles 0 os)) (few_nodes items small i function)
    ∙ ap Some (sym (right.placed i (operand_trees 0 os) function))

pub body_found : (items : List tree.Item) (functions : List (Option BodyTree)) (i : ℕ) → AreBodies items functions → too_large_bodies items ≡ [] → IsFunction items i → slice_index_or functions i None ≡ Some (function_body items i)
body_found items functions i right small function = right.at i ∙ body_is_there items small i function

-- a call of a value function
pub function_where : (functions : List (Option BodyTree)) (scope : List Scope) (n : List ℕ) (i : ℕ) (es : List Expr) (found : Shape) → meaning (seen scope) n ≡ Some (declaration.Function i) → ((items : List tree.Item) → AreBodies items functions → too_large_bodies items ≡ [] → IsFunction items i → HasShape found (construct.Signal (function_at items i (operand_trees 0 (operands es)))) (filter is_part es)) → IsShapeWhere functions scope (λ items cs. declared_shape items cs (meaning (scope_at items cs) n) (exprs_of es)) found
function_where functions scope n i es found meant h = record { at = at }
  where
    at : (items : List tree.Item) (cs : List Call) (sh : meaning.Shape) → AreBodies items functions → too_large_bodies items ≡ [] → Agree (seen scope) (scope_at items cs) → declared_shape items cs (meaning (scope_at items cs) n) (exprs_of es) ≡ Some sh → is_own sh.construct ≡ true → IsBeside cs sh found
    at items cs sh right small agree is own =
        let here : meaning (scope_at items cs) n ≡ Some (declaration.Function i) = sym (agree.at n) ∙ meant in
        beside_found found _ (filter is_part es) cs sh (h items right small (function_meant items cs n i here))
        (ap (λ xs. with_parts cs (construct.Signal (function_at items i (operand_trees 0 (operands xs)))) (filter is_part xs)) (sym (listed es)) ∙ ap (λ d. declared_shape items cs d (exprs_of es)) (sym here) ∙ is)

-- what stands for another stream, and a call of a name that stands for no value function, make no equations of their own
pub same_no_own : (o : Option Occurrence) (sh : meaning.Shape) → same_as o ≡ Some sh → is_own sh.construct ≡ true → ⊥
same_no_own None sh is own = none-some sh is
same_no_own (Some a) sh is own =
    false≢true (ap (λ (s : meaning.Shape). is_own s.construct) (same_Some (record { construct = construct.Same; parts = a ∷ [] }) sh is) ∙ own)

no_own : (items : List tree.Item) (cs : List Call) (d : Option Declaration) (es : Exprs) (sh : meaning.Shape) → ((i : ℕ) → d ≡ Some (declaration.Function i) → ⊥) → declared_shape items cs d es ≡ Some sh → is_own sh.construct ≡ true → ⊥
no_own items cs (Some (declaration.Function i)) es sh none is own = none i refl
no_own items cs (Some (declaration.Macro i)) es sh none is own = same_no_own (macro_result items cs i es) sh is own
no_own items cs d es sh none is own = none-some sh is

pub no_function_where : (functions : List (Option BodyTree)) (scope : List Scope) (n : List ℕ) (es : Exprs) (found : Shape) → ((i : ℕ) → meaning (seen scope) n ≡ Some (declaration.Function i) → ⊥) → IsShapeWhere functions scope (λ items cs. declared_shape items cs (meaning (scope_at items cs) n) es) found
no_function_where functions scope n es found none = record {
  at = λ items cs sh right small agree is own.
      absurd (no_own items cs (meaning (scope_at items cs) n) es sh (λ i h. none i (agree.at n ∙ h)) is own);
}

-- ---- `lift`
front_and_last : (items : List tree.Item) (cs : List Call) (streams : List Expr) (before : List Expr) (f : Expr) → lift_shape items cs streams (before ++ f ∷ []) ≡ lift_by items cs (streams ++ before) f (function_named items (scope_at items cs) f)
front_and_last items cs streams [] f = ap (λ xs. lift_by items cs xs f (function_named items (scope_at items cs) f)) (sym (append-nil streams))
front_and_last items cs streams (e ∷ []) f = refl
front_and_last items cs streams (e ∷ g ∷ before) f =
    front_and_last items cs (streams ++ e ∷ []) (g ∷ before) f
    ∙ ap (λ xs. lift_by items cs xs f (function_named items (scope_at items cs) f)) (append_assoc streams (e ∷ []) (g ∷ before))

-- what a name stands for where the same names are seen
named_alike : (items : List tree.Item) (s t : Scope) (f : Expr) → Agree s t → function_named items s f ≡ function_named items t f
named_alike items s t (tree.Name p n) agree = agree.at n
named_alike items s t f agree = refl

named_function : (items : List tree.Item) (cs : List Call) (f : Expr) (i : ℕ) → function_named items (scope_at items cs) f ≡ Some (declaration.Function i) → IsFunction items i
named_function items cs (tree.Name p n) i h = function_meant items cs n i h
named_function items cs f i h = absurd (none-some _ h)

pub lift_where : (functions : List (Option BodyTree)) (scope : List Scope) (es before : List Expr) (f : Expr) (i : ℕ) (found : Shape) → es ≡ before ++ f ∷ [] → ((items : List tree.Item) → function_named items (seen scope) f ≡ Some (declaration.Function i)) → ((items : List tree.Item) → AreBodies items functions → too_large_bodies items ≡ [] → IsFunction items i → HasShape found (construct.Lift (function_body items i)) before) → IsShapeWhere functions scope (λ items cs. lift_shape items cs [] es) found
lift_where functions scope es before f i found whole named h = record { at = at }
  where
    at : (items : List tree.Item) (cs : List Call) (sh : meaning.Shape) → AreBodies items functions → too_large_bodies items ≡ [] → Agree (seen scope) (scope_at items cs) → lift_shape items cs [] es ≡ Some sh → is_own sh.construct ≡ true → IsBeside cs sh found
    at items cs sh right small agree is own =
        let here : function_named items (scope_at items cs) f ≡ Some (declaration.Function i) = sym (named_alike items (seen scope) (scope_at items cs) f agree) ∙ named items in
        let shape : lift_shape items cs [] es ≡ with_parts cs (construct.Lift (function_body items i)) before =
        ap (lift_shape items cs []) whole ∙ front_and_last items cs [] before f ∙ ap (lift_by items cs before f) here in
        beside_found found (construct.Lift (function_body items i)) before cs sh (h items right small (named_function items cs f i here)) (sym shape ∙ is)

no_lift : (items : List tree.Item) (cs : List Call) (streams : List Expr) (f : Expr) (d : Option Declaration) → ((i : ℕ) → d ≡ Some (declaration.Function i) → ⊥) → lift_by items cs streams f d ≡ None
no_lift items cs streams f (Some (declaration.Function i)) none = absurd (none i refl)
no_lift items cs streams f d none = refl

pub no_lift_where : (functions : List (Option BodyTree)) (scope : List Scope) (es before : List Expr) (f : Expr) (found : Shape) → es ≡ before ++ f ∷ [] → ((items : List tree.Item) (i : ℕ) → function_named items (seen scope) f ≡ Some (declaration.Function i) → ⊥) → IsShapeWhere functions scope (λ items cs. lift_shape items cs [] es) found
no_lift_where functions scope es before f found whole none = record {
  at = λ items cs sh right small agree is own.
      (let shape = ap (lift_shape items cs []) whole ∙ front_and_last items cs [] before f in
      let named = no_lift items cs before f (function_named items (scope_at items cs) f) (λ i h. none items i (named_alike items (seen scope) (scope_at items cs) f agree ∙ h)) in
      absurd (none-some sh (sym (shape ∙ named) ∙ is)));
}

-- ---- filters
pub filtered_by_literal : (es streams : List Expr) (c : Expr) (b : Bool) (found : Shape) → es ≡ streams ++ c ∷ [] → length streams ≡ 1 → ((cs : List Call) (e : Expr) → filter_shape cs (e ∷ c ∷ []) ≡ filter_by (Some b) cs e c) → HasShape found (construct.FilterBy b) streams → IsShapeAt (λ items cs. filter_shape cs es) found
filtered_by_literal es [] c b found whole one is h = absurd (omega arith)
filtered_by_literal es (e ∷ []) c b found whole one is h = over_at _ found (construct.FilterBy b) (e ∷ []) (λ items cs. ap (filter_shape cs) whole ∙ is cs e) h
filtered_by_literal es (e ∷ f ∷ streams) c b found whole one is h = absurd (omega arith)

pub filtered : (es streams : List Expr) (c : Expr) (found : Shape) → es ≡ streams ++ c ∷ [] → length streams ≡ 1 → ((cs : List Call) (e : Expr) → filter_shape cs (e ∷ c ∷ []) ≡ filter_by None cs e c) → HasShape found construct.Filter es → IsShapeAt (λ items cs. filter_shape cs es) found
filtered es [] c found whole one is h = absurd (omega arith)
filtered es (e ∷ []) c found whole one is h =
    over_at _ found construct.Filter es (λ items cs. ap (filter_shape cs) whole ∙ is cs e ∙ ap (with_parts cs construct.Filter) (sym whole)) h
filtered es (e ∷ f ∷ streams) c found whole one is h = absurd (omega arith)
