-- Operands of these types, and their trees.
use Rattle.std.proofs.Common.{◌≡◌, ℕ, suc, ◌+◌, cond, List, [], ◌∷◌, map, Option, Some, None, refl, ap, sym, subst, ◌∙◌, arith}
use Rattle.std.specs.Prelude.{slice_get, is_none}
use Rattle.std.specs.List.{AllByRecursion, filter}
use Rattle.std.proofs.lemmas.Option.{none-some}
use Rattle.tsl_value.specs.View.{type_of as scalar_type_of}
use Rattle.tsl_value.specs.declared.scalar.Scalar.{Scalar}
use Rattle.tsl_value.specs.declared.scalar.ScalarType.{ScalarType}
use Rattle.tsl_value.specs.declared.scalar.ScalarType.TheVariants as scalar_type
use Rattle.tsl_value.specs.declared.scalar.ValueType.{ValueType}
use Rattle.tsl_value.specs.declared.scalar.ValueType.TheVariants as value_type
use Rattle.lift_func.specs.BodyTree.{BodyTree, Literal}
use Rattle.lift_func.specs.Typing.{ValueKind, Value, HasKind, literal, argument}
use Rattle.syntax_tree.specs.Tree as tree
use Rattle.syntax_tree.specs.Tree.{Expr}
use Rattle.type_rules.specs.declared.rule.ExprType.{ExprType}
use Rattle.type_rules.specs.declared.rule.ExprType.TheVariants as expr_type
use Rattle.type_rules.specs.declared.rule.Setting.TheVariants as setting
use Rattle.expr_types.specs.Around.{Around}
use Rattle.expr_types.specs.Judge.{type_of}
use Rattle.stream_constructs.specs.declared.construct.Stream.{Stream}
use Rattle.stream_constructs.specs.Construct.{Operand, Fixed, Varying, operand_trees}
use Rattle.stream_constructs.specs.Agree.{AreOperands}
use Rattle.spec_meaning.specs.Occurrence.{Call, Occurrence, scope_at}
use Rattle.spec_meaning.specs.Function.{literal as literal_of}
use Rattle.spec_meaning.specs.Shape.{operand, operands, is_part, beside}
use Rattle.checked_spec.specs.inner.Matches.{HaveTheirTypes}
use Rattle.checked_spec.proofs.Read.{AreTyped, inner_is}

-- ---- where expressions of streams stand in some calls
abbrev pub standard : List tree.Item → List Call → Around → Around
standard items cs at = record at { items = items; scope = scope_at items cs; setting = setting.Streams }

abbrev pub streams : List ValueType → List ExprType
streams ts = map expr_type.Stream ts

-- an occurrence of a stream
abbrev pub IsStreamAt : Around → Occurrence → Type 0
IsStreamAt at o = (u : ValueType) × (type_of at o.expr ≡ Some (expr_type.Stream u))

-- streams of these types, and trees of these
abbrev pub AreOf : List Stream → List ValueType → Type 0
AreOf [] [] = Unit {0}
AreOf (a ∷ parts) (t ∷ ts) = (a.of ≡ t) × AreOf parts ts
AreOf _ _ = ⊥

abbrev pub AreTrees : List ValueKind → List BodyTree → List ValueType → Type 0
AreTrees ks [] [] = Unit {0}
AreTrees ks (f ∷ fs) (t ∷ ts) = HasKind ks f (Value t) × AreTrees ks fs ts
AreTrees ks _ _ = ⊥

-- ---- all expressions are parts
abbrev pub expressions_of : List Occurrence → List Expr
expressions_of parts = map (λ o. o.expr) parts

pub all_streams : (at : Around) (cs : List Call) (es : List Expr) (ts : List ValueType) → AreTyped at es (streams ts) → AllByRecursion (IsStreamAt at) (map (beside cs) es)
all_streams at cs [] [] h = tt
all_streams at cs [] (t ∷ ts) h = absurd h
all_streams at cs (e ∷ es) [] h = absurd h
all_streams at cs (e ∷ es) (t ∷ ts) h = ((t, h.0), all_streams at cs es ts h.1)

pub all_of : (at : Around) (cs : List Call) (es : List Expr) (ts : List ValueType) (parts : List Stream) → AreTyped at es (streams ts) → HaveTheirTypes at (expressions_of (map (beside cs) es)) parts → AreOf parts ts
all_of at cs [] [] [] h have = tt
all_of at cs [] [] (a ∷ parts) h have = absurd have
all_of at cs [] (t ∷ ts) parts h have = absurd h
all_of at cs (e ∷ es) [] parts h have = absurd h
all_of at cs (e ∷ es) (t ∷ ts) [] h have = absurd have
all_of at cs (e ∷ es) (t ∷ ts) (a ∷ parts) h have = (inner_is (type_of at e) a.of t have.0 h.0, all_of at cs es ts parts h.1 have.1)

-- ---- literals are no parts
abbrev type_in : Option Scalar → ScalarType
type_in (Some s) = scalar_type_of s
type_in None = scalar_type.Unit

pub literal_typed : (items : List tree.Item) (cs : List Call) (at : Around) (e : Expr) (s : Scalar) → literal_of e ≡ Some s → type_of (standard items cs at) e ≡ Some (expr_type.Stream (value_type.Scalar (scalar_type_of s)))
literal_typed items cs at (tree.Number p n) s h = ap (λ o. Some (expr_type.Stream (value_type.Scalar (type_in o)))) h
literal_typed items cs at (tree.Negative p n) s h = ap (λ o. Some (expr_type.Stream (value_type.Scalar (type_in o)))) h
literal_typed items cs at (tree.Text p n) s h = ap (λ o. Some (expr_type.Stream (value_type.Scalar (type_in o)))) h
literal_typed items cs at (tree.Boolean p b) s h = ap (λ o. Some (expr_type.Stream (value_type.Scalar (type_in o)))) h
literal_typed items cs at e s h = absurd (none-some s h)

pub some_streams : (at : Around) (cs : List Call) (es : List Expr) (ts : List ValueType) → AreTyped at es (streams ts) → AllByRecursion (IsStreamAt at) (map (beside cs) (filter is_part es))
some_streams at cs [] [] h = tt
some_streams at cs [] (t ∷ ts) h = absurd h
some_streams at cs (e ∷ es) [] h = absurd h
some_streams at cs (e ∷ es) (t ∷ ts) h = either (literal_of e) (some_streams at cs es ts h.1)
  where
    either : (s : Option Scalar) → AllByRecursion (IsStreamAt at) (map (beside cs) (filter is_part es)) → AllByRecursion (IsStreamAt at) (map (beside cs) (cond (is_none s) (e ∷ filter is_part es) (filter is_part es)))
    either (Some s) more = more
    either None more = ((t, h.0), more)

pub operands_are : (items : List tree.Item) (cs : List Call) (at : Around) (es : List Expr) (ts : List ValueType) (parts : List Stream) → AreTyped (standard items cs at) es (streams ts) → HaveTheirTypes (standard items cs at) (expressions_of (map (beside cs) (filter is_part es))) parts → AreOperands (operands es) parts ts
operands_are items cs at [] [] [] h have = tt
operands_are items cs at [] [] (a ∷ parts) h have = absurd have
operands_are items cs at [] (t ∷ ts) parts h have = absurd h
operands_are items cs at (e ∷ es) [] parts h have = absurd h
operands_are items cs at (e ∷ es) (t ∷ ts) parts h have =
    either (literal_of e) parts (λ s is. inner_is (type_of (standard items cs at) e) t _ h.0 (literal_typed items cs at e s is)) have (λ rest. operands_are items cs at es ts rest h.1)
  where
    either : (s : Option Scalar) (parts : List Stream) → ((v : Scalar) → s ≡ Some v → t ≡ value_type.Scalar (scalar_type_of v)) → HaveTheirTypes (standard items cs at) (expressions_of (map (beside cs) (cond (is_none s) (e ∷ filter is_part es) (filter is_part es)))) parts → ((rest : List Stream) → HaveTheirTypes (standard items cs at) (expressions_of (map (beside cs) (filter is_part es))) rest → AreOperands (operands es) rest ts) → AreOperands (operand s ∷ operands es) parts (t ∷ ts)
    either (Some s) parts fixed have more = (fixed s refl, more parts have)
    either None [] fixed have more = absurd have
    either None (a ∷ rest) fixed have more = (inner_is (type_of (standard items cs at) e) t a.of h.0 have.0, more rest have.1)

-- ---- trees of operands
abbrev pub values : List Stream → List ValueKind
values parts = map (λ a. Value a.of) parts

trees_from : (ks : List ValueKind) (k : ℕ) (os : List Operand) (parts : List Stream) (ts : List ValueType) → ((j : ℕ) → slice_get ks (k + j) ≡ slice_get (values parts) j) → AreOperands os parts ts → AreTrees ks (operand_trees k os) ts
trees_from ks k [] [] [] same h = tt
trees_from ks k [] [] (t ∷ ts) same h = absurd h
trees_from ks k [] (a ∷ parts) ts same h = absurd h
trees_from ks k (Fixed s ∷ os) parts [] same h = absurd h
trees_from ks k (Fixed s ∷ os) parts (t ∷ ts) same h = (subst (λ v. HasKind ks (Literal s) (Value v)) (sym h.0) (literal refl), trees_from ks k os parts ts same h.1)
trees_from ks k (Varying ∷ os) [] ts same h = absurd h
trees_from ks k (Varying ∷ os) (a ∷ parts) [] same h = absurd h
trees_from ks k (Varying ∷ os) (a ∷ parts) (t ∷ ts) same h =
    let here : k ≡ k + 0 = omega arith in (
      argument (ap (slice_get ks) here ∙ same 0 ∙ ap (λ v. Some (Value v)) (sym h.0)),
      trees_from ks (suc k) os parts ts (λ j. let next : suc k + j ≡ k + suc j = omega arith in ap (slice_get ks) next ∙ same (suc j)) h.1,
    )

pub trees_are : (os : List Operand) (parts : List Stream) (ts : List ValueType) → AreOperands os parts ts → AreTrees (values parts) (operand_trees 0 os) ts
trees_are os parts ts h = trees_from (values parts) 0 os parts ts (λ j. let here : 0 + j ≡ j = omega arith in ap (slice_get (values parts)) here) h
