-- Constructs fit their parts where expressions are typed.
use Rattle.std.specs.Prelude.{◌≡◌, ℕ, true, false, ◌&&◌, List, map, Some, slice_get}
use Rattle.std.specs.List.{AllByRecursion}
use Rattle.tsl_value.specs.declared.place.Place.{Place}
use Rattle.tsl_value.specs.declared.scalar.ValueType.{ValueType}
use Rattle.tsl_value.specs.Aggregate.{is_aggregate}
use Rattle.syntax_tree.specs.Tree as tree
use Rattle.syntax_tree.specs.Tree.{Expr, Exprs}
use Rattle.name_check.specs.declared.declaration.Declaration.{Declaration}
use Rattle.name_check.specs.declared.declaration.Declaration.TheVariants as declaration
use Rattle.name_check.specs.Builtin.{is_unit, is_called}
use Rattle.name_check.specs.Scope.{meaning}
use Rattle.type_rules.specs.declared.rule.ExprType.TheVariants as expr_type
use Rattle.expr_types.specs.Around.{Around}
use Rattle.syntax_tree.specs.Tree.{params_of}
use Rattle.expr_types.specs.Judge.{type_of}
use Rattle.expr_types.specs.Bodies.{in_definition, within_block}
use Rattle.stream_constructs.specs.declared.construct.Stream.{Stream}
use Rattle.stream_constructs.specs.Agree.{Fits, FitsChoice}
use Rattle.spec_meaning.specs.Occurrence.{body_of, block_of}
use Rattle.spec_meaning.specs.Shape.{Shape, shape, expressions}
use Rattle.spec_meaning.specs.Makes.{Standing, Stands, occurrence, inside_call, is_own, is_choice, choice_operands, with_itself}
use Rattle.spec_meaning.specs.Makes.{IsAsWritten, AreLocals}
use Rattle.checked_spec.specs.inner.Matches.{Matches, IsTypedAt, HaveTheirTypes}

-- the parts of a typed stream are streams
abbrev pub PartsAreTyped : Type 0
PartsAreTyped =
    (items : List tree.Item) (top : ℕ → Stream) (at : Around) (st : Standing) (e : Expr) (t : ValueType) (sh : Shape) →
    IsTypedAt items top at st e t →
    shape items (occurrence items top st e) ≡ Some sh →
    is_own sh.construct ≡ true →
    AllByRecursion (λ o. (u : ValueType) × (type_of at o.expr ≡ Some (expr_type.Stream u))) sh.parts

-- its construct fits their streams, whatever number it gets
abbrev pub ConstructsFit : Type 0
ConstructsFit =
    (items : List tree.Item) (top : ℕ → Stream) (at : Around) (st : Standing) (e : Expr) (t : ValueType) (sh : Shape) (parts : List Stream)
    (n : ℕ) →
    IsTypedAt items top at st e t →
    shape items (occurrence items top st e) ≡ Some sh →
    is_own sh.construct ≡ true →
    HaveTheirTypes at (map (λ o. o.expr) sh.parts) parts →
    (is_choice e && is_aggregate t) ≡ false →
    Fits sh.construct (with_itself sh.construct n parts) t × IsAsWritten e t

-- and so does a choice between sets or maps
abbrev pub ChoicesFit : Type 0
ChoicesFit =
    (items : List tree.Item) (top : ℕ → Stream) (at : Around) (st : Standing) (e : Expr) (t : ValueType) (sh : Shape)
    (parts : List Stream) →
    IsTypedAt items top at st e t →
    shape items (occurrence items top st e) ≡ Some sh →
    HaveTheirTypes at (map (λ o. o.expr) sh.parts) parts →
    (is_choice e && is_aggregate t) ≡ true →
    FitsChoice (choice_operands e) parts t

-- a name is of the type of the stream for which it stands
abbrev pub NamesAreTyped : Type 0
NamesAreTyped =
    (items : List tree.Item) (top : ℕ → Stream) (at : Around) (st : Standing) (p : Place) (x : List ℕ) (d : Declaration) (s : Stream) →
    Matches items top at st →
    is_unit x ≡ false →
    meaning at.scope x ≡ Some d →
    Stands items top st d s →
    type_of at (tree.Name p x) ≡ Some (expr_type.Stream s.of)

-- a call of a macro is of the type of its item, and what stands inside of it is typed as the body of the item is
pub record IsTypedCall (items : List tree.Item) (top : ℕ → Stream) (at : Around) (st : Standing) (i : ℕ) (es : Exprs) (b : tree.Body)
    (t : ValueType) (params locals : List Stream) : Type 0 where
  pub result : at.kinds.item i ≡ Some (expr_type.Stream t)
  pub inside :
      Matches items top (within_block (in_definition items at.kinds i (params_of (slice_get items i))) (block_of (Some b)))
      (inside_call items top st i es params locals)

abbrev pub CallsAreTyped : Type 0
CallsAreTyped =
    (items : List tree.Item) (top : ℕ → Stream) (at : Around) (st : Standing) (p : Place) (x : List ℕ) (es : Exprs) (t : ValueType) (i : ℕ)
    (b : tree.Body) (params locals : List Stream) →
    IsTypedAt items top at st (tree.Call p x es) t →
    is_called x ≡ false →
    meaning at.scope x ≡ Some (declaration.Macro i) →
    body_of (slice_get items i) ≡ Some b →
    HaveTheirTypes at (expressions es) params →
    AreLocals at.kinds i locals →
    IsTypedCall items top at st i es b t params locals
