-- The equations that an occurrence makes, and its stream, in the order in which they are made: the parts from left to right, and then
-- the construct's own. A name makes none, and stands for the stream of its definition.
use Rattle.std.specs.Prelude.{◌≡◌, ℕ, ◌+◌, Bool, true, false, ◌&&◌, if◌then◌else◌, map, List, [], ◌∷◌, ◌++◌, length, Option}
use Rattle.std.specs.Prelude.{Some, slice_get}
use Rattle.tsl_value.specs.declared.scalar.ValueType.{ValueType}
use Rattle.flat_core.specs.declared.equation.Equation.{Equation}
use Rattle.tsl_value.specs.declared.place.Place.{Place}
use Rattle.tsl_value.specs.Aggregate.{is_aggregate}
use Rattle.flat_core.specs.Typed.{unit_type}
use Rattle.syntax_tree.specs.Tree as tree
use Rattle.syntax_tree.specs.Tree.{Expr, Exprs, no_links, place_of}
use Rattle.syntax_tree.specs.declared.tree.Level.{Level}
use Rattle.name_check.specs.declared.declaration.Declaration.{Declaration}
use Rattle.name_check.specs.declared.declaration.Declaration.TheVariants as declaration
use Rattle.name_check.specs.Builtin.{is_unit, is_called}
use Rattle.name_check.specs.Scope.{meaning}
use Rattle.stream_constructs.specs.declared.construct.Stream.{Stream}
use Rattle.stream_constructs.specs.Construct.{Construct, Operand}
use Rattle.stream_constructs.specs.Construct as construct
use Rattle.stream_constructs.specs.Equations.{own_equations, choice_equations, alias_equation}
use Rattle.stream_constructs.specs.Agree.{last_number, Fits, FitsChoice}
use Rattle.spec_meaning.specs.Occurrence.{Call, Occurrence, body_of, result_of, block_of, scope_at}
use Rattle.spec_meaning.specs.Shape.{Shape, shape, operands, expressions}
use Rattle.type_rules.specs.declared.rule.ExprType.TheVariants as expr_type
use Rattle.type_rules.specs.Written.{value_of}
use Rattle.type_rules.specs.Kinds.{Kinds}

-- Where expressions stand: in the calls around them, the streams of the parameters and of the definitions in the block. What the
-- items of the top are is the same everywhere.
pub record Standing : Type 0 where
  pub calls : List Call
  pub params : List Stream
  pub locals : List Stream

-- the last of some equations, of this type
abbrev pub last_of : ℕ → List Equation → ValueType → Stream
last_of n own of = record { id = last_number n own; of = of }

-- an expression that is only a name, also in a chain of one operand
abbrev pub is_name : Expr → Bool
is_name (tree.Name p n) = if is_unit n then false else true
is_name (tree.Chain p l e no_links) = is_name e
is_name e = false

abbrev pub is_choice : Expr → Bool
is_choice (tree.If p c a b) = true
is_choice e = false

-- the operands of a choice
abbrev pub choice_operands : Expr → List Operand
choice_operands (tree.If p c a b) = operands (c ∷ a ∷ b ∷ [])
choice_operands e = []

-- the streams of a construct's parts, and after those of a delay its own
abbrev pub with_itself : Construct → ℕ → List Stream → List Stream
with_itself construct.Delay n parts = parts ++ record { id = n; of = unit_type } ∷ []
with_itself c n parts = parts

-- a construct with equations of its own; a name and a call of a macro have none
abbrev pub is_own : Construct → Bool
is_own construct.Same = false
is_own (construct.Input k) = false
is_own c = true

-- `nil` is of the type that is written in it
abbrev pub IsAsWritten : Expr → ValueType → Type 0
IsAsWritten (tree.Nil p y) of = value_of y ≡ Some of
IsAsWritten e of = Unit {0}

-- the definitions of the block of item i have the types that are found for them
abbrev pub AreLocals : Kinds → ℕ → List Stream → Type 0
AreLocals kinds i locals = (k : ℕ) (s : Stream) → slice_get locals k ≡ Some s → kinds.local i k ≡ Some (expr_type.Stream s.of)

module _ (items : List tree.Item) (top : ℕ → Stream) where
  -- the stream for which a name stands
  pub data Stands (at : Standing) : Declaration → Stream → Type 0 where
    input : {i : ℕ} → Stands at (declaration.Input i) (top i)
    stream : {i : ℕ} → Stands at (declaration.Stream i) (top i)
    parameter : {k : ℕ} {s : Stream} → slice_get at.params k ≡ Some s → Stands at (declaration.Parameter k) s
    local : {k : ℕ} {s : Stream} → slice_get at.locals k ≡ Some s → Stands at (declaration.Local k) s

  abbrev pub occurrence : Standing → Expr → Occurrence
  occurrence at e = record { calls = at.calls; expr = e }

  -- inside of a call of macro i
  abbrev pub inside_call : Standing → ℕ → Exprs → List Stream → List Stream → Standing
  inside_call at i es params locals = record { calls = record { item = i; arguments = es } ∷ at.calls; params = params; locals = locals }

-- where the declared names are of these types
module _ (items : List tree.Item) (kinds : Kinds) (top : ℕ → Stream) where
  mutual
    -- Where n equations are made, an expression makes these, and its stream is this.
    pub data Makes : Standing → Expr → ℕ → List Equation → Stream → Type 0 where
      -- NAME makes nothing
      name :
          {at : Standing} {p : Place} {x : List ℕ} {n : ℕ} {s : Stream} (d : Declaration) →
          is_unit x ≡ false →
          meaning (scope_at items at.calls) x ≡ Some d →
          Stands items top at d s →
          Makes at (tree.Name p x) n [] s
      -- e , as a chain of one operand, makes what e makes
      chain :
          {at : Standing} {p : Place} {l : Level} {e : Expr} {n : ℕ} {made : List Equation} {s : Stream} →
          Makes at e n made s →
          Makes at (tree.Chain p l e no_links) n made s
      -- CONSTRUCT ( a , .. ) makes what its parts make, and then its own
      own :
          {at : Standing} {e : Expr} {n : ℕ} (sh : Shape) (parts : List Stream) (before after : List Equation) {of : ValueType}
          {made : List Equation} {s : Stream} →
          shape items (occurrence items top at e) ≡ Some sh →
          is_own sh.construct ≡ true →
          (is_choice e && is_aggregate of) ≡ false →
          MakesAll at (map (λ o. o.expr) sh.parts) n before parts →
          IsAsWritten e of →
          Fits sh.construct (with_itself sh.construct (n + length before) parts) of →
          after ≡ own_equations (place_of e) of (n + length before) sh.construct (with_itself sh.construct (n + length before) parts) →
          made ≡ before ++ after →
          s ≡ last_of (n + length before) after of →
          Makes at e n made s
      -- if c then a else b , of sets or maps, makes what its parts make, and then the choice
      choice :
          {at : Standing} {e : Expr} {n : ℕ} (sh : Shape) (parts : List Stream) (before after : List Equation) {of : ValueType}
          {made : List Equation} {s : Stream} →
          shape items (occurrence items top at e) ≡ Some sh →
          (is_choice e && is_aggregate of) ≡ true →
          MakesAll at (map (λ o. o.expr) sh.parts) n before parts →
          FitsChoice (choice_operands e) parts of →
          after ≡ choice_equations (place_of e) of (n + length before) (choice_operands e) parts →
          made ≡ before ++ after →
          s ≡ last_of (n + length before) after of →
          Makes at e n made s
      -- the arguments, then the definitions of the block, then the result; each call makes its own
      -- MACRO ( e , .. ) , where the macro's body is { def .. r } or r
      call :
          {at : Standing} {p : Place} {x : List ℕ} {es : Exprs} {n : ℕ} (i : ℕ) (params locals : List Stream) (b : tree.Body)
          (before block after : List Equation) {made : List Equation} {s : Stream} →
          is_called x ≡ false →
          meaning (scope_at items at.calls) x ≡ Some (declaration.Macro i) →
          body_of (slice_get items i) ≡ Some b →
          MakesAll at (expressions es) n before params →
          AreLocals kinds i locals →
          MakesBlock (inside_call items top at i es params locals) (block_of (Some b)) (n + length before) block locals →
          MakesBody (inside_call items top at i es params locals) (result_of b) (n + length before + length block) after s →
          made ≡ before ++ block ++ after →
          Makes at (tree.Call p x es) n made s

    pub data MakesAll : Standing → List Expr → ℕ → List Equation → List Stream → Type 0 where
      no_part : {at : Standing} {n : ℕ} → MakesAll at [] n [] []
      -- e makes the first, and es the rest
      part :
          {at : Standing} {e : Expr} {es : List Expr} {n : ℕ} (first rest : List Equation) {made : List Equation} {s : Stream}
          {ss : List Stream} →
          Makes at e n first s →
          MakesAll at es (n + length first) rest ss →
          made ≡ first ++ rest →
          MakesAll at (e ∷ es) n made (s ∷ ss)

    -- A body that is only a name makes the merge of its stream with itself.
    pub data MakesBody : Standing → Expr → ℕ → List Equation → Stream → Type 0 where
      -- e that is no name makes what it makes elsewhere
      plain :
          {at : Standing} {e : Expr} {n : ℕ} {made : List Equation} {s : Stream} →
          is_name e ≡ false →
          Makes at e n made s →
          MakesBody at e n made s
      -- NAME makes %n := Merge %a %a , where %a is its stream
      alias :
          {at : Standing} {e : Expr} {n : ℕ} {made : List Equation} {s : Stream} (a : Stream) →
          is_name e ≡ true →
          Makes at e n [] a →
          made ≡ alias_equation (place_of e) a ∷ [] →
          s ≡ record { id = n; of = a.of } →
          MakesBody at e n made s

    pub data MakesBlock : Standing → tree.Definitions → ℕ → List Equation → List Stream → Type 0 where
      no_definition : {at : Standing} {n : ℕ} → MakesBlock at tree.no_definitions n [] []
      -- def NAME := b makes the first, and the definitions after it the rest
      definition :
          {at : Standing} {q : Place} {x : List ℕ} {ps : List tree.Param} {w : Option tree.TypeName} {b : tree.Body} {ds : tree.Definitions}
          {n : ℕ} (first rest : List Equation) {made : List Equation} {s : Stream} {ss : List Stream} →
          MakesBody at (result_of b) n first s →
          MakesBlock at ds (n + length first) rest ss →
          made ≡ first ++ rest →
          MakesBlock at (tree.more_definitions (tree.Define q x ps w b) ds) n made (s ∷ ss)
