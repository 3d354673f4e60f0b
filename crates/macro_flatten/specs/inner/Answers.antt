-- What the functions of the flattening ask, and what they answer.
use Rattle.std.specs.Prelude.{◌≡◌, ℕ, suc, ◌+◌, ◌-◌, ◌<◌, true, false, min, List, [], ◌∷◌, ◌++◌, length, map, Some, Result, Ok, Err, Vec}
use Rattle.std.specs.Prelude.{slice_get}
use Rattle.std.specs.List.{flat_map}
use Rattle.tsl_value.specs.declared.place.Place.{Place}
use Rattle.tsl_value.specs.declared.scalar.ValueType.{ValueType}
use Rattle.flat_core.specs.declared.equation.Equation.{Equation}
use Rattle.flat_core.specs.System.{System}
use Rattle.syntax_tree.specs.Tree as tree
use Rattle.syntax_tree.specs.Tree.{Expr, Exprs}
use Rattle.syntax_tree.specs.Counts.{HasFewInside}
use Rattle.syntax_tree.specs.inner.OneLevel.{body_of, definition_of}
use Rattle.syntax_tree.specs.declared.tree.DefinitionParts.{DefinitionParts}
use Rattle.name_check.specs.declared.declaration.Declaration.TheVariants as declaration
use Rattle.name_check.specs.Builtin.{is_called, is_unit}
use Rattle.name_check.specs.Scope.{meaning}
use Rattle.name_check.specs.inner.Steps.{local_body}
use Rattle.type_rules.specs.declared.rule.ExprType.TheVariants as expr_type
use Rattle.expr_types.specs.Around.{Around}
use Rattle.type_rules.specs.Kinds.{Kinds}
use Rattle.expr_types.specs.Judge.{type_of}
use Rattle.stream_constructs.specs.declared.construct.Stream.{Stream}
use Rattle.stream_constructs.specs.declared.maker.MakeFault.{MakeFault}
use Rattle.stream_constructs.specs.Made.{with_equations}
use Rattle.spec_meaning.specs.Occurrence.{block_of, local, result_of}
use Rattle.spec_meaning.specs.Shape.{Shape, shape}
use Rattle.spec_meaning.specs.Makes.{AreLocals, MakesAll, MakesBlock, MakesBody, inside_call, is_own, occurrence}
use Rattle.checked_spec.specs.inner.Matches.{HaveTheirTypes}
use Rattle.equation_marks.specs.Marks.{Mark, block_marks, body_marks, macro_marks, mark_of, marks}
use Rattle.equation_marks.specs.Refused.{AreRefused}
use Rattle.equation_marks.specs.declared.own.TheConstants.{ENOUGH}
use Rattle.stream_shapes.specs.inner.Shape.{is_chain}
use Rattle.macro_flatten.specs.declared.context.Context.{Context}
use Rattle.macro_flatten.specs.declared.context.Here.{Here}
use Rattle.macro_flatten.specs.inner.Here.{Entry, IsEntered, IsHere, MayMakeAll, MayMakeAt, Site}
use Rattle.macro_flatten.specs.inner.Making.{IsMade}

-- the marks of what a call makes there
abbrev pub marks_called : Site → ℕ → ℕ → List Mark
marks_called site deep = macro_marks site.items site.kinds deep

abbrev pub marks_at : Site → ℕ → Expr → List Mark
marks_at site deep e = marks site.at (marks_called site deep) e

-- after the equations of a system these would pass the limits so
abbrev pub IsRefusedAfter : System → List Mark → MakeFault → Type 0
IsRefusedAfter old ms fault = AreRefused (map mark_of old.equations ++ ms) fault

-- ---- an expression
abbrev pub IsMadeAt : Site → ℕ → Expr → System → System → Stream → Type 0
IsMadeAt site deep e old new s = IsMade site.items site.kinds site.top site.at site.st deep e old new s

abbrev pub IsAnswer : Site → ℕ → Expr → System → System → Result Stream MakeFault → Type 0
IsAnswer site deep e old new (Ok s) = IsMadeAt site deep e old new s
IsAnswer site deep e old new (Err f) = IsRefusedAfter old (marks_at site deep e) f

-- it may be made here
pub record CanMake (context : Context) (here : Here) (e : Expr) : Type 0 where
  pub site : Site
  pub is_here : IsHere context here site
  pub may : MayMakeAt site here.deep e

-- it is made, or refused
pub record IsExpression (context : Context) (here : Here) (e : Expr) (old new : System) (result : Result Stream MakeFault) : Type 0 where
  pub at : (site : Site) → IsHere context here site → MayMakeAt site here.deep e → IsAnswer site here.deep e old new result

-- ---- names
pub record CanName (context : Context) (here : Here) (x : List ℕ) : Type 0 where
  pub place : Place
  pub other : is_unit x ≡ false
  pub can : CanMake context here (tree.Name place x)

pub record IsNamed (context : Context) (here : Here) (x : List ℕ) (result : Result Stream MakeFault) : Type 0 where
  pub at :
      (site : Site) (p : Place) (system : System) →
      is_unit x ≡ false →
      IsHere context here site →
      MayMakeAt site here.deep (tree.Name p x) →
      IsAnswer site here.deep (tree.Name p x) system system result

-- ---- constructs
-- the type of its events
pub record IsTypeOf (context : Context) (here : Here) (e : Expr) (t : ValueType) : Type 0 where
  pub at : (site : Site) → IsHere context here site → MayMakeAt site here.deep e → type_of site.at e ≡ Some (expr_type.Stream t)

-- an expression with equations of its own
pub record IsConstruct (site : Site) (e : Expr) : Type 0 where
  pub sh : Shape
  pub is : shape site.items (occurrence site.items site.top site.st e) ≡ Some sh
  pub own : is_own sh.construct ≡ true
  pub no_chain : is_chain e ≡ false

pub record CanConstruct (context : Context) (here : Here) (e : Expr) : Type 0 where
  pub site : Site
  pub is_here : IsHere context here site
  pub may : MayMakeAt site here.deep e
  pub construct : IsConstruct site e

pub record IsConstructed (context : Context) (here : Here) (e : Expr) (old new : System) (result : Result Stream MakeFault) : Type 0 where
  pub at :
      (site : Site) →
      IsHere context here site →
      MayMakeAt site here.deep e →
      IsConstruct site e →
      IsAnswer site here.deep e old new result

-- ---- expressions, one after the other
abbrev pub marks_all : Site → ℕ → List Expr → List Mark
marks_all site deep es = flat_map (marks_at site deep) es

pub record AreMade (site : Site) (deep : ℕ) (es : List Expr) (old new : System) (ss : List Stream) : Type 0 where
  pub made : List Equation
  pub new_is : new ≡ with_equations old made
  pub makes : MakesAll site.items site.kinds site.top site.st es (length old.equations) made ss
  pub marks_are : map mark_of made ≡ marks_all site deep es
  pub typed : HaveTheirTypes site.at es ss

abbrev pub AreAnswers : {Z : Type 0} → Site → ℕ → List Expr → System → System → Result (Vec Stream Z) MakeFault → Type 0
AreAnswers site deep es old new (Ok ss) = AreMade site deep es old new ss.items
AreAnswers site deep es old new (Err f) = IsRefusedAfter old (marks_all site deep es) f

pub record CanMakeAll (context : Context) (here : Here) (es : List Expr) : Type 0 where
  pub site : Site
  pub is_here : IsHere context here site
  pub may : MayMakeAll site here.deep es

pub record AreExpressions {Z : Type 0} (context : Context) (here : Here) (es : List Expr) (old new : System)
    (result : Result (Vec Stream Z) MakeFault) : Type 0 where
  pub at : (site : Site) → IsHere context here site → MayMakeAll site here.deep es → AreAnswers site here.deep es old new result

-- ---- bodies
pub record IsBodyMade (site : Site) (deep : ℕ) (e : Expr) (old new : System) (s : Stream) : Type 0 where
  pub made : List Equation
  pub new_is : new ≡ with_equations old made
  pub makes : MakesBody site.items site.kinds site.top site.st e (length old.equations) made s
  pub marks_are : map mark_of made ≡ body_marks site.at (marks_called site deep) e
  pub of_is : type_of site.at e ≡ Some (expr_type.Stream s.of)

abbrev pub IsBodyAnswer : Site → ℕ → Expr → System → System → Result Stream MakeFault → Type 0
IsBodyAnswer site deep e old new (Ok s) = IsBodyMade site deep e old new s
IsBodyAnswer site deep e old new (Err f) = IsRefusedAfter old (body_marks site.at (marks_called site deep) e) f

pub record IsBody (context : Context) (here : Here) (e : Expr) (old new : System) (result : Result Stream MakeFault) : Type 0 where
  pub at : (site : Site) → IsHere context here site → MayMakeAt site here.deep e → IsBodyAnswer site here.deep e old new result

-- ---- calls of macros
-- a call of the macro of item i
pub record IsCall (site : Site) (deep : ℕ) (p : Place) (x : List ℕ) (es : Exprs) (i : ℕ) : Type 0 where
  pub may : MayMakeAt site deep (tree.Call p x es)
  pub other : is_called x ≡ false
  pub calls : meaning site.at.scope x ≡ Some (declaration.Macro i)

pub record CanCall (context : Context) (here : Here) (i : ℕ) (es : Exprs) : Type 0 where
  pub site : Site
  pub place : Place
  pub name : List ℕ
  pub is_here : IsHere context here site
  pub call : IsCall site here.deep place name es i

pub record IsCalled (context : Context) (here : Here) (i : ℕ) (es : Exprs) (old new : System)
    (result : Result Stream MakeFault) : Type 0 where
  pub at :
      (site : Site) (p : Place) (x : List ℕ) →
      IsHere context here site →
      IsCall site here.deep p x es i →
      IsAnswer site here.deep (tree.Call p x es) old new result

-- ---- the block and the result of a macro
-- item i is this definition
pub record IsDefinedAt (items : List tree.Item) (i : ℕ) (d : DefinitionParts) : Type 0 where
  pub place : Place
  pub is : slice_get items i ≡ Some (tree.Defined place (definition_of d))
  pub few : HasFewInside (body_of d.body)

pub record CanEnter (context : Context) (i : ℕ) (d : tree.Definition) (params : List Stream) (deep : ℕ) : Type 0 where
  pub entry : Entry
  pub place : Place
  pub is_item : slice_get entry.items i ≡ Some (tree.Defined place d)
  pub entered : IsEntered context i params deep entry
  pub few : HasFewInside (local_body d)

-- the equations of the block and then those of the result
pub record IsMacroMade (entry : Entry) (i : ℕ) (b : tree.Body) (params : List Stream) (deep : ℕ) (old new : System)
    (s : Stream) : Type 0 where
  pub locals : List Stream
  pub block : List Equation
  pub after : List Equation
  pub new_is : new ≡ with_equations old (block ++ after)
  pub are_locals : AreLocals entry.kinds i locals
  pub makes_block :
      MakesBlock entry.items entry.kinds entry.top (inside_call entry.items entry.top entry.st i entry.arguments params locals)
      (block_of (Some b)) (length old.equations) block locals
  pub makes_result :
      MakesBody entry.items entry.kinds entry.top (inside_call entry.items entry.top entry.st i entry.arguments params locals) (result_of b)
      (length old.equations + length block) after s
  pub marks_are : map mark_of (block ++ after) ≡ macro_marks entry.items entry.kinds (suc deep) i
  pub of_is : entry.kinds.item i ≡ Some (expr_type.Stream s.of)

abbrev pub IsMacroAnswer : Entry → ℕ → tree.Body → List Stream → ℕ → System → System → Result Stream MakeFault → Type 0
IsMacroAnswer entry i b params deep old new (Ok s) = IsMacroMade entry i b params deep old new s
IsMacroAnswer entry i b params deep old new (Err f) = IsRefusedAfter old (macro_marks entry.items entry.kinds (suc deep) i) f

pub record IsInside (context : Context) (i : ℕ) (d : tree.Definition) (params : List Stream) (deep : ℕ) (old new : System)
    (result : Result Stream MakeFault) : Type 0 where
  pub at :
      (entry : Entry) (p : Place) →
      slice_get entry.items i ≡ Some (tree.Defined p d) →
      IsEntered context i params deep entry →
      IsMacroAnswer entry i (local_body d) params deep old new result

-- ---- the definitions of a block
-- The streams of definitions, where n equations are made and the first has number k: each is the last of its equations, whose numbers
-- are counted so.
module _ (counted : ℕ → ℕ) (at : Around) (call : ℕ → List Mark) where
  abbrev pub AreNumbered : ℕ → ℕ → tree.Definitions → List Stream → Type 0
  AreNumbered k n tree.no_definitions [] = Unit {0}
  AreNumbered k n (tree.more_definitions d ds) (s ∷ ss) =
      let next : ℕ = counted (n + length (body_marks at call (result_of (local_body d)))) in
      (s.id ≡ next - 1) × (at.kinds.local at.number k ≡ Some (expr_type.Stream s.of)) × AreNumbered (suc k) next ds ss
  AreNumbered k n ds ss = ⊥

-- no further than one more than any system has
abbrev pub to_enough : ℕ → ℕ
to_enough n = min n ENOUGH

abbrev pub exactly : ℕ → ℕ
exactly n = n

-- the definitions of a block are streams
pub record AreStreams (kinds : Kinds) (i : ℕ) (count : ℕ) : Type 0 where
  pub each : (k : ℕ) → k < count → (t : ValueType) × (kinds.local i k ≡ Some (expr_type.Stream t))

pub record MayMakeBlock (site : Site) (deep : ℕ) (ds : tree.Definitions) : Type 0 where
  pub each : (k : ℕ) (b : tree.Body) → local k ds ≡ Some b → MayMakeAt site deep (result_of b)
  pub kinds : (k : ℕ) (b : tree.Body) → local k ds ≡ Some b → type_of site.at (result_of b) ≡ site.at.kinds.local site.at.number k

pub record CanMakeBlock (context : Context) (here : Here) (ds : tree.Definitions) : Type 0 where
  pub site : Site
  pub is_here : IsHere context here site
  pub may : MayMakeBlock site here.deep ds

-- those from number k on
pub record IsBlockMade (site : Site) (deep k : ℕ) (ds : tree.Definitions) (old new : System) : Type 0 where
  pub streams : List Stream
  pub made : List Equation
  pub new_is : new ≡ with_equations old made
  pub makes : MakesBlock site.items site.kinds site.top site.st ds (length old.equations) made streams
  pub marks_are : map mark_of made ≡ block_marks site.at (marks_called site deep) ds
  pub numbered : AreNumbered exactly site.at (marks_called site deep) k (length old.equations) ds streams

abbrev pub IsBlockAnswer : Site → ℕ → ℕ → tree.Definitions → System → System → Result (Unit {0}) MakeFault → Type 0
IsBlockAnswer site deep k ds old new (Ok u) = IsBlockMade site deep k ds old new
IsBlockAnswer site deep k ds old new (Err f) = IsRefusedAfter old (block_marks site.at (marks_called site deep) ds) f

pub record IsBlock (context : Context) (here : Here) (ds : tree.Definitions) (old new : System)
    (result : Result (Unit {0}) MakeFault) : Type 0 where
  pub at : (site : Site) → IsHere context here site → MayMakeBlock site here.deep ds → IsBlockAnswer site here.deep 0 ds old new result
