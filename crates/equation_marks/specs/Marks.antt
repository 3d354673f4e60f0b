-- The equations that a specification makes, without numbers: of each its place and whether it is an update, in the order of making.
use Rattle.std.specs.Prelude.{ℕ, zero, suc, Bool, true, false, if◌then◌else◌, List, [], ◌∷◌, ◌++◌, map, drop, length, replicate, slice_get}
use Rattle.std.specs.Prelude.{Option, Some, None}
use Rattle.std.specs.List.{filter, flat_map}
use Rattle.tsl_value.specs.declared.place.Place.{Place}
use Rattle.tsl_value.specs.declared.scalar.Scalar.{Scalar}
use Rattle.tsl_value.specs.declared.scalar.Scalar.TheVariants as scalar
use Rattle.flat_core.specs.declared.equation.Equation.{Equation}
use Rattle.tsl_value.specs.Aggregate.{is_aggregate}
use Rattle.flat_core.specs.Typed.{unit_type}
use Rattle.syntax_tree.specs.Tree as tree
use Rattle.syntax_tree.specs.Tree.{Expr, Exprs, no_exprs, more_exprs, Links, no_links, more_links, place_of}
use Rattle.vocabulary.specs.declared.dotted.Dotted.{Dotted}
use Rattle.vocabulary.specs.declared.signature.Role.{Role}
use Rattle.vocabulary.specs.declared.signature.Role.TheVariants as role
use Rattle.vocabulary.specs.Table.{role_of}
use Rattle.name_check.specs.declared.declaration.Declaration.{Declaration}
use Rattle.name_check.specs.declared.declaration.Declaration.TheVariants as declaration
use Rattle.name_check.specs.Builtin.{is_unit, is_lift}
use Rattle.name_check.specs.Scope.{meaning}
use Rattle.type_rules.specs.declared.rule.ExprType.{ExprType}
use Rattle.type_rules.specs.declared.rule.ExprType.TheVariants as expr_type
use Rattle.expr_types.specs.Around.{Around}
use Rattle.type_rules.specs.Kinds.{Kinds}
use Rattle.expr_types.specs.Bodies.{in_definition, at_top}
use Rattle.expr_types.specs.Judge.{type_of}
use Rattle.stream_constructs.specs.declared.construct.Stream.{Stream}
use Rattle.tsl_value.specs.declared.operation.Update.{Update as UpdateOp}
use Rattle.flat_core.specs.Updates.{is_update}
use Rattle.stream_constructs.specs.Construct.{Construct, Operand}
use Rattle.stream_constructs.specs.Construct as construct
use Rattle.stream_constructs.specs.Equations.{own_equations, choice_equations, alias_equation}
use Rattle.stream_constructs.specs.Made.{input_equation}
use Rattle.spec_meaning.specs.Function.{literal, no_tree}
use Rattle.spec_meaning.specs.Occurrence.{result_of, block_of, body_of}
use Rattle.spec_meaning.specs.Shape.{is_part, operands, expressions, plain_name, is_delay, is_const, is_filter}
use Rattle.spec_meaning.specs.Makes.{is_name}
use Rattle.checked_spec.specs.Laws.{in_macro}
use Rattle.definition_cycles.specs.declared.limits.TheConstants.{MOST_CALLS}

pub record Mark : Type 0 where
  pub place : Place
  pub is_update : Bool

abbrev pub mark_of : Equation → Mark
mark_of e = record { place = e.place; is_update = is_update e.op }

-- ---- the equations that a construct makes besides those of its parts
-- So many streams. What numbers and types the parts have tells on no mark.
abbrev pub any_streams : ℕ → List Stream
any_streams k = replicate k (record { id = 0; of = unit_type })

-- How many parts a construct has, with the delay itself among those of a delay. Lifts and updates have as many as are given.
abbrev pub part_count : Construct → ℕ → ℕ
part_count construct.Time k = 1
part_count construct.Last k = 2
part_count construct.Delay k = 3
part_count construct.Merge k = 2
part_count (construct.Const s) k = 1
part_count construct.Filter k = 2
part_count (construct.FilterBy b) k = 1
part_count (construct.Lift f) k = k
part_count (construct.Signal f) k = k
part_count (construct.Update o os) k = k
part_count c k = 0

-- the image of its own equations
abbrev pub own_marks : Place → Construct → ℕ → List Mark
own_marks p c k = map mark_of (own_equations p unit_type 0 c (any_streams (part_count c k)))

-- that of the equations of a choice between sets or maps with so many parts
abbrev pub choice_own_marks : Place → ℕ → List Operand → List Mark
choice_own_marks p k os = map mark_of (choice_equations p unit_type 0 os (any_streams k))

-- and that of a definition that is only a name
abbrev pub alias_own_marks : Place → List Mark
alias_own_marks p = map mark_of (alias_equation p (record { id = 0; of = unit_type }) ∷ [])

-- ---- those of constructs as they are written; which literal it is, and which function, tells on no mark
abbrev pub literal_marks : Place → List Mark
literal_marks p = own_marks p (construct.Literal scalar.Unit) 0

-- the operands that are no literals are the parts
abbrev pub varying_count : List Expr → ℕ
varying_count es = length (filter is_part es)

abbrev pub signal_marks : Place → List Expr → List Mark
signal_marks p es = own_marks p (construct.Signal no_tree) (varying_count es)

abbrev pub update_marks : Place → UpdateOp → List Expr → List Mark
update_marks p o es = own_marks p (construct.Update o (operands es)) (varying_count es)

-- an operand that is a literal makes nothing itself
abbrev pub unless_literal : Expr → List Mark → List Mark
unless_literal e ms = if is_part e then ms else []

abbrev pub operands_marks : List Expr → List (List Mark) → List Mark
operands_marks (e ∷ es) (ms ∷ each) = unless_literal e ms ++ operands_marks es each
operands_marks es each = []

abbrev pub joined : List (List Mark) → List Mark
joined each = flat_map (λ ms. ms) each

abbrev pub all_but_last : List (List Mark) → List (List Mark)
all_but_last [] = []
all_but_last (ms ∷ []) = []
all_but_last (ms ∷ ns ∷ each) = ms ∷ all_but_last (ns ∷ each)

-- a filter by a literal, and by a stream
abbrev pub filter_marks_by : Place → Option Scalar → List (List Mark) → List Mark
filter_marks_by p (Some (scalar.Bool b)) (ms ∷ each) = ms ++ own_marks p (construct.FilterBy b) 1
filter_marks_by p s each = joined each ++ own_marks p construct.Filter 2

abbrev pub filter_marks : Place → List Expr → List (List Mark) → List Mark
filter_marks p (e ∷ c ∷ []) each = filter_marks_by p (literal c) each
filter_marks p es each = []

-- a set or a map
abbrev pub holds_aggregate : Option ExprType → Bool
holds_aggregate (Some (expr_type.Stream t)) = is_aggregate t
holds_aggregate t = false

-- ---- expressions, where they stand, and where macro i makes these besides its arguments
module _ (at : Around) (call : ℕ → List Mark) where
  abbrev pub declared_marks : Place → Option Declaration → List Expr → List (List Mark) → List Mark
  declared_marks p (Some (declaration.Macro i)) es each = joined each ++ call i
  declared_marks p (Some (declaration.Function i)) es each = operands_marks es each ++ signal_marks p es
  declared_marks p d es each = []

  abbrev pub named_marks : Place → List ℕ → List Expr → List (List Mark) → Option Construct → List Mark
  named_marks p n es each (Some c) = joined each ++ own_marks p c (length es)
  named_marks p n es each None =
      if is_delay n then joined each ++ own_marks p construct.Delay (length es)
      else if is_const n then joined (drop 1 each) ++ own_marks p (construct.Const scalar.Unit) 1
      else if is_filter n then filter_marks p es each
      else if is_lift n then joined (all_but_last each) ++ own_marks p (construct.Lift no_tree) (length (all_but_last each))
      else declared_marks p (meaning at.scope n) es each

  abbrev pub role_marks : Place → Role → List Expr → List (List Mark) → List Mark
  role_marks p (role.Update o) es each = operands_marks es each ++ update_marks p o es
  role_marks p r es each = operands_marks es each ++ signal_marks p es

  abbrev pub dotted_marks : Place → Dotted → List Expr → List (List Mark) → List Mark
  dotted_marks p d es each = role_marks p (role_of d) es each

  -- a choice between sets or maps is an operation of its own, another is a signal lift
  abbrev pub choice_marks : Place → Bool → List Expr → List Mark
  choice_marks p true es = choice_own_marks p (varying_count es) (operands es)
  choice_marks p false es = signal_marks p es

  abbrev mutual
    pub marks : Expr → List Mark
    marks (tree.If p c a b) =
        unless_literal c (marks c) ++ unless_literal a (marks a) ++ unless_literal b (marks b)
        ++ choice_marks p (holds_aggregate (type_of at (tree.If p c a b))) (c ∷ a ∷ b ∷ [])
    marks (tree.Chain p l e no_links) = marks e
    marks (tree.Chain p l e (more_links o f ls)) =
        unless_literal e (marks e) ++ unless_literal f (marks f) ++ signal_marks p (e ∷ f ∷ []) ++ link_marks p ls
    marks (tree.Compare p o a b) = unless_literal a (marks a) ++ unless_literal b (marks b) ++ signal_marks p (a ∷ b ∷ [])
    marks (tree.Negate p e) = unless_literal e (marks e) ++ signal_marks p (e ∷ [])
    marks (tree.Not p e) = unless_literal e (marks e) ++ signal_marks p (e ∷ [])
    marks (tree.Number p n) = literal_marks p
    marks (tree.Negative p n) = literal_marks p
    marks (tree.Text p t) = literal_marks p
    marks (tree.Boolean p b) = literal_marks p
    marks (tree.Unit p) = own_marks p construct.Unit 0
    marks (tree.Name p n) = if is_unit n then own_marks p construct.Unit 0 else []
    marks (tree.Call p n es) = named_marks p n (expressions es) (each_marks es) (plain_name n)
    marks (tree.CallDotted p d es) = dotted_marks p d (expressions es) (each_marks es)
    marks (tree.Nil p y) = own_marks p construct.Nil 0
    marks (tree.None p y) = []
    marks (tree.Empty p a) = own_marks p (construct.Empty unit_type) 0

    pub each_marks : Exprs → List (List Mark)
    each_marks no_exprs = []
    each_marks (more_exprs e es) = marks e ∷ each_marks es

    -- further links of a chain at this place: on the left of each stands a stream
    pub link_marks : Place → Links → List Mark
    link_marks p no_links = []
    link_marks p (more_links o f ls) =
        unless_literal f (marks f) ++ own_marks p (construct.Signal no_tree) (suc (varying_count (f ∷ []))) ++ link_marks p ls

  -- a body that is only a name makes the merge of its stream with itself
  abbrev pub body_marks : Expr → List Mark
  body_marks e = if is_name e then alias_own_marks (place_of e) else marks e

  abbrev pub block_marks : tree.Definitions → List Mark
  block_marks tree.no_definitions = []
  block_marks (tree.more_definitions (tree.Define q x ps w b) ds) = body_marks (result_of b) ++ block_marks ds

-- ---- a whole specification
module _ (items : List tree.Item) (kinds : Kinds) where
  -- what a call of macro i makes besides its arguments, where calls nest no deeper than the number says
  abbrev pub macro_body_marks : (ℕ → List Mark) → ℕ → Option tree.Body → List Mark
  macro_body_marks call i None = []
  macro_body_marks call i (Some b) =
      block_marks (in_macro items kinds i) call (block_of (Some b)) ++ body_marks (in_macro items kinds i) call (result_of b)

  abbrev pub macro_marks : ℕ → ℕ → List Mark
  macro_marks zero i = []
  macro_marks (suc deep) i = macro_body_marks (macro_marks deep) i (body_of (slice_get items i))

  abbrev pub input_marks : List tree.Item → List Mark
  input_marks [] = []
  input_marks (tree.Input p q x y ∷ rest) = mark_of (input_equation q x unit_type) ∷ input_marks rest
  input_marks (item ∷ rest) = input_marks rest

  -- the definitions without parameters; the first item has number i
  abbrev pub stream_marks : ℕ → List tree.Item → List Mark
  stream_marks i [] = []
  stream_marks i (tree.Defined p (tree.Define q x [] w b) ∷ rest) =
      body_marks (in_definition items kinds i []) (macro_marks MOST_CALLS) (result_of b) ++ stream_marks (suc i) rest
  stream_marks i (item ∷ rest) = stream_marks (suc i) rest

  -- an output that is a name makes nothing
  abbrev pub printed_marks : ℕ → Expr → List Mark
  printed_marks i e = if is_name e then [] else marks (at_top items kinds i) (macro_marks MOST_CALLS) e

  abbrev pub output_marks : ℕ → List tree.Item → List Mark
  output_marks i [] = []
  output_marks i (tree.Output p q x ∷ rest) = printed_marks i (tree.Name q x) ++ output_marks (suc i) rest
  output_marks i (tree.OutputAs p e q x ∷ rest) = printed_marks i e ++ output_marks (suc i) rest
  output_marks i (item ∷ rest) = output_marks (suc i) rest

  abbrev pub all_marks : List Mark
  all_marks = input_marks items ++ stream_marks 0 items ++ output_marks 0 items
