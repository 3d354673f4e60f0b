-- Which construct an occurrence is, and the occurrences of its parts.
use Rattle.std.specs.Prelude.{ℕ, zero, suc, Bool, if◌then◌else◌, List, [], ◌∷◌, ◌++◌, map, Option, Some, None, is_none}
use Rattle.std.specs.List.{filter}
use Rattle.std.specs.Option.{option_map, option_and_then}
use Rattle.std.specs.Str.{bytes_eq}
use Rattle.tsl_value.specs.declared.scalar.Scalar.{Scalar}
use Rattle.tsl_value.specs.declared.scalar.Scalar.TheVariants as scalar
use Rattle.tsl_value.specs.declared.scalar.ValueType.{ValueType}
use Rattle.tsl_value.specs.declared.operation.Unary.TheVariants as unary
use Rattle.lift_func.specs.BodyTree.{BodyTree, One, Two}
use Rattle.syntax_tree.specs.Tree as tree
use Rattle.syntax_tree.specs.Tree.{Expr, Exprs, no_exprs, more_exprs, Links, no_links, more_links}
use Rattle.syntax_tree.specs.declared.tree.Operator.{Operator}
use Rattle.vocabulary.specs.declared.dotted.Dotted.{Dotted}
use Rattle.name_check.specs.declared.declaration.Declaration.{Declaration}
use Rattle.name_check.specs.declared.declaration.Declaration.TheVariants as declaration
use Rattle.name_check.specs.Builtin.{is_unit, is_lift}
use Rattle.name_check.specs.Scope.{Scope, meaning}
use Rattle.spec_meaning.specs.Occurrence.{Call, Occurrence, scope_at, stands_for, macro_result}
use Rattle.spec_meaning.specs.Function.{literal, operation_of, comparison_of, role_tree, no_tree, function_at, function_body}
use Rattle.stream_constructs.specs.Construct.{Construct, Operand, operand_trees}
use Rattle.stream_constructs.specs.Construct as construct
use Rattle.stream_constructs.specs.Equations.{choice}
use Rattle.tsl_value.specs.declared.operation.Update.{Update as UpdateOp}
use Rattle.vocabulary.specs.declared.signature.Role.{Role}
use Rattle.vocabulary.specs.declared.signature.Role.TheVariants as role
use Rattle.vocabulary.specs.Table.{role_of}
use Rattle.vocabulary.specs.declared.plain.Plain.{Plain}
use Rattle.vocabulary.specs.declared.plain.Plain.TheVariants as plain
use Rattle.vocabulary.specs.PlainTable.{spelling, entries, look_up}
use Rattle.type_rules.specs.Written.{aggregate_of}

pub record Shape : Type 0 where
  pub construct : Construct
  pub parts : List Occurrence

abbrev pub expressions : Exprs → List Expr
expressions no_exprs = []
expressions (more_exprs e es) = e ∷ expressions es

-- an input's number among the inputs
abbrev pub input_number : List tree.Item → ℕ → ℕ
input_number [] i = 0
input_number (item ∷ items) zero = 0
input_number (tree.Input p q n y ∷ items) (suc i) = suc (input_number items i)
input_number (item ∷ items) (suc i) = input_number items i

-- ---- chains: a chain is its last operator with what stands on the left of it and its last operand
abbrev pub all_but_last : Links → Links
all_but_last no_links = no_links
all_but_last (more_links o e no_links) = no_links
all_but_last (more_links o e (more_links q f ls)) = more_links o e (all_but_last (more_links q f ls))

abbrev pub last_operator : Operator → Links → Operator
last_operator o no_links = o
last_operator o (more_links q f ls) = last_operator q ls

abbrev pub last_operand : Expr → Links → Expr
last_operand e no_links = e
last_operand e (more_links q f ls) = last_operand f ls

abbrev pub left_of : tree.Expr → (Links → Expr) → Links → Expr
left_of e chain no_links = e
left_of e chain (more_links o f ls) = chain (more_links o f ls)

-- ---- operations on streams: an operand that is a literal is no part
abbrev pub operand : Option Scalar → Operand
operand None = construct.Varying
operand (Some s) = construct.Fixed s

abbrev pub operands : List Expr → List Operand
operands es = map (λ e. operand (literal e)) es

abbrev pub is_part : Expr → Bool
is_part e = is_none (literal e)

-- the expression at the same calls
abbrev pub beside : List Call → Expr → Occurrence
beside cs e = record { calls = cs; expr = e }

abbrev pub with_parts : List Call → Construct → List Expr → Option Shape
with_parts cs c es = Some (record { construct = c; parts = map (beside cs) es })

-- a body over its operands, and an update
abbrev pub signal_of : List Call → (List BodyTree → BodyTree) → List Expr → Option Shape
signal_of cs body es = with_parts cs (construct.Signal (body (operand_trees 0 (operands es)))) (filter is_part es)

abbrev pub update_of : List Call → UpdateOp → List Expr → Option Shape
update_of cs o es = with_parts cs (construct.Update o (operands es)) (filter is_part es)

abbrev pub one_operand : (BodyTree → BodyTree) → List BodyTree → BodyTree
one_operand f (a ∷ ts) = f a
one_operand f [] = no_tree

abbrev pub two_operands : (BodyTree → BodyTree → BodyTree) → List BodyTree → BodyTree
two_operands f (a ∷ b ∷ ts) = f a b
two_operands f ts = no_tree

-- a function with a dot: an update, or a body over its operands
abbrev pub role_shape : List Call → Role → List Expr → Option Shape
role_shape cs (role.Update o) es = update_of cs o es
role_shape cs r es = signal_of cs (role_tree r) es

abbrev pub dotted_shape : List Call → Dotted → List Expr → Option Shape
dotted_shape cs d es = role_shape cs (role_of d) es

-- ---- the language's own names
-- those whose parts are all streams, but for `delay`
abbrev pub plain_construct : Plain → Option Construct
plain_construct plain.Time = Some construct.Time
plain_construct plain.Last = Some construct.Last
plain_construct plain.Merge = Some construct.Merge
plain_construct plain.Default = Some construct.Merge
plain_construct p = None

abbrev pub plain_names : List (List ℕ × Construct)
plain_names = entries plain_construct

unfoldable pub plain_name : List ℕ → Option Construct
plain_name n = look_up plain_names n

unfoldable pub is_delay : List ℕ → Bool
is_delay n = bytes_eq n (spelling plain.Delay)

unfoldable pub is_const : List ℕ → Bool
is_const n = bytes_eq n (spelling plain.Const)

unfoldable pub is_filter : List ℕ → Bool
is_filter n = bytes_eq n (spelling plain.Filter)

abbrev pub const_shape : List Call → List Expr → Option Shape
const_shape cs (v ∷ e ∷ []) = option_and_then (λ s. with_parts cs (construct.Const s) (e ∷ [])) (literal v)
const_shape cs es = None

abbrev pub filtered_by : List Call → Expr → Expr → Option Scalar → Option Shape
filtered_by cs e c (Some (scalar.Bool b)) = with_parts cs (construct.FilterBy b) (e ∷ [])
filtered_by cs e c s = with_parts cs construct.Filter (e ∷ c ∷ [])

abbrev pub filter_shape : List Call → List Expr → Option Shape
filter_shape cs (e ∷ c ∷ []) = filtered_by cs e c (literal c)
filter_shape cs es = None

-- a stream that it stands for
abbrev pub same_as : Option Occurrence → Option Shape
same_as o = option_map (λ a. record { construct = construct.Same; parts = a ∷ [] }) o

module _ (items : List tree.Item) where
  abbrev pub name_shape : List Call → Option Declaration → Option Shape
  name_shape cs (Some (declaration.Input i)) = with_parts cs (construct.Input (input_number items i)) []
  name_shape cs (Some d) = same_as (stands_for items cs d)
  name_shape cs None = None

  -- a call of a macro, and of a value function
  abbrev pub declared_shape : List Call → Option Declaration → Exprs → Option Shape
  declared_shape cs (Some (declaration.Macro i)) es = same_as (macro_result items cs i es)
  declared_shape cs (Some (declaration.Function i)) es = signal_of cs (function_at items i) (expressions es)
  declared_shape cs d es = None

  -- the streams of a `lift` are all its arguments but the last, which names a function
  abbrev pub lift_by : List Call → List Expr → Expr → Option Declaration → Option Shape
  lift_by cs streams f (Some (declaration.Function i)) = with_parts cs (construct.Lift (function_body items i)) streams
  lift_by cs streams f d = None

  abbrev pub function_named : Scope → Expr → Option Declaration
  function_named scope (tree.Name p n) = meaning scope n
  function_named scope e = None

  abbrev pub lift_shape : List Call → List Expr → List Expr → Option Shape
  lift_shape cs streams [] = None
  lift_shape cs streams (f ∷ []) = lift_by cs streams f (function_named (scope_at items cs) f)
  lift_shape cs streams (e ∷ f ∷ es) = lift_shape cs (streams ++ e ∷ []) (f ∷ es)

  abbrev pub call_shape : List Call → List ℕ → Exprs → Option Construct → Option Shape
  call_shape cs n es (Some c) = with_parts cs c (expressions es)
  call_shape cs n es None =
      if is_delay n then with_parts cs construct.Delay (expressions es)
      else if is_const n then const_shape cs (expressions es)
      else if is_filter n then filter_shape cs (expressions es)
      else if is_lift n then lift_shape cs [] (expressions es)
      else declared_shape cs (meaning (scope_at items cs) n) es

  abbrev pub literal_shape : List Call → Option Scalar → Option Shape
  literal_shape cs s = option_and_then (λ v. with_parts cs (construct.Literal v) []) s

  abbrev pub empty_shape : List Call → Option ValueType → Option Shape
  empty_shape cs of = option_and_then (λ t. with_parts cs (construct.Empty t) []) of

  abbrev pub expr_shape : List Call → Expr → Option Shape
  expr_shape cs (tree.If p c a b) = signal_of cs choice (c ∷ a ∷ b ∷ [])
  expr_shape cs (tree.Chain p l e no_links) = same_as (Some (beside cs e))
  expr_shape cs (tree.Chain p l e (more_links o f ls)) =
      signal_of cs (two_operands (Two (operation_of (last_operator o ls))))
      (left_of e (tree.Chain p l e) (all_but_last (more_links o f ls)) ∷ last_operand f ls ∷ [])
  expr_shape cs (tree.Compare p o a b) = signal_of cs (two_operands (Two (comparison_of o))) (a ∷ b ∷ [])
  expr_shape cs (tree.Negate p e) = signal_of cs (one_operand (One unary.Neg)) (e ∷ [])
  expr_shape cs (tree.Not p e) = signal_of cs (one_operand (One unary.Not)) (e ∷ [])
  expr_shape cs (tree.Number p n) = literal_shape cs (literal (tree.Number p n))
  expr_shape cs (tree.Negative p n) = literal_shape cs (literal (tree.Negative p n))
  expr_shape cs (tree.Text p t) = literal_shape cs (literal (tree.Text p t))
  expr_shape cs (tree.Boolean p b) = literal_shape cs (literal (tree.Boolean p b))
  expr_shape cs (tree.Unit p) = with_parts cs construct.Unit []
  expr_shape cs (tree.Name p n) = if is_unit n then with_parts cs construct.Unit [] else name_shape cs (meaning (scope_at items cs) n)
  expr_shape cs (tree.Call p n es) = call_shape cs n es (plain_name n)
  expr_shape cs (tree.CallDotted p d es) = dotted_shape cs d (expressions es)
  expr_shape cs (tree.Nil p y) = with_parts cs construct.Nil []
  expr_shape cs (tree.None p y) = None
  expr_shape cs (tree.Empty p a) = empty_shape cs (aggregate_of a)

  abbrev pub shape : Occurrence → Option Shape
  shape o = expr_shape o.calls o.expr

-- The streams of which a construct is made: those of its parts, and after those of a delay the delay itself.
abbrev pub itself : Construct → Occurrence → List Occurrence
itself construct.Delay o = o ∷ []
itself c o = []

abbrev pub all_parts : Occurrence → Shape → List Occurrence
all_parts o s = s.parts ++ itself s.construct o
