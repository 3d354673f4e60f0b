-- What expressions are: an expression is something where all its parts are and fit the rule of its construct. An expression of which
-- a part is nothing is not judged.
use Rattle.std.specs.Prelude.{ℕ, Bool, true, false, if◌then◌else◌, List, [], ◌∷◌, Option, Some, None, Ok, Err}
use Rattle.std.specs.Option.{option_map, option_and_then}
use Rattle.std.specs.List.{flat_map}
use Rattle.std.specs.Str.{bytes_eq}
use Rattle.syntax_tree.specs.Tree as tree
use Rattle.syntax_tree.specs.Tree.{Expr, Exprs, no_exprs, more_exprs, Links, no_links, more_links, place_of}
use Rattle.syntax_tree.specs.declared.tree.Level.{Level}
use Rattle.vocabulary.specs.declared.plain.Plain.{Plain}
use Rattle.vocabulary.specs.declared.plain.Plain.TheVariants as plain
use Rattle.vocabulary.specs.PlainTable.{spelling, entries, look_up}
use Rattle.name_check.specs.declared.declaration.Declaration.{Declaration}
use Rattle.name_check.specs.declared.declaration.Declaration.TheVariants as declaration
use Rattle.name_check.specs.Builtin.{is_unit, is_lift}
use Rattle.name_check.specs.Scope.{meaning}
use Rattle.name_check.specs.Parts.{Part, Operand, Function, parts}
use Rattle.type_rules.specs.declared.rule.ExprType.{ExprType}
use Rattle.type_rules.specs.declared.rule.ExprType.TheVariants as expr_type
use Rattle.type_rules.specs.declared.rule.Setting.{Setting}
use Rattle.type_rules.specs.declared.rule.Builtin.{Builtin}
use Rattle.type_rules.specs.declared.rule.Builtin.TheVariants as builtin
use Rattle.type_rules.specs.Asked.{Verdict, lifted, unit, int, bool, text}
use Rattle.type_rules.specs.Rules.{link_rule, compare_rule, negate_rule, not_rule, if_rule, dotted_rule, const_rule, builtin_rule}
use Rattle.type_rules.specs.Rules.{macro_rule, function_rule, lift_rule}
use Rattle.type_rules.specs.Written.{value_of, aggregate_of}
use Rattle.expr_types.specs.declared.wrong.Wrong.{Wrong}
use Rattle.expr_types.specs.declared.wrong.Wrong.TheVariants as wrong
use Rattle.expr_types.specs.Around.{Around, Callee, callee_at, declared_type, cons}

-- what a rule allows, and what it is at parts that are all something
abbrev pub allowed : Verdict → Option ExprType
allowed (Ok t) = Some t
allowed (Err clash) = None

abbrev pub with_one : (ExprType → Verdict) → Option ExprType → Option Verdict
with_one rule a = option_map rule a

abbrev pub with_two : (ExprType → ExprType → Verdict) → Option ExprType → Option ExprType → Option Verdict
with_two rule (Some a) (Some b) = Some (rule a b)
with_two rule _ _ = None

abbrev pub with_three : (ExprType → ExprType → ExprType → Verdict) → Option ExprType → Option ExprType → Option ExprType → Option Verdict
with_three rule (Some a) (Some b) (Some c) = Some (rule a b c)
with_three rule _ _ _ = None

-- what is something by itself
abbrev pub is_just : Option ExprType → Option Verdict
is_just t = option_map Ok t

-- a literal, as `const` asks it: a number with or without a minus, a text or a truth value
abbrev pub is_literal : Expr → Bool
is_literal (tree.Number p n) = true
is_literal (tree.Negative p n) = true
is_literal (tree.Text p t) = true
is_literal (tree.Boolean p b) = true
is_literal e = false

-- the rule of a name of the language; `lift` and `const` ask for more than types
abbrev pub rule_of : Plain → Option Builtin
rule_of plain.Time = Some builtin.Time
rule_of plain.Last = Some builtin.Last
rule_of plain.Delay = Some builtin.Delay
rule_of plain.Merge = Some builtin.Merge
rule_of plain.Default = Some builtin.Merge
rule_of plain.Lift = None
rule_of plain.Const = None
rule_of plain.Filter = Some builtin.Filter
rule_of plain.IsSome = Some builtin.IsSome
rule_of plain.IsNone = Some builtin.IsNone
rule_of plain.GetSome = Some builtin.GetSome
rule_of plain.Some = Some builtin.Some

abbrev pub builtins : List (List ℕ × Builtin)
builtins = entries rule_of

unfoldable pub builtin_of : List ℕ → Option Builtin
builtin_of n = look_up builtins n

abbrev pub is_const : List ℕ → Bool
is_const n = bytes_eq n (spelling plain.Const)

-- a call of a declared name, at its arguments
abbrev pub call_rule : Around → Declaration → List ExprType → Option Verdict
call_rule at (declaration.Macro i) args = option_map (λ c. macro_rule c.params c.result args) (callee_at at i)
call_rule at (declaration.Function i) args = option_map (λ c. function_rule at.setting c.params c.result args) (callee_at at i)
call_rule at d args = None

-- the function that is the last argument of a `lift`
abbrev pub function_at : Around → Option Declaration → Option Callee
function_at at (Some (declaration.Function i)) = callee_at at i
function_at at _ = None

abbrev pub function_of : Around → Expr → Option Callee
function_of at (tree.Name p n) = function_at at (meaning at.scope n)
function_of at e = None

abbrev pub last_of : Around → Exprs → Option Callee
last_of at no_exprs = None
last_of at (more_exprs e no_exprs) = function_of at e
last_of at (more_exprs e (more_exprs f es)) = last_of at (more_exprs f es)

abbrev pub lifted_by : Option (List ExprType) → Option Callee → Option Verdict
lifted_by (Some streams) (Some f) = Some (lift_rule streams f.params f.result)
lifted_by _ _ = None

-- a call of `const`, another of the language's own names, or a declared one
abbrev pub const_call : Exprs → Option (List ExprType) → Option Verdict
const_call (more_exprs v es) (Some (a ∷ b ∷ [])) = Some (const_rule (is_literal v) a b)
const_call _ _ = None

abbrev pub own_call : Option Builtin → Around → List ℕ → Option (List ExprType) → Option Verdict
own_call (Some o) at n args = option_map (builtin_rule o) args
own_call None at n args = option_and_then (λ ts. option_and_then (λ d. call_rule at d ts) (meaning at.scope n)) args

abbrev pub named_call : Around → List ℕ → Exprs → Option (List ExprType) → Option Verdict
named_call at n es args = if is_const n then const_call es args else own_call (builtin_of n) at n args

-- goes on where a rule allows it
abbrev pub continued : Verdict → (ExprType → Option Verdict) → Option Verdict
continued (Ok t) rest = rest t
continued (Err clash) rest = Some (Err clash)

-- the rest of a chain after operands that make an expression of this type
abbrev pub next_link : Setting → Level → ExprType → Option ExprType → (ExprType → Option Verdict) → Option Verdict
next_link at l t None rest = None
next_link at l t (Some u) rest = continued (link_rule at l t u) rest

-- what an expression is that is judged so
abbrev pub of_verdict : Option Verdict → Option ExprType
of_verdict v = option_and_then allowed v

abbrev mutual
  pub judge : Around → Expr → Option Verdict
  judge at (tree.If p c a b) = with_three (if_rule at.setting) (of_verdict (judge at c)) (of_verdict (judge at a)) (of_verdict (judge at b))
  judge at (tree.Chain p l e ls) = option_and_then (λ t. judge_links at l t ls) (of_verdict (judge at e))
  judge at (tree.Compare p o a b) = with_two (compare_rule at.setting o) (of_verdict (judge at a)) (of_verdict (judge at b))
  judge at (tree.Negate p e) = with_one (negate_rule at.setting) (of_verdict (judge at e))
  judge at (tree.Not p e) = with_one (not_rule at.setting) (of_verdict (judge at e))
  judge at (tree.Number p n) = Some (Ok (lifted at.setting int))
  judge at (tree.Negative p n) = Some (Ok (lifted at.setting int))
  judge at (tree.Text p t) = Some (Ok (lifted at.setting text))
  judge at (tree.Boolean p b) = Some (Ok (lifted at.setting bool))
  judge at (tree.Unit p) = Some (Ok (lifted at.setting unit))
  judge at (tree.Name p n) =
      if is_unit n then Some (Ok (expr_type.Stream unit)) else is_just (option_and_then (declared_type at) (meaning at.scope n))
  judge at (tree.Call p n es) = if is_lift n then lifted_by (streams_of at es) (last_of at es) else named_call at n es (types_of at es)
  judge at (tree.CallDotted p d es) = option_map (dotted_rule at.setting d) (types_of at es)
  judge at (tree.Nil p y) = is_just (option_map expr_type.Stream (value_of y))
  judge at (tree.None p y) = is_just (option_map expr_type.Optional (value_of y))
  judge at (tree.Empty p a) = is_just (option_map expr_type.Stream (aggregate_of a))

  pub types_of : Around → Exprs → Option (List ExprType)
  types_of at no_exprs = Some []
  types_of at (more_exprs e es) = cons (of_verdict (judge at e)) (types_of at es)

  pub judge_links : Around → Level → ExprType → Links → Option Verdict
  judge_links at l t no_links = Some (Ok t)
  judge_links at l t (more_links o e ls) = next_link at.setting l t (of_verdict (judge at e)) (λ u. judge_links at l u ls)

  -- all arguments but the last, and the function that the last one names
  pub streams_of : Around → Exprs → Option (List ExprType)
  streams_of at no_exprs = Some []
  streams_of at (more_exprs e no_exprs) = Some []
  streams_of at (more_exprs e (more_exprs f es)) = cons (of_verdict (judge at e)) (streams_of at (more_exprs f es))

-- what an expression is
abbrev pub type_of : Around → Expr → Option ExprType
type_of at e = of_verdict (judge at e)

-- ---- what is wrong, in the order of the source
abbrev pub broken : Expr → Option Verdict → List Wrong
broken e (Some (Err clash)) = wrong.Part (place_of e) clash ∷ []
broken e _ = []

abbrev pub own_wrong : Around → Part → List Wrong
own_wrong at (Operand e) = broken e (judge at e)
own_wrong at (Function e) = []

abbrev pub wrongs : Around → Expr → List Wrong
wrongs at e = flat_map (own_wrong at) (parts e)
