-- The rules: what each construct asks of its parts, from left to right, and what it is then. Where two parts have to be of one type,
-- the first fixes it.
use Rattle.std.specs.Prelude.{Bool, true, false, ◌||◌, List, [], ◌∷◌, map, if◌then◌else◌, Option, Some, None, Ok, Err}
use Rattle.std.specs.List.{list_any}
use Rattle.tsl_value.specs.declared.scalar.ValueType.{ValueType}
use Rattle.tsl_value.specs.declared.scalar.ValueType.TheVariants as value_type
use Rattle.syntax_tree.specs.declared.tree.Level.{Level}
use Rattle.syntax_tree.specs.declared.tree.Level.TheVariants as level
use Rattle.syntax_tree.specs.declared.tree.Comparison.{Comparison}
use Rattle.syntax_tree.specs.declared.tree.Comparison.TheVariants as comparison
use Rattle.vocabulary.specs.declared.dotted.Dotted.{Dotted}
use Rattle.vocabulary.specs.declared.signature.Term.{Term}
use Rattle.vocabulary.specs.declared.signature.Term.TheVariants as term
use Rattle.vocabulary.specs.declared.signature.Parameters.{Parameters}
use Rattle.vocabulary.specs.declared.signature.Parameters.TheVariants as parameters
use Rattle.vocabulary.specs.declared.signature.Role.{Role}
use Rattle.vocabulary.specs.declared.signature.Role.TheVariants as role
use Rattle.vocabulary.specs.Table.{parameters_of, gives_of, role_of}
use Rattle.type_rules.specs.declared.rule.ExprType.{ExprType}
use Rattle.type_rules.specs.declared.rule.ExprType.TheVariants as expr_type
use Rattle.type_rules.specs.declared.rule.Family.TheVariants as family
use Rattle.type_rules.specs.declared.rule.Setting.{Setting}
use Rattle.type_rules.specs.declared.rule.Setting.TheVariants as setting
use Rattle.type_rules.specs.declared.rule.Asked.{Asked}
use Rattle.type_rules.specs.declared.rule.Asked.TheVariants as asked
use Rattle.type_rules.specs.declared.rule.Builtin.{Builtin}
use Rattle.type_rules.specs.declared.rule.Builtin.TheVariants as builtin
use Rattle.type_rules.specs.Asked.{Verdict, Check, ask, and_then, lifted, lifted_of, inner, unit, int, bool, key_of, entry_of}

abbrev pub any_stream : Asked
any_stream = asked.StreamOf family.Any

abbrev pub stream : ValueType → ExprType
stream t = expr_type.Stream t

-- two parts of one type, the first of which is asked for something
abbrev pub ask_two : Asked → ExprType → ExprType → Check
ask_two q a b = and_then (ask q a) (ask (asked.Exactly a) b)

-- two parts of a type that is given
abbrev pub ask_both : ExprType → ExprType → ExprType → Check
ask_both t a b = and_then (ask (asked.Exactly t) a) (ask (asked.Exactly t) b)

-- ---- operators
-- the operands of a level of a chain
abbrev pub operand_type : Level → ValueType
operand_type level.Disjunction = bool
operand_type level.Conjunction = bool
operand_type level.Sum = int
operand_type level.Product = int

-- one operator between two operands; that on the left may be the chain up to there
abbrev pub link_rule : Setting → Level → ExprType → ExprType → Verdict
link_rule at l a b = and_then (ask_both (lifted at (operand_type l)) a b) (Ok (lifted at (operand_type l)))

abbrev pub is_equality : Comparison → Bool
is_equality comparison.Same = true
is_equality comparison.Differs = true
is_equality _ = false

-- any two scalars of one type are compared by equality, and Ints by order
abbrev pub ask_compared : Setting → Comparison → ExprType → ExprType → Check
ask_compared at o a b = if is_equality o then ask_two (lifted_of at family.Scalars) a b else ask_both (lifted at int) a b

abbrev pub compare_rule : Setting → Comparison → ExprType → ExprType → Verdict
compare_rule at o a b = and_then (ask_compared at o a b) (Ok (lifted at bool))

abbrev pub negate_rule : Setting → ExprType → Verdict
negate_rule at a = and_then (ask (asked.Exactly (lifted at int)) a) (Ok (lifted at int))

abbrev pub not_rule : Setting → ExprType → Verdict
not_rule at a = and_then (ask (asked.Exactly (lifted at bool)) a) (Ok (lifted at bool))

-- a choice between streams, or in a value function between values or options
abbrev pub chosen_from : Setting → Asked
chosen_from setting.Streams = any_stream
chosen_from setting.Values = asked.NoStream

abbrev pub if_rule : Setting → ExprType → ExprType → ExprType → Verdict
if_rule at c a b = and_then (ask (asked.Exactly (lifted at bool)) c) (and_then (ask_two (chosen_from at) a b) (Ok a))

-- ---- functions with a dot: their signatures, of which the first part fixes the types of keys and of entries
-- what a type of a signature is, where the first part is this
abbrev pub of_term : Setting → ExprType → Term → ExprType
of_term at first (term.Of g) = first
of_term at first term.Key = lifted at (key_of (inner first))
of_term at first term.Entry = lifted at (entry_of (inner first))
of_term at first (term.Scalar t) = lifted at (value_type.Scalar t)

-- The first part is an aggregate or a scalar. Each other part is just what its type says.
abbrev pub first_asked : Setting → ExprType → Term → Asked
first_asked at first (term.Of g) = lifted_of at (family.Of g)
first_asked at first t = asked.Exactly (of_term at first t)

abbrev pub ask_first : Setting → Term → ExprType → Check
ask_first at p a = ask (first_asked at a p) a

abbrev pub ask_other : Setting → ExprType → Term → ExprType → Check
ask_other at first t part = ask (asked.Exactly (of_term at first t)) part

abbrev pub ask_terms : Setting → Term → Term → ExprType → ExprType → Check
ask_terms at p q a b = and_then (ask_first at p a) (ask_other at a q b)

-- what such a function is of other parts than its own; no call has them
abbrev pub nothing : Verdict
nothing = Ok (stream unit)

abbrev pub rule_of_one : Setting → Parameters → Term → ExprType → Verdict
rule_of_one at (parameters.One p) t a = and_then (ask_first at p a) (Ok (of_term at a t))
rule_of_one at ps t a = nothing

abbrev pub rule_of_two : Setting → Parameters → Term → ExprType → ExprType → Verdict
rule_of_two at (parameters.Two p q) t a b = and_then (ask_terms at p q a b) (Ok (of_term at a t))
rule_of_two at ps t a b = nothing

abbrev pub rule_of_three : Setting → Parameters → Term → ExprType → ExprType → ExprType → Verdict
rule_of_three at (parameters.Three p q r) t a b c = and_then (ask_terms at p q a b) (and_then (ask_other at a r c) (Ok (of_term at a t)))
rule_of_three at ps t a b c = nothing

-- updates take streams everywhere
abbrev pub setting_of : Role → Setting → Setting
setting_of (role.Update o) at = setting.Streams
setting_of r at = at

abbrev pub dotted_one : Setting → Dotted → ExprType → Verdict
dotted_one at d a = rule_of_one (setting_of (role_of d) at) (parameters_of d) (gives_of d) a

abbrev pub dotted_two : Setting → Dotted → ExprType → ExprType → Verdict
dotted_two at d a b = rule_of_two (setting_of (role_of d) at) (parameters_of d) (gives_of d) a b

abbrev pub dotted_three : Setting → Dotted → ExprType → ExprType → ExprType → Verdict
dotted_three at d a b c = rule_of_three (setting_of (role_of d) at) (parameters_of d) (gives_of d) a b c

abbrev pub dotted_rule : Setting → Dotted → List ExprType → Verdict
dotted_rule at d (a ∷ []) = dotted_one at d a
dotted_rule at d (a ∷ b ∷ []) = dotted_two at d a b
dotted_rule at d (a ∷ b ∷ c ∷ []) = dotted_three at d a b c
dotted_rule at d ts = nothing

-- ---- the language's own names: streams everywhere, and the four of options values everywhere
-- `const` asks a literal first, which is a matter of its form
abbrev pub const_rule : Bool → ExprType → ExprType → Verdict
const_rule true v e = and_then (ask any_stream e) (Ok (stream (inner v)))
const_rule false v e = Err (record { have = v; want = asked.Literal })

abbrev pub builtin_one : Builtin → ExprType → Verdict
builtin_one builtin.Time e = and_then (ask any_stream e) (Ok (stream int))
builtin_one builtin.IsSome a = and_then (ask (asked.OptionOf family.Any) a) (Ok (expr_type.Value bool))
builtin_one builtin.IsNone a = and_then (ask (asked.OptionOf family.Any) a) (Ok (expr_type.Value bool))
builtin_one builtin.GetSome a = and_then (ask (asked.OptionOf family.Any) a) (Ok (expr_type.Value (inner a)))
builtin_one builtin.Some a = and_then (ask (asked.ValueOf family.Any) a) (Ok (expr_type.Optional (inner a)))
builtin_one o a = nothing

abbrev pub builtin_two : Builtin → ExprType → ExprType → Verdict
builtin_two builtin.Last v r = and_then (ask any_stream v) (and_then (ask any_stream r) (Ok v))
builtin_two builtin.Delay d r = and_then (ask (asked.Exactly (stream int)) d) (and_then (ask any_stream r) (Ok (stream unit)))
builtin_two builtin.Merge a b = and_then (ask_two any_stream a b) (Ok a)
builtin_two builtin.Filter e c = and_then (ask any_stream e) (and_then (ask (asked.Exactly (stream bool)) c) (Ok e))
builtin_two o a b = nothing

abbrev pub builtin_rule : Builtin → List ExprType → Verdict
builtin_rule o (a ∷ []) = builtin_one o a
builtin_rule o (a ∷ b ∷ []) = builtin_two o a b
builtin_rule o ts = nothing

-- ---- calls
-- each argument is just this
abbrev pub ask_each : List ExprType → List ExprType → Check
ask_each (p ∷ ps) (a ∷ args) = and_then (ask (asked.Exactly p) a) (ask_each ps args)
ask_each _ _ = Ok tt

abbrev pub macro_rule : List ExprType → ExprType → List ExprType → Verdict
macro_rule params result args = and_then (ask_each params args) (Ok result)

abbrev pub is_optional : ExprType → Bool
is_optional (expr_type.Optional t) = true
is_optional _ = false

-- a value is lifted where it stands among streams; a stream stays one
abbrev pub lifted_type : Setting → ExprType → ExprType
lifted_type setting.Streams (expr_type.Value t) = expr_type.Stream t
lifted_type at t = t

abbrev pub has_options : List ExprType → ExprType → Bool
has_options params result = list_any is_optional params || is_optional result

-- A function without options is lifted where it is called among streams; one with options takes and gives values everywhere.
abbrev pub function_rule : Setting → List ExprType → ExprType → List ExprType → Verdict
function_rule at params result args =
    if has_options params result then macro_rule params result args
    else macro_rule (map (lifted_type at) params) (lifted_type at result) args

-- The streams of a `lift`, then its function's parameters and result: each stream's type stands in the option of its parameter, and
-- the result is an option.
abbrev pub ask_streams : List ExprType → Check
ask_streams [] = Ok tt
ask_streams (e ∷ es) = and_then (ask any_stream e) (ask_streams es)

abbrev pub ask_options : List ExprType → List ExprType → Check
ask_options (e ∷ es) (p ∷ ps) = and_then (ask (asked.Exactly (expr_type.Optional (inner e))) p) (ask_options es ps)
ask_options _ _ = Ok tt

abbrev pub lift_rule : List ExprType → List ExprType → ExprType → Verdict
lift_rule streams params result =
    and_then (ask_streams streams) (and_then (ask_options streams params)
    (and_then (ask (asked.Exactly (expr_type.Optional (inner result))) result) (Ok (stream (inner result)))))

-- ---- bodies
-- a stream is asked for
abbrev pub stream_asked : ExprType → Check
stream_asked t = ask (asked.Exactly (stream (inner t))) t

-- a value is asked for: of a stream, one of its type
abbrev pub value_asked : ExprType → Check
value_asked (expr_type.Stream t) = Err (record { have = stream t; want = asked.Exactly (expr_type.Value t) })
value_asked t = Ok tt

-- A body: first what is written, where something is, and then a stream, or in a value function a value.
abbrev pub written_asked : Option ExprType → ExprType → Check
written_asked None t = Ok tt
written_asked (Some w) t = ask (asked.Exactly w) t

abbrev pub body_asked : Setting → ExprType → Check
body_asked setting.Streams t = stream_asked t
body_asked setting.Values t = value_asked t

abbrev pub body_rule : Setting → Option ExprType → ExprType → Check
body_rule at written t = and_then (written_asked written t) (body_asked at t)
