-- What is asked of an expression, and whether it fits.
use Rattle.std.specs.Prelude.{◌≡◌, Bool, true, false, ◌&&◌, if◌then◌else◌, Option, Some, None, Result, Ok, Err}
use Rattle.tsl_value.specs.declared.scalar.ScalarType.{ScalarType}
use Rattle.tsl_value.specs.declared.scalar.ScalarType.TheVariants as scalar_type
use Rattle.tsl_value.specs.declared.scalar.KeyType.{KeyType}
use Rattle.tsl_value.specs.declared.scalar.KeyType.TheVariants as key_type
use Rattle.tsl_value.specs.declared.scalar.ValueType.{ValueType}
use Rattle.tsl_value.specs.declared.scalar.ValueType.TheVariants as value_type
use Rattle.vocabulary.specs.declared.kind.Kind.{Kind}
use Rattle.vocabulary.specs.Kinds.{kind_of, is_kind}
use Rattle.type_rules.specs.declared.rule.ExprType.{ExprType}
use Rattle.type_rules.specs.declared.rule.ExprType.TheVariants as expr_type
use Rattle.type_rules.specs.declared.rule.Family.{Family}
use Rattle.type_rules.specs.declared.rule.Family.TheVariants as family
use Rattle.type_rules.specs.declared.rule.Setting.{Setting}
use Rattle.type_rules.specs.declared.rule.Setting.TheVariants as setting
use Rattle.type_rules.specs.declared.rule.Asked.{Asked}
use Rattle.type_rules.specs.declared.rule.Asked.TheVariants as asked
use Rattle.type_rules.specs.declared.rule.Clash.{Clash}

-- ---- equal types
abbrev pub same_scalar : ScalarType → ScalarType → Bool
same_scalar scalar_type.Unit scalar_type.Unit = true
same_scalar scalar_type.Int scalar_type.Int = true
same_scalar scalar_type.Bool scalar_type.Bool = true
same_scalar scalar_type.Text scalar_type.Text = true
same_scalar _ _ = false

abbrev pub same_key : KeyType → KeyType → Bool
same_key key_type.Int key_type.Int = true
same_key key_type.Bool key_type.Bool = true
same_key key_type.Text key_type.Text = true
same_key _ _ = false

abbrev pub same_value : ValueType → ValueType → Bool
same_value (value_type.Scalar s) (value_type.Scalar t) = same_scalar s t
same_value (value_type.Set k) (value_type.Set l) = same_key k l
same_value (value_type.Map k s) (value_type.Map l t) = same_key k l && same_scalar s t
same_value (value_type.Queue s) (value_type.Queue t) = same_scalar s t
same_value _ _ = false

abbrev pub same_type : ExprType → ExprType → Bool
same_type (expr_type.Stream s) (expr_type.Stream t) = same_value s t
same_type (expr_type.Value s) (expr_type.Value t) = same_value s t
same_type (expr_type.Optional s) (expr_type.Optional t) = same_value s t
same_type _ _ = false

-- ---- families of types
abbrev pub is_of : Kind → Option Kind → Bool
is_of g (Some h) = is_kind g h
is_of g None = false

abbrev pub is_in : Family → ValueType → Bool
is_in family.Any t = true
is_in family.Scalars (value_type.Scalar s) = true
is_in (family.Of g) t = is_of g (kind_of t)
is_in _ t = false

-- the expression is what is asked; that a literal is asked is judged by its form
abbrev pub fits : Asked → ExprType → Bool
fits (asked.Exactly t) u = same_type u t
fits (asked.StreamOf f) (expr_type.Stream t) = is_in f t
fits (asked.ValueOf f) (expr_type.Value t) = is_in f t
fits (asked.OptionOf f) (expr_type.Optional t) = is_in f t
fits asked.NoStream (expr_type.Value t) = true
fits asked.NoStream (expr_type.Optional t) = true
fits _ _ = false

-- what a rule says of its parts: what the whole is, or the first part that does not fit
abbrev pub Verdict : Type 0
Verdict = Result ExprType Clash

abbrev pub Check : Type 0
Check = Result (Unit {0}) Clash

-- a part is what is asked, or is refused
abbrev pub ask : Asked → ExprType → Check
ask q t = if fits q t then Ok tt else Err (record { have = t; want = q })

-- goes on where a part fits
abbrev pub and_then : {A : Type 0} → Check → Result A Clash → Result A Clash
and_then (Ok u) next = next
and_then (Err clash) next = Err clash

-- ---- streams and values
-- operations take and give values in a value function, and streams elsewhere
abbrev pub lifted : Setting → ValueType → ExprType
lifted setting.Streams t = expr_type.Stream t
lifted setting.Values t = expr_type.Value t

abbrev pub lifted_of : Setting → Family → Asked
lifted_of setting.Streams f = asked.StreamOf f
lifted_of setting.Values f = asked.ValueOf f

-- the type of the events, of the value, or of the value in the option
abbrev pub inner : ExprType → ValueType
inner (expr_type.Stream t) = t
inner (expr_type.Value t) = t
inner (expr_type.Optional t) = t

abbrev pub unit : ValueType
unit = value_type.Scalar scalar_type.Unit

abbrev pub int : ValueType
int = value_type.Scalar scalar_type.Int

abbrev pub bool : ValueType
bool = value_type.Scalar scalar_type.Bool

abbrev pub text : ValueType
text = value_type.Scalar scalar_type.Text

-- the type of the keys of a set or a map, and of the values of a map or a queue
abbrev pub of_key : KeyType → ValueType
of_key key_type.Int = int
of_key key_type.Bool = bool
of_key key_type.Text = text

abbrev pub key_of : ValueType → ValueType
key_of (value_type.Set k) = of_key k
key_of (value_type.Map k s) = of_key k
key_of t = t

abbrev pub entry_of : ValueType → ValueType
entry_of (value_type.Map k s) = value_type.Scalar s
entry_of (value_type.Queue s) = value_type.Scalar s
entry_of t = t
