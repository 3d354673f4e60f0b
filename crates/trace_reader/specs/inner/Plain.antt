-- Lines of the forms in which most are written.
use Rattle.std.specs.Prelude.{◌≡◌, ◌≤◌, ◌<◌, ◌^◌, ◌||◌, ◌==◌, ℕ, Bool, true, false, not, List, [], ◌∷◌, ◌++◌, length, Option, Some, None, IfSome, Ok, codes, slice_index_or}
use Rattle.std.specs.Char.{is_ascii_digit}
use Rattle.std.specs.List.{list_all}
use Rattle.std.specs.Str.Parse.{digits_value}
use Rattle.tsl_value.specs.declared.scalar.Scalar.{Scalar}
use Rattle.tsl_value.specs.declared.scalar.ScalarType.{ScalarType}
use Rattle.tsl_value.specs.declared.scalar.ValueType.TheVariants as value_type
use Rattle.tsl_value.specs.Literal.{are_digits, int_literal, literal}
use Rattle.flat_core.specs.declared.equation.Equation.{Equation}
use Rattle.flat_core.specs.declared.equation.Op.TheVariants as op
use Rattle.flat_core.specs.System.{System, equation}
use Rattle.trace_reader.specs.declared.plain.PlainLine.{PlainLine}
use Rattle.trace_reader.specs.Form.{is_name}
use Rattle.trace_reader.specs.Reading.{input_called, value_of}
use Rattle.trace_reader.specs.inner.Spelling.{IsWhole}
use Rattle.trace_reader.specs.inner.Reader.{Reader, HasLine, judged_at}

-- digits at the front spell a number, and these bytes follow them
pub record BeginsWithNumber (bytes : List ℕ) (number : ℕ) (rest : List ℕ) : Type 0 where
  pub digits : List ℕ
  pub are : are_digits digits ≡ true
  pub value : digits_value 10 digits ≡ number
  pub is : bytes ≡ digits ++ rest

-- a digit, or a minus
abbrev pub is_of_int : ℕ → Bool
is_of_int b = is_ascii_digit b || (b == 45)

-- the same of a number with a minus or nothing before its digits
pub record BeginsWithInt (bytes : List ℕ) (number : Scalar) (rest : List ℕ) : Type 0 where
  pub written : List ℕ
  pub all : list_all is_of_int written ≡ true
  pub means : int_literal written ≡ Ok number
  pub is : bytes ≡ written ++ rest

-- What is written at the front is a literal of a type, without blanks around it and without a line's end, and these bytes follow it.
pub record BeginsWithValue (of : ScalarType) (bytes : List ℕ) (value : Scalar) (rest : List ℕ) : Type 0 where
  pub written : List ℕ
  pub whole : IsWhole written
  pub one_line : list_all (λ b. not (b == 10)) written ≡ true
  pub means : literal of written ≡ Ok value
  pub is : bytes ≡ written ++ rest

-- a value after a name, with a blank on each side of its sign, or nothing
abbrev pub tail_of : Option (List ℕ) → List ℕ
tail_of None = []
tail_of (Some value) = codes " = " ++ value

-- What stands at the front has such a value of a type, without blanks around it and without a line's end, and these bytes follow it. A unit
-- may have none.
pub record BeginsWithTail (of : ScalarType) (bytes : List ℕ) (value : Scalar) (rest : List ℕ) : Type 0 where
  pub written : Option (List ℕ)
  pub whole : IfSome written IsWhole
  pub one_line : list_all (λ b. not (b == 10)) (tail_of written) ≡ true
  pub means : value_of (value_type.Scalar of) written ≡ Some value
  pub is : bytes ≡ tail_of written ++ rest

-- a time, a name and what stands after it, with one blank after the colon
abbrev pub plain : List ℕ → List ℕ → List ℕ → List ℕ
plain time name tail = time ++ (codes ": " ++ (name ++ tail))

-- such a line stands at the front, and its end follows
pub record IsPlain (of : ScalarType) (name bytes : List ℕ) (p : PlainLine) : Type 0 where
  pub time : List ℕ
  pub value : Option (List ℕ)
  pub rest : List ℕ
  pub digits : are_digits time ≡ true
  pub time_is : digits_value 10 time ≡ p.time
  pub small : p.time < 2 ^ 63
  pub whole : IfSome value IsWhole
  pub one_line : list_all (λ b. not (b == 10)) (tail_of value) ≡ true
  pub means : value_of (value_type.Scalar of) value ≡ Some p.value
  pub is : bytes ≡ plain time name (tail_of value) ++ 10 ∷ rest
  pub len : p.len ≡ length (plain time name (tail_of value))

-- an input of this type and this name, which can stand in a trace
pub record IsInputOf (of : ScalarType) (name : List ℕ) (e : Equation) : Type 0 where
  pub input : e.op ≡ op.Input
  pub typed : e.of ≡ value_type.Scalar of
  pub named : e.name ≡ Some name
  pub spelled : is_name name ≡ true

-- equation i is one, and the first of its name
pub record IsPlainInput (s : System) (i : ℕ) (of : ScalarType) (name : List ℕ) : Type 0 where
  pub at : Equation
  pub is : equation s i ≡ Some at
  pub input : IsInputOf of name at
  pub called : input_called s name ≡ Some i

abbrev pub HasPlainInput : System → ℕ → Type 0
HasPlainInput s i = (of : ScalarType) × (name : List ℕ) × IsPlainInput s i of name

-- what the slots of a table hold are such equations
abbrev pub ArePlainInputs : System → List (Option ℕ) → Type 0
ArePlainInputs s slots = (slot : ℕ) → IfSome (slice_index_or slots slot None) (HasPlainInput s)

-- a line of this form stands at the front, of the type and the name of its input
pub record IsPlainOf (s : System) (bytes : List ℕ) (p : PlainLine) : Type 0 where
  pub of : ScalarType
  pub name : List ℕ
  pub input : IsPlainInput s p.input of name
  pub line : IsPlain of name bytes p

-- the first line that stands is the event that was read
pub record StandsPlain (r : Reader) (p : PlainLine) : Type 0 where
  pub line : HasLine r p.len
  pub within : p.len ≤ length r.unread
  pub some : 0 < length r.unread
  pub judged : judged_at r p.len ≡ Ok (Some (record { time = p.time; event = Some (p.input, p.value) }))

abbrev pub begins_with_digit : List ℕ → Bool
begins_with_digit [] = false
begins_with_digit (b ∷ bytes) = is_ascii_digit b
