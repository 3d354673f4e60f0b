-- What a line of a trace is, as a relation: it is skipped, it says a time and perhaps an event, or it is refused for the first of the
-- causes that it has.
use Rattle.std.specs.Prelude.{◌≡◌, ◌≢◌, ◌≤◌, ◌<◌, ◌^◌, ◌++◌, ℕ, Bool, true, false, List, [], ◌∷◌, length, Option, Some, None, slice_get}
use Rattle.std.specs.Prelude.{Result, Ok, Err, IsTrue, codes}
use Rattle.std.specs.List.{list_all}
use Rattle.std.specs.Str.Parse.{digits_value}
use Rattle.unicode_ident.specs.Ident.{is_xid_continue}
use Rattle.tsl_value.specs.declared.scalar.Scalar.{Scalar}
use Rattle.tsl_value.specs.declared.scalar.Scalar.TheVariants as scalar
use Rattle.tsl_value.specs.declared.scalar.ScalarType.{ScalarType}
use Rattle.tsl_value.specs.declared.scalar.ScalarType.TheVariants as scalar_type
use Rattle.tsl_value.specs.declared.scalar.ValueType.{ValueType}
use Rattle.tsl_value.specs.declared.scalar.ValueType.TheVariants as value_type
use Rattle.tsl_value.specs.Literal.{are_digits, literal}
use Rattle.spec_lexer.specs.declared.token.Word.{Word}
use Rattle.spec_lexer.specs.Spelling.{begins_name, word_spelling}
use Rattle.spec_lexer.specs.Source.{IsText}
use Rattle.flat_core.specs.declared.equation.Equation.{Equation}
use Rattle.flat_core.specs.declared.equation.Op.TheVariants as op
use Rattle.flat_core.specs.System.{System, equation}
use Rattle.flat_core.specs.Line.{Line, last_time}
use Rattle.trace_reader.specs.declared.fault.TraceFault.{TraceFault}
use Rattle.trace_reader.specs.declared.fault.TraceFault.TheVariants as fault
use Rattle.trace_reader.specs.Form.{LineParts, is_blank, is_end_blank}
use Rattle.trace_reader.specs.declared.limits.TheConstants.{MOST_LINE_BYTES}

-- spaces and tabs; and what is dropped at a line's end, which may be CR too
abbrev pub AreBlanks : List ℕ → Type 0
AreBlanks bytes = IsTrue (list_all is_blank bytes)

abbrev pub AreEndBlanks : List ℕ → Type 0
AreEndBlanks bytes = IsTrue (list_all is_end_blank bytes)

-- blanks alone, or a comment after blanks
pub data IsSkippedLine (line : List ℕ) : Type 0 where
  blank : AreEndBlanks line → IsSkippedLine line
  hash : (a comment : List ℕ) → AreBlanks a → line ≡ a ++ (codes "#" ++ comment) → IsSkippedLine line
  dashes : (a comment : List ℕ) → AreBlanks a → line ≡ a ++ (codes "--" ++ comment) → IsSkippedLine line

-- one digit or more
abbrev pub AreDigits : List ℕ → Type 0
AreDigits bytes = IsTrue (are_digits bytes)

-- the characters of a name as in specifications, of any number, which spell no word of the language
pub record SpellsName (bytes : List ℕ) : Type 0 where
  pub first : ℕ
  pub more : List ℕ
  pub text : IsText (first ∷ more) bytes
  pub begins : begins_name first ≡ true
  pub continues : list_all is_xid_continue more ≡ true
  pub no_word : (w : Word) → bytes ≢ word_spelling w

-- one byte or more, with no blank at the front or at the end
pub record IsWhole (bytes : List ℕ) : Type 0 where
  pub front : (b : ℕ) (rest : List ℕ) → bytes ≡ b ∷ rest → is_blank b ≡ false
  pub end : (rest : List ℕ) (b : ℕ) → bytes ≡ rest ++ b ∷ [] → is_end_blank b ≡ false
  pub some : bytes ≢ []

-- a line of one of the three forms, and its parts
pub data HasForm (line : List ℕ) (parts : LineParts) : Type 0 where
  -- TIME :
  time_alone :
      (a time b z : List ℕ) →
      AreBlanks a → AreDigits time → AreBlanks b → AreEndBlanks z →
      line ≡ a ++ (time ++ (b ++ (codes ":" ++ z))) →
      parts ≡ record { time = time; name = None; value = None } →
      HasForm line parts
  -- TIME : NAME
  named :
      (a time b c name z : List ℕ) →
      AreBlanks a → AreDigits time → AreBlanks b → AreBlanks c → SpellsName name → AreEndBlanks z →
      line ≡ a ++ (time ++ (b ++ (codes ":" ++ (c ++ (name ++ z))))) →
      parts ≡ record { time = time; name = Some name; value = None } →
      HasForm line parts
  -- TIME : NAME = VALUE
  valued :
      (a time b c name d e value z : List ℕ) →
      AreBlanks a →
      AreDigits time →
      AreBlanks b →
      AreBlanks c →
      SpellsName name →
      AreBlanks d →
      AreBlanks e →
      IsWhole value →
      AreEndBlanks z →
      line ≡ a ++ (time ++ (b ++ (codes ":" ++ (c ++ (name ++ (d ++ (codes "=" ++ (e ++ (value ++ z))))))))) →
      parts ≡ record { time = time; name = Some name; value = Some value } →
      HasForm line parts

pub record IsInputNamed (name : List ℕ) (e : Equation) : Type 0 where
  pub input : e.op ≡ op.Input
  pub named : e.name ≡ Some name

-- no input has the name
abbrev pub NamesNone : System → List ℕ → Type 0
NamesNone s name = (j : ℕ) (e : Equation) → equation s j ≡ Some e → IsInputNamed name e → ⊥

-- the first input that has the name: equation `i`, of a type
pub record NamesInput (s : System) (name : List ℕ) (of : ValueType) (i : ℕ) : Type 0 where
  pub at : Equation
  pub is : equation s i ≡ Some at
  pub named : IsInputNamed name at
  pub typed : at.of ≡ of
  pub first : (j : ℕ) (e : Equation) → j < i → equation s j ≡ Some e → IsInputNamed name e → ⊥

-- what a line has after `=` is a literal of the type; a unit may have nothing
pub data HasValue (of : ValueType) (value : Option (List ℕ)) (v : Scalar) : Type 0 where
  written : (t : ScalarType) (bytes : List ℕ) → of ≡ value_type.Scalar t → value ≡ Some bytes → literal t bytes ≡ Ok v → HasValue of value v
  nothing : of ≡ value_type.Scalar scalar_type.Unit → value ≡ None → v ≡ scalar.Unit → HasValue of value v

-- an earlier line has an event of this input at this time
pub record HadEvent (before : List Line) (t i : ℕ) : Type 0 where
  pub place : ℕ
  pub value : Scalar
  pub is : slice_get before place ≡ Some (record { time = t; event = Some (i, value) })

module _ (s : System) (strict : Bool) (before : List Line) (n : ℕ) where
  -- what a line of a time says, with a name or without, or why it is refused
  pub data Says (t : ℕ) (name value : Option (List ℕ)) (answer : Result (Option Line) TraceFault) : Type 0 where
    time_alone : name ≡ None → answer ≡ Ok (Some (record { time = t; event = None })) → Says t name value answer
    -- TIME : NAME .. , where no input is called so, says its time alone
    unknown :
        (stream : List ℕ) →
        name ≡ Some stream →
        NamesNone s stream →
        strict ≡ false →
        answer ≡ Ok (Some (record { time = t; event = None })) →
        Says t name value answer
    -- TIME : NAME .. , where no input is called so, is refused by a strict reader
    refused :
        (stream : List ℕ) →
        name ≡ Some stream →
        NamesNone s stream →
        strict ≡ true →
        answer ≡ Err (fault.UnknownStream n) →
        Says t name value answer
    wrong :
        (stream : List ℕ) (of : ValueType) (i : ℕ) →
        name ≡ Some stream → NamesInput s stream of i → ((v : Scalar) → HasValue of value v → ⊥) →
        answer ≡ Err (fault.WrongValue n stream) →
        Says t name value answer
    twice :
        (stream : List ℕ) (of : ValueType) (i : ℕ) (v : Scalar) →
        name ≡ Some stream → NamesInput s stream of i → HasValue of value v → HadEvent before t i →
        answer ≡ Err (fault.Twice n stream) →
        Says t name value answer
    event :
        (stream : List ℕ) (of : ValueType) (i : ℕ) (v : Scalar) →
        name ≡ Some stream → NamesInput s stream of i → HasValue of value v → (HadEvent before t i → ⊥) →
        answer ≡ Ok (Some (record { time = t; event = Some (i, v) })) →
        Says t name value answer

  -- what a line of a form says: its time is below 2^63, and no earlier line's is above it
  pub data SpellsForm (parts : LineParts) (answer : Result (Option Line) TraceFault) : Type 0 where
    too_large : 2 ^ 63 ≤ digits_value 10 parts.time → answer ≡ Err (fault.TimeTooLarge n) → SpellsForm parts answer
    back :
        (t : ℕ) → digits_value 10 parts.time ≡ t → t < 2 ^ 63 → t < last_time before →
        answer ≡ Err (fault.TimeBack n (last_time before) t) →
        SpellsForm parts answer
    says :
        (t : ℕ) → digits_value 10 parts.time ≡ t → t < 2 ^ 63 → last_time before ≤ t →
        Says t parts.name parts.value answer →
        SpellsForm parts answer

  -- line number `n` after these lines
  pub data SpellsLine (line : List ℕ) (answer : Result (Option Line) TraceFault) : Type 0 where
    too_long : MOST_LINE_BYTES < length line → answer ≡ Err (fault.LineTooLong n) → SpellsLine line answer
    skipped : length line ≤ MOST_LINE_BYTES → IsSkippedLine line → answer ≡ Ok None → SpellsLine line answer
    no_form :
        length line ≤ MOST_LINE_BYTES → (IsSkippedLine line → ⊥) → ((parts : LineParts) → HasForm line parts → ⊥) →
        answer ≡ Err (fault.BadLine n) →
        SpellsLine line answer
    formed : (parts : LineParts) → length line ≤ MOST_LINE_BYTES → HasForm line parts → SpellsForm parts answer → SpellsLine line answer
