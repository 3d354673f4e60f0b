-- What holds of a line that is judged to stand.
use Rattle.std.proofs.Common.{◌≡◌, ◌≤◌, ◌<◌, ◌^◌, ℕ, suc, ◌+◌, Bool, true, false, ◌&&◌, List, [], ◌∷◌, length, nat_lt, Option, Some, None, Result, Ok, Err, refl, sym, ap, subst, ◌∙◌, arith}
use Rattle.std.proofs.lemmas.Bool.{ltb-true, ltb-false}
use Rattle.std.proofs.lemmas.Option.{slice_get_within, same_Some}
use Rattle.std.specs.Prelude.{ℤ, if◌then◌else◌, slice_get}
use Rattle.std.specs.List.{position_from}
use Rattle.std.specs.Option.{option_and_then}
use Rattle.std.specs.Result.{result_ok}
use Rattle.std.specs.Str.Parse.{digits_value}
use Rattle.tsl_value.specs.declared.scalar.Scalar.{Scalar}
use Rattle.tsl_value.specs.declared.scalar.Scalar.TheVariants as scalar
use Rattle.tsl_value.specs.declared.scalar.ScalarType.{ScalarType}
use Rattle.tsl_value.specs.declared.scalar.ScalarType.TheVariants as scalar_type
use Rattle.tsl_value.specs.declared.scalar.ValueType.{ValueType}
use Rattle.tsl_value.specs.declared.scalar.ValueType.TheVariants as value_type
use Rattle.tsl_value.specs.Literal.{literal, short_text, unquoted}
use Rattle.tsl_value.specs.declared.literal.LiteralFault.{LiteralFault}
use Rattle.tsl_value.specs.View.{Plain, is_of, is_of_scalar}
use Rattle.tsl_value.specs.declared.limits.TheConstants.{MOST_TEXT_BYTES}
use Rattle.flat_core.specs.declared.equation.Equation.{Equation}
use Rattle.flat_core.specs.declared.equation.Op.{Op}
use Rattle.flat_core.specs.declared.equation.Op.TheVariants as op
use Rattle.flat_core.specs.System.{System, equation}
use Rattle.flat_core.specs.Line.{Line}
use Rattle.trace_reader.specs.declared.fault.TraceFault.{TraceFault}
use Rattle.trace_reader.specs.declared.fault.TraceFault.TheVariants as fault
use Rattle.trace_reader.specs.Form.{LineParts, content, is_long, parts_of, says_nothing, time_of}
use Rattle.trace_reader.specs.Reading.{is_input, is_input_called, input_called, value_of, value_at, as_read, placed, addressed, said, said_at, formed, judged_content, judged}
use Rattle.trace_reader.specs.inner.Laws.{IsInputEvent, IsProperLine}

pub record Came {A B : Type 0} (f : A → Option B) (o : Option A) (y : B) : Type 0 where
  pub at : A
  pub is : o ≡ Some at
  pub gives : f at ≡ Some y

pub came : {A B : Type 0} (f : A → Option B) (o : Option A) (y : B) → option_and_then f o ≡ Some y → Came f o y
came f None y is = absurd (cc)
came f (Some x) y is = record { at = x; is = refl; gives = is }

pub only_input : (o : Op) → is_input o ≡ true → o ≡ op.Input
only_input op.Input is = refl
only_input _ is = absurd (cc)

-- an equation that passes a test, at its place
pub record IsFound (p : Equation → Bool) (es : List Equation) (from place : ℕ) : Type 0 where
  pub after : ℕ
  pub place_is : place ≡ from + after
  pub at : Equation
  pub is : slice_get es after ≡ Some at
  pub passes : p at ≡ true

found_step : (p : Equation → Bool) (e : Equation) (es : List Equation) (from place : ℕ) (here : Bool) → p e ≡ here → (if here then Some from else position_from p (from + 1) es) ≡ Some place →
    (position_from p (from + 1) es ≡ Some place → IsFound p es (from + 1) place) → IsFound p (e ∷ es) from place
found_step p e es from place true passes is later =
    record { after = 0; place_is = let same = same_Some from place is in omega arith; at = e; is = refl; passes = passes }
found_step p e es from place false passes is later =
    let it = later is in
    record { after = suc it.after; place_is = let at = it.place_is in omega arith; at = it.at; is = it.is; passes = it.passes }

pub found : (p : Equation → Bool) (es : List Equation) (from place : ℕ) → position_from p from es ≡ Some place → IsFound p es from place
found p [] from place is = absurd (cc)
found p (e ∷ es) from place is = found_step p e es from place (p e) refl is (found p es (from + 1) place)

pub called_within : (s : System) (name : List ℕ) (i : ℕ) → Some i ≡ input_called s name → i < length s.equations
called_within s name i is =
    let at = found (is_input_called name) s.equations 0 i (sym is) in
    let place : at.after ≡ i = let it = at.place_is in omega arith in
    subst (λ (k : ℕ). k < length s.equations) place (slice_get_within s.equations at.after at.at at.is)

and_first : (a b : Bool) → (a && b) ≡ true → a ≡ true
and_first true b is = refl
and_first false b is = is

-- a literal is of its type, and a text is short
record Fits (of : ScalarType) (v : Scalar) : Type 0 where
  typed : is_of_scalar of v ≡ true
  short : (text : List ℕ) → v ≡ scalar.Text text → length text ≤ MOST_TEXT_BYTES

fits_as : (of : ScalarType) (v w : Scalar) → Some v ≡ Some w → Fits of v → Fits of w
fits_as of v w is fits = subst (Fits of) (same_Some v w is) fits

bool_fits : (a b : Bool) (f : LiteralFault) (v : Scalar) → result_ok (if a then Ok (scalar.Bool true) else (if b then Ok (scalar.Bool false) else Err f)) ≡ Some v → Fits scalar_type.Bool v
bool_fits true b f v is = fits_as scalar_type.Bool (scalar.Bool true) v is (record { typed = refl; short = λ text same. absurd (cc) })
bool_fits false true f v is = fits_as scalar_type.Bool (scalar.Bool false) v is (record { typed = refl; short = λ text same. absurd (cc) })
bool_fits false false f v is = absurd (cc)

unit_fits : (a : Bool) (f : LiteralFault) (v : Scalar) → result_ok (if a then Ok scalar.Unit else Err f) ≡ Some v → Fits scalar_type.Unit v
unit_fits true f v is = fits_as scalar_type.Unit scalar.Unit v is (record { typed = refl; short = λ text same. absurd (cc) })
unit_fits false f v is = absurd (cc)

int_fits : (wide bad : Bool) (z : ℤ) (f g : LiteralFault) (v : Scalar) → result_ok (if bad then Err f else (if wide then Ok (scalar.Int z) else Err g)) ≡ Some v → Fits scalar_type.Int v
int_fits wide true z f g v is = absurd (cc)
int_fits true false z f g v is = fits_as scalar_type.Int (scalar.Int z) v is (record { typed = refl; short = λ text same. absurd (cc) })
int_fits false false z f g v is = absurd (cc)

text_same : (x y : List ℕ) → scalar.Text x ≡ scalar.Text y → x ≡ y
text_same x y is = cc

long_fits : (long : Bool) (text : List ℕ) (f : LiteralFault) (v : Scalar) → nat_lt MOST_TEXT_BYTES (length text) ≡ long → result_ok (if long then Err f else Ok (scalar.Text text)) ≡ Some v → Fits scalar_type.Text v
long_fits true text f v at is = absurd (cc)
long_fits false text f v at is = fits_as scalar_type.Text (scalar.Text text) v is (record {
  typed = refl;
  short = λ other same. subst (λ (t : List ℕ). length t ≤ MOST_TEXT_BYTES) (text_same text other same) (ltb-false MOST_TEXT_BYTES (length text) at);
})

short_fits : (content : Option (List ℕ)) (v : Scalar) → result_ok (short_text content) ≡ Some v → Fits scalar_type.Text v
short_fits None v is = absurd (cc)
short_fits (Some text) v is = long_fits (nat_lt MOST_TEXT_BYTES (length text)) text _ v refl is

text_fits : (utf8 : Bool) (content : Option (List ℕ)) (f : LiteralFault) (v : Scalar) → result_ok (if utf8 then short_text content else Err f) ≡ Some v → Fits scalar_type.Text v
text_fits true content f v is = short_fits content v is
text_fits false content f v is = absurd (cc)

literal_fits : (of : ScalarType) (bytes : List ℕ) (v : Scalar) → result_ok (literal of bytes) ≡ Some v → Fits of v
unfolding literal
literal_fits scalar_type.Unit bytes v is = unit_fits _ _ v is
literal_fits scalar_type.Int bytes v is = int_fits _ _ _ _ _ v is
literal_fits scalar_type.Bool bytes v is = bool_fits _ _ _ v is
literal_fits scalar_type.Text bytes v is = text_fits _ (unquoted bytes) _ v is

record FitsType (of : ValueType) (v : Scalar) : Type 0 where
  typed : is_of of (Plain v) ≡ true
  short : (text : List ℕ) → v ≡ scalar.Text text → length text ≤ MOST_TEXT_BYTES

value_fits : (of : ValueType) (value : Option (List ℕ)) (v : Scalar) → value_of of value ≡ Some v → FitsType of v
value_fits (value_type.Scalar of) (Some bytes) v is = let it = literal_fits of bytes v is in record { typed = it.typed; short = it.short }
value_fits (value_type.Scalar scalar_type.Unit) None v is =
    subst (FitsType (value_type.Scalar scalar_type.Unit)) (same_Some scalar.Unit v is) (record { typed = refl; short = λ text same. absurd (cc) })
value_fits _ _ v is = absurd (cc)

-- the event of an input
record IsEvent (s : System) (i : ℕ) (v : Scalar) : Type 0 where
  event : IsInputEvent s i v
  short : (text : List ℕ) → v ≡ scalar.Text text → length text ≤ MOST_TEXT_BYTES

event_fits : (s : System) (name : List ℕ) (value : Option (List ℕ)) (i : ℕ) (v : Scalar) → input_called s name ≡ Some i → value_at s i value ≡ Some v → IsEvent s i v
event_fits s name value i v of_name is =
    let at = found (is_input_called name) s.equations 0 i of_name in
    let place : at.after ≡ i = let it = at.place_is in omega arith in
    let here : equation s i ≡ Some at.at = ap (slice_get s.equations) (sym place) ∙ at.is in
    let one = came (λ (e : Equation). value_of e.of value) (equation s i) v is in
    let same : at.at ≡ one.at = same_Some at.at one.at (sym here ∙ one.is) in
    let fits = value_fits one.at.of value v one.gives in
    record {
      event = record {
        at = one.at;
        is = one.is;
        input = ap (λ (e : Equation). e.op) (sym same) ∙ only_input at.at.op (and_first (is_input at.at.op) _ at.passes);
        fits = fits.typed;
      };
      short = fits.short;
    }

-- A line that stands is not before the last one, gives no input a second event, and has an input's event.
pub record Stands (s : System) (had : ℕ → ℕ → Bool) (last : ℕ) (l : Line) : Type 0 where
  pub later : last ≤ l.time
  pub new : (i : ℕ) (v : Scalar) → l.event ≡ Some (i, v) → had l.time i ≡ false
  pub proper : IsProperLine s l

module _ (s : System) (strict : Bool) (had : ℕ → ℕ → Bool) (last n : ℕ) where
  abbrev IfOne : Result Line TraceFault → Type 0
  IfOne (Ok l) = Stands s had last l
  IfOne (Err f) = Unit {0}

  abbrev pub IfStands : Result (Option Line) TraceFault → Type 0
  IfStands (Ok (Some l)) = Stands s had last l
  IfStands (Ok None) = Unit {0}
  IfStands (Err f) = Unit {0}

  bare_stands : (t : ℕ) → t < 2 ^ 63 → last ≤ t → IfOne (Ok (record { time = t; event = None }))
  bare_stands t small later = record {
    later = later;
    new = λ i v is. absurd (cc);
    proper = record { time = small; event = λ i v is. absurd (cc); short = λ i text is. absurd (cc) };
  }

  event_stands : (t i : ℕ) (v : Scalar) → t < 2 ^ 63 → last ≤ t → had t i ≡ false → IsEvent s i v → IfOne (Ok (record { time = t; event = Some (i, v) }))
  event_stands t i v small later new it =
      let same : (j : ℕ) (w : Scalar) → Some (i, v) ≡ Some (j, w) → (i, v) ≡ (j, w) = λ j w is. same_Some (i, v) (j, w) is in
      record {
        later = later;
        new = λ j w is. ap (λ (e : ℕ × Scalar). had t e.0) (sym (same j w is)) ∙ new;
        proper = record {
          time = small;
          event = λ j w is. subst (λ (e : ℕ × Scalar). IsInputEvent s e.0 e.1) (same j w is) it.event;
          short = λ j text is. it.short text (ap (λ (e : ℕ × Scalar). e.1) (same j (scalar.Text text) is));
        };
      }

  placed_stands : (t : ℕ) (name : List ℕ) (i : ℕ) (o : Option Scalar) → t < 2 ^ 63 → last ≤ t → ((v : Scalar) → o ≡ Some v → IsEvent s i v) → IfOne (placed s strict had last n t name i o)
  placed_stands t name i None small later fits = tt
  placed_stands t name i (Some v) small later fits = twice_stands (had t i) refl
    where
      twice_stands : (again : Bool) → had t i ≡ again → IfOne (if again then Err (fault.Twice n name) else Ok (record { time = t; event = Some (i, v) }))
      twice_stands true is = tt
      twice_stands false is = event_stands t i v small later is (fits v refl)

  unknown_stands : (refused : Bool) (t : ℕ) → t < 2 ^ 63 → last ≤ t → IfOne (if refused then Err (fault.UnknownStream n) else Ok (record { time = t; event = None }))
  unknown_stands true t small later = tt
  unknown_stands false t small later = bare_stands t small later

  addressed_stands : (t : ℕ) (name : List ℕ) (value : Option (List ℕ)) (o : Option ℕ) → t < 2 ^ 63 → last ≤ t → input_called s name ≡ o → IfOne (addressed s strict had last n t name value o)
  addressed_stands t name value None small later of_name = unknown_stands strict t small later
  addressed_stands t name value (Some i) small later of_name = placed_stands t name i (value_at s i value) small later (λ v is. event_fits s name value i v of_name is)

  said_stands : (t : ℕ) (name value : Option (List ℕ)) → t < 2 ^ 63 → last ≤ t → IfOne (said s strict had last n t name value)
  said_stands t None value small later = bare_stands t small later
  said_stands t (Some name) value small later = addressed_stands t name value (input_called s name) small later refl

  back_stands : (t : ℕ) (name value : Option (List ℕ)) (back : Bool) → t < 2 ^ 63 → nat_lt t last ≡ back → IfOne (if back then Err (fault.TimeBack n last t) else said s strict had last n t name value)
  back_stands t name value true small is = tt
  back_stands t name value false small is = said_stands t name value small (ltb-false t last is)

  said_at_stands : (parts : LineParts) (t : ℕ) (low : Bool) → nat_lt t 0x8000_0000_0000_0000 ≡ low → IfOne (said_at s strict had last n parts (if low then Some t else None))
  said_at_stands parts t false is = tt
  said_at_stands parts t true is = back_stands t parts.name parts.value (nat_lt t last) (ltb-true t 0x8000_0000_0000_0000 is) refl

  formed_stands : (o : Option LineParts) → IfOne (formed s strict had last n o)
  formed_stands None = tt
  formed_stands (Some parts) = said_at_stands parts (digits_value 10 parts.time) (nat_lt (digits_value 10 parts.time) 0x8000_0000_0000_0000) refl

  as_read_stands : (r : Result Line TraceFault) → IfOne r → IfStands (as_read r)
  as_read_stands (Ok l) it = it
  as_read_stands (Err f) it = tt

  content_stands : (bytes : List ℕ) (nothing : Bool) → IfStands (if nothing then Ok None else as_read (formed s strict had last n (parts_of bytes)))
  content_stands bytes true = tt
  content_stands bytes false = as_read_stands (formed s strict had last n (parts_of bytes)) (formed_stands (parts_of bytes))

  long_stands : (line : List ℕ) (long : Bool) → IfStands (if long then Err (fault.LineTooLong n) else judged_content s strict had last n (content line))
  long_stands line true = tt
  long_stands line false = content_stands (content line) (says_nothing (content line))

  pub judged_stands : (line : List ℕ) → IfStands (judged s strict had last n line)
  judged_stands line = long_stands line (is_long (length line))

  pub line_stands : (line : List ℕ) (l : Line) → judged s strict had last n line ≡ Ok (Some l) → Stands s had last l
  line_stands line l is = subst IfStands is (judged_stands line)

  -- No line is refused because memory runs out.
  abbrev NotMemory : Result Line TraceFault → Type 0
  NotMemory (Err fault.Memory) = ⊥
  NotMemory _ = Unit {0}

  placed_known : (t : ℕ) (name : List ℕ) (i : ℕ) (o : Option Scalar) → NotMemory (placed s strict had last n t name i o)
  placed_known t name i None = tt
  placed_known t name i (Some v) = known (had t i)
    where
      known : (again : Bool) → NotMemory (if again then Err (fault.Twice n name) else Ok (record { time = t; event = Some (i, v) }))
      known true = tt
      known false = tt

  unknown_known : (refused : Bool) (t : ℕ) → NotMemory (if refused then Err (fault.UnknownStream n) else Ok (record { time = t; event = None }))
  unknown_known true t = tt
  unknown_known false t = tt

  addressed_known : (t : ℕ) (name : List ℕ) (value : Option (List ℕ)) (o : Option ℕ) → NotMemory (addressed s strict had last n t name value o)
  addressed_known t name value None = unknown_known strict t
  addressed_known t name value (Some i) = placed_known t name i (value_at s i value)

  said_known : (t : ℕ) (name value : Option (List ℕ)) → NotMemory (said s strict had last n t name value)
  said_known t None value = tt
  said_known t (Some name) value = addressed_known t name value (input_called s name)

  back_known : (back : Bool) (t : ℕ) (name value : Option (List ℕ)) → NotMemory (if back then Err (fault.TimeBack n last t) else said s strict had last n t name value)
  back_known true t name value = tt
  back_known false t name value = said_known t name value

  said_at_known : (parts : LineParts) (o : Option ℕ) → NotMemory (said_at s strict had last n parts o)
  said_at_known parts None = tt
  said_at_known parts (Some t) = back_known (nat_lt t last) t parts.name parts.value

  formed_known : (o : Option LineParts) → NotMemory (formed s strict had last n o)
  formed_known None = tt
  formed_known (Some parts) = said_at_known parts (time_of parts.time)

  as_read_known : (r : Result Line TraceFault) → NotMemory r → as_read r ≡ Err fault.Memory → ⊥
  as_read_known (Ok l) it is = cc
  as_read_known (Err f) it is = subst (λ (g : TraceFault). NotMemory (Err g)) (err_same f fault.Memory is) it
    where
      err_same : (x y : TraceFault) → (let one : Result (Option Line) TraceFault = Err x in one ≡ Err y) → x ≡ y
      err_same x y is = cc

  content_known : (bytes : List ℕ) (nothing : Bool) → (if nothing then Ok None else as_read (formed s strict had last n (parts_of bytes))) ≡ Err fault.Memory → ⊥
  content_known bytes true is = cc
  content_known bytes false is = as_read_known (formed s strict had last n (parts_of bytes)) (formed_known (parts_of bytes)) is

  long_known : (line : List ℕ) (long : Bool) → (if long then Err (fault.LineTooLong n) else judged_content s strict had last n (content line)) ≡ Err fault.Memory → ⊥
  long_known line true is = cc
  long_known line false is = content_known (content line) (says_nothing (content line)) is

  pub never_memory : (line : List ℕ) → judged s strict had last n line ≡ Err fault.Memory → ⊥
  never_memory line is = long_known line (is_long (length line)) is
