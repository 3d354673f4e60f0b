-- The inputs that had an event at the last time stand for all earlier lines.
use Rattle.std.proofs.Common.{◌≡◌, ◌==◌, ◌≤◌, ◌<◌, ℕ, Bool, true, false, ◌&&◌, ◌||◌, List, [], ◌∷◌, ◌++◌, ◌+◌, length, take, get_or, nat_lt, Option, Some, None, Ok, Err, refl, sym, ap, ◌∙◌, arith, append-nil}
use Rattle.std.proofs.lemmas.Bool.{eq-eqb, eqb-true, eqb-false, ne_eqb, ltb-false}
use Rattle.std.proofs.lemmas.List.Folds.{list_any-append}
use Rattle.std.proofs.lemmas.List.{take_more}
use Rattle.std.proofs.lemmas.Option.{same_Some, slice_get-get_or, slice_get_within}
use Rattle.std.specs.Prelude.{if◌then◌else◌, slice_get}
use Rattle.std.specs.List.{AllByRecursion}
use Rattle.tsl_value.specs.declared.scalar.Scalar.{Scalar}
use Rattle.flat_core.specs.Members.{is_in}
use Rattle.flat_core.specs.Pending.{option_is}
use Rattle.flat_core.specs.System.{System}
use Rattle.flat_core.specs.Line.{Line, IsSorted, last_time}
use Rattle.trace_reader.specs.declared.fault.TraceFault.TheVariants as fault
use Rattle.trace_reader.specs.Form.{LineParts, content, is_long, parts_of, says_nothing, time_of}
use Rattle.trace_reader.specs.Reading.{input_in, inputs_at, is_among, had_event, input_called, value_at, as_read, placed, addressed, said, said_at, formed, judged}
use Rattle.trace_reader.specs.inner.Reader.{had_now, seen_with}
use Rattle.trace_reader.specs.inner.LastTime.{last_read, or_zero}
use Rattle.trace_reader.proofs.LineLemmas.{inputs_at-append, last_time-push}

-- no line is after the last one
abbrev UpTo : ℕ → List Line → Type 0
UpTo last ls = AllByRecursion (λ (l : Line). l.time ≤ last) ls

up_to_last : (ls : List Line) → IsSorted ls → UpTo (last_time ls) ls
up_to_last [] it = tt
up_to_last (l ∷ []) it = (omega arith, tt)
up_to_last (l ∷ m ∷ ls) it =
    let first : l.time ≤ m.time = it.0 in
    let rest : UpTo (last_time (m ∷ ls)) (m ∷ ls) = up_to_last (m ∷ ls) it.1 in
    let low : m.time ≤ last_time (m ∷ ls) = rest.0 in
    (omega arith, rest)

not_at : (t last : ℕ) (l : Line) → l.time ≤ last → last < t → (l.time == t) ≡ false
not_at t last l low high = let other : l.time ≡ t → ⊥ = λ same. omega arith in ne_eqb l.time t other

none_later : (t last : ℕ) (ls : List Line) → UpTo last ls → last < t → inputs_at t ls ≡ []
none_later t last [] low high = refl
none_later t last (l ∷ ls) low high = λ k. (if not_at t last l low.0 high k then input_in l.event else []) ++ none_later t last ls low.1 high k

-- those at a time that is not before the last one
at_last : (t last : ℕ) (ls : List Line) (same : Bool) → UpTo last ls → last ≤ t → last == t ≡ same → inputs_at t ls ≡ (if same then inputs_at last ls else [])
at_last t last ls true low le is = ap (λ u. inputs_at u ls) (sym (eqb-true last t is))
at_last t last ls false low le is =
    let other : last ≡ t → ⊥ = eqb-false last t is in
    let later : last < t = omega arith in
    none_later t last ls low later

inputs_from_last : (t : ℕ) (ls : List Line) → IsSorted ls → last_time ls ≤ t → inputs_at t ls ≡ (if last_time ls == t then inputs_at (last_time ls) ls else [])
inputs_from_last t ls in_order le = at_last t (last_time ls) ls (last_time ls == t) (up_to_last ls in_order) le refl

among_if : (same : Bool) (seen : List ℕ) (i : ℕ) → is_among (if same then seen else []) i ≡ (same && is_among seen i)
among_if true seen i = refl
among_if false seen i = refl

-- These inputs had an event at the last time.
abbrev pub AreSeen : List Line → List ℕ → Type 0
AreSeen ls seen = (i : ℕ) → is_among seen i ≡ had_event ls (last_time ls) i

pub had_same : (ls : List Line) (seen : List ℕ) → AreSeen ls seen → (t i : ℕ) → IsSorted ls → last_time ls ≤ t → had_event ls t i ≡ had_now (last_read ls) seen t i
had_same [] seen are t i in_order le = refl
had_same (l ∷ ls) seen are t i in_order le =
    let last = last_time (l ∷ ls) in
    ap (λ is. is_among is i) (inputs_from_last t (l ∷ ls) in_order le) ∙ among_if (last == t) (inputs_at last (l ∷ ls)) i ∙ ap (λ b. (last == t) && b) (sym (are i))

-- the last time, or 0
pub last_zero : (ls : List Line) → last_time ls ≡ or_zero (last_read ls)
last_zero [] = refl
last_zero (l ∷ ls) = refl

pub last_read-push : (ls : List Line) (l : Line) → last_read (ls ++ l ∷ []) ≡ Some l.time
last_read-push [] l = refl
last_read-push (m ∷ ls) l = ap (λ t. Some t) (last_time-push (m ∷ ls) l)

-- with a line more
pub seen_push : (ls : List Line) (l : Line) (seen : List ℕ) → AreSeen ls seen → IsSorted ls → last_time ls ≤ l.time → AreSeen (ls ++ l ∷ []) (seen_with (last_read ls) seen l)
seen_push ls l seen are in_order le i =
    let same = option_is l.time (last_read ls) in
    list_any-append (λ j. j == i) (if same then seen else []) (input_in l.event)
    ∙ ap (λ b. b || is_among (input_in l.event) i) (among_if same seen i ∙ sym (had_same ls seen are l.time i in_order le))
    ∙ sym (list_any-append (λ j. j == i) (inputs_at l.time ls) (input_in l.event))
    ∙ ap (λ is. is_among is i) (ap (λ is. inputs_at l.time ls ++ is) (sym one) ∙ sym (inputs_at-append l.time ls (l ∷ [])))
    ∙ ap (λ t. had_event (ls ++ l ∷ []) t i) (sym (last_time-push ls l))
  where
    one : inputs_at l.time (l ∷ []) ≡ input_in l.event
    one = (λ k. (if eq-eqb l.time l.time refl k then input_in l.event else []) ++ []) ∙ append-nil (input_in l.event)

-- The inputs as a set, one after the other.
or_last : (a b : Bool) → (b || a) ≡ (a || (b || false))
or_last true true = refl
or_last true false = refl
or_last false true = refl
or_last false false = refl

pub among_more : (seen set new : List ℕ) (k x : ℕ) → k < length seen → x ≡ get_or seen k x → ((i : ℕ) → is_in set i ≡ is_among (take k seen) i) → ((i : ℕ) → is_in new i ≡ ((x == i) || is_in set i)) →
    (i : ℕ) → is_in new i ≡ is_among (take (k + 1) seen) i
among_more seen set new k x within is are more i =
    more i ∙ ap (λ b. (x == i) || b) (are i) ∙ or_last (is_among (take k seen) i) (x == i)
    ∙ sym (list_any-append (λ j. j == i) (take k seen) (x ∷ []))
    ∙ ap (λ is. is_among is i) (ap (λ y. take k seen ++ y ∷ []) is ∙ sym (take_more seen k x within))

pub listed_more : (seen new set : List ℕ) (k x : ℕ) → Some x ≡ slice_get set k → new ≡ seen ++ x ∷ [] → seen ≡ take k set → new ≡ take (k + 1) set
listed_more seen new set k x is more so_far =
    let within = slice_get_within set k x (sym is) in
    let same : get_or set k x ≡ x = same_Some (get_or set k x) x (sym (slice_get-get_or set k x within) ∙ sym is) in
    more ∙ ap (λ xs. xs ++ x ∷ []) so_far ∙ sym (take_more set k x within ∙ ap (λ y. take k set ++ y ∷ []) same)

-- Two ways to say which inputs had an event judge alike where they agree from the last time on.
module _ (s : System) (strict : Bool) (had other : ℕ → ℕ → Bool) (last n : ℕ) (agree : (t i : ℕ) → last ≤ t → had t i ≡ other t i) where
  placed_same : (t : ℕ) (name : List ℕ) (i : ℕ) (o : Option Scalar) → last ≤ t → placed s strict had last n t name i o ≡ placed s strict other last n t name i o
  placed_same t name i None le = refl
  placed_same t name i (Some v) le = ap (λ again. if again then Err (fault.Twice n name) else Ok (record { time = t; event = Some (i, v) })) (agree t i le)

  addressed_same : (t : ℕ) (name : List ℕ) (value : Option (List ℕ)) (o : Option ℕ) → last ≤ t → addressed s strict had last n t name value o ≡ addressed s strict other last n t name value o
  addressed_same t name value None le = refl
  addressed_same t name value (Some i) le = placed_same t name i (value_at s i value) le

  said_same : (t : ℕ) (name value : Option (List ℕ)) → last ≤ t → said s strict had last n t name value ≡ said s strict other last n t name value
  said_same t None value le = refl
  said_same t (Some name) value le = addressed_same t name value (input_called s name) le

  back_same : (back : Bool) (t : ℕ) (name value : Option (List ℕ)) → nat_lt t last ≡ back →
      (if back then Err (fault.TimeBack n last t) else said s strict had last n t name value) ≡ (if back then Err (fault.TimeBack n last t) else said s strict other last n t name value)
  back_same true t name value is = refl
  back_same false t name value is = said_same t name value (ltb-false t last is)

  said_at_same : (parts : LineParts) (o : Option ℕ) → said_at s strict had last n parts o ≡ said_at s strict other last n parts o
  said_at_same parts None = refl
  said_at_same parts (Some t) = back_same (nat_lt t last) t parts.name parts.value refl

  formed_same : (o : Option LineParts) → formed s strict had last n o ≡ formed s strict other last n o
  formed_same None = refl
  formed_same (Some parts) = said_at_same parts (time_of parts.time)

  pub judged_same : (line : List ℕ) → judged s strict had last n line ≡ judged s strict other last n line
  judged_same line =
      ap (λ r. if is_long (length line) then Err (fault.LineTooLong n) else (if says_nothing (content line) then Ok None else as_read r)) (formed_same (parts_of (content line)))
