-- What a line is judged to be by cuts is what it is by the relation.
use Rattle.std.proofs.Common.{◌≡◌, ◌==◌, ◌≤◌, ◌<◌, ◌^◌, ℕ, zero, suc, ◌+◌, Bool, true, false, ◌&&◌, ◌||◌, List, [], ◌∷◌, length, nat_lt, Option, Some, None, Result, Ok, Err, refl, sym, ap, subst, ◌∙◌, arith, inl, inr}
use Rattle.std.proofs.lemmas.Bool.{and_parts, cases_Bool, eq-eqb, eqb-true, false≢true, true≢false, ltb-true, ltb-false, lt-ltb, le-ltb}
use Rattle.std.proofs.lemmas.List.Folds.{list_any-append}
use Rattle.std.proofs.lemmas.Slice.Eq.{bytes_eq-Decides}
use Rattle.std.specs.Prelude.{if◌then◌else◌, slice_get}
use Rattle.std.specs.List.{position_from}
use Rattle.std.specs.Option.{option_and_then}
use Rattle.std.specs.Result.{result_ok}
use Rattle.std.specs.Str.Parse.{digits_value}
use Rattle.std.proofs.lemmas.Option.{same_Some}
use Rattle.std.proofs.Math.Bool.{or-true}
use Rattle.tsl_value.specs.declared.scalar.Scalar.{Scalar}
use Rattle.tsl_value.specs.declared.scalar.Scalar.TheVariants as scalar
use Rattle.tsl_value.specs.declared.scalar.ScalarType.TheVariants as scalar_type
use Rattle.tsl_value.specs.declared.scalar.ValueType.{ValueType}
use Rattle.tsl_value.specs.declared.scalar.ValueType.TheVariants as value_type
use Rattle.tsl_value.specs.declared.literal.LiteralFault.{LiteralFault}
use Rattle.tsl_value.specs.Literal.{literal}
use Rattle.flat_core.specs.declared.equation.Equation.{Equation}
use Rattle.flat_core.specs.System.{System}
use Rattle.flat_core.specs.Line.{Line, last_time}
use Rattle.trace_reader.specs.declared.fault.TraceFault.{TraceFault}
use Rattle.trace_reader.specs.declared.fault.TraceFault.TheVariants as fault
use Rattle.trace_reader.specs.Form.{LineParts, content, is_long, parts_of, says_nothing, time_of}
use Rattle.trace_reader.specs.Reading.{is_input, is_called, is_input_called, input_called, value_of, value_at, input_in, inputs_at, is_among, had_event, as_read, placed, addressed, said, said_at, formed, judged_content, judged}
use Rattle.trace_reader.specs.inner.Laws.{SpelledAgrees}
use Rattle.trace_reader.specs.inner.Spelling.{HadEvent, HasForm, HasValue, IsInputNamed, IsSkippedLine, NamesInput, NamesNone, Says, SpellsForm, SpellsLine}
use Rattle.trace_reader.proofs.FormLemmas.{form_parts, form_says, nothing_skipped, parts_form, skipped_nothing}
use Rattle.trace_reader.proofs.JudgedLemmas.{only_input}
use Rattle.trace_reader.specs.declared.limits.TheConstants.{MOST_LINE_BYTES}

-- The first of a list that passes a test, and that none does.
record IsFirst (p : Equation → Bool) (es : List Equation) (k : ℕ) : Type 0 where
  at : Equation
  is : slice_get es k ≡ Some at
  passes : p at ≡ true
  first : (j : ℕ) (e : Equation) → j < k → slice_get es j ≡ Some e → p e ≡ true → ⊥

record IsPlace (p : Equation → Bool) (es : List Equation) (from place : ℕ) : Type 0 where
  after : ℕ
  place_is : place ≡ from + after
  it : IsFirst p es after

none_before : (p : Equation → Bool) (e : Equation) (es : List Equation) (k : ℕ) → p e ≡ false → IsFirst p es k →
    (j : ℕ) (f : Equation) → j < suc k → slice_get (e ∷ es) j ≡ Some f → p f ≡ true → ⊥
none_before p e es k fails it zero f below is passes = false≢true (sym fails ∙ ap p (same_Some e f is) ∙ passes)
none_before p e es k fails it (suc j) f below is passes = it.first j f (omega arith) is passes

place_step : (p : Equation → Bool) (e : Equation) (es : List Equation) (from place : ℕ) (here : Bool) → p e ≡ here → (if here then Some from else position_from p (from + 1) es) ≡ Some place →
    (position_from p (from + 1) es ≡ Some place → IsPlace p es (from + 1) place) → IsPlace p (e ∷ es) from place
place_step p e es from place true passes is later = record {
  after = 0;
  place_is = let same = same_Some from place is in omega arith;
  it = record { at = e; is = refl; passes = passes; first = λ j f below at passes. absurd (omega arith) };
}
place_step p e es from place false fails is later =
    let it = later is in
    let k = it.after in
    record {
      after = suc k;
      place_is = let at = it.place_is in omega arith;
      it = record { at = it.it.at; is = it.it.is; passes = it.it.passes; first = none_before p e es k fails it.it };
    }

place_of : (p : Equation → Bool) (es : List Equation) (from place : ℕ) → position_from p from es ≡ Some place → IsPlace p es from place
place_of p [] from place is = absurd (cc)
place_of p (e ∷ es) from place is = place_step p e es from place (p e) refl is (place_of p es (from + 1) place)

fails : (p : Equation → Bool) (e : Equation) → (p e ≡ true → ⊥) → p e ≡ false
fails p e never = elim (cases_Bool (p e)) [
  | inl passes ↦ absurd (never passes)
  | inr it ↦ it
]

place_is : (p : Equation → Bool) (es : List Equation) (from k : ℕ) → IsFirst p es k → position_from p from es ≡ Some (from + k)
place_is p [] from k it = let none = it.is in absurd (cc)
place_is p (e ∷ es) from zero it =
    let here : p e ≡ true = ap p (same_Some e it.at it.is) ∙ it.passes in
    let same : from ≡ from + 0 = omega arith in
    (λ k. if here k then Some from else position_from p (from + 1) es) ∙ ap (λ n. Some n) same
place_is p (e ∷ es) from (suc k) it =
    let here : p e ≡ false = fails p e (it.first 0 e (omega arith) refl) in
    let same : from + 1 + k ≡ from + suc k = omega arith in
    (λ j. if here j then Some from else position_from p (from + 1) es)
    ∙ place_is p es (from + 1) k (record { at = it.at; is = it.is; passes = it.passes; first = λ j f below is passes. it.first (suc j) f (omega arith) is passes })
    ∙ ap (λ n. Some n) same

abbrev NonePasses : (Equation → Bool) → List Equation → Type 0
NonePasses p es = (j : ℕ) (e : Equation) → slice_get es j ≡ Some e → p e ≡ true → ⊥

no_place_step : (p : Equation → Bool) (e : Equation) (es : List Equation) (from : ℕ) (here : Bool) → p e ≡ here → (if here then Some from else position_from p (from + 1) es) ≡ None →
    (position_from p (from + 1) es ≡ None → NonePasses p es) → NonePasses p (e ∷ es)
no_place_step p e es from true passes is later j f at has = absurd (cc)
no_place_step p e es from false failed is later zero f at has = false≢true (sym failed ∙ ap p (same_Some e f at) ∙ has)
no_place_step p e es from false failed is later (suc j) f at has = later is j f at has

no_place : (p : Equation → Bool) (es : List Equation) (from : ℕ) → position_from p from es ≡ None → NonePasses p es
no_place p [] from is = λ j f at has. absurd (cc)
no_place p (e ∷ es) from is = no_place_step p e es from (p e) refl is (no_place p es (from + 1))

none_place : (p : Equation → Bool) (es : List Equation) (from : ℕ) → NonePasses p es → position_from p from es ≡ None
none_place p [] from never = refl
none_place p (e ∷ es) from never =
    let here : p e ≡ false = fails p e (never 0 e refl) in
    (λ j. if here j then Some from else position_from p (from + 1) es) ∙ none_place p es (from + 1) (λ j f. never (suc j) f)

-- an input of a name
called_same : (name : List ℕ) (o : Option (List ℕ)) → is_called name o ≡ true → o ≡ Some name
called_same name None is = absurd (cc)
called_same name (Some other) is = ap (λ bs. Some bs) (sym ((bytes_eq-Decides name other).0 is))

pub input_named : (name : List ℕ) (e : Equation) → is_input_called name e ≡ true → IsInputNamed name e
input_named name e is =
    let parts = and_parts (is_input e.op) (is_called name e.name) is in
    record { input = only_input e.op parts.0; named = called_same name e.name parts.1 }

input_passes : (name : List ℕ) (e : Equation) → IsInputNamed name e → is_input_called name e ≡ true
input_passes name e it =
    let o = it.input in
    let n = it.named in
    (λ k. is_input (o k) && is_called name (n k)) ∙ (bytes_eq-Decides name name).1 refl

-- the input that a name has, and that it has none
record IsNamed (s : System) (name : List ℕ) (i : ℕ) : Type 0 where
  of : ValueType
  names : NamesInput s name of i

named_input : (s : System) (name : List ℕ) (i : ℕ) → input_called s name ≡ Some i → IsNamed s name i
named_input s name i is =
    let place = place_of (is_input_called name) s.equations 0 i is in
    let same : place.after ≡ i = let it = place.place_is in omega arith in
    let first = subst (IsFirst (is_input_called name) s.equations) same place.it in
    record {
      of = first.at.of;
      names = record {
        at = first.at;
        is = first.is;
        named = input_named name first.at first.passes;
        typed = refl;
        first = λ j f below here named. first.first j f below here (input_passes name f named);
      };
    }

input_found : (s : System) (name : List ℕ) (of : ValueType) (i : ℕ) → NamesInput s name of i → input_called s name ≡ Some i
input_found s name of i it =
    let same : 0 + i ≡ i = omega arith in
    place_is (is_input_called name) s.equations 0 i (record {
      at = it.at;
      is = it.is;
      passes = input_passes name it.at it.named;
      first = λ j f below here passes. it.first j f below here (input_named name f passes);
    }) ∙ ap (λ n. Some n) same

no_input : (s : System) (name : List ℕ) → input_called s name ≡ None → NamesNone s name
no_input s name is j e at named = no_place (is_input_called name) s.equations 0 is j e at (input_passes name e named)

none_found : (s : System) (name : List ℕ) → NamesNone s name → input_called s name ≡ None
none_found s name none = none_place (is_input_called name) s.equations 0 (λ j e at passes. none j e at (input_named name e passes))

value_is : (s : System) (name : List ℕ) (of : ValueType) (i : ℕ) (value : Option (List ℕ)) → NamesInput s name of i → value_at s i value ≡ value_of of value
value_is s name of i value it = ap (option_and_then (λ (e : Equation). value_of e.of value)) it.is ∙ ap (λ t. value_of t value) it.typed

-- the value of a type
ok_same : (r : Result Scalar LiteralFault) (v : Scalar) → result_ok r ≡ Some v → r ≡ Ok v
ok_same (Ok w) v is = ap (λ x. Ok x) (same_Some w v is)
ok_same (Err f) v is = absurd (cc)

has_value : (of : ValueType) (value : Option (List ℕ)) (v : Scalar) → value_of of value ≡ Some v → HasValue of value v
has_value (value_type.Scalar t) (Some bytes) v is = HasValue.written t bytes refl refl (ok_same (literal t bytes) v is)
has_value (value_type.Scalar scalar_type.Unit) None v is = HasValue.nothing refl refl (sym (same_Some scalar.Unit v is))
has_value _ _ v is = absurd (cc)

value_has : (of : ValueType) (value : Option (List ℕ)) (v : Scalar) → HasValue of value v → value_of of value ≡ Some v
value_has of value v (HasValue.written t bytes of_is value_is is) = (λ k. value_of (of_is k) (value_is k)) ∙ ap result_ok is
value_has of value v (HasValue.nothing of_is value_is is) = (λ k. value_of (of_is k) (value_is k)) ∙ ap (λ x. Some x) (sym is)

-- the events of earlier lines
among_event : (i : ℕ) (o : Option (ℕ × Scalar)) → is_among (input_in o) i ≡ true → (v : Scalar) × (o ≡ Some (i, v))
among_event i None is = absurd (cc)
among_event i (Some e) is = (e.1, ap (λ j. Some (j, e.1)) (one (e.0 == i) refl is))
  where
    one : (same : Bool) → e.0 == i ≡ same → (same || false) ≡ true → e.0 ≡ i
    one true at it = eqb-true e.0 i at
    one false at it = absurd (cc)

had_here : (l : Line) (ls : List Line) (t i : ℕ) (same : Bool) → l.time == t ≡ same → is_among (if same then input_in l.event else []) i ≡ true → HadEvent (l ∷ ls) t i
had_here l ls t i false at is = absurd (cc)
had_here l ls t i true at is =
    let it = among_event i l.event is in
    record { place = 0; value = it.0; is = λ k. Some (record { time = eqb-true l.time t at k; event = it.1 k }) }

or_either : (here later : Bool) (A : Type 0) → (here || later) ≡ true → (here ≡ true → A) → (later ≡ true → A) → A
or_either true later A is one two = one refl
or_either false later A is one two = two is

had_found : (before : List Line) (t i : ℕ) → had_event before t i ≡ true → HadEvent before t i
had_found [] t i is = absurd (cc)
had_found (l ∷ ls) t i is =
    or_either (is_among (if l.time == t then input_in l.event else []) i) (had_event ls t i) (HadEvent (l ∷ ls) t i)
    (sym (list_any-append (λ j. j == i) (if l.time == t then input_in l.event else []) (inputs_at t ls)) ∙ is)
    (λ here. had_here l ls t i (l.time == t) refl here)
    (λ later. let it = had_found ls t i later in record { place = suc it.place; value = it.value; is = it.is })

had_at : (before : List Line) (t i : ℕ) (v : Scalar) (k : ℕ) → slice_get before k ≡ Some (record { time = t; event = Some (i, v) }) → had_event before t i ≡ true
had_at [] t i v k is = absurd (cc)
had_at (l ∷ ls) t i v zero is =
    let same = same_Some l (record { time = t; event = Some (i, v) }) is in
    list_any-append (λ j. j == i) (if l.time == t then input_in l.event else []) (inputs_at t ls)
    ∙ (λ k. is_among (if (same k).time == t then input_in (same k).event else []) i || had_event ls t i)
    ∙ (λ k. is_among (if eq-eqb t t refl k then i ∷ [] else []) i || had_event ls t i)
    ∙ (λ k. (eq-eqb i i refl k || false) || had_event ls t i)
had_at (l ∷ ls) t i v (suc k) is =
    list_any-append (λ j. j == i) (if l.time == t then input_in l.event else []) (inputs_at t ls)
    ∙ ap (λ b. is_among (if l.time == t then input_in l.event else []) i || b) (had_at ls t i v k is)
    ∙ or-true (is_among (if l.time == t then input_in l.event else []) i)

had_there : (before : List Line) (t i : ℕ) → HadEvent before t i → had_event before t i ≡ true
had_there before t i it = had_at before t i it.value it.place it.is

module _ (s : System) (strict : Bool) (before : List Line) (n : ℕ) where
  abbrev had : ℕ → ℕ → Bool
  had = had_event before

  abbrev last : ℕ
  last = last_time before

  -- from the cuts to the relation
  placed_says : (t : ℕ) (stream : List ℕ) (value : Option (List ℕ)) (of : ValueType) (i : ℕ) (o : Option Scalar) → NamesInput s stream of i → value_of of value ≡ o →
      Says s strict before n t (Some stream) value (as_read (placed s strict had last n t stream i o))
  placed_says t stream value of i None names is = Says.wrong stream of i refl names (λ v has. none_not_some (sym is ∙ value_has of value v has)) refl
    where
      none_not_some : {v : Scalar} → None ≡ Some v → ⊥
      none_not_some is = cc
  placed_says t stream value of i (Some v) names is = by_twice (had t i) refl
    where
      by_twice : (again : Bool) → had t i ≡ again → Says s strict before n t (Some stream) value (as_read (if again then Err (fault.Twice n stream) else Ok (record { time = t; event = Some (i, v) })))
      by_twice true it = Says.twice stream of i v refl names (has_value of value v is) (had_found before t i it) refl
      by_twice false it = Says.event stream of i v refl names (has_value of value v is) (λ again. true≢false (sym (had_there before t i again) ∙ it)) refl

  unknown_says : (t : ℕ) (stream : List ℕ) (value : Option (List ℕ)) (refuse : Bool) → strict ≡ refuse → NamesNone s stream →
      Says s strict before n t (Some stream) value (as_read (if refuse then Err (fault.UnknownStream n) else Ok (record { time = t; event = None })))
  unknown_says t stream value true is none = Says.refused stream refl none is refl
  unknown_says t stream value false is none = Says.unknown stream refl none is refl

  addressed_says : (t : ℕ) (stream : List ℕ) (value : Option (List ℕ)) (o : Option ℕ) → input_called s stream ≡ o → Says s strict before n t (Some stream) value (as_read (addressed s strict had last n t stream value o))
  addressed_says t stream value None is = unknown_says t stream value strict refl (no_input s stream is)
  addressed_says t stream value (Some i) is =
      let it = named_input s stream i is in
      placed_says t stream value it.of i (value_at s i value) it.names (sym (value_is s stream it.of i value it.names))

  said_says : (t : ℕ) (name value : Option (List ℕ)) → Says s strict before n t name value (as_read (said s strict had last n t name value))
  said_says t None value = Says.time_alone refl refl
  said_says t (Some stream) value = addressed_says t stream value (input_called s stream) refl

  back_spells : (parts : LineParts) (back : Bool) → nat_lt (digits_value 10 parts.time) last ≡ back → digits_value 10 parts.time < 2 ^ 63 →
      SpellsForm s strict before n parts (as_read (if back then Err (fault.TimeBack n last (digits_value 10 parts.time)) else said s strict had last n (digits_value 10 parts.time) parts.name parts.value))
  back_spells parts true is small = SpellsForm.back (digits_value 10 parts.time) refl small (ltb-true (digits_value 10 parts.time) last is) refl
  back_spells parts false is small = SpellsForm.says (digits_value 10 parts.time) refl small (ltb-false (digits_value 10 parts.time) last is) (said_says (digits_value 10 parts.time) parts.name parts.value)

  time_spells : (parts : LineParts) (small : Bool) → nat_lt (digits_value 10 parts.time) 0x8000_0000_0000_0000 ≡ small →
      SpellsForm s strict before n parts (as_read (said_at s strict had last n parts (if small then Some (digits_value 10 parts.time) else None)))
  time_spells parts true is = back_spells parts (nat_lt (digits_value 10 parts.time) last) refl (ltb-true (digits_value 10 parts.time) 0x8000_0000_0000_0000 is)
  time_spells parts false is = SpellsForm.too_large (ltb-false (digits_value 10 parts.time) 0x8000_0000_0000_0000 is) refl

  formed_spells : (line : List ℕ) (o : Option LineParts) → length line ≤ MOST_LINE_BYTES → (IsSkippedLine line → ⊥) → parts_of (content line) ≡ o → SpellsLine s strict before n line (as_read (formed s strict had last n o))
  formed_spells line None short says is = SpellsLine.no_form short says (λ parts form. none_not_some (sym is ∙ form_parts line parts form)) refl
    where
      none_not_some : {parts : LineParts} → None ≡ Some parts → ⊥
      none_not_some is = cc
  formed_spells line (Some parts) short says is =
      SpellsLine.formed parts short (parts_form line parts is) (time_spells parts (nat_lt (digits_value 10 parts.time) 0x8000_0000_0000_0000) refl)

  content_spells : (line : List ℕ) (nothing : Bool) → length line ≤ MOST_LINE_BYTES → says_nothing (content line) ≡ nothing →
      SpellsLine s strict before n line (if nothing then Ok None else as_read (formed s strict had last n (parts_of (content line))))
  content_spells line true short is = SpellsLine.skipped short (nothing_skipped line is) refl
  content_spells line false short is =
      formed_spells line (parts_of (content line)) short (λ skipped. true≢false (sym (skipped_nothing line skipped) ∙ is)) refl

  long_spells : (line : List ℕ) (long : Bool) → is_long (length line) ≡ long → SpellsLine s strict before n line (if long then Err (fault.LineTooLong n) else judged_content s strict had last n (content line))
  long_spells line true is = SpellsLine.too_long (ltb-true MOST_LINE_BYTES (length line) is) refl
  long_spells line false is = content_spells line (says_nothing (content line)) (ltb-false MOST_LINE_BYTES (length line) is) refl

  judged_spells : (line : List ℕ) → SpellsLine s strict before n line (judged s strict had last n line)
  judged_spells line = long_spells line (is_long (length line)) refl

  -- from the relation to the cuts
  input_says : (t i : ℕ) (stream : List ℕ) (of : ValueType) (value : Option (List ℕ)) (o : Option Scalar) → NamesInput s stream of i → value_of of value ≡ o →
      said s strict had last n t (Some stream) value ≡ placed s strict had last n t stream i o
  input_says t i stream of value o names is =
      ap (addressed s strict had last n t stream value) (input_found s stream of i names)
      ∙ ap (placed s strict had last n t stream i) (value_is s stream of i value names ∙ is)

  no_value : (of : ValueType) (value : Option (List ℕ)) (o : Option Scalar) → value_of of value ≡ o → ((v : Scalar) → HasValue of value v → ⊥) → o ≡ None
  no_value of value None is never = refl
  no_value of value (Some v) is never = absurd (never v (has_value of value v is))

  says_said : (t : ℕ) (name value : Option (List ℕ)) (answer : Result (Option Line) TraceFault) → Says s strict before n t name value answer → as_read (said s strict had last n t name value) ≡ answer
  says_said t name value answer (Says.time_alone none is) = ap (λ o. as_read (said s strict had last n t o value)) none ∙ sym is
  says_said t name value answer (Says.unknown stream has none loose is) =
      ap (λ o. as_read (said s strict had last n t o value)) has ∙ ap (λ o. as_read (addressed s strict had last n t stream value o)) (none_found s stream none)
      ∙ ap (λ b. as_read (if b then Err (fault.UnknownStream n) else Ok (record { time = t; event = None }))) loose ∙ sym is
  says_said t name value answer (Says.refused stream has none tight is) =
      ap (λ o. as_read (said s strict had last n t o value)) has ∙ ap (λ o. as_read (addressed s strict had last n t stream value o)) (none_found s stream none)
      ∙ ap (λ b. as_read (if b then Err (fault.UnknownStream n) else Ok (record { time = t; event = None }))) tight ∙ sym is
  says_said t name value answer (Says.wrong stream of i has names never is) =
      ap (λ o. as_read (said s strict had last n t o value)) has ∙ ap as_read (input_says t i stream of value None names (no_value of value (value_of of value) refl never)) ∙ sym is
  says_said t name value answer (Says.twice stream of i v has names valued again is) =
      ap (λ o. as_read (said s strict had last n t o value)) has ∙ ap as_read (input_says t i stream of value (Some v) names (value_has of value v valued))
      ∙ ap (λ b. as_read (if b then Err (fault.Twice n stream) else Ok (record { time = t; event = Some (i, v) }))) (had_there before t i again) ∙ sym is
  says_said t name value answer (Says.event stream of i v has names valued once is) =
      ap (λ o. as_read (said s strict had last n t o value)) has ∙ ap as_read (input_says t i stream of value (Some v) names (value_has of value v valued))
      ∙ ap (λ b. as_read (if b then Err (fault.Twice n stream) else Ok (record { time = t; event = Some (i, v) }))) (not_had (had t i) refl) ∙ sym is
    where
      not_had : (again : Bool) → had t i ≡ again → again ≡ false
      not_had true it = absurd (once (had_found before t i it))
      not_had false it = refl

  -- a time below 2^63
  time_is : (parts : LineParts) (t : ℕ) → digits_value 10 parts.time ≡ t → t < 2 ^ 63 → time_of parts.time ≡ Some t
  time_is parts t is small = let lower = lt-ltb t 0x8000_0000_0000_0000 small in (λ k. if nat_lt (is k) 0x8000_0000_0000_0000 then Some (is k) else None) ∙ ap (λ b. if b then Some t else None) lower

  form_formed : (parts : LineParts) (answer : Result (Option Line) TraceFault) → SpellsForm s strict before n parts answer → as_read (formed s strict had last n (Some parts)) ≡ answer
  form_formed parts answer (SpellsForm.too_large large is) =
      ap (λ b. as_read (said_at s strict had last n parts (if b then Some (digits_value 10 parts.time) else None))) (le-ltb (digits_value 10 parts.time) 0x8000_0000_0000_0000 large) ∙ sym is
  form_formed parts answer (SpellsForm.back t value small low is) =
      ap (λ o. as_read (said_at s strict had last n parts o)) (time_is parts t value small)
      ∙ ap (λ b. as_read (if b then Err (fault.TimeBack n last t) else said s strict had last n t parts.name parts.value)) (lt-ltb t last low) ∙ sym is
  form_formed parts answer (SpellsForm.says t value small later says) =
      ap (λ o. as_read (said_at s strict had last n parts o)) (time_is parts t value small)
      ∙ ap (λ b. as_read (if b then Err (fault.TimeBack n last t) else said s strict had last n t parts.name parts.value)) (le-ltb t last later)
      ∙ says_said t parts.name parts.value answer says

  -- a line that is not too long
  short_judged : (line : List ℕ) (nothing : Bool) → length line ≤ MOST_LINE_BYTES → says_nothing (content line) ≡ nothing →
      judged s strict had last n line ≡ (if nothing then Ok None else as_read (formed s strict had last n (parts_of (content line))))
  short_judged line nothing short is =
      ap (λ b. if b then Err (fault.LineTooLong n) else judged_content s strict had last n (content line)) (le-ltb MOST_LINE_BYTES (length line) short)
      ∙ ap (λ b. if b then Ok None else as_read (formed s strict had last n (parts_of (content line)))) is

  no_parts : (line : List ℕ) (o : Option LineParts) → parts_of (content line) ≡ o → ((parts : LineParts) → HasForm line parts → ⊥) → o ≡ None
  no_parts line None is never = refl
  no_parts line (Some parts) is never = absurd (never parts (parts_form line parts is))

  says_nothing_not : (line : List ℕ) (nothing : Bool) → says_nothing (content line) ≡ nothing → (IsSkippedLine line → ⊥) → nothing ≡ false
  says_nothing_not line true is never = absurd (never (nothing_skipped line is))
  says_nothing_not line false is never = refl

  spells_judged : (line : List ℕ) (answer : Result (Option Line) TraceFault) → SpellsLine s strict before n line answer → judged s strict had last n line ≡ answer
  spells_judged line answer (SpellsLine.too_long long is) =
      ap (λ b. if b then Err (fault.LineTooLong n) else judged_content s strict had last n (content line)) (lt-ltb MOST_LINE_BYTES (length line) long) ∙ sym is
  spells_judged line answer (SpellsLine.skipped short skipped is) = short_judged line true short (skipped_nothing line skipped) ∙ sym is
  spells_judged line answer (SpellsLine.no_form short says never is) =
      short_judged line false short (says_nothing_not line (says_nothing (content line)) refl says)
      ∙ ap (λ o. as_read (formed s strict had last n o)) (no_parts line (parts_of (content line)) refl never) ∙ sym is
  spells_judged line answer (SpellsLine.formed parts short form spells) =
      short_judged line false short (form_says line parts form)
      ∙ ap (λ o. as_read (formed s strict had last n o)) (form_parts line parts form) ∙ form_formed parts answer spells

pub spelled_agrees : SpelledAgrees
spelled_agrees s strict before n line answer = (
  λ is. subst (SpellsLine s strict before n line) is (judged_spells s strict before n line),
  spells_judged s strict before n line answer,
)
