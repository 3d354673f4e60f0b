-- Equations that are no inputs change nothing of what is read.
use Rattle.std.proofs.Common.{◌≡◌, ℕ, ◌+◌, Bool, false, ◌&&◌, List, [], ◌∷◌, ◌++◌, length, take, Option, Some, None, Result, Err, Ok, inl, inr, refl, sym, ap, subst, ◌∙◌, arith}
use Rattle.std.proofs.lemmas.Bool.{cases_Bool}
use Rattle.std.specs.Prelude.{◌≢◌, if◌then◌else◌, is_none, nat_lt, option_to_list, slice_get}
use Rattle.std.specs.List.{AllByRecursion, position_from}
use Rattle.std.specs.Option.{option_and_then}
use Rattle.tsl_value.proofs.Lists.{get_left}
use Rattle.flat_core.specs.declared.equation.Equation.{Equation}
use Rattle.flat_core.specs.declared.equation.Op.TheVariants as op
use Rattle.flat_core.specs.System.{System}
use Rattle.flat_core.specs.Line.{Line, last_time}
use Rattle.trace_reader.specs.declared.fault.TraceFault.{TraceFault}
use Rattle.trace_reader.specs.declared.fault.TraceFault.TheVariants as fault
use Rattle.trace_reader.specs.Form.{LineParts, content, is_long, parts_of, says_nothing, time_of}
use Rattle.trace_reader.specs.Reading.{Reading, addressed, as_read, cut, formed, go_on, had_event, input_called, is_input_called, judged, limited, lines_of, placed, read, reading, said, said_at, unfinished, value_at, value_of}
use Rattle.trace_reader.specs.inner.Laws.{OthersLeaveReading}
use Rattle.trace_reader.proofs.JudgedLemmas.{found}
use Rattle.trace_reader.proofs.SpellingLemmas.{input_named}

-- ---- where an element stands
none_from : (p : Equation → Bool) (es : List Equation) (n : ℕ) → AllByRecursion (λ (e : Equation). p e ≡ false) es → position_from p n es ≡ None
none_from p [] n all = refl
none_from p (e ∷ es) n all = (λ k. if all.0 k then Some n else position_from p (n + 1) es) ∙ none_from p es (n + 1) all.1

place_before : (p : Equation → Bool) (es others : List Equation) (n : ℕ) → AllByRecursion (λ (e : Equation). p e ≡ false) others → position_from p n (es ++ others) ≡ position_from p n es
place_before p [] others n all = none_from p others n all
place_before p (e ∷ es) others n all = ap (λ o. if p e then Some n else o) (place_before p es others (n + 1) all)

-- what is no input has no input's name
not_called : (name : List ℕ) (e : Equation) → e.op ≢ op.Input → is_input_called name e ≡ false
not_called name e other = elim (cases_Bool (is_input_called name e)) [
  | inl passes ↦ absurd (other (input_named name e passes).input)
  | inr fails ↦ fails
]

none_called : (name : List ℕ) (others : List Equation) → AllByRecursion (λ (e : Equation). e.op ≢ op.Input) others → AllByRecursion (λ (e : Equation). is_input_called name e ≡ false) others
none_called name [] all = tt
none_called name (e ∷ es) all = (not_called name e all.0, none_called name es all.1)

-- ---- systems in which each name is that of the same input, which takes the same values
module _ (s t : System) (called_alike : (name : List ℕ) → input_called t name ≡ input_called s name) (value_alike : (name : List ℕ) (i : ℕ) (value : Option (List ℕ)) → input_called s name ≡ Some i → value_at t i value ≡ value_at s i value) where
  -- ---- a line
  module _ (strict : Bool) (had : ℕ → ℕ → Bool) (last n : ℕ) where
    addressed_alike : (time : ℕ) (name : List ℕ) (value : Option (List ℕ)) (o : Option ℕ) → input_called s name ≡ o →
        addressed t strict had last n time name value o ≡ addressed s strict had last n time name value o
    addressed_alike time name value None is = refl
    addressed_alike time name value (Some i) is = ap (placed s strict had last n time name i) (value_alike name i value is)

    said_alike : (time : ℕ) (name value : Option (List ℕ)) → said t strict had last n time name value ≡ said s strict had last n time name value
    said_alike time None value = refl
    said_alike time (Some name) value =
        ap (addressed t strict had last n time name value) (called_alike name) ∙ addressed_alike time name value (input_called s name) refl

    said_at_alike : (parts : LineParts) (time : Option ℕ) → said_at t strict had last n parts time ≡ said_at s strict had last n parts time
    said_at_alike parts None = refl
    said_at_alike parts (Some time) =
        ap (λ (r : Result Line TraceFault). if nat_lt time last then Err (fault.TimeBack n last time) else r) (said_alike time parts.name parts.value)

    formed_alike : (parts : Option LineParts) → formed t strict had last n parts ≡ formed s strict had last n parts
    formed_alike None = refl
    formed_alike (Some parts) = said_at_alike parts (time_of parts.time)

    judged_alike : (line : List ℕ) → judged t strict had last n line ≡ judged s strict had last n line
    judged_alike line =
        ap (λ (r : Result Line TraceFault). if is_long (length line) then Err (fault.LineTooLong n) else (if says_nothing (content line) then Ok None else as_read r))
        (formed_alike (parts_of (content line)))

  -- ---- all lines
  rest_alike : (j : Result (Option Line) TraceFault) (f g : Option Line → Reading) → ((l : Option Line) → f l ≡ g l) → go_on j f ≡ go_on j g
  rest_alike (Err refusal) f g each = refl
  rest_alike (Ok l) f g each = ap (λ (r : Reading). record { lines = option_to_list l ++ r.lines; refused = r.refused }) (each l)

  read_alike : (strict : Bool) (before : List Line) (n : ℕ) (lines : List (List ℕ)) → read t strict before n lines ≡ read s strict before n lines
  read_alike strict before n [] = refl
  read_alike strict before n (bytes ∷ more) =
      ap (λ (j : Result (Option Line) TraceFault). go_on j (λ l. read t strict (before ++ option_to_list l) (n + 1) more)) (judged_alike strict (had_event before) (last_time before) n bytes)
      ∙ rest_alike (judged s strict (had_event before) (last_time before) n bytes) (λ l. read t strict (before ++ option_to_list l) (n + 1) more) (λ l. read s strict (before ++ option_to_list l) (n + 1) more)
      (λ l. read_alike strict (before ++ option_to_list l) (n + 1) more)

  pub reading_alike : (strict : Bool) (limit : ℕ) (bytes : List ℕ) (ended : Bool) → reading t strict limit bytes ended ≡ reading s strict limit bytes ended
  unfolding reading
  reading_alike strict limit bytes ended =
      let beyond = slice_get bytes limit in
      let kept = take limit bytes in
      ap (λ (r : Reading). limited r (unfinished beyond (1 + length (cut kept).0) (cut kept).1)) (read_alike strict [] 1 (lines_of kept (ended && is_none beyond)))

-- ---- further equations that are no inputs
module _ (s t : System) (others : List Equation) (same : t.equations ≡ s.equations ++ others) (all : AllByRecursion (λ (e : Equation). e.op ≢ op.Input) others) where
  called_same : (name : List ℕ) → input_called t name ≡ input_called s name
  called_same name = ap (position_from (is_input_called name) 0) same ∙ place_before (is_input_called name) s.equations others 0 (none_called name others all)

  value_same : (name : List ℕ) (i : ℕ) (value : Option (List ℕ)) → input_called s name ≡ Some i → value_at t i value ≡ value_at s i value
  value_same name i value called =
      let at = found (is_input_called name) s.equations 0 i called in
      let place : at.after ≡ i = let it = at.place_is in omega arith in
      let here : slice_get s.equations i ≡ Some at.at = subst (λ (k : ℕ). slice_get s.equations k ≡ Some at.at) place at.is in
      let there : slice_get t.equations i ≡ Some at.at = ap (λ (es : List Equation). slice_get es i) same ∙ get_left s.equations others i at.at here in
      ap (option_and_then (λ (e : Equation). value_of e.of value)) (there ∙ sym here)

pub others_leave_reading : OthersLeaveReading
others_leave_reading s t others strict limit bytes ended same all = reading_alike s t (called_same s t others same all) (value_same s t others same all) strict limit bytes ended
