-- Systems that are alike read a trace alike.
use Rattle.std.proofs.Common.{◌≡◌, ℕ, suc, ◌+◌, Bool, true, List, [], ◌∷◌, length, Option, Some, refl, sym, ap, subst, ◌∙◌, arith}
use Rattle.std.specs.Prelude.{if◌then◌else◌, slice_get}
use Rattle.std.specs.List.{position_from}
use Rattle.std.specs.Option.{option_and_then}
use Rattle.std.proofs.lemmas.Option.{same_Some}
use Rattle.flat_core.specs.declared.equation.Equation.{Equation}
use Rattle.flat_core.specs.System.{System, equation}
use Rattle.flat_core.proofs.Members.{same_truth}
use Rattle.trace_reader.specs.Reading.{input_called, is_input_called, value_at, value_of}
use Rattle.trace_reader.proofs.InputLemmas.{reading_alike}
use Rattle.trace_reader.proofs.JudgedLemmas.{found}
use Rattle.trace_reader.proofs.SpellingLemmas.{input_named}
use Rattle.alike_systems.specs.Alike.{IsInputAt, AreAlike}
use Rattle.alike_systems.specs.Laws.{AlikeReadAlike}

-- a test that passes at the same places has the same first one
positions_alike : (p : Equation → Bool) (es fs : List Equation) (n : ℕ) → length es ≡ length fs
    → ((i : ℕ) (e f : Equation) → slice_get es i ≡ Some e → slice_get fs i ≡ Some f → p e ≡ p f) → position_from p n es ≡ position_from p n fs
positions_alike p [] [] n count same = refl
positions_alike p [] (f ∷ fs) n count same = absurd (omega arith)
positions_alike p (e ∷ es) [] n count same = absurd (omega arith)
positions_alike p (e ∷ es) (f ∷ fs) n count same =
    let here = same 0 e f refl refl in
    let rest = positions_alike p es fs (n + 1) (omega arith) (λ i x y is there. same (suc i) x y is there) in
    λ k. if here k then Some n else rest k

-- an input that passes is the other system's equation as well
passes_too : (name : List ℕ) (u : System) (i : ℕ) (e f : Equation) → (IsInputAt u i e) → equation u i ≡ Some f → is_input_called name e ≡ true → is_input_called name f ≡ true
passes_too name u i e f at is passes = subst (λ x. is_input_called name x ≡ true) (same_Some e f (sym at.is ∙ is)) passes

module _ (s u : System) (alike : AreAlike s u) where
  tests_alike : (name : List ℕ) (i : ℕ) (e f : Equation) → equation s i ≡ Some e → equation u i ≡ Some f → is_input_called name e ≡ is_input_called name f
  tests_alike name i e f is there =
      same_truth (is_input_called name e) (is_input_called name f)
      (λ passes. passes_too name u i e f ((alike.inputs_are i e).0 (record { is = is; input = (input_named name e passes).input })) there passes)
      (λ passes. passes_too name s i f e ((alike.inputs_are i f).1 (record { is = there; input = (input_named name f passes).input })) is passes)

  called_alike : (name : List ℕ) → input_called s name ≡ input_called u name
  called_alike name = positions_alike (is_input_called name) s.equations u.equations 0 alike.count (tests_alike name)

  value_alike : (name : List ℕ) (i : ℕ) (value : Option (List ℕ)) → input_called u name ≡ Some i → value_at s i value ≡ value_at u i value
  value_alike name i value called =
      let at = found (is_input_called name) u.equations 0 i called in
      let place : at.after ≡ i = let it = at.place_is in omega arith in
      let here : equation u i ≡ Some at.at = subst (λ k. slice_get u.equations k ≡ Some at.at) place at.is in
      let there = (alike.inputs_are i at.at).1 (record { is = here; input = (input_named name at.at at.passes).input }) in
      ap (option_and_then (λ (e : Equation). value_of e.of value)) (there.is ∙ sym here)

pub alike_read_alike : AlikeReadAlike
alike_read_alike s u strict limit bytes ended alike = reading_alike u s (called_alike s u alike) (value_alike s u alike) strict limit bytes ended
