-- Where each equation has its own number, all stays.
use Rattle.std.proofs.Common.{◌≡◌, ℕ, List, [], ◌∷◌, ◌++◌, ◌+◌, suc, map, length, inl, inr, refl, sym, ap, subst, ◌∙◌, arith, zero-add}
use Rattle.std.proofs.lemmas.Bool.{cases_lt}
use Rattle.std.proofs.lemmas.List.{get_or_past}
use Rattle.std.proofs.lemmas.List.FromFn.{get_or-range_with_len, length-range_with_len}
use Rattle.tsl_value.specs.declared.scalar.ValueType.{ValueType}
use Rattle.flat_core.specs.declared.equation.Equation.{Equation}
use Rattle.flat_core.specs.declared.equation.Output.{Output}
use Rattle.flat_core.specs.Complete.{IsComplete}
use Rattle.flat_core.specs.Renumbered.{new_number, with_new_args, with_new_equation, renumbered, AreReplacements}
use Rattle.flat_core.specs.System.{System}
use Rattle.flat_core.specs.TypedSystem.{IsOfType}
use Rattle.program_text.proofs.Numbers.{range_more}
use Rattle.code_check.specs.inner.Unchanged.{own_numbers, system_in}

pub own_number : (count i : ℕ) → new_number (own_numbers count) i ≡ i
own_number count i = elim (cases_lt i count) [
  | inl low ↦ get_or-range_with_len 0 count i i low ∙ zero-add i
  | inr high ↦ get_or_past (own_numbers count) i i (let long = length-range_with_len 0 count in omega arith)
]

module _ (count : ℕ) where
  own_args : (args : List ℕ) → map (new_number (own_numbers count)) args ≡ args
  own_args [] = refl
  own_args (a ∷ args) = λ k. own_number count a k ∷ own_args args k

  own_equations : (equations : List Equation) → map (with_new_args (own_numbers count)) equations ≡ equations
  own_equations [] = refl
  own_equations (e ∷ equations) = λ k. record e { args = own_args e.args k } ∷ own_equations equations k

  own_outputs : (outputs : List Output) → map (with_new_equation (own_numbers count)) outputs ≡ outputs
  own_outputs [] = refl
  own_outputs (o ∷ outputs) = λ k. record o { equation = own_number count o.equation k } ∷ own_outputs outputs k

  pub unchanged : (s : System) (running : List ℕ) → renumbered s (own_numbers count) running ≡ system_in s.equations s.outputs running
  unchanged s running = λ k. record { equations = own_equations s.equations k; outputs = own_outputs s.outputs k; running = running }

  own_type : (s : System) (i : ℕ) (t : ValueType) → IsOfType s.equations i t → IsOfType s.equations (new_number (own_numbers count) i) t
  own_type s i t of = subst (λ j. IsOfType s.equations j t) (sym (own_number count i)) of

own_replacements : (s : System) → AreReplacements s (own_numbers (length s.equations))
own_replacements s = record { one_each = length-range_with_len 0 (length s.equations); same_type = own_type (length s.equations) s }

module _ (s : System) (numbers running : List ℕ) (own : numbers ≡ own_numbers (length s.equations)) where
  pub replaces : AreReplacements s numbers
  replaces = subst (AreReplacements s) (sym own) (own_replacements s)

  pub same_system : renumbered s numbers running ≡ system_in s.equations s.outputs running
  same_system = ap (λ ns. renumbered s ns running) own ∙ unchanged (length s.equations) s running

-- one more number
own_next : (n : ℕ) → own_numbers (n + 1) ≡ own_numbers n ++ n ∷ []
own_next n =
    let step : n + 1 ≡ suc n = omega arith in
    ap own_numbers step ∙ range_more 0 n ∙ ap (λ i. own_numbers n ++ i ∷ []) (zero-add n)

pub one_more : (n id : ℕ) (old new : List ℕ) → old ≡ own_numbers n → id ≡ n → new ≡ old ++ id ∷ [] → new ≡ own_numbers (n + 1)
one_more n id old new was is pushed = pushed ∙ ap (λ xs. xs ++ id ∷ []) was ∙ ap (λ i. own_numbers n ++ i ∷ []) is ∙ sym (own_next n)

-- ---- what does not depend on what runs

pub complete_with : (equations : List Equation) (outputs : List Output) (running other : List ℕ) → IsComplete (system_in equations outputs running) → IsComplete (system_in equations outputs other)
complete_with equations outputs running other complete = record {
  typed = record { each = complete.typed.each };
  some_output = complete.some_output;
  outputs_there = complete.outputs_there;
  names_differ = complete.names_differ;
  short_texts = complete.short_texts;
}
