-- Code that was spelled is read again, so no two codes have one spelling and none begins another.
use Rattle.std.proofs.Common.{◌≡◌, ℕ, zero, suc, ◌+◌, ◌^◌, ◌<◌, ◌≤◌, Bool, true, cond, List, [], ◌∷◌, ◌++◌, map, length, drop, Option, Some, None, refl, sym, ap, subst, ◌∙◌, append_assoc, arith, inl, inr}
use Rattle.std.specs.Prelude.{IsTrue, ◌&&◌, nat_le, nat_lt}
use Rattle.std.specs.List.{AllByRecursion, filter, flat_map, range_with_len}
use Rattle.std.specs.List.Sorted.{IsStrictlyIncreasing}
use Rattle.std.proofs.lemmas.Bool.{and_parts, le-leb, ltb-true, or_cases}
use Rattle.std.proofs.lemmas.List.Elements.{All-from_recursion}
use Rattle.std.proofs.lemmas.List.FromFn.{get_or-range_with_len, length-range_with_len}
use Rattle.std.proofs.lemmas.Option.{same_Some}
use Rattle.std.proofs.lemmas.List.Kept.{AllPairs-from_increasing, IsStrictlyIncreasing-filter}
use Rattle.std.proofs.lemmas.Map.Keys.{sorted_from_strictly_increasing}
use Rattle.std.proofs.lemmas.Map.Views.{length-le_from_below}
use Rattle.flat_core.specs.declared.equation.Equation.{Equation}
use Rattle.flat_core.specs.declared.equation.Output.{Output}
use Rattle.flat_core.specs.declared.limits.TheConstants.{MOST_EQUATIONS}
use Rattle.flat_core.specs.Members.{is_in}
use Rattle.flat_core.specs.System.{System, equation, numbers, runs}
use Rattle.flat_core.specs.Updates.{is_running_update, is_update_at}
use Rattle.flat_core.proofs.Finished.{equation_there}
use Rattle.flat_core.proofs.Members.{Contains-in, all_at, all_from, in_numbers}
use Rattle.flat_core.proofs.Rising.{in_filter, same_rising}
use Rattle.alias_rules.specs.Steps.{is_print, is_step, step_count}
use Rattle.register_code.specs.Code.{Code}
use Rattle.code_file.specs.Form.{IsForm, IsName, IsSpelled, bare, bare_in, is_spelled}
use Rattle.code_file.specs.Laws.{SpellOneCode}
use Rattle.code_file.specs.Spelling.{entry_at, entry_in, equations_bytes, list_bytes, number, output_bytes, outputs_bytes}
use Rattle.code_file.specs.inner.Reading.{code_at, code_of, count_at, entry_read, items_at, output_at, running_from}
use Rattle.code_file.proofs.Entries.{IsWhole, entry_again, output_again}
use Rattle.code_file.proofs.Fields.{IsAgain, got, items_again, list_again, number_again}

-- ---- the numbers of a system

all_numbers : (P : ℕ → Type 0) (a n : ℕ) → ((i : ℕ) → i < a + n → P i) → AllByRecursion P (range_with_len a n)
all_numbers P a zero each = tt
all_numbers P a (suc n) each = (each a (omega arith), all_numbers P (a + 1) n (λ i low. each i (omega arith)))

pub numbers_rise : (n : ℕ) → IsStrictlyIncreasing (range_with_len 0 n)
numbers_rise n = λ k lt.
    let size = length-range_with_len 0 n in
    let here = get_or-range_with_len 0 n k 0 (omega arith) in
    let next = get_or-range_with_len 0 n (k + 1) 0 (omega arith) in
    omega arith

-- ---- the equations

abbrev pub entry_of : System → ℕ → Bool × Equation
entry_of s i = (runs s i, bare_in (runs s i) (equation s i))

entry_in_again : (running : Bool) (o : Option Equation) (e : Equation) (rest : List ℕ) → o ≡ Some e → (IsTrue (is_spelled running e.op) → IsWhole e)
    → entry_read (entry_in running o ++ rest) ≡ Some ((running, bare_in running o), rest)
entry_in_again running None e rest is whole = absurd (cc)
entry_in_again running (Some f) e rest is whole =
    let same : e ≡ f = cc in
    entry_again running f rest (subst (λ (g : Equation). IsTrue (is_spelled running g.op) → IsWhole g) same whole)

six_parts : (e f o u p q rest : List ℕ) → ((e ++ f) ++ ((o ++ u) ++ (p ++ q))) ++ rest ≡ e ++ (f ++ (o ++ (u ++ (p ++ (q ++ rest)))))
six_parts e f o u p q rest = simp append_assoc

module _ (c : Code) (form : IsForm c) where
  abbrev pub s : System
  s = c.system

  whole_at : (i : ℕ) (e : Equation) → equation s i ≡ Some e → IsTrue (is_spelled (runs s i) e.op) → IsWhole e
  whole_at i e is spelled =
      let it : IsSpelled s i e = record { is = is; spelled = spelled } in
      (form.equations i e it, form.spelled.named i e it)

  entries_again : AllByRecursion (IsAgain (entry_at s) (entry_of s) entry_read) (numbers s)
  entries_again = all_numbers (IsAgain (entry_at s) (entry_of s) entry_read) 0 (length s.equations) (λ i low rest.
      let found = equation_there s.equations i (omega arith) in
      entry_in_again (runs s i) (equation s i) found.0 rest found.1 (whole_at i found.0 found.1))

  runs_low : (i : ℕ) → IsTrue (runs s i) → i < length s.equations
  runs_low i run = all_at (λ j. j < length s.equations) s.running form.running_there i (Contains-in s.running i run)

  outputs_low : AllByRecursion (λ o. o.equation < 2 ^ 32) s.outputs
  outputs_low = all_from (λ o. o.equation < 2 ^ 32) s.outputs (λ o among.
      let there = runs_low o.equation (all_at (λ p. IsTrue (runs s p.equation)) s.outputs form.outputs_run o among) in
      let few = form.few_equations in
      omega (arith, there, few))

  all_outputs : (os : List Output) → AllByRecursion (λ o. IsName o.name) os → AllByRecursion (λ o. o.equation < 2 ^ 32) os → AllByRecursion (IsAgain output_bytes (λ o. o) output_at) os
  all_outputs [] named low = tt
  all_outputs (o ∷ os) named low = ((λ rest. output_again o rest named.0 low.0), all_outputs os named.1 low.1)

  steps_low : AllByRecursion (λ x. x < 2 ^ 32) c.order
  steps_low = all_from (λ x. x < 2 ^ 32) c.order (λ x among.
      let few = form.few_equations in
      let few_outputs = form.few_outputs in
      elim (or_cases (runs s x) (is_print s x) (all_at (λ y. IsTrue (is_step s y)) c.order form.steps x among)) [
        | inl run ↦ let there = runs_low x run in omega (arith, there, few)
        | inr print ↦
            let there : x < step_count s = ltb-true x (step_count s) (and_parts (nat_le (length s.equations) x) (nat_lt x (step_count s)) print).1 in
            omega (arith, there, few, few_outputs)
      ])

  updates_there : AllByRecursion (λ x. x < length s.equations) c.in_place
  updates_there = all_from (λ x. x < length s.equations) c.in_place (λ x among.
      runs_low x (and_parts (runs s x) (is_update_at (equation s x)) (all_at (λ y. IsTrue (is_running_update s y)) c.in_place form.updates x among)).0)

  updates_low : AllByRecursion (λ x. x < 2 ^ 32) c.in_place
  updates_low = all_from (λ x. x < 2 ^ 32) c.in_place (λ x among.
      let there = all_at (λ y. y < length s.equations) c.in_place updates_there x among in
      let few = form.few_equations in
      omega (arith, there, few))

  few_updates : length c.in_place < 2 ^ 32
  few_updates =
      let most = length-le_from_below (length s.equations) c.in_place (sorted_from_strictly_increasing c.in_place form.ascending)
      (All-from_recursion (λ x. x < length s.equations) c.in_place updates_there) in
      let few = form.few_equations in
      omega (arith, most, few)

  -- as the reader makes it
  abbrev pub rebuilt : Code
  rebuilt = code_of (map (entry_of s) (numbers s)) s.outputs c.in_place c.order

  abbrev pub after_mark : List ℕ
  after_mark = equations_bytes s ++ (outputs_bytes s.outputs ++ (list_bytes c.in_place ++ list_bytes c.order))

  counted : (n most : ℕ) (rest : List ℕ) → n ≤ most → n < 2 ^ 32 → count_at most (number n ++ rest) ≡ Some (n, rest)
  counted n most rest few low =
      let holds : nat_le n most ≡ true = le-leb _ _ few in
      rw (number_again n rest low, holds) refl

  same_outputs : (os : List Output) → map (λ o. o) os ≡ os
  same_outputs [] = refl
  same_outputs (o ∷ os) = ap (λ more. o ∷ more) (same_outputs os)

  pub code_again : (rest : List ℕ) → code_at (after_mark ++ rest) ≡ Some (rebuilt, rest)
  unfolding code_at
  code_again rest =
      let order = list_bytes c.order ++ rest in
      let in_place = list_bytes c.in_place ++ order in
      let each = flat_map output_bytes s.outputs ++ in_place in
      let outputs = number (length s.outputs) ++ each in
      let entries = flat_map (entry_at s) (numbers s) ++ outputs in
      let regrouped : after_mark ++ rest ≡ number (length s.equations) ++ entries =
      six_parts (number (length s.equations)) (flat_map (entry_at s) (numbers s)) (number (length s.outputs)) (flat_map output_bytes s.outputs) (list_bytes c.in_place) (list_bytes c.order) rest in
      let few = form.few_equations in
      let few_outputs = form.few_outputs in
      let size : length (numbers s) ≡ length s.equations = length-range_with_len 0 (length s.equations) in
      let read_entries : items_at entry_read (length s.equations) entries ≡ Some (map (entry_of s) (numbers s), outputs) =
      ap (λ n. items_at entry_read n entries) (sym size) ∙ items_again (entry_at s) (entry_of s) entry_read (numbers s) outputs entries_again in
      let read_outputs : items_at output_at (length s.outputs) each ≡ Some (s.outputs, in_place) =
      items_again output_bytes (λ o. o) output_at s.outputs in_place (all_outputs s.outputs form.spelled.outputs_named outputs_low) ∙ ap (λ os. Some (os, in_place)) (same_outputs s.outputs) in
      ap code_at regrouped
      ∙ rw (
        counted (length s.equations) MOST_EQUATIONS entries few (omega (arith, few)),
        read_entries,
        counted (length s.outputs) 0x8000_0000 each (omega (arith, few_outputs)) (omega (arith, few_outputs)),
        read_outputs,
        list_again c.in_place order few_updates updates_low,
        list_again c.order rest form.few_steps steps_low,
      ) refl

  -- ---- it is the code, but for equations that are not spelled

  running_is : (a n : ℕ) → running_from a (map (entry_of s) (range_with_len a n)) ≡ filter (runs s) (range_with_len a n)
  running_is a zero = refl
  running_is a (suc n) = let rest = running_is (a + 1) n in λ k. cond (runs s a) (a ∷ rest k) (rest k)

  running_kept : filter (runs s) (numbers s) ≡ s.running
  running_kept =
      same_rising (filter (runs s) (numbers s)) s.running
      (AllPairs-from_increasing (filter (runs s) (numbers s)) (IsStrictlyIncreasing-filter (runs s) (numbers s) (numbers_rise (length s.equations))))
      (AllPairs-from_increasing s.running form.running)
      (λ i h. (and_parts (runs s i) (is_in (numbers s) i) (sym (in_filter (runs s) (numbers s) i) ∙ h)).0)
      (λ i h.
      let there = all_at (λ j. j < length s.equations) s.running form.running_there i (Contains-in s.running i h) in
      in_filter (runs s) (numbers s) i ∙ (λ k. h k && in_numbers s i there k))

  firsts_bare : (ns : List ℕ) → map (λ p. p.1) (map (entry_of s) ns) ≡ map (λ i. bare_in (runs s i) (equation s i)) ns
  firsts_bare [] = refl
  firsts_bare (n ∷ ns) = ap (λ more. bare_in (runs s n) (equation s n) ∷ more) (firsts_bare ns)

  pub bare_is : rebuilt ≡ bare c
  bare_is =
      let equations = firsts_bare (numbers s) in
      let running = running_is 0 (length s.equations) ∙ running_kept in
      λ k. record { system = record { equations = equations k; outputs = s.outputs; running = running k }; in_place = c.in_place; order = c.order }

read_one : (c d : Code) (x y : List ℕ) → got c x ≡ got d y → (c ≡ d) × (x ≡ y)
read_one c d x y is =
    let first : Code × List ℕ = (c, x) in
    let second : Code × List ℕ = (d, y) in
    let same = same_Some first second is in
    (ap (λ (p : Code × List ℕ). p.0) same, ap (λ (p : Code × List ℕ). p.1) same)

pub spell_one_code : SpellOneCode
spell_one_code c d x y form_c form_d is =
    let both : got (rebuilt c form_c) x ≡ got (rebuilt d form_d) y =
    sym (code_again c form_c x) ∙ ap code_at (ap (drop 8) is) ∙ code_again d form_d y in
    let same = read_one (rebuilt c form_c) (rebuilt d form_d) x y both in
    (sym (bare_is c form_c) ∙ same.0 ∙ bare_is d form_d, same.1)
