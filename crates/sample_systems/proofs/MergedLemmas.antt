-- The system of merged inputs is complete.
use Rattle.std.proofs.Common.{◌≡◌, ℕ, ◌-◌, ◌<◌, ◌≤◌, nat_lt, [], ◌∷◌, length, take, take_all, Some, cond, refl, sym, ap, subst, ◌∙◌, inl, inr, arith, lit<}
use Rattle.std.specs.Prelude.{slice_get, slice_index_or}
use Rattle.std.specs.List.{AllByRecursion, Contains, range_with_len}
use Rattle.std.proofs.lemmas.Bool.{cases_Bool, lt-ltb, le-ltb, ltb-true, ltb-false}
use Rattle.std.proofs.lemmas.List.{get_or_default}
use Rattle.std.proofs.lemmas.List.FromFn.{length-range_with_len, get_or-range_with_len, length-map-range_with_len, get_or-map-range_with_len}
use Rattle.std.proofs.lemmas.Option.{get_or_from_slice_get, slice_get-get_or}
use Rattle.flat_core.specs.declared.equation.Equation.{Equation}
use Rattle.flat_core.specs.declared.equation.Op.TheVariants as op
use Rattle.flat_core.specs.declared.equation.Output.{Output}
use Rattle.flat_core.specs.Complete.{HasShortBody, HaveDifferentNames, IsComplete}
use Rattle.flat_core.specs.System.{System}
use Rattle.lift_func.specs.Update.{set_add}
use Rattle.flat_core.specs.Typed.{input, empty, last, merge, update, int_type}
use Rattle.flat_core.specs.TypedSystem.{IsOfType, IsTypedEquation}
use Rattle.flat_core.proofs.Finished.{typed_from_all}
use Rattle.tsl_value.proofs.Lists.{contains_map}
use Rattle.flat_core.proofs.Members.{all_at, all_from}
use Rattle.sample_systems.specs.Systems.{equation_of, growing_equations, ints, merged_equation, merged_equations}

abbrev an_input : Equation
an_input = equation_of op.Input [] int_type

many : length merged_equations ≡ 43
many = length-map-range_with_len merged_equation 0 43

-- ---- the equation of each number
at : (n : ℕ) → n < 43 → slice_get merged_equations n ≡ Some (merged_equation n)
at n low = slice_get-get_or merged_equations n an_input (subst (λ k. n < k) (sym many) low) ∙ ap (λ e. Some e) (get_or-map-range_with_len merged_equation 0 43 n n an_input low (omega arith))

abbrev merge_at : ℕ → Equation
merge_at n = equation_of op.Merge ((34 - n) ∷ (n - 1) ∷ []) int_type

is_input : (n : ℕ) → n < 18 → merged_equation n ≡ an_input
is_input n low = ap (λ b. cond b an_input (cond (nat_lt n 35) (merge_at n) (slice_index_or growing_equations (n - 35) an_input))) (lt-ltb n 18 low)

is_merge : (n : ℕ) → 18 ≤ n → n < 35 → merged_equation n ≡ merge_at n
is_merge n high low =
    ap (λ b. cond b an_input (cond (nat_lt n 35) (merge_at n) (slice_index_or growing_equations (n - 35) an_input))) (le-ltb n 18 high)
    ∙ ap (λ b. cond b (merge_at n) (slice_index_or growing_equations (n - 35) an_input)) (lt-ltb n 35 low)

is_growing : (n : ℕ) → 35 ≤ n → merged_equation n ≡ slice_index_or growing_equations (n - 35) an_input
is_growing n high =
    ap (λ b. cond b an_input (cond (nat_lt n 35) (merge_at n) (slice_index_or growing_equations (n - 35) an_input))) (le-ltb n 18 (omega arith))
    ∙ ap (λ b. cond b (merge_at n) (slice_index_or growing_equations (n - 35) an_input)) (le-ltb n 35 high)

pub input_at : (n : ℕ) → n < 18 → (e : Equation) → e ≡ an_input → slice_get merged_equations n ≡ Some e
input_at n low e is = at n (omega arith) ∙ ap (λ f. Some f) (is_input n low ∙ sym is)

pub chain_at : (n : ℕ) → 18 ≤ n → n < 35 → (e : Equation) → e ≡ merge_at n → slice_get merged_equations n ≡ Some e
chain_at n high low e is = at n (omega arith) ∙ ap (λ f. Some f) (is_merge n high low ∙ sym is)

pub growing_at : (n : ℕ) → 35 ≤ n → n < 43 → (e : Equation) → slice_get growing_equations (n - 35) ≡ Some e → slice_get merged_equations n ≡ Some e
growing_at n high low e is = at n low ∙ ap (λ f. Some f) (is_growing n high ∙ get_or_from_slice_get growing_equations (n - 35) e an_input is)

-- ---- types
there : (n : ℕ) → n < 43 → IsOfType merged_equations n (merged_equation n).of
there n low = record { at = merged_equation n; is = at n low; of_is = refl }

int_there : (n : ℕ) → n < 35 → IsOfType merged_equations n int_type
int_there n low = elim (cases_Bool (nat_lt n 18)) [
  | inl early ↦ record { at = an_input; is = input_at n (ltb-true n 18 early) an_input refl; of_is = refl }
  | inr other ↦ record { at = merge_at n; is = chain_at n (ltb-false n 18 other) low (merge_at n) refl; of_is = refl }
]

typed_input : IsTypedEquation merged_equations an_input
typed_input = record { types = []; arguments = tt; typed = input }

typed_merge : (n : ℕ) → 18 ≤ n → n < 35 → IsTypedEquation merged_equations (merge_at n)
typed_merge n high low = record { types = int_type ∷ int_type ∷ []; arguments = (int_there (34 - n) (omega arith), (int_there (n - 1) (omega arith), tt)); typed = merge }

typed_growing : AllByRecursion (IsTypedEquation merged_equations) growing_equations
typed_growing =
    let held = there 37 (lit< tt) in
    let trigger = int_there 34 (lit< tt) in (
      record { types = []; arguments = tt; typed = empty refl },
      (
        record { types = ints ∷ ints ∷ []; arguments = (there 42 (lit< tt), (there 35 (lit< tt), tt)); typed = merge },
        (
          record { types = ints ∷ int_type ∷ []; arguments = (there 36 (lit< tt), (trigger, tt)); typed = last },
          (
            record { types = ints ∷ int_type ∷ []; arguments = (held, (trigger, tt)); typed = last },
            (
              record { types = ints ∷ ints ∷ []; arguments = (held, (there 38 (lit< tt), tt)); typed = merge },
              (
                record { types = int_type ∷ ints ∷ []; arguments = (trigger, (held, tt)); typed = last },
                (
                  record { types = int_type ∷ int_type ∷ []; arguments = (trigger, (there 40 (lit< tt), tt)); typed = merge },
                  (record { types = ints ∷ int_type ∷ []; arguments = (there 39 (lit< tt), (there 41 (lit< tt), tt)); typed = update refl (set_add refl) }, tt),
                ),
              ),
            ),
          ),
        ),
      ),
    )

-- what is said of each equation
all_of : (P : Equation → Type 0) → P an_input → ((n : ℕ) → 18 ≤ n → n < 35 → P (merge_at n)) → AllByRecursion P growing_equations → AllByRecursion P merged_equations
all_of P inputs merges growing = all_from P merged_equations (λ e c. let it = contains_map merged_equation (range_with_len 0 43) e c in subst P it.2 (one it.0 (below it.0 it.1)))
  where
    below : (n : ℕ) → Contains (range_with_len 0 43) n → n < 43
    below n (k, low, is) =
        let count = length-range_with_len 0 43 in
        let at_k = get_or-range_with_len 0 43 k n (omega arith) in
        omega arith

    growing_one : (k : ℕ) → k < 8 → P (slice_index_or growing_equations k an_input)
    growing_one k low = let x = slice_index_or growing_equations k an_input in all_at P growing_equations growing x (k, low, get_or_default growing_equations k x an_input low)

    one : (n : ℕ) → n < 43 → P (merged_equation n)
    one n low = elim (cases_Bool (nat_lt n 18)) [
      | inl early ↦ subst P (sym (is_input n (ltb-true n 18 early))) inputs
      | inr other ↦ elim (cases_Bool (nat_lt n 35)) [
        | inl chained ↦ subst P (sym (is_merge n (ltb-false n 18 other) (ltb-true n 35 chained))) (merges n (ltb-false n 18 other) (ltb-true n 35 chained))
        | inr late ↦ let high = ltb-false n 35 late in subst P (sym (is_growing n high)) (growing_one (n - 35) (omega arith))
      ]
    ]

pub merged_complete : (b : System) (n : ℕ) (o : Output) → 43 ≤ n → b.equations ≡ take n merged_equations → b.outputs ≡ o ∷ [] → o.equation ≡ 36 → IsComplete b
merged_complete b n o all so_far outputs is =
    let equations : b.equations ≡ merged_equations = so_far ∙ take_all n merged_equations (subst (λ k. k ≤ n) (sym many) all) in
    let low : o.equation < length b.equations = subst (λ k. o.equation < k) (sym (ap length equations ∙ many)) (omega arith) in
    record {
      typed = typed_from_all b (subst (λ es. AllByRecursion (IsTypedEquation es) es) (sym equations) (all_of (IsTypedEquation merged_equations) typed_input typed_merge typed_growing));
      some_output = subst (λ os. 0 < length os) (sym outputs) (lit< tt);
      outputs_there = subst (AllByRecursion (λ p. p.equation < length b.equations)) (sym outputs) (low, tt);
      names_differ = subst HaveDifferentNames (sym outputs) (tt, tt);
      short_texts = subst (AllByRecursion (λ e. HasShortBody e.op)) (sym equations) (all_of (λ e. HasShortBody e.op) tt (λ n high low. tt) (tt, (tt, (tt, (tt, (tt, (tt, (tt, (tt, tt)))))))));
    }
