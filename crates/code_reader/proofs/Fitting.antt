-- How the parts of code stand to each other: the tests tell it, and it does not depend on equations that are not spelled.
use Rattle.std.proofs.Common.{◌≡◌, ◌&&◌, ◌||◌, ℕ, zero, suc, ◌+◌, ◌<◌, ◌≤◌, Bool, true, false, cond, List, [], ◌∷◌, map, length, Some, None, refl, sym, ap, subst, ◌∙◌, inl, inr, arith}
use Rattle.std.specs.Prelude.{IsTrue, nat_le, nat_lt, slice_get}
use Rattle.std.specs.List.{AllByRecursion, filter, list_all, range_with_len}
use Rattle.std.proofs.lemmas.Bool.{and_from, and_parts, cases_Bool, false≢true, le-leb, leb-true, lt-ltb, ltb-false, ltb-true}
use Rattle.std.proofs.lemmas.List.{length-map}
use Rattle.std.proofs.lemmas.List.FromFn.{length-range_with_len}
use Rattle.std.proofs.lemmas.Option.{slice_get_within}
use Rattle.flat_core.specs.declared.equation.Equation.{Equation}
use Rattle.flat_core.specs.System.{System, equation, numbers, runs}
use Rattle.flat_core.specs.Updates.{is_running_update, is_update_at, running_updates}
use Rattle.flat_core.proofs.Finished.{equation_there}
use Rattle.alias_rules.specs.Steps.{is_step}
use Rattle.register_code.specs.Code.{Code}
use Rattle.stream_constructs.specs.declared.limits.TheConstants.{MOST_UPDATES}
use Rattle.trace_reader.specs.Reading.{is_input}
use Rattle.code_file.specs.Form.{IsInput, bare, bare_equation, bare_in, bare_system, is_spelled, nothing}
use Rattle.code_reader.specs.inner.Joined.{IsJoined, IsSound, is_joined, is_sound, run}
use Rattle.code_reader.specs.inner.Names.{are_apart, input_names, output_names}
use Rattle.code_reader.proofs.Names.{inputs_from, inputs_to, outputs_from, outputs_to}

-- ---- tests of all items

all_pass : {A : Type 0} (p : A → Bool) (xs : List A) → list_all p xs ≡ true → AllByRecursion (λ x. IsTrue (p x)) xs
all_pass p [] h = tt
all_pass p (x ∷ xs) h = let both = and_parts (p x) (list_all p xs) h in (both.0, all_pass p xs both.1)

pass_all : {A : Type 0} (p : A → Bool) (xs : List A) → AllByRecursion (λ x. IsTrue (p x)) xs → list_all p xs ≡ true
pass_all p [] all = refl
pass_all p (x ∷ xs) all = and_from (p x) (list_all p xs) all.0 (pass_all p xs all.1)

module _ (c : Code) where
  sound_to : is_sound c ≡ true → IsSound c
  sound_to h =
      let some = and_parts (nat_lt 0 (length c.system.outputs)) (nat_le (length (running_updates c.system)) MOST_UPDATES && run c) h in
      let few = and_parts (nat_le (length (running_updates c.system)) MOST_UPDATES) (run c) some.1 in
      let outputs = and_parts (list_all (λ o. runs c.system o.equation) c.system.outputs) (list_all (is_running_update c.system) c.in_place && list_all (is_step c.system) c.order) few.1 in
      let plan = and_parts (list_all (is_running_update c.system) c.in_place) (list_all (is_step c.system) c.order) outputs.1 in
      record {
        few_updates = leb-true _ _ few.0;
        some_output = ltb-true _ _ some.0;
        outputs_run = all_pass (λ o. runs c.system o.equation) c.system.outputs outputs.0;
        updates = all_pass (is_running_update c.system) c.in_place plan.0;
        steps = all_pass (is_step c.system) c.order plan.1;
      }

  sound_from : IsSound c → is_sound c ≡ true
  sound_from sound =
      and_from (nat_lt 0 (length c.system.outputs)) (nat_le (length (running_updates c.system)) MOST_UPDATES && run c) (lt-ltb _ _ sound.some_output)
      (and_from (nat_le (length (running_updates c.system)) MOST_UPDATES) (run c) (le-leb _ _ sound.few_updates)
      (and_from (list_all (λ o. runs c.system o.equation) c.system.outputs) (list_all (is_running_update c.system) c.in_place && list_all (is_step c.system) c.order)
      (pass_all (λ o. runs c.system o.equation) c.system.outputs sound.outputs_run)
      (and_from (list_all (is_running_update c.system) c.in_place) (list_all (is_step c.system) c.order)
      (pass_all (is_running_update c.system) c.in_place sound.updates)
      (pass_all (is_step c.system) c.order sound.steps))))

  abbrev inputs_pass : Bool
  inputs_pass = are_apart [] (input_names c.system.equations)

  abbrev outputs_pass : Bool
  outputs_pass = are_apart [] (output_names c.system.outputs)

  pub joined_to : is_joined c ≡ true → IsJoined c
  joined_to h =
      let both = and_parts (is_sound c) (inputs_pass && outputs_pass) h in
      let names = and_parts inputs_pass outputs_pass both.1 in
      record { sound = sound_to both.0; inputs = inputs_to c.system names.0; outputs = outputs_to c.system.outputs names.1 }

  pub joined_from : IsJoined c → is_joined c ≡ true
  joined_from joined =
      and_from (is_sound c) (inputs_pass && outputs_pass) (sound_from joined.sound)
      (and_from inputs_pass outputs_pass (inputs_from c.system joined.inputs) (outputs_from c.system.outputs joined.outputs))

-- ---- equations that are not spelled

mapped_at : {A : Type 0} (f : ℕ → A) (a n i : ℕ) → i < n → slice_get (map f (range_with_len a n)) i ≡ Some (f (a + i))
mapped_at f a zero i low = absurd (omega arith)
mapped_at f a (suc n) zero low = let here : a ≡ a + 0 = omega arith in ap (λ k. Some (f k)) here
mapped_at f a (suc n) (suc i) low = let there : (a + 1) + i ≡ a + suc i = omega arith in mapped_at f (a + 1) n i (omega arith) ∙ ap (λ k. Some (f k)) there

mapped_past : {A : Type 0} (f : ℕ → A) (a n i : ℕ) → n ≤ i → slice_get (map f (range_with_len a n)) i ≡ None
mapped_past f a zero i low = refl
mapped_past f a (suc n) zero low = absurd (omega arith)
mapped_past f a (suc n) (suc i) low = mapped_past f (a + 1) n i (omega arith)

got_or_none : {A : Type 0} (xs : List A) (i : ℕ) → length xs ≤ i → slice_get xs i ≡ None
got_or_none [] i low = refl
got_or_none (x ∷ xs) zero low = absurd (omega arith)
got_or_none (x ∷ xs) (suc i) low = got_or_none xs i (omega arith)

filters_alike : (p q : ℕ → Bool) → ((i : ℕ) → p i ≡ q i) → (xs : List ℕ) → filter p xs ≡ filter q xs
filters_alike p q same [] = refl
filters_alike p q same (x ∷ xs) = let rest = filters_alike p q same xs in λ k. cond (same x k) (x ∷ rest k) (rest k)

each_alike : (p q : ℕ → Bool) → ((i : ℕ) → p i ≡ q i) → (xs : List ℕ) → AllByRecursion (λ i. IsTrue (p i)) xs → AllByRecursion (λ i. IsTrue (q i)) xs
each_alike p q same [] all = tt
each_alike p q same (x ∷ xs) all = (sym (same x) ∙ all.0, each_alike p q same xs all.1)

module _ (s : System) where
  abbrev b : System
  b = bare_system s

  as_many : length b.equations ≡ length s.equations
  as_many = length-map (numbers s) (λ i. bare_in (runs s i) (equation s i)) ∙ length-range_with_len 0 (length s.equations)

  -- what a system has at a number, where nothing stands for equations that are not spelled
  bare_at : (i : ℕ) (e : Equation) → equation s i ≡ Some e → i < length s.equations → equation b i ≡ Some (bare_equation (runs s i) e)
  bare_at i e is low =
      let here : 0 + i ≡ i = omega arith in
      mapped_at (λ j. bare_in (runs s j) (equation s j)) 0 (length s.equations) i low
      ∙ ap (λ (j : ℕ). Some (bare_in (runs s j) (equation s j))) here
      ∙ ap (λ o. Some (bare_in (runs s i) o)) is

  -- an equation that runs
  running_same : (i : ℕ) → runs s i ≡ true → equation b i ≡ equation s i
  running_same i run = elim (cases_Bool (nat_lt i (length s.equations))) [
    | inl low ↦
        let there = equation_there s.equations i (ltb-true i (length s.equations) low) in
        bare_at i there.0 there.1 (ltb-true i (length s.equations) low)
        ∙ ap (λ r. Some (cond (r || is_input there.0.op) there.0 nothing)) run
        ∙ sym there.1
    | inr high ↦
        let past = ltb-false i (length s.equations) high in
        mapped_past (λ j. bare_in (runs s j) (equation s j)) 0 (length s.equations) i past
        ∙ sym (got_or_none s.equations i past)
  ]

  update_same : (i : ℕ) → is_running_update b i ≡ is_running_update s i
  update_same i = by_test (runs s i) refl
    where
      by_test : (r : Bool) → runs s i ≡ r → (r && is_update_at (equation b i)) ≡ (r && is_update_at (equation s i))
      by_test true run = ap is_update_at (running_same i run)
      by_test false run = refl

  step_same : (i : ℕ) → is_step s i ≡ is_step b i
  step_same i = λ k. runs s i || (nat_le (sym as_many k) i && nat_lt i (sym as_many k + length s.outputs))

  updates_same : running_updates b ≡ running_updates s
  updates_same = filters_alike (is_running_update b) (is_running_update s) update_same (numbers b) ∙ ap (λ n. filter (is_running_update s) (range_with_len 0 n)) as_many

  -- an input of the one is one of the other
  input_same : (i : ℕ) (e : Equation) → IsInput b i e → IsInput s i e
  input_same i e it = by_place (slice_get_within b.equations i e it.is)
    where
      by_kind : (f : Equation) → equation s i ≡ Some f → (kept : Bool) → is_spelled (runs s i) f.op ≡ kept → cond kept f nothing ≡ e → IsInput s i e
      by_kind f is true spelled same = record { is = is ∙ ap (λ g. Some g) same; input = it.input }
      by_kind f is false spelled same = absurd (false≢true (ap (λ g. is_input g.op) same ∙ it.input))

      by_place : i < length b.equations → IsInput s i e
      by_place low =
          let there = equation_there s.equations i (omega (arith, low, as_many)) in
          let found : Some (bare_equation (runs s i) there.0) ≡ Some e = sym (bare_at i there.0 there.1 (omega (arith, low, as_many))) ∙ it.is in
          by_kind there.0 there.1 (is_spelled (runs s i) there.0.op) refl cc

pub joined_bare : (c : Code) → IsJoined c → IsJoined (bare c)
joined_bare c joined = record {
  sound = record {
    few_updates = subst (λ us. length us ≤ MOST_UPDATES) (sym (updates_same c.system)) joined.sound.few_updates;
    some_output = joined.sound.some_output;
    outputs_run = joined.sound.outputs_run;
    updates = each_alike (is_running_update c.system) (is_running_update (bare_system c.system)) (λ i. sym (update_same c.system i)) c.in_place joined.sound.updates;
    steps = each_alike (is_step c.system) (is_step (bare_system c.system)) (step_same c.system) c.order joined.sound.steps;
  };
  inputs = record {
    named = λ i e it. joined.inputs.named i e (input_same c.system i e it);
    differ = λ i j e f it other same. joined.inputs.differ i j e f (input_same c.system i e it) (input_same c.system j f other) same;
  };
  outputs = joined.outputs;
}
