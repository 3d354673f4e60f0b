-- The list of all pairs has those of which the first has to stand before the second.
use Rattle.std.proofs.Common.{◌≡◌, ℕ, zero, suc, ◌+◌, ◌<◌, Bool, true, false, cond, List, [], ◌∷◌, ◌++◌, length, take, Contains, Option, Some, None, refl, sym, ap, subst, ◌∙◌, inl, inr, arith, get_or, append_assoc}
use Rattle.std.proofs.lemmas.Bool.{cases_Bool, and_from, and_parts, or_cases, or_left, or_right, le-leb, lt-ltb, ltb-true}
use Rattle.std.proofs.lemmas.Option.{same_Some, slice_get_within}
use Rattle.std.proofs.lemmas.List.{length-take-le, take_more}
use Rattle.std.proofs.lemmas.List.Elements.{All-from_get_or, Contains-append_left, Contains-append_right, Contains-append_cases, Contains-get_or}
use Rattle.std.proofs.lemmas.List.FromFn.{length-range_with_len, get_or-range_with_len}
use Rattle.std.specs.Prelude.{IsTrue, nat_le, nat_lt, slice_get}
use Rattle.std.specs.List.{flat_map, range_with_len}
use Rattle.flat_core.specs.declared.equation.Equation.{Equation}
use Rattle.flat_core.specs.declared.equation.Output.{Output}
use Rattle.flat_core.specs.Complete.{IsFlat}
use Rattle.flat_core.specs.System.{System, equation, runs}
use Rattle.flat_core.specs.WellFormed.{Needs}
use Rattle.flat_core.proofs.Depth.{runs_below}
use Rattle.translation_order.specs.Order.{Before, AreOfSteps}
use Rattle.tsl_value.proofs.Lists.{here, later, none_in_nil, cons_cases, contains_map, map_contains}
use Rattle.alias_rules.specs.Steps.{step_count, is_print, is_step, MustPrecede, argument, printed}
use Rattle.alias_rules.proofs.Empty.{source_within}
use Rattle.register_code.specs.inner.Pairs.{unguarded_at, pairs_to, pairs_at, argument_pairs, print_pairs, all_pairs}

-- ---- lists
in_flat_map : {X Y : Type 0} (f : X → List Y) (xs : List X) (x : X) (y : Y) → Contains xs x → Contains (f x) y → Contains (flat_map f xs) y
in_flat_map f [] x y c d = absurd (none_in_nil x c)
in_flat_map f (z ∷ zs) x y c d = elim (cons_cases z x zs c) [
  | inl same ↦ Contains-append_left (f z) (flat_map f zs) y (subst (λ m. Contains (f m) y) (sym same) d)
  | inr rest ↦ Contains-append_right (f z) (flat_map f zs) y (in_flat_map f zs x y rest d)
]

flat_map_in : {X Y : Type 0} (f : X → List Y) (xs : List X) (y : Y) → Contains (flat_map f xs) y → (x : X) × Contains xs x × Contains (f x) y
flat_map_in f [] y c = absurd (none_in_nil y c)
flat_map_in f (z ∷ zs) y c = elim (Contains-append_cases (f z) (flat_map f zs) y c) [
  | inl first ↦ (z, here z zs, first)
  | inr rest ↦ let found = flat_map_in f zs y rest in (found.0, later z found.0 zs found.1, found.2)
]

low_in : (n i : ℕ) → i < n → Contains (range_with_len 0 n) i
low_in n i lt =
    let long = length-range_with_len 0 n in
    let same : 0 + i ≡ i = omega arith in
    (i, omega arith, get_or-range_with_len 0 n i i lt ∙ same)

-- ---- the pairs of an equation
needs_at : (s : System) (i a : ℕ) (found : Option Equation) → equation s i ≡ found → Contains (unguarded_at found) a → Needs s i a
needs_at s i a None is c = absurd (none_in_nil a c)
needs_at s i a (Some e) is c = record { at = e; is = is; argument = c }

pairs_where : (s : System) (i : ℕ) (b : Bool) → runs s i ≡ b → pairs_at s i ≡ cond b (pairs_to i (unguarded_at (equation s i))) []
pairs_where s i b is = ap (λ c. cond c (pairs_to i (unguarded_at (equation s i))) []) is

at_to : (s : System) (i a x : ℕ) → Contains (pairs_at s i) (a, x) → (x ≡ i) × IsTrue (runs s i) × Needs s i a
at_to s i a x c = elim (cases_Bool (runs s i)) [
  | inl run ↦
      let found = contains_map (λ (b : ℕ). (b, i)) (unguarded_at (equation s i)) (a, x) (subst (λ l. Contains l (a, x)) (pairs_where s i true run) c) in
      let same : found.0 ≡ a = ap (λ (q : ℕ × ℕ). q.0) found.2 in
      (sym (ap (λ (q : ℕ × ℕ). q.1) found.2), run, needs_at s i a (equation s i) refl (subst (Contains (unguarded_at (equation s i))) same found.1))
  | inr idle ↦ absurd (none_in_nil (a, x) (subst (λ l. Contains l (a, x)) (pairs_where s i false idle) c))
]

at_from : (s : System) (i a : ℕ) → IsTrue (runs s i) → Needs s i a → Contains (pairs_at s i) (a, i)
at_from s i a run need =
    subst (λ l. Contains l (a, i)) (sym (pairs_where s i true run))
    (map_contains (λ (b : ℕ). (b, i)) (unguarded_at (equation s i)) a (subst (λ f. Contains (unguarded_at f) a) (sym need.is) need.argument))

-- ---- the pairs of the prints
print_in : (first : ℕ) (outputs : List Output) (a x : ℕ) → Contains (print_pairs first outputs) (a, x) → (k : ℕ) × (o : Output) × (slice_get outputs k ≡ Some o) × (a ≡ o.equation) × (x ≡ first + k)
print_in first [] a x c = absurd (none_in_nil (a, x) c)
print_in first (o ∷ outputs) a x c = elim (cons_cases (o.equation, first) (a, x) (print_pairs (first + 1) outputs) c) [
  | inl same ↦ (0, o, refl, sym (ap (λ (q : ℕ × ℕ). q.0) same), (let at : first ≡ x = ap (λ (q : ℕ × ℕ). q.1) same in omega arith))
  | inr rest ↦ let found = print_in (first + 1) outputs a x rest in (suc found.0, found.1, found.2, found.3, (let at : x ≡ (first + 1) + found.0 = found.4 in omega arith))
]

in_print : (first : ℕ) (outputs : List Output) (k : ℕ) (o : Output) (a x : ℕ) → slice_get outputs k ≡ Some o → a ≡ o.equation → x ≡ first + k → Contains (print_pairs first outputs) (a, x)
in_print first [] k o a x is a_is x_is = absurd (cc)
in_print first (p ∷ outputs) zero o a x is a_is x_is =
    let same : p ≡ o = same_Some p o is in
    let at : first ≡ x = omega arith in
    subst (Contains (print_pairs first (p ∷ outputs))) (λ k. ((ap (λ (q : Output). q.equation) same ∙ sym a_is) k, at k)) (here (p.equation, first) (print_pairs (first + 1) outputs))
in_print first (p ∷ outputs) (suc k) o a x is a_is x_is =
    let at : x ≡ (first + 1) + k = omega arith in
    later (p.equation, first) (a, x) (print_pairs (first + 1) outputs) (in_print (first + 1) outputs k o a x is a_is at)

-- one output more
pub prints_more : (first : ℕ) (outputs : List Output) (o : Output) → print_pairs first (outputs ++ o ∷ []) ≡ print_pairs first outputs ++ (o.equation, first + length outputs) ∷ []
prints_more first [] o = let same : first ≡ first + 0 = omega arith in ap (λ m. (o.equation, m) ∷ []) same
prints_more first (p ∷ outputs) o =
    let same : (first + 1) + length outputs ≡ first + suc (length outputs) = omega arith in
    ap (λ l. (p.equation, first) ∷ l) (prints_more (first + 1) outputs o ∙ ap (λ m. print_pairs (first + 1) outputs ++ (o.equation, m) ∷ []) same)

pub prints_next : (first : ℕ) (outputs : List Output) (k : ℕ) (o : Output) (step : ℕ) (start old new : List (ℕ × ℕ)) → k < length outputs → o ≡ get_or outputs k o → step ≡ first + k → old ≡ start ++ print_pairs first (take k outputs) → new ≡ old ++ (o.equation, step) ∷ [] → new ≡ start ++ print_pairs first (take (k + 1) outputs)
prints_next first outputs k o step start old new lt is at was more =
    let long : length (take k outputs) ≡ k = length-take-le k outputs (omega arith) in
    let here_at : step ≡ first + length (take k outputs) = omega arith in
    more
    ∙ (λ i. was i ++ (o.equation, here_at i) ∷ [])
    ∙ append_assoc start (print_pairs first (take k outputs)) ((o.equation, first + length (take k outputs)) ∷ [])
    ∙ ap (λ l. start ++ l) (sym (prints_more first (take k outputs) o))
    ∙ ap (λ q. start ++ print_pairs first (take k outputs ++ q ∷ [])) is
    ∙ ap (λ l. start ++ print_pairs first l) (sym (take_more outputs k o lt))

-- ---- steps
module _ (s : System) where
  pub step_runs : (a : ℕ) → IsTrue (runs s a) → IsTrue (is_step s a)
  step_runs a run = or_left (runs s a) (is_print s a) run

  pub second_step : (a x : ℕ) → MustPrecede s a x → IsTrue (is_step s x)
  second_step a x (argument run need) = step_runs x run
  second_step a x (printed k o is a_is x_is) =
      let within = slice_get_within s.outputs k o is in
      or_right (runs s x) (is_print s x) (and_from (nat_le (length s.equations) x) (nat_lt x (step_count s)) (le-leb (length s.equations) x (omega arith)) (lt-ltb x (step_count s) (omega arith)))

module _ (s : System) (flat : IsFlat s) where
  pub step_low : (x : ℕ) → IsTrue (is_step s x) → x < step_count s
  step_low x step = elim (or_cases (runs s x) (is_print s x) step) [
    | inl run ↦ let low = runs_below s flat.proper x run in omega arith
    | inr print ↦ ltb-true x (step_count s) (and_parts (nat_le (length s.equations) x) (nat_lt x (step_count s)) print).1
  ]

  pub to_precede : (a x : ℕ) → Before (all_pairs s) a x → MustPrecede s a x
  to_precede a x c = elim (Contains-append_cases (argument_pairs s (length s.equations)) (print_pairs (length s.equations) s.outputs) (a, x) c) [
    | inl of_argument ↦
        let found = flat_map_in (pairs_at s) (range_with_len 0 (length s.equations)) (a, x) of_argument in
        let parts = at_to s found.0 a x found.2 in
        subst (MustPrecede s a) (sym parts.0) (argument parts.1 parts.2)
    | inr of_print ↦ let found = print_in (length s.equations) s.outputs a x of_print in printed found.0 found.1 found.2 found.3 found.4
  ]

  pub from_precede : (a x : ℕ) → MustPrecede s a x → Before (all_pairs s) a x
  from_precede a x (argument run need) =
      Contains-append_left (argument_pairs s (length s.equations)) (print_pairs (length s.equations) s.outputs) (a, x)
      (in_flat_map (pairs_at s) (range_with_len 0 (length s.equations)) x (a, x) (low_in (length s.equations) x (runs_below s flat.proper x run)) (at_from s x a run need))
  from_precede a x (printed k o is a_is x_is) =
      Contains-append_right (argument_pairs s (length s.equations)) (print_pairs (length s.equations) s.outputs) (a, x)
      (in_print (length s.equations) s.outputs k o a x is a_is x_is)

  pub pairs_of_steps : AreOfSteps (step_count s) (all_pairs s)
  pairs_of_steps =
      All-from_get_or (λ (p : ℕ × ℕ). (p.0 < step_count s) × (p.1 < step_count s)) (all_pairs s) (0, 0) (λ k lt.
      let p = get_or (all_pairs s) k (0, 0) in
      let must = to_precede p.0 p.1 (Contains-get_or (all_pairs s) k (0, 0) lt) in
      let first = source_within s flat.proper flat.outputs_run p.0 p.1 must in
      (omega arith, step_low p.1 (second_step s p.0 p.1 must)))
