-- The pairs of all equations are those of the arguments that are not guarded.
use Rattle.std.proofs.Common.{◌≡◌, ℕ, zero, suc, ◌+◌, ◌<◌, List, [], ◌∷◌, ◌++◌, length, get_or, Contains, All, Option, Some, None, refl, sym, ap, subst, ◌∙◌, inl, inr, append_assoc, take, add-one, arith}
use Rattle.std.proofs.lemmas.Bool.{cases_lt}
use Rattle.std.proofs.lemmas.List.{take_more}
use Rattle.std.proofs.lemmas.Option.{slice_get_within}
use Rattle.std.proofs.lemmas.List.Elements.{Contains-append_left, Contains-append_right, Contains-append_cases, Contains-get_or, All-from_get_or}
use Rattle.tsl_value.specs.declared.scalar.ValueType.{ValueType}
use Rattle.flat_core.specs.declared.equation.Equation.{Equation}
use Rattle.translation_order.specs.Graph.{Path, edge, step, IsAcyclic}
use Rattle.flat_core.specs.System.{System, equation}
use Rattle.flat_core.specs.TypedSystem.{AreOfTypes}
use Rattle.flat_core.specs.Complete.{IsFlat}
use Rattle.flat_core.specs.WellFormed.{unguarded_of, Needs, IsWellFormed}
use Rattle.flat_core.proofs.Depth.{unguarded_in}
use Rattle.flat_core.proofs.Finished.{typed_below}
use Rattle.flat_core.proofs.Members.{all_at}
use Rattle.translation_order.specs.Order.{Before, AreOfSteps}
use Rattle.translation_order.specs.Cycle.{IsCycle, IsCycleOfWalk}
use Rattle.tsl_value.proofs.Lists.{here, later, none_in_nil, cons_cases}
use Rattle.translation_order.proofs.Cycles.{cycle_path}
use Rattle.translation_order.proofs.Alike.{path_alike, cycle_alike, walk_alike}
use Rattle.recursion_check.specs.Feeds.{Feeds, edges_to, edges_at, edges_of}

-- ---- pairs
to_in : (i : ℕ) (args : List ℕ) (a j : ℕ) → Contains (edges_to i args) (a, j) → (j ≡ i) × Contains args a
to_in i [] a j c = absurd (none_in_nil (a, j) c)
to_in i (b ∷ args) a j c = elim (cons_cases (b, i) (a, j) (edges_to i args) c) [
  | inl same ↦ (sym (ap (λ (q : ℕ × ℕ). q.1) same), subst (Contains (b ∷ args)) (ap (λ (q : ℕ × ℕ). q.0) same) (here b args))
  | inr rest ↦ let found = to_in i args a j rest in (found.0, later b a args found.1)
]

in_to : (i : ℕ) (args : List ℕ) (a : ℕ) → Contains args a → Contains (edges_to i args) (a, i)
in_to i [] a c = absurd (none_in_nil a c)
in_to i (b ∷ args) a c = elim (cons_cases b a args c) [
  | inl same ↦ subst (λ m. Contains ((b, i) ∷ edges_to i args) (m, i)) same (here (b, i) (edges_to i args))
  | inr rest ↦ later (b, i) (a, i) (edges_to i args) (in_to i args a rest)
]

at_in : (s : System) (i : ℕ) (found : Option Equation) → equation s i ≡ found → (a j : ℕ) → Contains (edges_at i found) (a, j) → (j ≡ i) × Needs s i a
at_in s i None is a j c = absurd (none_in_nil (a, j) c)
at_in s i (Some e) is a j c = let parts = to_in i (unguarded_of e.op e.args) a j c in (parts.0, record { at = e; is = is; argument = parts.1 })

-- a pair is one of an equation and its argument
pub of_in : (s : System) (n a i : ℕ) → Before (edges_of s n) a i → (i < n) × Needs s i a
of_in s zero a i c = absurd (none_in_nil (a, i) c)
of_in s (suc n) a i c = elim (Contains-append_cases (edges_of s n) (edges_at n (equation s n)) (a, i) c) [
  | inl old ↦ let found = of_in s n a i old in (omega arith, found.1)
  | inr new ↦ let found = at_in s n (equation s n) refl a i new in (omega arith, subst (λ m. Needs s m a) (sym found.0) found.1)
]

pub in_of : (s : System) (n a i : ℕ) → i < n → Needs s i a → Before (edges_of s n) a i
in_of s zero a i lt need = absurd (omega arith)
in_of s (suc n) a i lt need = elim (cases_lt i n) [
  | inl less ↦ Contains-append_left (edges_of s n) (edges_at n (equation s n)) (a, i) (in_of s n a i less need)
  | inr not_less ↦
      let same : i ≡ n = omega arith in
      let found : equation s n ≡ Some need.at = ap (equation s) (sym same) ∙ need.is in
      let to : Contains (edges_to n (unguarded_of need.at.op need.at.args)) (a, i) = subst (λ m. Contains (edges_to n (unguarded_of need.at.op need.at.args)) (a, m)) (sym same) (in_to n (unguarded_of need.at.op need.at.args) a need.argument) in
      Contains-append_right (edges_of s n) (edges_at n (equation s n)) (a, i) (subst (λ f. Contains (edges_at n f) (a, i)) (sym found) to)
]

-- ---- all arguments are there
pub typed_low : (s : System) (args : List ℕ) (types : List ValueType) → AreOfTypes s.equations args types → (a : ℕ) → Contains args a → a < length s.equations
typed_low s args types typed a c = all_at (λ b. b < length s.equations) args (typed_below s.equations args types typed) a c

pub needs_low : (s : System) → IsFlat s → (i a : ℕ) → Needs s i a → (i < length s.equations) × (a < length s.equations)
needs_low s flat i a need =
    let typed = flat.complete.typed.each i need.at need.is in
    (slice_get_within s.equations i need.at need.is, typed_low s need.at.args typed.types typed.arguments a (unguarded_in need.at.op need.at.args a need.argument))

all_of_to : (P : ℕ × ℕ → Type 0) (pairs : List (ℕ × ℕ)) → ((a i : ℕ) → Before pairs a i → P (a, i)) → All P pairs
all_of_to P pairs each = All-from_get_or P pairs (0, 0) (λ k lt. let p = get_or pairs k (0, 0) in each p.0 p.1 (Contains-get_or pairs k (0, 0) lt))

pub edges_of_steps : (s : System) → IsFlat s → (n : ℕ) → AreOfSteps (length s.equations) (edges_of s n)
edges_of_steps s flat n = all_of_to (λ p. (p.0 < length s.equations) × (p.1 < length s.equations)) (edges_of s n) (λ a i c. let low = needs_low s flat i a (of_in s n a i c).1 in (low.1, low.0))

-- ---- answers
module _ (s : System) (flat : IsFlat s) where
  abbrev pub pairs : List (ℕ × ℕ)
  pairs = edges_of s (length s.equations)

  to_feeds : (a i : ℕ) → Before pairs a i → Feeds s a i
  to_feeds a i c = (of_in s (length s.equations) a i c).1

  pub from_feeds : (a i : ℕ) → Feeds s a i → Before pairs a i
  from_feeds a i need = in_of s (length s.equations) a i (needs_low s flat i a need).0 need

  back_on : (a b c : ℕ) → Path (Feeds s) a b → Feeds s b c → Path (Feeds s) a c
  back_on a b c (edge e) f = step e (edge f)
  back_on a b c (step {b = m} e p) f = step e (back_on m b c p f)

  turned_path : (a b : ℕ) → Path (Needs s) a b → Path (Feeds s) b a
  turned_path a b (edge e) = edge e
  turned_path a b (step {b = m} e p) = back_on b m a (turned_path m b p) e

  needs_on : (a b c : ℕ) → Path (Needs s) a b → Needs s b c → Path (Needs s) a c
  needs_on a b c (edge e) f = step e (edge f)
  needs_on a b c (step {b = m} e p) f = step e (needs_on m b c p f)

  path_turned : (a b : ℕ) → Path (Feeds s) a b → Path (Needs s) b a
  path_turned a b (edge e) = edge e
  path_turned a b (step {b = m} e p) = needs_on b m a (path_turned m b p) e

  pub well_formed_from : IsAcyclic (Before pairs) → IsWellFormed s
  well_formed_from acyclic a p = acyclic a (path_alike (Feeds s) (Before pairs) from_feeds a a (turned_path a a p))

  pub feeds_cycle : (cycle : List ℕ) → IsCycle (Before pairs) cycle → IsCycle (Feeds s) cycle
  feeds_cycle = cycle_alike (Before pairs) (Feeds s) to_feeds

  pub feeds_walk : (cycle : List ℕ) → IsCycleOfWalk (length s.equations) (Before pairs) cycle → IsCycleOfWalk (length s.equations) (Feeds s) cycle
  feeds_walk = walk_alike (length s.equations) (Before pairs) (Feeds s) to_feeds from_feeds

  pub not_well_formed : (cycle : List ℕ) → IsCycle (Before pairs) cycle → IsWellFormed s → ⊥
  not_well_formed cycle c good = let fed = feeds_cycle cycle c in good fed.first (path_turned fed.first fed.first (cycle_path (Feeds s) cycle fed))

  pub cycle_from : (edges : List (ℕ × ℕ)) → edges ≡ pairs → (steps : List ℕ) → IsCycle (Before edges) steps → IsCycle (Feeds s) steps
  cycle_from edges is steps c = feeds_cycle steps (subst (λ p. IsCycle (Before p) steps) is c)

  pub walk_from : (count : ℕ) → count ≡ length s.equations → (edges : List (ℕ × ℕ)) → edges ≡ pairs → (steps : List ℕ) → IsCycleOfWalk count (Before edges) steps → IsCycleOfWalk (length s.equations) (Feeds s) steps
  walk_from count all edges is steps c =
      feeds_walk steps (subst (λ p. IsCycleOfWalk (length s.equations) (Before p) steps) is (subst (λ n. IsCycleOfWalk n (Before edges) steps) all c))

  pub cyclic_from : (edges : List (ℕ × ℕ)) → edges ≡ pairs → (steps : List ℕ) → IsCycle (Before edges) steps → IsWellFormed s → ⊥
  cyclic_from edges is steps c = not_well_formed steps (subst (λ p. IsCycle (Before p) steps) is c)

-- ---- loops
edges_push : (i : ℕ) (xs : List ℕ) (a : ℕ) → edges_to i (xs ++ a ∷ []) ≡ edges_to i xs ++ (a, i) ∷ []
edges_push i [] a = refl
edges_push i (x ∷ xs) a = ap (λ l. (x, i) ∷ l) (edges_push i xs a)

pub edges_next : (i : ℕ) (args : List ℕ) (k : ℕ) (start old new : List (ℕ × ℕ)) → k < length args → old ≡ start ++ edges_to i (take k args) → new ≡ old ++ (get_or args k 0, i) ∷ [] → new ≡ start ++ edges_to i (take (k + 1) args)
edges_next i args k start old new lt was is =
    is
    ∙ ap (λ l. l ++ (get_or args k 0, i) ∷ []) was
    ∙ append_assoc start (edges_to i (take k args)) ((get_or args k 0, i) ∷ [])
    ∙ ap (λ l. start ++ l) (sym (edges_push i (take k args) (get_or args k 0)))
    ∙ ap (λ l. start ++ edges_to i l) (sym (take_more args k 0 lt))

pub edges_more : (s : System) (n : ℕ) (e : Equation) (old new : List (ℕ × ℕ)) → equation s n ≡ Some e → old ≡ edges_of s n → new ≡ old ++ edges_to n (unguarded_of e.op e.args) → new ≡ edges_of s (n + 1)
edges_more s n e old new found was is =
    is
    ∙ ap (λ l. l ++ edges_to n (unguarded_of e.op e.args)) was
    ∙ ap (λ f. edges_of s n ++ edges_at n f) (sym found)
    ∙ ap (edges_of s) (sym (add-one n))
