-- Pairs that agree with the places of steps have no cycle.
use Rattle.std.proofs.Common.{◌≡◌, ℕ, ◌+◌, ◌<◌, ◌≤◌, List, length, get_or, Option, None, Some, refl, sym, ap, subst, ◌∙◌, inl, inr, arith}
use Rattle.std.specs.Prelude.{◌↔◌}
use Rattle.std.proofs.lemmas.Bool.{cases_lt}
use Rattle.std.proofs.lemmas.List.{get_or_read}
use Rattle.translation_order.specs.Graph.{Path, edge, step, IsAcyclic}
use Rattle.translation_order.specs.Order.{Before}
use Rattle.translation_order.proofs.Alike.{path_alike, walk_alike}
use Rattle.alias_nears.specs.declared.reason.Reason.{Reason}
use Rattle.alias_nears.specs.declared.reason.Reason.TheVariants.{Kept, NotOverwritten, Cycle}
use Rattle.last_use.specs.inner.Cycles.{IsCycleOrNone}

module _ (E : ℕ → ℕ → Type 0) (rank : ℕ → ℕ) (rises : (a b : ℕ) → E a b → rank a < rank b) where
  path_rises : {a b : ℕ} → Path E a b → rank a < rank b
  path_rises (edge {a} {b} e) = rises a b e
  path_rises (step {a} {b} {c} e p) = let first = rises a b e in let rest = path_rises p in omega arith

  pub rising_acyclic : IsAcyclic E
  rising_acyclic a around = let less = path_rises around in absurd (omega arith)

module _ (pairs : List (ℕ × ℕ)) (places : List ℕ) where
  abbrev pub place_at : ℕ → ℕ
  place_at x = get_or places x 0

  -- the first pairs agree
  abbrev pub RiseBelow : ℕ → Type 0
  RiseBelow n = (k : ℕ) → k < n → place_at (get_or pairs k (0, 0)).0 < place_at (get_or pairs k (0, 0)).1

  pub rise_next : (n : ℕ) → RiseBelow n → place_at (get_or pairs n (0, 0)).0 < place_at (get_or pairs n (0, 0)).1 → RiseBelow (n + 1)
  rise_next n before last k lt = elim (cases_lt k n) [
    | inl low ↦ before k low
    | inr high ↦ let same : k ≡ n = omega arith in subst (λ j. place_at (get_or pairs j (0, 0)).0 < place_at (get_or pairs j (0, 0)).1) (sym same) last
  ]

  pub all_rise : (n : ℕ) → length pairs ≤ n → RiseBelow n → IsAcyclic (Before pairs)
  all_rise n all rise = rising_acyclic (Before pairs) place_at (λ a b c.
      let read : (a, b) ≡ get_or pairs c.0 (0, 0) = get_or_read pairs c.0 (a, b) c.1 (sym c.2) (0, 0) in
      let low : c.0 < n = let lt = c.1 in omega arith in
      subst (λ (p : ℕ × ℕ). place_at p.0 < place_at p.1) (sym read) (rise c.0 low))

pub cycle_for : (steps : ℕ) (E F : ℕ → ℕ → Type 0) → ((a b : ℕ) → E a b ↔ F a b) → (r : Option Reason) → IsCycleOrNone steps E r → IsCycleOrNone steps F r
cycle_for steps E F exact None acyclic = λ a around. acyclic a (path_alike F E (λ x y. (exact x y).1) a a around)
cycle_for steps E F exact (Some (Cycle found)) cycle = walk_alike steps E F (λ x y. (exact x y).0) (λ x y. (exact x y).1) found cycle
cycle_for steps E F exact (Some (Kept y x)) none = absurd none
cycle_for steps E F exact (Some (NotOverwritten y v)) none = absurd none
