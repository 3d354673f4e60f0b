-- Steps of which pairs have no cycle have a least order.
use Rattle.std.proofs.Common.{◌≡◌, ℕ, zero, suc, ◌+◌, ◌<◌, ◌≤◌, List, [], ◌∷◌, ◌++◌, length, Contains, inl, inr, arith}
use Rattle.std.proofs.lemmas.Bool.{cases_lt}
use Rattle.std.proofs.lemmas.List.{length_push}
use Rattle.translation_order.specs.Graph.{IsAcyclic}
use Rattle.translation_order.specs.Least.{IsLeast}
use Rattle.translation_order.specs.Order.{MayFollow, TakesLeast, IsLeastOrder}
use Rattle.tsl_value.proofs.Lists.{member_cases}
use Rattle.translation_order.proofs.Orders.{room_for, takes_push}
use Rattle.translation_order.proofs.Descent.{ascend}

no_split : (front rest : List ℕ) (x : ℕ) → [] ≡ front ++ x ∷ rest → ⊥
no_split [] rest x is = absurd (cc)
no_split (y ∷ front) rest x is = absurd (cc)

-- where no number is the least with a property, none has it
none_least : (P : ℕ → Type 0) → ((y : ℕ) → IsLeast P y → ⊥) → (n x : ℕ) → x < n → P x → ⊥
none_least P none zero x lt p = omega arith
none_least P none (suc n) x lt p = none x (record {
  holds = p;
  least = λ y q. elim (cases_lt y x) [ inl less ↦ absurd (none_least P none n y (omega arith) q) | inr more ↦ more ];
})

module _ (bound : ℕ) (E : ℕ → ℕ → Type 0) (acyclic : IsAcyclic E) (low : (a b : ℕ) → E a b → a < bound) where
  -- where no step may follow, all are listed
  all_there : (xs : List ℕ) → ((x : ℕ) → MayFollow bound E xs x → ⊥) → (x : ℕ) → x < bound → Contains xs x
  all_there xs none x lt = ascend bound E acyclic low (λ n. n < bound → Contains xs n) (λ n before high. elim (member_cases xs n) [
    | inl there ↦ there
    | inr absent ↦ absurd (none n (record { is_step = high; is_new = absent; is_free = λ a e. before a e (low a n e) }))
  ]) x lt lt

  from_front : (room : ℕ) (xs : List ℕ) → bound ≤ length xs + room → TakesLeast bound E xs → ((order : List ℕ) → IsLeastOrder bound E order → ⊥) → ⊥
  from_front zero xs long takes none =
      let full : (x : ℕ) → MayFollow bound E xs x → ⊥ = λ x may. let few = room_for bound E xs x takes may in absurd (omega arith) in
      none xs (record { takes_least = takes; all = all_there xs full })
  from_front (suc room) xs long takes none =
      let longer : (y : ℕ) → IsLeast (MayFollow bound E xs) y → ⊥ = λ y least.
      let more = length_push xs y in
      from_front room (xs ++ y ∷ []) (omega arith) (takes_push bound E xs y takes least) none in
      none xs (record { takes_least = takes; all = all_there xs (λ x may. none_least (MayFollow bound E xs) longer (suc x) x (omega arith) may) })

  pub some_order : ((order : List ℕ) → IsLeastOrder bound E order → ⊥) → ⊥
  some_order none = from_front bound [] (omega arith) (λ front rest x is. absurd (no_split front rest x is)) none
