-- Lists in which each next step is the least that may stand there.
use Rattle.std.proofs.Common.{◌≡◌, ℕ, zero, suc, ◌+◌, ◌<◌, ◌≤◌, List, [], ◌∷◌, ◌++◌, length, eqb, Contains, refl, sym, ap, subst, ◌∙◌, inl, inr, append_assoc, append-nil, length-append, ◌⊎◌, arith}
use Rattle.std.proofs.lemmas.List.{length_push}
use Rattle.std.proofs.lemmas.List.Elements.{Contains-push_cases}
use Rattle.std.specs.List.{IsDistinct}
use Rattle.translation_order.specs.Graph.{Path, edge, step, IsAcyclic}
use Rattle.translation_order.specs.Least.{IsLeast}
use Rattle.translation_order.specs.Order.{MayFollow, TakesLeast, IsLeastOrder}
use Rattle.translation_order.specs.Cycle.{CanBeTaken, taken}
use Rattle.tsl_value.proofs.Lists.{none_in_nil}
use Rattle.translation_order.proofs.Lists.{split_at, split_push, once_from_splits, once_push, few_below}
use Rattle.translation_order.proofs.Circles.{least_same}

module _ (steps : ℕ) (E : ℕ → ℕ → Type 0) where
  agree : (front xs ys : List ℕ) → IsLeastOrder steps E (front ++ xs) → IsLeastOrder steps E (front ++ ys) → xs ≡ ys
  agree front [] [] u v = refl
  agree front [] (y ∷ ys) u v =
      let y_follows = (v.takes_least front ys y refl).holds in
      absurd (y_follows.is_new (subst (λ l. Contains l y) (append-nil front) (u.all y y_follows.is_step)))
  agree front (x ∷ xs) [] u v =
      let x_follows = (u.takes_least front xs x refl).holds in
      absurd (x_follows.is_new (subst (λ l. Contains l x) (append-nil front) (v.all x x_follows.is_step)))
  agree front (x ∷ xs) (y ∷ ys) u v =
      let same = least_same (MayFollow steps E front) x y (u.takes_least front xs x refl) (v.takes_least front ys y refl) in
      let u_on : IsLeastOrder steps E ((front ++ x ∷ []) ++ xs) = subst (IsLeastOrder steps E) (sym (append_assoc front (x ∷ []) xs)) u in
      let v_here : IsLeastOrder steps E (front ++ x ∷ ys) = subst (λ m. IsLeastOrder steps E (front ++ m ∷ ys)) (sym same) v in
      let v_on : IsLeastOrder steps E ((front ++ x ∷ []) ++ ys) = subst (IsLeastOrder steps E) (sym (append_assoc front (x ∷ []) ys)) v_here in
      ap (λ l. x ∷ l) (agree (front ++ x ∷ []) xs ys u_on v_on) ∙ ap (λ m. m ∷ ys) same

  -- at most one list is the order
  pub one_order : (xs ys : List ℕ) → IsLeastOrder steps E xs → IsLeastOrder steps E ys → xs ≡ ys
  one_order xs ys u v = agree [] xs ys u v

  -- one step more
  pub takes_push : (xs : List ℕ) (x : ℕ) → TakesLeast steps E xs → IsLeast (MayFollow steps E xs) x → TakesLeast steps E (xs ++ x ∷ [])
  takes_push xs x takes least front rest y e = elim (split_push xs front rest x y e) [
    | inl (same, at) ↦ subst (λ l. IsLeast (MayFollow steps E l) y) same (subst (λ m. IsLeast (MayFollow steps E xs) m) at least)
    | inr (r, is) ↦ takes front r y is
  ]

  pub taken_once : (xs : List ℕ) → TakesLeast steps E xs → IsDistinct eqb xs
  taken_once xs takes = once_from_splits xs (λ front rest x is. (takes front rest x is).holds.is_new)

  pub taken_below : (xs : List ℕ) → TakesLeast steps E xs → (x : ℕ) → Contains xs x → x < steps
  taken_below xs takes x c = let parts = split_at xs x c in (takes parts.0 parts.1 x parts.2).holds.is_step

  -- there is room for a step that may follow
  pub room_for : (xs : List ℕ) (x : ℕ) → TakesLeast steps E xs → MayFollow steps E xs x → length xs < steps
  room_for xs x takes may =
      let few = few_below (xs ++ x ∷ []) steps (once_push xs x (taken_once xs takes) may.is_new) (λ y c. elim (Contains-push_cases xs x y c) [
        | inl old ↦ taken_below xs takes y old
        | inr same ↦ subst (λ m. m < steps) same may.is_step
      ]) in
      let long = length_push xs x in
      omega arith

  taken_front : (front rest : List ℕ) → TakesLeast steps E (front ++ rest) → TakesLeast steps E front
  taken_front front rest takes f r x is = takes f (r ++ rest) x (ap (λ l. l ++ rest) is ∙ append_assoc f (x ∷ r) rest)

  -- what is listed can be taken away: by the length of the list before it
  can : (n : ℕ) (xs : List ℕ) → length xs ≤ n → TakesLeast steps E xs → (x : ℕ) → Contains xs x → CanBeTaken E x
  can zero [] few takes x c = absurd (none_in_nil x c)
  can zero (y ∷ ys) few takes x c = absurd (omega arith)
  can (suc n) xs few takes x c =
      let parts = split_at xs x c in
      let front = parts.0 in
      let long : length xs ≡ length front + length (x ∷ parts.1) = ap length parts.2 ∙ length-append front (x ∷ parts.1) in
      let one : length (x ∷ parts.1) ≡ suc (length parts.1) = refl in
      let all : TakesLeast steps E (front ++ x ∷ parts.1) = subst (TakesLeast steps E) parts.2 takes in
      taken (λ a before. can n front (omega arith) (taken_front front (x ∷ parts.1) all) a ((takes front parts.1 x parts.2).holds.is_free a before))

  pub can_be_taken : (xs : List ℕ) → TakesLeast steps E xs → (x : ℕ) → Contains xs x → CanBeTaken E x
  can_be_taken xs takes x c = can (length xs) xs (omega arith) takes x c

-- nothing that can be taken away is on a cycle
path_back : (E : ℕ → ℕ → Type 0) (a b c : ℕ) → Path E a b → E b c → Path E a c
path_back E a b c (edge e) f = step e (edge f)
path_back E a b c (step e p) f = step e (path_back E _ b c p f)

last_step : (E : ℕ → ℕ → Type 0) (a b : ℕ) → Path E a b → (z : ℕ) × E z b × (Path E a z ⊎ (a ≡ z))
last_step E a b (edge e) = (a, e, inr refl)
last_step E a b (step {b = m} e p) =
    let (z, f, from) = last_step E m b p in
    elim from [
      | inl q ↦ (z, f, inl (step e q))
      | inr same ↦ (z, f, inl (edge (subst (E a) same e)))
    ]

no_cycle_at : (E : ℕ → ℕ → Type 0) (x : ℕ) → CanBeTaken E x → Path E x x → ⊥
no_cycle_at E x (taken before) p =
    let end = last_step E x x p in
    let z = end.0 in
    elim end.2 [
      | inl q ↦ no_cycle_at E z (before z end.1) (step end.1 q)
      | inr same ↦ no_cycle_at E z (before z end.1) (subst (λ m. Path E m m) same p)
    ]

first_below : (steps : ℕ) (E : ℕ → ℕ → Type 0) → ((a b : ℕ) → E a b → a < steps) → (a b : ℕ) → Path E a b → a < steps
first_below steps E low a b (edge e) = low a b e
first_below steps E low a b (step e p) = low a _ e

-- steps with an order have no cycle
pub ordered_acyclic : (steps : ℕ) (E : ℕ → ℕ → Type 0) → ((a b : ℕ) → E a b → a < steps) → (order : List ℕ) → IsLeastOrder steps E order → IsAcyclic E
ordered_acyclic steps E low order o a p =
    no_cycle_at E a (can_be_taken steps E order o.takes_least a (o.all a (first_below steps E low a a p))) p
