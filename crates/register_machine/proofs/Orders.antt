-- An order of the steps, as it is followed: each step may come when its turn is.
use Rattle.std.proofs.Common.{◌≡◌, ℕ, zero, suc, ◌+◌, ◌-◌, ◌<◌, List, [], ◌∷◌, ◌++◌, length, map, Some, refl, sym, ap, subst, ◌∙◌, inl, inr, ◌⊎◌, Contains, append_assoc, eqb, arith, slice_get}
use Rattle.std.specs.Prelude.{IsTrue}
use Rattle.std.specs.List.{IsDistinct, enumerate_from}
use Rattle.std.proofs.lemmas.Bool.{and_parts, and_from, leb-true, le-leb, lt-ltb, ltb-true, or_cases, or_left, or_right}
use Rattle.std.proofs.lemmas.List.Elements.{Contains-append_left, Contains-append_right, Contains-append_cases}
use Rattle.std.proofs.lemmas.Option.{slice_get_within}
use Rattle.flat_core.specs.declared.equation.Output.{Output}
use Rattle.flat_core.specs.System.{System, runs}
use Rattle.flat_core.proofs.Members.{in-Contains, Contains-in}
use Rattle.tsl_value.proofs.Lists.{later, none_in_nil, cons_cases, contains_at}
use Rattle.translation_order.proofs.Lists.{split_at, once_split, same_split}
use Rattle.alias_rules.specs.Steps.{is_print, is_step, print_step, Precedes, IsOrderBy}
use Rattle.register_machine.proofs.Cells.{without, without-there, without-other, without-keeps}

-- a remaining step that may come next: no remaining one has to stand before it
pub record IsFree (E : ℕ → ℕ → Type 0) (rest : List ℕ) (x : ℕ) : Type 0 where
  pub remains : Contains rest x
  pub first : (y : ℕ) → Contains rest y → E y x → ⊥

-- all remaining steps, each where it may come
abbrev pub Agrees : (ℕ → ℕ → Type 0) → List ℕ → List ℕ → Type 0
Agrees E rest [] = rest ≡ []
Agrees E rest (x ∷ order) = IsFree E rest x × Agrees E (without x rest) order

-- what stands before a place is in the part before it
before_place : (xs : List ℕ) (i j w n : ℕ) → slice_get xs i ≡ Some w → slice_get xs j ≡ Some n → i < j → (p : List ℕ) × (q : List ℕ) × (xs ≡ p ++ n ∷ q) × Contains p w
before_place [] i j w n is_w is_n lt = absurd (cc)
before_place (x ∷ xs) i zero w n is_w is_n lt = absurd (omega arith)
before_place (x ∷ xs) zero (suc j) w n is_w is_n lt =
    let parts = split_at xs n (contains_at xs j n is_n) in
    let first : x ≡ w = cc in
    (x ∷ parts.0, parts.1, ap (λ l. x ∷ l) parts.2, (0, omega arith, first))
before_place (x ∷ xs) (suc i) (suc j) w n is_w is_n lt =
    let parts = before_place xs i j w n is_w is_n (omega arith) in
    (x ∷ parts.0, parts.1, ap (λ l. x ∷ l) parts.2, later x w parts.0 parts.3)

module _ (E : ℕ → ℕ → Type 0) (order : List ℕ) (once : IsDistinct eqb order) (agrees : (a b : ℕ) → E a b → Precedes order a b) where
  no_later : (front more : List ℕ) (n w : ℕ) → order ≡ front ++ n ∷ more → Contains (n ∷ more) w → E w n → ⊥
  no_later front more n w is found e =
      let p = agrees w n e in
      let parts = before_place order p.first p.second w n p.first_is p.second_is p.is_before in
      let split = same_split parts.0 parts.1 front more n (subst (IsDistinct eqb) parts.2 once) (sym parts.2 ∙ is) in
      let in_front : Contains front w = subst (λ l. Contains l w) split.0 parts.3 in
      let cut = split_at front w in_front in
      let whole : order ≡ cut.0 ++ w ∷ (cut.1 ++ n ∷ more) = is ∙ ap (λ l. l ++ n ∷ more) cut.2 ∙ append_assoc cut.0 (w ∷ cut.1) (n ∷ more) in
      (once_split cut.0 (cut.1 ++ n ∷ more) w (subst (IsDistinct eqb) whole once)).1 (Contains-append_right cut.1 (n ∷ more) w found)

  followed_from : (front more : List ℕ) → order ≡ front ++ more → (rest : List ℕ) → ((x : ℕ) → Contains rest x → Contains more x) → ((x : ℕ) → Contains more x → Contains rest x) → Agrees E rest more
  followed_from front [] is [] to from = refl
  followed_from front [] is (x ∷ rest) to from = absurd (none_in_nil x (to x (0, omega arith, refl)))
  followed_from front (n ∷ more) is rest to from = (
    record { remains = from n (0, omega arith, refl); first = λ y found e. no_later front more n y is (to y found) e },
    followed_from (front ++ n ∷ []) more (is ∙ sym (append_assoc front (n ∷ []) more)) (without n rest)
        (λ x found. elim (cons_cases n x more (to x (without-there n rest x found))) [
          | inl same ↦ absurd (without-other n rest x found (sym same))
          | inr after ↦ after
        ])
        (λ x found. without-keeps n rest x (from x (later n x more found)) (λ same. (once_split front more n (subst (IsDistinct eqb) is once)).1 (subst (Contains more) same found))),
  )

-- the steps of an instant: the running equations and the prints
abbrev pub steps_of : System → List ℕ
steps_of s = s.running ++ map (λ o. o.0) (enumerate_from (length s.equations) s.outputs)

numbered : (k : ℕ) (outputs : List Output) (n : ℕ) → Contains (map (λ o. o.0) (enumerate_from k outputs)) n → (j : ℕ) × (o : Output) × (slice_get outputs j ≡ Some o) × (n ≡ k + j)
numbered k [] n found = absurd (none_in_nil n found)
numbered k (o ∷ outputs) n found = elim (cons_cases k n (map (λ p. p.0) (enumerate_from (k + 1) outputs)) found) [
  | inl same ↦ (0, o, refl, omega arith)
  | inr after ↦ let rest = numbered (k + 1) outputs n after in (suc rest.0, rest.1, rest.2, omega (arith, rest.3))
]

number_in : (k : ℕ) (outputs : List Output) (n j : ℕ) → j < length outputs → n ≡ k + j → Contains (map (λ o. o.0) (enumerate_from k outputs)) n
number_in k [] n j lt is = absurd (omega arith)
number_in k (o ∷ outputs) n zero lt is = (0, omega arith, omega arith)
number_in k (o ∷ outputs) n (suc j) lt is = later k n (map (λ p. p.0) (enumerate_from (k + 1) outputs)) (number_in (k + 1) outputs n j (omega arith) (omega arith))

pub steps_cases : (s : System) (n : ℕ) → Contains (steps_of s) n → IsTrue (runs s n) ⊎ ((j : ℕ) × (o : Output) × (slice_get s.outputs j ≡ Some o) × (n ≡ print_step s j))
steps_cases s n found = elim (Contains-append_cases s.running (map (λ o. o.0) (enumerate_from (length s.equations) s.outputs)) n found) [
  | inl running ↦ inl (in-Contains s.running n running)
  | inr print ↦ inr (numbered (length s.equations) s.outputs n print)
]

pub all_steps : (s : System) (x : ℕ) → IsTrue (runs s x) → Contains (steps_of s) x
all_steps s x run = Contains-append_left s.running _ x (Contains-in s.running x run)

step_is : (s : System) (x : ℕ) → Contains (steps_of s) x → IsTrue (is_step s x)
step_is s x found = elim (steps_cases s x found) [
  | inl run ↦ or_left (runs s x) (is_print s x) run
  | inr print ↦
      let low = slice_get_within s.outputs print.0 print.1 print.2 in
      or_right (runs s x) (is_print s x) (and_from _ _ (le-leb (length s.equations) x (omega (arith, print.3))) (lt-ltb x (length s.equations + length s.outputs) (omega (arith, print.3))))
]

is_step_there : (s : System) (x : ℕ) → IsTrue (is_step s x) → Contains (steps_of s) x
is_step_there s x is = elim (or_cases (runs s x) (is_print s x) is) [
  | inl run ↦ all_steps s x run
  | inr print ↦
      let parts = and_parts _ _ print in
      let low = leb-true (length s.equations) x parts.0 in
      let high = ltb-true x (length s.equations + length s.outputs) parts.1 in
      Contains-append_right s.running _ x (number_in (length s.equations) s.outputs x (x - length s.equations) (omega arith) (omega arith))
]

-- an order by which the first of each pair stands before its second is followed from its first step on
pub followed : (s : System) (E : ℕ → ℕ → Type 0) (order : List ℕ) → IsOrderBy s E order → Agrees E (steps_of s) order
followed s E order ordered = followed_from E order ordered.once ordered.agrees [] order refl (steps_of s)
    (λ x found. (ordered.steps x).1 (step_is s x found))
    (λ x found. is_step_there s x ((ordered.steps x).0 found))
