-- Walks along a relation, and circles.
use Rattle.std.proofs.Common.{◌≡◌, ℕ, List, [], ◌∷◌, ◌++◌, reverse, Contains, eqb, refl, sym, ap, subst, ◌∙◌, inl, inr, append_assoc, arith}
use Rattle.std.proofs.lemmas.Bool.{cases_eq, eq-eqb, ne_eqb}
use Rattle.std.proofs.lemmas.Grind.{reverse_onto}
use Rattle.std.proofs.lemmas.Map.Keys.{IsDistinct-IsPermutation}
use Rattle.std.proofs.lemmas.List.Sorted.{IsPermutation-reverse, IsPermutation-append_comm}
use Rattle.std.proofs.lemmas.List.Elements.{Contains-append_left, Contains-append_right, Contains-append_cases}
use Rattle.std.specs.List.{IsDistinct}
use Rattle.translation_order.specs.Least.{IsLeast}
use Rattle.translation_order.specs.Cycle.{Through, IsTurned}
use Rattle.tsl_value.proofs.Lists.{here, later, cons_cases, middle}
use Rattle.translation_order.proofs.Lists.{same_split}

-- E holds from a to the first of xs, and from each to the next
abbrev pub Along : (ℕ → ℕ → Type 0) → ℕ → List ℕ → Type 0
Along E a [] = Unit {0}
Along E a (x ∷ xs) = E a x × Along E x xs

abbrev pub last_of : ℕ → List ℕ → ℕ
last_of a [] = a
last_of a (x ∷ xs) = last_of x xs

last_after : (a : ℕ) (p : List ℕ) (x : ℕ) (q : List ℕ) → last_of a (p ++ x ∷ q) ≡ last_of x q
last_after a [] x q = refl
last_after a (y ∷ p) x q = last_after y p x q

along_join : (E : ℕ → ℕ → Type 0) (a : ℕ) (p q : List ℕ) → Along E a p → Along E (last_of a p) q → Along E a (p ++ q)
along_join E a [] q h g = g
along_join E a (x ∷ p) q h g = (h.0, along_join E x p q h.1 g)

along_split : (E : ℕ → ℕ → Type 0) (a : ℕ) (p : List ℕ) (x : ℕ) (q : List ℕ) → Along E a (p ++ x ∷ q) → Along E a (p ++ x ∷ []) × Along E x q
along_split E a [] x q h = ((h.0, tt), h.1)
along_split E a (y ∷ p) x q h = let rest = along_split E y p x q h.1 in ((h.0, rest.0), rest.1)

along_through : (E : ℕ → ℕ → Type 0) (a : ℕ) (xs : List ℕ) (b : ℕ) → Through E a xs b → Along E a (xs ++ b ∷ [])
along_through E a [] b h = (h, tt)
along_through E a (x ∷ xs) b h = (h.0, along_through E x xs b h.1)

through_along : (E : ℕ → ℕ → Type 0) (a : ℕ) (xs : List ℕ) (b : ℕ) → Along E a (xs ++ b ∷ []) → Through E a xs b
through_along E a [] b h = h.0
through_along E a (x ∷ xs) b h = (h.0, through_along E x xs b h.1)

pub through_weaker : (E F : ℕ → ℕ → Type 0) → ((a b : ℕ) → E a b → F a b) → (a : ℕ) (xs : List ℕ) (b : ℕ) → Through E a xs b → Through F a xs b
through_weaker E F more a [] b h = more a b h
through_weaker E F more a (x ∷ xs) b h = (more a x h.0, through_weaker E F more x xs b h.1)

pub through_join : (E : ℕ → ℕ → Type 0) (a : ℕ) (xs : List ℕ) (b : ℕ) (ys : List ℕ) (c : ℕ) → Through E a xs b → Through E b ys c → Through E a (xs ++ b ∷ ys) c
through_join E a [] b ys c h g = (h, g)
through_join E a (x ∷ xs) b ys c h g = (h.0, through_join E x xs b ys c h.1 g)

pub through_after : (E : ℕ → ℕ → Type 0) (a : ℕ) (xs : List ℕ) (b : ℕ) (ys : List ℕ) (c : ℕ) → Through E a (xs ++ b ∷ ys) c → Through E b ys c
through_after E a [] b ys c h = h.1
through_after E a (x ∷ xs) b ys c h = through_after E x xs b ys c h.1

-- the other way around
pub through_back : (E : ℕ → ℕ → Type 0) (a : ℕ) (xs : List ℕ) (b : ℕ) → Through (λ u v. E v u) a xs b → Through E b (reverse xs) a
through_back E a [] b h = h
through_back E a (x ∷ xs) b h = subst (λ l. Through E b l a) (sym (reverse_onto xs x [])) (through_join E b (reverse xs) x [] a (through_back E x xs b h.1) h.0)

-- the end of a walk that came to a step again goes around from it
pub closes : (E : ℕ → ℕ → Type 0) (first : ℕ) (rest : List ℕ) (again : ℕ) (front back : List ℕ) → first ∷ rest ≡ front ++ again ∷ back → Through E first rest again → Through E again back again
closes E first rest again [] back is h =
    let start : first ≡ again = cc in
    let tail : rest ≡ back = cc in
    subst (λ l. Through E again l again) tail (subst (λ a. Through E a rest again) start h)
closes E first rest again (f ∷ front) back is h =
    let tail : rest ≡ front ++ again ∷ back = cc in
    through_after E first front again back again (subst (λ l. Through E first l again) tail h)

-- a circle from another of its members on
circle : (E : ℕ → ℕ → Type 0) (again : ℕ) (xs before : List ℕ) (least : ℕ) (after : List ℕ) → xs ++ again ∷ [] ≡ before ++ least ∷ after → Through E again xs again → Through E least (after ++ before) least
circle E again xs before least after is h =
    let all : Along E again (before ++ least ∷ after) = subst (Along E again) is (along_through E again xs again h) in
    let ends : last_of least after ≡ again = sym (last_after again before least after) ∙ ap (last_of again) (sym is) ∙ last_after again xs again [] in
    let parts = along_split E again before least after all in
    let joined : Along E least (after ++ (before ++ least ∷ [])) = along_join E least after (before ++ least ∷ []) parts.1 (subst (λ a. Along E a (before ++ least ∷ [])) (sym ends) parts.0) in
    through_along E least (after ++ before) least (subst (Along E least) (sym (append_assoc after before (least ∷ []))) joined)

-- what a circle read backwards is
pub turned_around : (E : ℕ → ℕ → Type 0) (again : ℕ) (back cycle : List ℕ) (t : IsTurned (again ∷ back) cycle) → Through (λ u v. E v u) again back again → Through E t.least (t.after ++ t.before) t.least
turned_around E again back cycle t h =
    circle E again (reverse back) t.before t.least t.after (sym (reverse_onto back again []) ∙ t.backward) (through_back E again back again h)

-- ---- members
pub in_turned : (steps turned : List ℕ) (t : IsTurned steps turned) (x : ℕ) → Contains (reverse steps) x → Contains turned x
in_turned steps turned t x c =
    let in_parts : Contains (t.before ++ t.least ∷ t.after) x = subst (λ v. Contains v x) t.backward c in
    subst (λ v. Contains v x) (sym t.is) (elim (Contains-append_cases t.before (t.least ∷ t.after) x in_parts) [
      | inl first ↦ later t.least x (t.after ++ t.before) (Contains-append_right t.after t.before x first)
      | inr rest ↦ elim (cons_cases t.least x t.after rest) [
        | inl same ↦ subst (Contains (t.least ∷ (t.after ++ t.before))) same (here t.least (t.after ++ t.before))
        | inr more ↦ later t.least x (t.after ++ t.before) (Contains-append_left t.after t.before x more)
      ]
    ])

pub from_turned : (steps turned : List ℕ) (t : IsTurned steps turned) (x : ℕ) → Contains turned x → Contains (reverse steps) x
from_turned steps turned t x c =
    let in_parts : Contains (t.least ∷ (t.after ++ t.before)) x = subst (λ v. Contains v x) t.is c in
    subst (λ v. Contains v x) (sym t.backward) (elim (cons_cases t.least x (t.after ++ t.before) in_parts) [
      | inl same ↦ subst (Contains (t.before ++ t.least ∷ t.after)) same (middle t.before t.after t.least)
      | inr rest ↦ elim (Contains-append_cases t.after t.before x rest) [
        | inl first ↦ Contains-append_right t.before (t.least ∷ t.after) x (later t.least x t.after first)
        | inr more ↦ Contains-append_left t.before (t.least ∷ t.after) x more
      ]
    ])

flips : (x y : ℕ) → eqb x y ≡ eqb y x
flips x y = elim (cases_eq x y) [
  | inl same ↦ eq-eqb x y same ∙ sym (eq-eqb y x (sym same))
  | inr apart ↦ ne_eqb x y apart ∙ sym (ne_eqb y x (λ e. apart (sym e)))
]

pub once_reversed : (xs : List ℕ) → IsDistinct eqb xs → IsDistinct eqb (reverse xs)
once_reversed xs once = IsDistinct-IsPermutation eqb flips xs (reverse xs) (IsPermutation-reverse xs) once

pub once_turned : (steps turned : List ℕ) → IsTurned steps turned → IsDistinct eqb steps → IsDistinct eqb turned
once_turned steps turned t once =
    let parts : IsDistinct eqb (t.before ++ t.least ∷ t.after) = subst (IsDistinct eqb) t.backward (once_reversed steps once) in
    subst (IsDistinct eqb) (sym t.is) (IsDistinct-IsPermutation eqb flips (t.before ++ t.least ∷ t.after) (t.least ∷ (t.after ++ t.before)) (IsPermutation-append_comm t.before (t.least ∷ t.after)) parts)

pub least_same : (P : ℕ → Type 0) (x y : ℕ) → IsLeast P x → IsLeast P y → x ≡ y
least_same P x y u v = let low = u.least y v.holds in let high = v.least x u.holds in omega arith

-- one list alone is the circle from its least step on
pub turned_same : (steps xs ys : List ℕ) → IsDistinct eqb steps → IsTurned steps xs → IsTurned steps ys → xs ≡ ys
turned_same steps xs ys once t u =
    let low = t.least_first.least u.least (in_turned steps xs t u.least (from_turned steps ys u u.least u.least_first.holds)) in
    let high = u.least_first.least t.least (in_turned steps ys u t.least (from_turned steps xs t t.least t.least_first.holds)) in
    let same : t.least ≡ u.least = omega arith in
    let parts : IsDistinct eqb (t.before ++ t.least ∷ t.after) = subst (IsDistinct eqb) t.backward (once_reversed steps once) in
    let both : t.before ++ t.least ∷ t.after ≡ u.before ++ t.least ∷ u.after = sym t.backward ∙ u.backward ∙ ap (λ m. u.before ++ m ∷ u.after) (sym same) in
    let split = same_split t.before t.after u.before u.after t.least parts both in
    t.is ∙ ap (λ m. m ∷ (t.after ++ t.before)) same ∙ ap (λ v. u.least ∷ (v ++ t.before)) split.1 ∙ ap (λ v. u.least ∷ (u.after ++ v)) split.0 ∙ sym u.is
