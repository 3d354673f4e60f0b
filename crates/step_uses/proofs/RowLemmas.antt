-- Rows as numbers are added.
use Rattle.std.proofs.Common.{◌≡◌, ◌==◌, ◌≢◌, ℕ, ◌+◌, ◌^◌, ◌<◌, ◌≤◌, Bool, true, false, ◌||◌, ◌&&◌, eqb, ltb, List, [], ◌∷◌, ◌++◌, map, length, take, get_or, set, replicate, refl, sym, ap, ◌∙◌, inl, inr, arith, Fits, w32}
use Rattle.std.proofs.lemmas.Bool.{cases_eq, cases_lt, cases_order, eq-eqb, eqb-true, false≢true, le-ltb, lt-ltb, ne_eqb, or_cases, or_left, or_right}
use Rattle.std.specs.Prelude.{IsTrue}
use Rattle.std.proofs.lemmas.List.{get_or-map, get_or-replicate, get_or_default, get_or-set_other, get_or-set_same, get_or_past, length-replicate, map-set}
use Rattle.std.proofs.lemmas.List.Folds.{list_any-append, list_any_more}
use Rattle.std.specs.List.{IsDistinct}
use Rattle.translation_order.proofs.Lists.{few_below}
use Rattle.flat_core.specs.Members.{is_in}
use Rattle.step_uses.specs.Uses.{row}

off : (b : Bool) → (b || false) ≡ b
off true = refl
off false = refl

and_true : (b : Bool) → (b && true) ≡ b
and_true true = refl
and_true false = refl

and_false : (b : Bool) → (b && false) ≡ false
and_false true = refl
and_false false = refl

-- a number is appended to the list in one place
pub added_is : {V : Type 0} (rows : List V) (f : V → List ℕ) (place number : ℕ) (old new : V) → place < length rows → old ≡ get_or rows place old → f new ≡ f old ++ number ∷ [] → map f (set rows place new) ≡ set (map f rows) place (row (map f rows) place ++ number ∷ [])
added_is rows f place number old new there read more =
    map-set f rows place new
    ∙ ap (set (map f rows) place) (more ∙ ap (λ front. front ++ number ∷ []) (ap f read ∙ sym (get_or-map f rows place old [] there)))

pub empty_row : (count a : ℕ) → row (replicate count []) a ≡ []
empty_row count a = elim (cases_lt a count) [
  | inl below ↦ get_or-replicate count a [] [] below
  | inr above ↦
      let past : length (replicate {A = List ℕ} count []) ≤ a = omega (arith, length-replicate {A = List ℕ} count []) in
      get_or_past (replicate count []) a [] past
]

-- which numbers are in the lists, after one more in one of them
pub in_added : (rows : List (List ℕ)) (place number a p : ℕ) → a < length rows → is_in (row (set rows place (row rows place ++ number ∷ [])) a) p ≡ (is_in (row rows a) p || (eqb place a && eqb number p))
in_added rows place number a p there = elim (cases_eq place a) [
  | inl same ↦
      let within : place < length rows = omega arith in
      ap (λ xs. is_in xs p) (ap (row (set rows place (row rows place ++ number ∷ []))) (sym same) ∙ get_or-set_same rows place (row rows place ++ number ∷ []) [] within)
      ∙ list_any-append (λ j. eqb j p) (row rows place) (number ∷ [])
      ∙ (λ k. is_in (row rows (same k)) p || off (eqb number p) k)
      ∙ (λ k. is_in (row rows a) p || (sym (eq-eqb place a same) k && eqb number p))
  | inr else ↦
      let ne : a ≢ place = λ e. else (sym e) in
      ap (λ xs. is_in xs p) (get_or-set_other rows place a (row rows place ++ number ∷ []) [] ne)
      ∙ sym (off (is_in (row rows a) p))
      ∙ (λ k. is_in (row rows a) p || (sym (ne_eqb place a else) k && eqb number p))
]

-- one more step of an order
pub place_more : (f : ℕ → Bool) (i p : ℕ) → ((ltb p i && f p) || (f i && eqb i p)) ≡ (ltb p (i + 1) && f p)
place_more f i p = elim (cases_order p i) [
  | inl same ↦
      ap (λ k. (ltb k i && f k) || (f i && eqb i k)) same
      ∙ (λ k. (le-ltb i i (omega arith) k && f i) || (f i && eq-eqb i i refl k))
      ∙ and_true (f i)
      ∙ (λ k. sym (lt-ltb i (i + 1) (omega arith)) k && f i)
      ∙ ap (λ k. ltb k (i + 1) && f k) (sym same)
  | inr (inl less) ↦
      let ne : i ≢ p = omega arith in
      (λ k. (lt-ltb p i less k && f p) || (f i && ne_eqb i p ne k))
      ∙ ap (λ b. f p || b) (and_false (f i)) ∙ off (f p)
      ∙ (λ k. sym (lt-ltb p (i + 1) (omega arith)) k && f p)
  | inr (inr more) ↦
      let ne : i ≢ p = omega arith in
      (λ k. (le-ltb p i (omega arith) k && f p) || (f i && ne_eqb i p ne k))
      ∙ and_false (f i)
      ∙ (λ k. sym (le-ltb p (i + 1) (omega arith)) k && f p)
]

same_delay : (x p q : Bool) → (((x && (p || q)) || (p && true)) || (q && true)) ≡ ((x || true) && (p || q))
same_delay true true q = refl
same_delay true false true = refl
same_delay true false false = refl
same_delay false true q = refl
same_delay false false true = refl
same_delay false false false = refl

other_delay : (x r p q : Bool) → (((x && r) || (p && false)) || (q && false)) ≡ ((x || false) && r)
other_delay x r p q = (λ k. ((x && r) || and_false p k) || and_false q k) ∙ off ((x && r) || false) ∙ off (x && r) ∙ ap (λ b. b && r) (sym (off x))

-- one more delay, with its arguments
pub delay_more : (x : Bool) (args : ℕ → List ℕ) (delay d a : ℕ) → (((x && (eqb d a || is_in (args d) a)) || (eqb delay a && eqb delay d)) || (is_in (args delay) a && eqb delay d)) ≡ ((x || eqb delay d) && (eqb d a || is_in (args d) a))
delay_more x args delay d a = elim (cases_eq delay d) [
  | inl same ↦
      ap (λ j. ((x && (eqb d a || is_in (args d) a)) || (eqb j a && eqb j d)) || (is_in (args j) a && eqb j d)) same
      ∙ (λ k. ((x && (eqb d a || is_in (args d) a)) || (eqb d a && eq-eqb d d refl k)) || (is_in (args d) a && eq-eqb d d refl k))
      ∙ same_delay x (eqb d a) (is_in (args d) a)
      ∙ (λ k. (x || sym (eq-eqb delay d same) k) && (eqb d a || is_in (args d) a))
  | inr else ↦
      (λ k. ((x && (eqb d a || is_in (args d) a)) || (eqb delay a && ne_eqb delay d else k)) || (is_in (args delay) a && ne_eqb delay d else k))
      ∙ other_delay x (eqb d a || is_in (args d) a) (eqb delay a) (is_in (args delay) a)
      ∙ (λ k. (x || sym (ne_eqb delay d else) k) && (eqb d a || is_in (args d) a))
]

pub delay_added : (rows mid new : List (List ℕ)) (delays : List ℕ) (i delay number : ℕ) (args : ℕ → List ℕ) (a d : ℕ) → i < length delays → delay ≡ get_or delays i delay → number ≡ delay → a < length rows → is_in (row rows a) d ≡ (is_in (take i delays) d && (eqb d a || is_in (args d) a)) → mid ≡ set rows delay (row rows delay ++ number ∷ []) → is_in (row new a) d ≡ (is_in (row mid a) d || (is_in (args delay) a && eqb delay d)) → is_in (row new a) d ≡ (is_in (take (i + 1) delays) d && (eqb d a || is_in (args d) a))
delay_added rows mid new delays i delay number args a d below read same there before put after =
    after
    ∙ (λ k. is_in (row (put k) a) d || (is_in (args delay) a && eqb delay d))
    ∙ (λ k. in_added rows delay number a d there k || (is_in (args delay) a && eqb delay d))
    ∙ (λ k. (before k || (eqb delay a && eqb (same k) d)) || (is_in (args delay) a && eqb delay d))
    ∙ delay_more (is_in (take i delays) d) args delay d a
    ∙ (λ k. (is_in (take i delays) d || eqb (read k) d) && (eqb d a || is_in (args d) a))
    ∙ (λ k. sym (list_any_more (λ j. eqb j d) delays i delay below) k && (eqb d a || is_in (args d) a))

-- different numbers of 32 bits
pub few_places : (xs : List ℕ) → IsDistinct eqb xs → ((k : ℕ) → Fits w32 (get_or xs k 0)) → length xs ≤ 2 ^ 32
few_places xs once fit =
    few_below xs (2 ^ 32) once (λ x has.
    let below = (fit has.0).fits in
    let same = get_or_default xs has.0 x 0 has.1 in
    let is = has.2 in
    omega arith)

-- ---- all numbers below one
pub record IsEvery (ids : List ℕ) (n : ℕ) : Type 0 where
  pub known : (i : ℕ) → IsTrue (is_in ids i) → i < n
  pub listed : (i : ℕ) → i < n → IsTrue (is_in ids i)

pub every_next : (ids : List ℕ) (n m : ℕ) (more : List ℕ) → more ≡ ids ++ m ∷ [] → m ≡ n → IsEvery ids n → IsEvery more (n + 1)
every_next ids n m more is same e = record {
  known = λ i there. elim (or_cases (is_in ids i) (is_in (m ∷ []) i) (sym (joined i) ∙ there)) [
    | inl was ↦ let lt = e.known i was in omega arith
    | inr last ↦ elim (or_cases (m == i) false last) [
      | inl here ↦ let equal = eqb-true m i here in omega arith
      | inr none ↦ absurd (false≢true none)
    ]
  ];
  listed = λ i lt. joined i ∙ elim (cases_lt i n) [
    | inl below ↦ or_left (is_in ids i) (is_in (m ∷ []) i) (e.listed i below)
    | inr level ↦ or_right (is_in ids i) (is_in (m ∷ []) i) (or_left (m == i) false (eq-eqb m i (omega arith)))
  ];
}
  where
    joined : (i : ℕ) → is_in more i ≡ (is_in ids i || is_in (m ∷ []) i)
    joined i = ap (λ xs. is_in xs i) is ∙ list_any-append (λ j. j == i) ids (m ∷ [])
