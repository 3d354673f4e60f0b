-- Sets of numbers, word by word.
use Rattle.std.proofs.Common.{◌≡◌, ◌≢◌, ℕ, ◌+◌, ◌-◌, ◌*◌, ◌/◌, ◌%◌, ◌^◌, ◌<◌, ◌≤◌, ◌⊎◌, min, max, true, false, List, [], length, get_or, set, replicate, eqb, refl, sym, ap, subst, ◌∙◌, inl, inr, arith}
use Rattle.std.specs.Prelude.{bit_and, bit_or}
use Rattle.std.specs.Int.{bit_at, bit_not, w64}
use Rattle.std.proofs.lemmas.Bool.{cases_eq, cases_lt, both_ways, eqb-true, eq-eqb, eqb-false, false_from_ne_true}
use Rattle.std.proofs.lemmas.List.{get_or-set_same, get_or-set_other, get_or_past, get_or-replicate, length-replicate}
use Rattle.std.proofs.lemmas.Nat.Bits.{bit_at-zero, bit_at-lt, bit_at_and, bit_at_or, bit_at_not, bit_at_set_same, bit_at_set_other}
use Rattle.gate_circuits.specs.inner.Marks.{has, AreKeptIn}

-- a bit of a word
abbrev bit : List ℕ → ℕ → ℕ
bit words x = bit_at (get_or words (x / 64) 0) (x % 64)

is_one : (words : List ℕ) (x : ℕ) → has words x ≡ true → bit words x ≡ 1
unfolding has
is_one words x is = eqb-true (bit words x) 1 is

pub one_is : (words : List ℕ) (x : ℕ) → bit words x ≡ 1 → has words x ≡ true
unfolding has
one_is words x is = eq-eqb (bit words x) 1 is

not_one : (words : List ℕ) (x : ℕ) → has words x ≡ false → bit words x ≢ 1
unfolding has
not_one words x is e = eqb-false (bit words x) 1 is e

pub has_is : (words : List ℕ) (x n : ℕ) → n ≡ bit words x → eqb n 1 ≡ has words x
unfolding has
has_is words x n same = ap (λ m. eqb m 1) same

pub not_has : (words : List ℕ) (x : ℕ) → bit words x ≢ 1 → has words x ≡ false
not_has words x nay = false_from_ne_true (has words x) (λ h. nay (is_one words x h))

-- no bit of a word that is 0 or isn't there
pub zero_word : (words : List ℕ) (x : ℕ) → get_or words (x / 64) 0 ≡ 0 → has words x ≡ false
zero_word words x none = not_has words x (λ e.
    let zero : bit words x ≡ 0 = ap (λ n. bit_at n (x % 64)) none ∙ bit_at-zero (x % 64) in
    absurd (omega (arith, zero, e)))

pub past_words : (words : List ℕ) (x : ℕ) → length words ≤ x / 64 → has words x ≡ false
past_words words x past = zero_word words x (get_or_past words (x / 64) 0 past)

pub word_of : (words : List ℕ) (x : ℕ) → has words x ≡ true → x / 64 < length words
word_of words x is = elim (cases_lt (x / 64) (length words)) [
  | inl low ↦ low
  | inr past ↦ absurd (both_ways (has words x) (past_words words x past) is)
]

pub no_words : (words : List ℕ) → words ≡ [] → (x : ℕ) → has words x ≡ false
no_words words none x = past_words words x (let e = ap length none in omega arith)

pub zeros : (n : ℕ) (words : List ℕ) → words ≡ replicate n 0 → (x : ℕ) → has words x ≡ false
zeros n words is x = zero_word words x (elim (cases_lt (x / 64) n) [
  | inl low ↦ ap (λ l. get_or l (x / 64) 0) is ∙ get_or-replicate n (x / 64) 0 0 low
  | inr past ↦ get_or_past words (x / 64) 0 (let e = ap length is ∙ length-replicate n 0 in omega arith)
])

-- one more word of a list is changed
module _ (old words : List ℕ) (n w : ℕ) (P : ℕ → ℕ → Type 0) (room : length words ≡ length old) (low : n < length old) where
  pub word_more : P n w → ((k : ℕ) → k < n → P k (get_or words k 0)) → (k : ℕ) → k < n + 1 → P k (get_or (set words n w) k 0)
  word_more here before k below = elim (cases_eq k n) [
    | inl same ↦
        let inside : n < length words = omega (arith, room) in
        subst (λ m. P m (get_or (set words n w) m 0)) (sym same) (subst (λ v. P n v) (sym (get_or-set_same words n w 0 inside)) here)
    | inr other ↦
        let less : k < n = omega arith in
        subst (λ v. P k v) (sym (get_or-set_other words n k w 0 other)) (before k less)
  ]

  pub word_rest : ((k : ℕ) → n ≤ k → get_or words k 0 ≡ get_or old k 0) → (k : ℕ) → n + 1 ≤ k → get_or (set words n w) k 0 ≡ get_or old k 0
  word_rest same k above =
      let other : k ≢ n = omega arith in
      let more : n ≤ k = omega arith in
      get_or-set_other words n k w 0 other ∙ same k more

-- ---- both together
module _ (old other new : List ℕ) (room : length new ≡ length old) (by : (k : ℕ) → k < length old → get_or new k 0 ≡ bit_or (get_or old k 0) (get_or other k 0)) where
  pub joined_from : (x : ℕ) → has new x ≡ true → (has old x ≡ true) ⊎ (has other x ≡ true)
  joined_from x is =
      let low : x / 64 < length old = omega (arith, room, word_of new x is) in
      let one : max (bit old x) (bit other x) ≡ 1 =
      sym (bit_at_or (get_or old (x / 64) 0) (get_or other (x / 64) 0) (x % 64)) ∙ sym (ap (λ n. bit_at n (x % 64)) (by (x / 64) low)) ∙ is_one new x is in
      elim (cases_eq (bit old x) 1) [
        | inl yea ↦ inl (one_is old x yea)
        | inr nay ↦ inr (one_is other x (omega (arith, one, nay)))
      ]

-- ---- what is kept
module _ (old first second new : List ℕ) (room : length new ≡ length old) (by : (k : ℕ) → k < length old → get_or new k 0 ≡ bit_and (get_or old k 0) (bit_or (get_or first k 0) (get_or second k 0))) where
  kept_bit : (x : ℕ) → x / 64 < length old → bit new x ≡ min (bit old x) (max (bit first x) (bit second x))
  kept_bit x low =
      ap (λ n. bit_at n (x % 64)) (by (x / 64) low)
      ∙ bit_at_and (get_or old (x / 64) 0) (bit_or (get_or first (x / 64) 0) (get_or second (x / 64) 0)) (x % 64)
      ∙ ap (λ n. min (bit old x) n) (bit_at_or (get_or first (x / 64) 0) (get_or second (x / 64) 0) (x % 64))

  pub kept_in : AreKeptIn old first second new
  kept_in = record {
    kept = λ x is.
        let low : x / 64 < length old = omega (arith, room, word_of new x is) in
        let small = bit_at-lt (get_or old (x / 64) 0) (x % 64) in
        one_is old x (omega (arith, kept_bit x low, is_one new x is, small));
    from = λ x is.
        let low : x / 64 < length old = omega (arith, room, word_of new x is) in
        let one = is_one new x is in
        let same = kept_bit x low in
        let small = bit_at-lt (get_or first (x / 64) 0) (x % 64) in
        let little = bit_at-lt (get_or second (x / 64) 0) (x % 64) in
        elim (cases_eq (bit first x) 1) [
          | inl yea ↦ inl (one_is first x yea)
          | inr nay ↦ inr (one_is second x (omega (arith, one, same, nay, small, little)))
        ];
    gone = λ x was is.
        let low = word_of old x was in
        let same = kept_bit x low in
        let one = is_one old x was in
        let none = not_one new x is in
        let small = bit_at-lt (get_or first (x / 64) 0) (x % 64) in
        let little = bit_at-lt (get_or second (x / 64) 0) (x % 64) in
        not_has first x (λ yea. absurd (none (omega (arith, same, one, yea, small, little))));
  }

-- ---- what is taken away
module _ (old other : List ℕ) (fits : (k : ℕ) → get_or other k 0 < 2 ^ 64) where
  less_bit : (x : ℕ) → bit_at (bit_and (get_or old (x / 64) 0) (bit_not w64 (get_or other (x / 64) 0))) (x % 64) ≡ min (bit old x) (1 - bit other x)
  less_bit x =
      let small : x % 64 < 64 = omega arith in
      bit_at_and (get_or old (x / 64) 0) (bit_not w64 (get_or other (x / 64) 0)) (x % 64)
      ∙ ap (λ n. min (bit old x) n) (bit_at_not w64 (get_or other (x / 64) 0) (x % 64) (fits (x / 64)) small)

  module _ (new : List ℕ) (room : length new ≡ length old) (by : (k : ℕ) → k < length old → get_or new k 0 ≡ bit_and (get_or old k 0) (bit_not w64 (get_or other k 0))) where
    less : (x : ℕ) → has new x ≡ true → min (bit old x) (1 - bit other x) ≡ 1
    less x is =
        let low : x / 64 < length old = omega (arith, room, word_of new x is) in
        sym (less_bit x) ∙ sym (ap (λ n. bit_at n (x % 64)) (by (x / 64) low)) ∙ is_one new x is

    pub less_old : (x : ℕ) → has new x ≡ true → has old x ≡ true
    less_old x is =
        let small = bit_at-lt (get_or old (x / 64) 0) (x % 64) in
        one_is old x (omega (arith, less x is, small))

    pub less_other : (x : ℕ) → has new x ≡ true → has other x ≡ false
    less_other x is = not_has other x (λ yea. absurd (omega (arith, less x is, yea)))

  -- nothing is left
  pub within_is : ((k : ℕ) → k < length old → bit_and (get_or old k 0) (bit_not w64 (get_or other k 0)) ≡ 0) → (x : ℕ) → has old x ≡ true → has other x ≡ true
  within_is none x is =
      let low = word_of old x is in
      let zero : min (bit old x) (1 - bit other x) ≡ 0 = sym (less_bit x) ∙ ap (λ n. bit_at n (x % 64)) (none (x / 64) low) ∙ bit_at-zero (x % 64) in
      let one = is_one old x is in
      let small = bit_at-lt (get_or other (x / 64) 0) (x % 64) in
      one_is other x (omega (arith, zero, one, small))

-- ---- one number is added
module _ (words : List ℕ) (number : ℕ) (there : number / 64 < length words) where
  pub added_here : has (set words (number / 64) (bit_or (get_or words (number / 64) 0) (1 * 2 ^ (number % 64) % 2 ^ 64))) number ≡ true
  added_here =
      let old = get_or words (number / 64) 0 in
      let small : number % 64 < 64 = omega arith in
      one_is (set words (number / 64) (bit_or old (1 * 2 ^ (number % 64) % 2 ^ 64))) number
      (ap (λ n. bit_at n (number % 64)) (get_or-set_same words (number / 64) (bit_or old (1 * 2 ^ (number % 64) % 2 ^ 64)) 0 there) ∙ bit_at_set_same w64 old (number % 64) small)

  pub added_other : (x : ℕ) → x ≢ number → has (set words (number / 64) (bit_or (get_or words (number / 64) 0) (1 * 2 ^ (number % 64) % 2 ^ 64))) x ≡ has words x
  added_other x ne =
      let old = get_or words (number / 64) 0 in
      let new = set words (number / 64) (bit_or old (1 * 2 ^ (number % 64) % 2 ^ 64)) in
      let small : number % 64 < 64 = omega arith in
      let same : bit new x ≡ bit words x = elim (cases_eq (x / 64) (number / 64)) [
        | inl at ↦
            let apart : x % 64 ≢ number % 64 = λ e. ne (omega arith) in
            ap (λ k. bit_at (get_or new k 0) (x % 64)) at
            ∙ ap (λ n. bit_at n (x % 64)) (get_or-set_same words (number / 64) (bit_or old (1 * 2 ^ (number % 64) % 2 ^ 64)) 0 there)
            ∙ bit_at_set_other w64 old (number % 64) small (x % 64) apart
            ∙ ap (λ k. bit_at (get_or words k 0) (x % 64)) (sym at)
        | inr else ↦ ap (λ n. bit_at n (x % 64)) (get_or-set_other words (number / 64) (x / 64) (bit_or old (1 * 2 ^ (number % 64) % 2 ^ 64)) 0 else)
      ] in
      sym (has_is new x (bit new x) refl) ∙ ap (λ n. eqb n 1) same ∙ has_is words x (bit words x) refl
