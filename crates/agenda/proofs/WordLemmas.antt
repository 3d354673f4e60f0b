-- One bit of a list of words.
use Rattle.std.proofs.Common.{◌≡◌, ◌≢◌, ℕ, ◌+◌, ◌*◌, ◌/◌, ◌%◌, ◌^◌, ◌<◌, Bool, true, false, List, length, get_or, set, eqb, sym, ap, ◌∙◌, inl, inr, arith}
use Rattle.std.proofs.lemmas.Bool.{cases_eq, cases_lt, both_ways}
use Rattle.std.proofs.lemmas.List.{length-set, get_or-set_same, get_or-set_other, get_or_past}
use Rattle.std.proofs.lemmas.Nat.Bits.{bit_at-zero, bit_at-trailing_zeros, bit_at_set_same, bit_at_set_other, bit_at_clear_same, bit_at_clear_other}
use Rattle.std.specs.Int.{bit_at, bit_not, trailing_zeros, w64}
use Rattle.std.specs.Prelude.{bit_and, bit_or}
use Rattle.agenda.specs.inner.Words.{has_bit, HasSetBit, IsLeastIn}

-- a word is put in the place of another that differs in one bit at most
word_put : (words : List ℕ) (place w : ℕ) (b : Bool) → place / 64 < length words → eqb (bit_at w (place % 64)) 1 ≡ b → ((i : ℕ) → i < 64 → i ≢ place % 64 → bit_at w i ≡ bit_at (get_or words (place / 64) 0) i) → HasSetBit words (set words (place / 64) w) place b
word_put words place w b there here others =
    let put : get_or (set words (place / 64) w) (place / 64) 0 ≡ w = get_or-set_same words (place / 64) w 0 there in
    record {
      room = length-set words (place / 64) w;
      here = ap (λ x. eqb (bit_at x (place % 64)) 1) put ∙ here;
      others = λ other ne. elim (cases_eq (other / 64) (place / 64)) [
        | inl same ↦
            let apart : other % 64 ≢ place % 64 = λ e. ne (omega arith) in
            let below : other % 64 < 64 = omega arith in
            ap (λ k. eqb (bit_at (get_or (set words (place / 64) w) k 0) (other % 64)) 1) same
            ∙ ap (λ x. eqb (bit_at x (other % 64)) 1) put
            ∙ ap (λ x. eqb x 1) (others (other % 64) below apart)
            ∙ ap (λ k. eqb (bit_at (get_or words k 0) (other % 64)) 1) (sym same)
        | inr else ↦ ap (λ x. eqb (bit_at x (other % 64)) 1) (get_or-set_other words (place / 64) (other / 64) w 0 else)
      ];
      words = λ k ne. get_or-set_other words (place / 64) k w 0 ne;
    }

pub bit_set : (words : List ℕ) (place : ℕ) → place / 64 < length words → HasSetBit words (set words (place / 64) (bit_or (get_or words (place / 64) 0) (1 * 2 ^ (place % 64) % 2 ^ 64))) place true
bit_set words place there =
    let within : place % 64 < 64 = omega arith in
    let old = get_or words (place / 64) 0 in
    word_put words place (bit_or old (1 * 2 ^ (place % 64) % 2 ^ 64)) true there
    (ap (λ x. eqb x 1) (bit_at_set_same w64 old (place % 64) within))
    (λ i below ne. bit_at_set_other w64 old (place % 64) within i ne)

pub bit_cleared : (words : List ℕ) (place : ℕ) → place / 64 < length words → HasSetBit words (set words (place / 64) (bit_and (get_or words (place / 64) 0) (bit_not w64 (1 * 2 ^ (place % 64) % 2 ^ 64)))) place false
bit_cleared words place there =
    let within : place % 64 < 64 = omega arith in
    let old = get_or words (place / 64) 0 in
    word_put words place (bit_and old (bit_not w64 (1 * 2 ^ (place % 64) % 2 ^ 64))) false there
    (ap (λ x. eqb x 1) (bit_at_clear_same w64 old (place % 64) within))
    (λ i below ne. bit_at_clear_other w64 old (place % 64) within i below ne)

-- a word without a bit
pub no_bit : (words : List ℕ) (place : ℕ) → get_or words (place / 64) 0 ≡ 0 → has_bit words place ≡ false
no_bit words place none =
    ap (λ x. eqb (bit_at x (place % 64)) 1) none ∙ ap (λ x. eqb x 1) (bit_at-zero (place % 64))

pub some_word : (words : List ℕ) (place : ℕ) → has_bit words place ≡ true → get_or words (place / 64) 0 ≢ 0
some_word words place is none = both_ways (has_bit words place) (no_bit words place none) is

pub word_there : (words : List ℕ) (k : ℕ) → get_or words k 0 ≢ 0 → k < length words
word_there words k some = elim (cases_lt k (length words)) [
  | inl below ↦ below
  | inr above ↦ absurd (some (get_or_past words k 0 above))
]

pub least_bit : (words : List ℕ) (k : ℕ) → get_or words k 0 ≢ 0 → get_or words k 0 < 2 ^ 64 → (trailing_zeros w64 (get_or words k 0) < 64) × IsLeastIn words k (k * 64 + trailing_zeros w64 (get_or words k 0))
least_bit words k some fits =
    let n = get_or words k 0 in
    let t = trailing_zeros w64 n in
    let positive : 0 < n = omega arith in
    let (below, here, least) = bit_at-trailing_zeros w64 n positive fits in
    let at : (k * 64 + t) / 64 ≡ k = omega arith in
    let rest : (k * 64 + t) % 64 ≡ t = omega arith in (
      below,
      record {
        inside = at;
        here = ap (λ j. eqb (bit_at (get_or words j 0) ((k * 64 + t) % 64)) 1) at ∙ ap (λ i. eqb (bit_at n i) 1) rest ∙ ap (λ x. eqb x 1) here;
        least = λ other from to.
            let near : other / 64 ≡ k = omega arith in
            let lower : other % 64 < t = omega arith in
            ap (λ j. eqb (bit_at (get_or words j 0) (other % 64)) 1) near ∙ ap (λ x. eqb x 1) (least (other % 64) lower);
      },
    )
