-- Digits are text, and `parse` reads them.
use Rattle.std.proofs.Common.{◌≡◌, ◌==◌, ℕ, suc, zero, ◌<◌, ◌≤◌, ◌^◌, nat_le, nat_lt, Bool, true, false, not, List, [], ◌∷◌, length, ℤ, pos, neg_ℤ, IsTrue, Result, Ok, Err, refl, sym, subst, ◌∙◌, arith, rules, w64}
use Rattle.std.specs.Char.{is_ascii_digit}
use Rattle.std.specs.List.{list_all}
use Rattle.std.specs.Result.{OkIff}
use Rattle.std.specs.Str.{IsUtf8}
use Rattle.std.specs.Str.Parse.{ParsesSigned, digits_value}
use Rattle.std.proofs.lemmas.Bool.{and_parts, eqb-true, leb-true, le-leb, ltb-true, lt-ltb}
use Rattle.std.proofs.lemmas.Bool.Decides.{nat_tests}
use Rattle.std.proofs.lemmas.Fmt.{IsAscii-from_digits}
use Rattle.std.proofs.lemmas.Int.{ints}
use Rattle.std.proofs.lemmas.Str.{IsUtf8-append, IsUtf8-from_ascii}
use Rattle.std.proofs.lemmas.Str.Parse.{IsNumeralModel, numerals_by_value, parse_signed_minus, parse_signed_digits}
use Rattle.tsl_value.specs.Literal.{are_digits, is_int, signed_value, without_minus}
use Rattle.tsl_value.proofs.Utf8.{IsUtf8-one}

pub own : IsNumeralModel (λ ds. list_all is_ascii_digit ds ≡ true) (digits_value 10)
own = numerals_by_value _ (search rules)

-- digits are one or more, and all of them digits
pub are_digits-parts : (ds : List ℕ) → are_digits ds ≡ true → (0 < length ds) × (list_all is_ascii_digit ds ≡ true)
are_digits-parts [] h = absurd (cc)
are_digits-parts (d ∷ ds) h = (search rules, (and_parts (not (length (d ∷ ds) == 0)) (list_all is_ascii_digit (d ∷ ds)) h).1)

pub is_int-pos : (n : ℕ) → is_int (pos n) ≡ nat_lt n (2 ^ 63)
is_int-pos n = grind (arith, ints)

pub is_int-neg : (n : ℕ) → is_int (neg_ℤ (pos n)) ≡ nat_le n (2 ^ 63)
is_int-neg zero = refl
is_int-neg (suc n) = grind (arith, ints, nat_tests)

IsUtf8-digits : (ds : List ℕ) → list_all is_ascii_digit ds ≡ true → IsUtf8 ds
IsUtf8-digits ds h = IsUtf8-from_ascii ds (IsAscii-from_digits ds (own.to ds h))

without_minus-minus : (b : ℕ) (bs : List ℕ) → (b == 45) ≡ true → without_minus (b ∷ bs) ≡ bs
without_minus-minus b bs e = rw e refl

without_minus-none : (b : ℕ) (bs : List ℕ) → (b == 45) ≡ false → without_minus (b ∷ bs) ≡ b ∷ bs
without_minus-none b bs e = rw e refl

signed_by : (b : ℕ) (bs : List ℕ) (minus : Bool) → (b == 45) ≡ minus → are_digits (without_minus (b ∷ bs)) ≡ true → IsUtf8 (b ∷ bs)
signed_by b bs true e h =
    let digits : are_digits bs ≡ true = rw (without_minus-minus b bs e) at h in
    IsUtf8-append (b ∷ []) bs (IsUtf8-one b (omega (arith, eqb-true b 45 e))) (IsUtf8-digits bs (are_digits-parts bs digits).1)
signed_by b bs false e h =
    let digits : are_digits (b ∷ bs) ≡ true = rw (without_minus-none b bs e) at h in
    IsUtf8-digits (b ∷ bs) (are_digits-parts (b ∷ bs) digits).1

pub IsUtf8-number : (bytes : List ℕ) → are_digits (without_minus bytes) ≡ true → IsUtf8 bytes
IsUtf8-number [] h = absurd (cc)
IsUtf8-number (b ∷ bs) h = signed_by b bs (b == 45) refl h

negative : {E : Type 0} (n : ℕ) (r : Result ℤ E) {P : Type 0} {Q : Type 0} → P → Q → OkIff r (P × Q × (n ≤ 2 ^ 63)) (neg_ℤ (pos n)) → OkIff r (IsTrue (is_int (neg_ℤ (pos n)))) (neg_ℤ (pos n))
negative n (Ok z) p q h = (is_int-neg n ∙ le-leb n (2 ^ 63) h.0.2, h.1)
negative n (Err e) p q h = λ t. h (p, q, leb-true n (2 ^ 63) (sym (is_int-neg n) ∙ t))

positive : {E : Type 0} (n : ℕ) (r : Result ℤ E) {P : Type 0} → P → OkIff r (P × (n < 2 ^ 63)) (pos n) → OkIff r (IsTrue (is_int (pos n))) (pos n)
positive n (Ok z) p h = (is_int-pos n ∙ lt-ltb n (2 ^ 63) h.0.1, h.1)
positive n (Err e) p h = λ t. h (p, ltb-true n (2 ^ 63) (sym (is_int-pos n) ∙ t))

parsed_by : {E : Type 0} (b : ℕ) (bs : List ℕ) (minus : Bool) (r : Result ℤ E) → (b == 45) ≡ minus → are_digits (without_minus (b ∷ bs)) ≡ true → ParsesSigned w64 10 (b ∷ bs) r → OkIff r (IsTrue (is_int (signed_value (b ∷ bs)))) (signed_value (b ∷ bs))
parsed_by b bs true r e h p =
    let digits : are_digits bs ≡ true = rw (without_minus-minus b bs e) at h in
    let parts = are_digits-parts bs digits in
    rw e (negative (digits_value 10 bs) r parts.1 parts.0 (parse_signed_minus own w64 (b ∷ bs) r p (eqb-true b 45 e)))
parsed_by b bs false r e h p =
    let digits : are_digits (b ∷ bs) ≡ true = rw (without_minus-none b bs e) at h in
    let parts = are_digits-parts (b ∷ bs) digits in
    rw e (positive (digits_value 10 (b ∷ bs)) r parts.0 (parse_signed_digits own w64 (b ∷ bs) r p parts.1))

-- what `parse` answers for a minus or nothing and digits
parsed_bytes : {E : Type 0} (bytes : List ℕ) (r : Result ℤ E) → are_digits (without_minus bytes) ≡ true → ParsesSigned w64 10 bytes r → OkIff r (IsTrue (is_int (signed_value bytes))) (signed_value bytes)
parsed_bytes [] r h p = absurd (cc)
parsed_bytes (b ∷ bs) r h p = parsed_by b bs (b == 45) r refl h p

pub parsed : {E : Type 0} (bytes text : List ℕ) (r : Result ℤ E) → text ≡ bytes → are_digits (without_minus bytes) ≡ true → ParsesSigned w64 10 text r → OkIff r (IsTrue (is_int (signed_value bytes))) (signed_value bytes)
parsed bytes text r e h p = parsed_bytes bytes r h (let P : List ℕ → Type 0 = λ t. ParsesSigned w64 10 t r in subst P e p)
