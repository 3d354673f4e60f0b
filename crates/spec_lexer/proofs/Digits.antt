-- Numbers as digits spell them.
use Rattle.std.proofs.Common.{◌≡◌, ℕ, suc, ◌+◌, ◌<◌, ◌≤◌, ◌^◌, true, List, ◌∷◌, length, take, refl, sym, ap, subst, ◌∙◌, inl, inr, arith, rules, Result, Ok, Err}
use Rattle.std.specs.List.{list_all, prefix_len}
use Rattle.std.specs.Cmp.Derive.{both_true}
use Rattle.std.specs.Char.{is_ascii_digit}
use Rattle.std.specs.Prelude.{encode_utf8_all}
use Rattle.std.specs.Result.{OkIff}
use Rattle.std.specs.Str.Parse.{digits_value, ParsesUnsigned}
use Rattle.std.proofs.lemmas.Bool.{cases_lt}
use Rattle.std.proofs.lemmas.Fmt.{IsAscii-from_digits}
use Rattle.std.proofs.lemmas.Str.{encodes-IsAscii}
use Rattle.std.proofs.lemmas.Str.Parse.{IsNumeralModel, numerals_by_value, parse_digits}
use Rattle.tsl_value.specs.declared.place.Place.{Place}
use Rattle.spec_lexer.specs.declared.token.TokenKind.TheVariants as kind
use Rattle.spec_lexer.specs.declared.fault.LexFault.TheVariants.{LiteralTooWide}
use Rattle.spec_lexer.specs.declared.piece.Piece.TheVariants.{Made}
use Rattle.spec_lexer.specs.Found.{number_as}
use Rattle.spec_lexer.proofs.Runs.{run_of}

own : IsNumeralModel (λ ds. list_all is_ascii_digit ds ≡ true) (digits_value 10)
own = numerals_by_value _ (search rules)

-- digits take a byte each
pub encode-digits : (ds : List ℕ) → list_all is_ascii_digit ds ≡ true → encode_utf8_all ds ≡ ds
encode-digits ds digits = encodes-IsAscii ds (IsAscii-from_digits ds (own.to ds digits))

read_value : {E : Type 0} (r : Result ℕ E) (P : Type 0) (v n : ℕ) → r ≡ Ok n → OkIff r P v → n ≡ v
read_value (Ok m) P v n is h = cc (h.1)
read_value (Err e) P v n is h = cc

small : (at : Place) (v n count : ℕ) → n ≡ v → n ≤ 9223372036854775807 → Ok (Made (kind.Number n) count) ≡ number_as at v count
small at v n count same low = grind arith

wide : (at : Place) (v count : ℕ) → 9223372036854775807 < v → Err (LiteralTooWide at) ≡ number_as at v count
wide at v count high = grind arith

-- a number that is read is the one that the digits spell
pub number_read : {E : Type 0} (at : Place) (ds : List ℕ) (r : Result ℕ E) (n count : ℕ) → list_all is_ascii_digit ds ≡ true → ParsesUnsigned 64 10 ds r → r ≡ Ok n → n ≤ 9223372036854775807 → Ok (Made (kind.Number n) count) ≡ number_as at (digits_value 10 ds) count
number_read at ds r n count digits parsed is low = small at (digits_value 10 ds) n count (read_value r _ _ n is (parse_digits own 64 ds r parsed digits)) low

high_value : {E : Type 0} (some : Type 0) (v : ℕ) (r : Result ℕ E) → some → OkIff r (some × (v < 2 ^ 64)) v → ((n : ℕ) → r ≡ Ok n → 9223372036854775807 < n) → 9223372036854775807 < v
high_value some v (Ok n) here h large = omega (arith, h.1, large n refl)
high_value some v (Err e) here h large = elim (cases_lt v (2 ^ 64)) [ inl low ↦ absurd (h (here, low)) | inr high ↦ omega arith ]

-- what isn't read as a number up to the limit is over it
pub number_refused : {E : Type 0} (at : Place) (ds : List ℕ) (r : Result ℕ E) (count : ℕ) → list_all is_ascii_digit ds ≡ true → 0 < length ds → ParsesUnsigned 64 10 ds r → ((n : ℕ) → r ≡ Ok n → 9223372036854775807 < n) → Err (LiteralTooWide at) ≡ number_as at (digits_value 10 ds) count
number_refused at ds r count digits some parsed large = wide at (digits_value 10 ds) count (high_value (0 < length ds) (digits_value 10 ds) r some (parse_digits own 64 ds r parsed digits) large)

-- the longest front of digits has digits, and the first of them
pub front_of_digits : (c : ℕ) (after characters : List ℕ) → characters ≡ c ∷ after → is_ascii_digit c ≡ true → (list_all is_ascii_digit (take (1 + prefix_len is_ascii_digit after) characters) ≡ true) × (0 < length (take (1 + prefix_len is_ascii_digit after) characters))
front_of_digits c after characters is digit =
    let n = prefix_len is_ascii_digit after in
    let one : suc n ≡ 1 + n = omega arith in
    let front : c ∷ take n after ≡ take (1 + n) characters = ap (λ k. take k (c ∷ after)) one ∙ ap (take (1 + n)) (sym is) in
    (ap (list_all is_ascii_digit) (sym front) ∙ both_true digit ((run_of is_ascii_digit after).all_pass), subst (λ ds. 0 < length ds) front (omega arith))
