-- What is printed is read again.
use Rattle.std.proofs.Common.{◌≡◌, ◌≢◌, ◌==◌, ℕ, ◌<◌, ◌≤◌, ◌^◌, true, false, not, List, [], ◌∷◌, ◌++◌, length, append_assoc, append-nil, ◌⊎◌, Some, Ok, ℤ, pos, negsuc, suc, refl, ap, ◌∙◌, arith, inl, inr, w64, FitsSigned}
use Rattle.std.specs.Fmt.{decimal, signed_decimal}
use Rattle.std.specs.List.{flat_map, list_all}
use Rattle.std.specs.Char.{is_ascii_digit, IsScalar}
use Rattle.std.specs.Str.{IsUtf8}
use Rattle.std.specs.Str.Parse.{digits_value}
use Rattle.std.proofs.Math.Utf8.{encode, encodes, scalar, scalars}
use Rattle.std.proofs.lemmas.Bool.{and_from, and_parts, cases_eq, cases_lt, le-ltb, le-leb, lt-ltb, leb-true, ne_eqb}
use Rattle.std.proofs.lemmas.Bool.Decides.{nat_tests}
use Rattle.tsl_value.specs.declared.scalar.Scalar.TheVariants as scalar
use Rattle.tsl_value.specs.inner.Laws.{ReadsPrinted}
use Rattle.tsl_value.specs.Literal.{are_digits, begins_with_minus, int_literal, is_int, literal, put_before, quoted, signed_value, text_literal, unescaped, without_minus}
use Rattle.tsl_value.specs.Print.{escaped, quoted_text}
use Rattle.std.proofs.lemmas.Fmt.{decimal_is_IsNumeral}
use Rattle.std.proofs.lemmas.Grind.{flat_map-append}
use Rattle.std.proofs.lemmas.Str.{IsUtf8-append, IsUtf8-encode, IsUtf8-nil, encode_ascii, is_utf8-from_IsUtf8}
use Rattle.tsl_value.proofs.Digits.{is_int-pos, is_int-neg, own}
use Rattle.tsl_value.proofs.Quotes.{quoted-plain}
use Rattle.tsl_value.proofs.Utf8.{IsUtf8-one, are_high, are_high-encode}
use Rattle.tsl_value.specs.declared.limits.TheConstants.{MOST_TEXT_BYTES}

-- a byte that stands for itself
pub record IsPlain (b : ℕ) : Type 0 where
  pub text : escaped b ≡ b ∷ []
  pub quote : b ≢ 34
  pub line_end : b ≢ 10
  pub backslash : b ≢ 92

-- a byte that has an escape
pub record HasEscape (b : ℕ) : Type 0 where
  pub letter : ℕ
  pub text : escaped b ≡ 92 ∷ letter ∷ []
  pub ascii : letter < 128
  pub back : unescaped letter ≡ Some b
  pub low : b < 128

escape : (b letter : ℕ) → escaped b ≡ 92 ∷ letter ∷ [] → letter < 128 → unescaped letter ≡ Some b → b < 128 → IsPlain b ⊎ HasEscape b
escape b letter text ascii back low = inr (record { letter = letter; text = text; ascii = ascii; back = back; low = low })

printed_byte : (b : ℕ) → IsPlain b ⊎ HasEscape b
printed_byte b =
    elim (cases_eq b 34) [
      | inl e ↦ escape b 34 (rw e refl) (omega arith) (rw e refl) (omega arith)
      | inr quote ↦
          elim (cases_eq b 92) [
            | inl e ↦ escape b 92 (rw e refl) (omega arith) (rw e refl) (omega arith)
            | inr backslash ↦
                elim (cases_eq b 10) [
                  | inl e ↦ escape b 110 (rw e refl) (omega arith) (rw e refl) (omega arith)
                  | inr line_end ↦
                      elim (cases_eq b 9) [
                        | inl e ↦ escape b 116 (rw e refl) (omega arith) (rw e refl) (omega arith)
                        | inr tab ↦
                            elim (cases_eq b 13) [
                              | inl e ↦ escape b 114 (rw e refl) (omega arith) (rw e refl) (omega arith)
                              | inr return ↦
                                  inl (record { text = rw (ne_eqb b 34 quote, ne_eqb b 92 backslash, ne_eqb b 10 line_end, ne_eqb b 9 tab, ne_eqb b 13 return) refl; quote = quote; line_end = line_end; backslash = backslash })
                            ]
                      ]
                ]
          ]
    ]

-- a byte that is printed within quotes is read as itself
quoted-escaped : (b : ℕ) (rest : List ℕ) → quoted (escaped b ++ rest) ≡ put_before (Some b) (quoted rest)
quoted-escaped b rest =
    elim (printed_byte b) [
      | inl plain ↦ rw plain.text (quoted-plain b rest plain.quote plain.line_end plain.backslash)
      | inr escape ↦ rw escape.text (ap (λ o. put_before o (quoted rest)) escape.back)
    ]

quoted-printed : (bytes : List ℕ) → quoted (flat_map escaped bytes ++ 34 ∷ []) ≡ Some bytes
quoted-printed [] = refl
quoted-printed (b ∷ bytes) =
    rw (append_assoc (escaped b) (flat_map escaped bytes) (34 ∷ []))
    (quoted-escaped b (flat_map escaped bytes ++ 34 ∷ []) ∙ ap (put_before (Some b)) (quoted-printed bytes))

IsUtf8-escaped : (b : ℕ) → b < 128 → IsUtf8 (escaped b)
IsUtf8-escaped b low =
    elim (printed_byte b) [
      | inl plain ↦ rw plain.text (IsUtf8-one b low)
      | inr escape ↦ rw escape.text (IsUtf8-append (92 ∷ []) (escape.letter ∷ []) (IsUtf8-one 92 (omega arith)) (IsUtf8-one escape.letter escape.ascii))
    ]

flat_map-high : (xs : List ℕ) → are_high xs ≡ true → flat_map escaped xs ≡ xs
flat_map-high [] h = refl
flat_map-high (x ∷ xs) h =
    let both = and_parts _ _ h in
    let high = leb-true 128 x both.0 in
    elim (printed_byte x) [
      | inl plain ↦ rw (plain.text, flat_map-high xs both.1) refl
      | inr escape ↦ absurd (omega arith)
    ]

IsUtf8-printed_char : (c : ℕ) → IsScalar c → IsUtf8 (flat_map escaped (encode c))
IsUtf8-printed_char c s =
    elim (cases_lt c 128) [
      | inl low ↦ rw (encode_ascii c low) (rw (append-nil (escaped c)) (IsUtf8-escaped c low))
      | inr high ↦ rw (flat_map-high (encode c) (are_high-encode c high)) (IsUtf8-encode c s)
    ]

IsUtf8-printed : (cs : List ℕ) → scalars cs ≡ true → IsUtf8 (flat_map escaped (encodes cs))
IsUtf8-printed [] s = IsUtf8-nil
IsUtf8-printed (c ∷ cs) s =
    let parts = and_parts (scalar c) (scalars cs) s in
    rw (flat_map-append escaped (encode c) (encodes cs))
    (IsUtf8-append (flat_map escaped (encode c)) (flat_map escaped (encodes cs)) (IsUtf8-printed_char c parts.0) (IsUtf8-printed cs parts.1))

IsUtf8-quoted_text : (bytes : List ℕ) → IsUtf8 bytes → IsUtf8 (quoted_text bytes)
IsUtf8-quoted_text bytes text =
    let quote = IsUtf8-one 34 (omega arith) in
    let inner : IsUtf8 (flat_map escaped bytes) = rw text.1.1 at (IsUtf8-printed text.0 text.1.0) in
    IsUtf8-append (34 ∷ []) (flat_map escaped bytes ++ 34 ∷ []) quote (IsUtf8-append (flat_map escaped bytes) (34 ∷ []) inner quote)

text_read : (bytes : List ℕ) → IsUtf8 bytes → length bytes ≤ MOST_TEXT_BYTES → text_literal (quoted_text bytes) ≡ Ok (scalar.Text bytes)
text_read bytes text short =
    rw (is_utf8-from_IsUtf8 (quoted_text bytes) (IsUtf8-quoted_text bytes text))
    (rw (quoted-printed bytes) (rw (le-ltb MOST_TEXT_BYTES (length bytes) short) refl))

pub begins_with_minus-digits : (ds : List ℕ) → list_all is_ascii_digit ds ≡ true → begins_with_minus ds ≡ false
begins_with_minus-digits [] h = refl
begins_with_minus-digits (d ∷ ds) h = let digit = (and_parts (is_ascii_digit d) (list_all is_ascii_digit ds) h).0 in grind (arith, nat_tests)

int_from : (bytes : List ℕ) (z : ℤ) → are_digits (without_minus bytes) ≡ true → signed_value bytes ≡ z → is_int z ≡ true → int_literal bytes ≡ Ok (scalar.Int z)
int_from bytes z digits value small = rw digits (rw value (rw small refl))

-- digits of a number
pub record AreDigitsOf (ds : List ℕ) (n : ℕ) : Type 0 where
  pub digits : are_digits ds ≡ true
  pub plain : begins_with_minus ds ≡ false
  pub value : digits_value 10 ds ≡ n

digits_of : (n : ℕ) → n < 2 ^ 64 → AreDigitsOf (decimal n) n
digits_of n small =
    let numeral = decimal_is_IsNumeral n small in
    let all = own.from (decimal n) numeral.0.1 in
    record { digits = and_from (not (length (decimal n) == 0)) (list_all is_ascii_digit (decimal n)) (let some = numeral.0.0 in grind (arith, nat_tests)) all; plain = begins_with_minus-digits (decimal n) all; value = numeral.1 }

int_read : (z : ℤ) → FitsSigned w64 z → int_literal (signed_decimal z) ≡ Ok (scalar.Int z)
int_read (pos n) fits =
    let small : n < 2 ^ 63 = fits.sfits in
    let d = digits_of n (omega arith) in
    int_from (decimal n) (pos n) (rw d.plain d.digits) (rw (d.plain, d.value) refl) (is_int-pos n ∙ lt-ltb n (2 ^ 63) small)
int_read (negsuc n) fits =
    let small : n < 2 ^ 63 = fits.sfits in
    let d = digits_of (suc n) (omega arith) in
    int_from (45 ∷ decimal (suc n)) (negsuc n) d.digits (rw d.value refl) (is_int-neg (suc n) ∙ le-leb (suc n) (2 ^ 63) (omega arith))

pub reads_printed : ReadsPrinted
unfolding literal
reads_printed scalar.Unit h = refl
reads_printed (scalar.Int z) h = int_read z h
reads_printed (scalar.Bool true) h = refl
reads_printed (scalar.Bool false) h = refl
reads_printed (scalar.Text bytes) h = text_read bytes h.0 h.1
