-- Texts between quotes.
use Rattle.std.proofs.Common.{◌≡◌, ◌≢◌, ℕ, ◌<◌, ◌≤◌, true, List, [], ◌∷◌, ◌++◌, length, append_assoc, Option, Some, None, option_map, refl, sym, ap, ◌∙◌, arith, inl, inr}
use Rattle.std.specs.Str.{IsUtf8}
use Rattle.std.specs.Char.{IsScalar}
use Rattle.std.proofs.lemmas.Str.{IsUtf8-append, IsUtf8-nil, IsUtf8-encode, IsUtf8-drop, IsCharBoundary-after_ascii, encode_ascii, length-encode, len_utf8_bounds}
use Rattle.std.proofs.Math.Utf8.{encode, encodes, scalar, scalars}
use Rattle.std.proofs.lemmas.Bool.{and_parts, leb-true, ne_eqb, cases_lt, cases_eq}
use Rattle.std.proofs.lemmas.Bool.Decides.{nat_tests}
use Rattle.tsl_value.specs.Literal.{BeginsWith, put_before, quoted, unescaped, unquoted}
use Rattle.tsl_value.proofs.Utf8.{IsUtf8-one, are_high, are_high-encode}

put_before-grows : (xs : List ℕ) (b : ℕ) (o : Option (List ℕ)) → option_map (λ more. xs ++ more) (put_before (Some b) o) ≡ option_map (λ more. (xs ++ b ∷ []) ++ more) o
put_before-grows xs b None = refl
put_before-grows xs b (Some ys) = ap Some (sym (append_assoc xs (b ∷ []) ys))

-- one byte more is read
pub grown : (whole rest others content longer : List ℕ) (b : ℕ) → quoted whole ≡ option_map (λ more. content ++ more) (quoted rest) → BeginsWith b others rest → longer ≡ content ++ b ∷ [] → quoted whole ≡ option_map (λ more. longer ++ more) (quoted others)
grown whole rest others content longer b before byte e =
    rw e (before ∙ (ap (option_map (λ more. content ++ more)) byte.content ∙ put_before-grows content b (quoted others)))

-- a byte that is no quote, line end or backslash stands for itself
pub quoted-plain : (b : ℕ) (rest : List ℕ) → b ≢ 34 → b ≢ 10 → b ≢ 92 → quoted (b ∷ rest) ≡ put_before (Some b) (quoted rest)
quoted-plain b [] n m k = grind (arith, nat_tests)
quoted-plain b (c ∷ rest) n m k = grind (arith, nat_tests)

put_before-map : (x : ℕ) (xs : List ℕ) (o : Option (List ℕ)) → put_before (Some x) (option_map (λ zs. xs ++ zs) o) ≡ option_map (λ zs. (x ∷ xs) ++ zs) o
put_before-map x xs None = refl
put_before-map x xs (Some zs) = refl

pub quoted-high : (xs ys : List ℕ) → are_high xs ≡ true → quoted (xs ++ ys) ≡ option_map (λ zs. xs ++ zs) (quoted ys)
quoted-high [] ys h = elim (quoted ys) as (λ o. o ≡ option_map (λ zs. [] ++ zs) o) [ None ↦ refl | Some zs ↦ refl ]
quoted-high (x ∷ xs) ys h =
    let both = and_parts _ _ h in
    let high = leb-true 128 x both.0 in
    quoted-plain x (xs ++ ys) (omega arith) (omega arith) (omega arith)
    ∙ (ap (put_before (Some x)) (quoted-high xs ys both.1) ∙ put_before-map x xs (quoted ys))

-- what ends a text
quoted-quote : (rest out : List ℕ) → quoted (34 ∷ rest) ≡ Some out → out ≡ []
quoted-quote [] out h = cc
quoted-quote (c ∷ rest) out h = absurd (cc)

quoted-line_end : (rest out : List ℕ) → quoted (10 ∷ rest) ≡ Some out → ⊥
quoted-line_end [] out h = cc
quoted-line_end (c ∷ rest) out h = cc

-- an escape is of one ASCII byte, and stands for one
pub record IsEscape (c : ℕ) (byte : ℕ) : Type 0 where
  pub from : c < 128
  pub to : byte < 128

escapes : (c byte : ℕ) → unescaped c ≡ Some byte → IsEscape c byte
escapes c byte h = record { from = grind (arith, nat_tests); to = grind (arith, nat_tests) }

-- a text that begins with a byte, and what comes after it
pub record SplitsOff (b : Option ℕ) (rest : Option (List ℕ)) (out : List ℕ) : Type 0 where
  pub byte : ℕ
  pub more : List ℕ
  pub begins : b ≡ Some byte
  pub goes_on : rest ≡ Some more
  pub is : out ≡ byte ∷ more

splits : (b : Option ℕ) (rest : Option (List ℕ)) (out : List ℕ) → put_before b rest ≡ Some out → SplitsOff b rest out
splits None rest out h = absurd (cc)
splits (Some byte) None out h = absurd (cc)
splits (Some byte) (Some more) out h = record { byte = byte; more = more; begins = refl; goes_on = refl; is = cc }

-- what a text says is UTF-8, if the text is
Said : List ℕ → Type 0
Said cs = (out : List ℕ) → quoted (encodes cs) ≡ Some out → IsUtf8 out

said_low : (c : ℕ) (cs : List ℕ) → c < 128 → c ≢ 92 → Said cs → (out : List ℕ) → quoted (c ∷ encodes cs) ≡ Some out → IsUtf8 out
unfolding Said
said_low c cs low plain said out h =
    elim (cases_eq c 34) [
      | inl q ↦ let end = quoted-quote (encodes cs) out (rw q at h) in rw end IsUtf8-nil
      | inr q ↦ elim (cases_eq c 10) [
        | inl l ↦ absurd (quoted-line_end (encodes cs) out (rw l at h))
        | inr l ↦
            let s = splits (Some c) (quoted (encodes cs)) out (sym (quoted-plain c (encodes cs) q l plain) ∙ h) in
            rw s.is (IsUtf8-append (s.byte ∷ []) s.more (IsUtf8-one s.byte (let same : c ≡ s.byte = cc in omega arith)) (said s.more s.goes_on))
      ]
    ]

-- what a mapped option has
pub record Mapped (f : List ℕ → List ℕ) (o : Option (List ℕ)) (out : List ℕ) : Type 0 where
  pub from : List ℕ
  pub was : o ≡ Some from
  pub is : out ≡ f from

mapped : (f : List ℕ → List ℕ) (o : Option (List ℕ)) (out : List ℕ) → option_map f o ≡ Some out → Mapped f o out
mapped f None out h = absurd (cc)
mapped f (Some from) out h = record { from = from; was = refl; is = cc }

said_high : (c : ℕ) (cs : List ℕ) → 128 ≤ c → IsScalar c → Said cs → (out : List ℕ) → quoted (encode c ++ encodes cs) ≡ Some out → IsUtf8 out
unfolding Said
said_high c cs high scalar said out h =
    let m = mapped (λ more. encode c ++ more) (quoted (encodes cs)) out (sym (quoted-high (encode c) (encodes cs) (are_high-encode c high)) ∙ h) in
    rw m.is (IsUtf8-append (encode c) m.from (IsUtf8-encode c scalar) (said m.from m.was))

escape_high : (xs rest out : List ℕ) → are_high xs ≡ true → 0 < length xs → quoted (92 ∷ (xs ++ rest)) ≡ Some out → ⊥
escape_high [] rest out h n q = omega arith
escape_high (x ∷ xs) rest out h n q =
    let s = splits (unescaped x) (quoted (xs ++ rest)) out q in
    let low = (escapes x s.byte s.begins).from in
    let high = leb-true 128 x (and_parts _ _ h).0 in
    omega arith

said_escape_low : (d : ℕ) (ds : List ℕ) → Said ds → (out : List ℕ) → quoted (92 ∷ d ∷ encodes ds) ≡ Some out → IsUtf8 out
unfolding Said
said_escape_low d ds said out h =
    let s = splits (unescaped d) (quoted (encodes ds)) out h in
    rw s.is (IsUtf8-append (s.byte ∷ []) s.more (IsUtf8-one s.byte (escapes d s.byte s.begins).to) (said s.more s.goes_on))

said_escape : (d : ℕ) (ds : List ℕ) → Said ds → (out : List ℕ) → quoted (92 ∷ (encode d ++ encodes ds)) ≡ Some out → IsUtf8 out
said_escape d ds said out h =
    elim (cases_lt d 128) [
      | inl low ↦ said_escape_low d ds said out (rw (encode_ascii d low) at h)
      | inr high ↦ absurd (escape_high (encode d) (encodes ds) out (are_high-encode d high) (omega (arith, length-encode d, (len_utf8_bounds d).0)) h)
    ]

said_first : (c : ℕ) (cs : List ℕ) → c ≢ 92 → IsScalar c → Said cs → (out : List ℕ) → quoted (encode c ++ encodes cs) ≡ Some out → IsUtf8 out
said_first c cs plain scalar said out h =
    elim (cases_lt c 128) [
      | inl low ↦ said_low c cs low plain said out (rw (encode_ascii c low) at h)
      | inr high ↦ said_high c cs high scalar said out h
    ]

backslash : (rest out : List ℕ) (c : ℕ) → c ≡ 92 → quoted (encode c ++ rest) ≡ Some out → quoted (92 ∷ rest) ≡ Some out
backslash rest out c e h =
    let bytes : encode c ≡ 92 ∷ [] = encode_ascii c (omega arith) ∙ ap (λ (x : ℕ). x ∷ []) e in
    rw bytes at h

said : (cs : List ℕ) → scalars cs ≡ true → Said cs
unfolding Said
said [] s out h = absurd (cc)
said (c ∷ []) s out h =
    let parts = and_parts (scalar c) (scalars []) s in
    elim (cases_eq c 92) [
      | inl e ↦ let none = backslash [] out c e h in absurd (cc)
      | inr plain ↦ said_first c [] plain parts.0 (said [] parts.1) out h
    ]
said (c ∷ d ∷ ds) s out h =
    let first = and_parts (scalar c) (scalars (d ∷ ds)) s in
    let second = and_parts (scalar d) (scalars ds) first.1 in
    elim (cases_eq c 92) [
      | inl e ↦ said_escape d ds (said ds second.1) out (backslash (encodes (d ∷ ds)) out c e h)
      | inr plain ↦ said_first c (d ∷ ds) plain first.0 (said (d ∷ ds) first.1) out h
    ]

pub IsUtf8-quoted : (bytes out : List ℕ) → IsUtf8 bytes → quoted bytes ≡ Some out → IsUtf8 out
unfolding Said
IsUtf8-quoted bytes out text h = said text.0 text.1.0 out (rw text.1.1 h)

unquoted_tail : (b : ℕ) (bytes out : List ℕ) → IsUtf8 (b ∷ bytes) → unquoted (b ∷ bytes) ≡ Some out → IsUtf8 out
unquoted_tail b bytes out text h =
    elim (cases_eq b 34) [
      | inl e ↦
          let tail : IsUtf8 bytes = IsUtf8-drop (b ∷ bytes) 1 text (IsCharBoundary-after_ascii (b ∷ bytes) 0 text (omega arith) (omega arith)) in
          IsUtf8-quoted bytes out tail (rw e at h)
      | inr n ↦ let none = rw (ne_eqb b 34 n) at h in absurd (cc)
    ]

-- the text of a quoted text is a text
pub IsUtf8-unquoted : (bytes out : List ℕ) → IsUtf8 bytes → unquoted bytes ≡ Some out → IsUtf8 out
IsUtf8-unquoted [] out text h = absurd (cc)
IsUtf8-unquoted (b ∷ bytes) out text h = unquoted_tail b bytes out text h
