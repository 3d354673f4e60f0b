-- Scalars, entries and aggregates of a type, as formats.
use Rattle.std.proofs.Common.{◌≡◌, ℕ, ◌^◌, ◌<◌, ◌≤◌, Bool, true, List, ◌++◌, length, Option, Some, None, cond, inl, inr, refl, sym, ap, subst, ◌∙◌, append_assoc, arith, FitsSigned}
use Rattle.std.specs.Prelude.{IsTrue, ◌&&◌, nat_le}
use Rattle.std.specs.Int.{w64, cast_signed, cast_unsigned}
use Rattle.std.specs.Str.{IsUtf8, is_utf8}
use Rattle.std.proofs.lemmas.Bool.{and_from, and_left, and_parts, cases_Bool, false≢true, le-leb, leb-true}
use Rattle.std.proofs.lemmas.Int.{of_z-to_z}
use Rattle.std.proofs.Math.Facts as facts
use Rattle.std.proofs.lemmas.Str.{IsUtf8-from_is_utf8, is_utf8-from_IsUtf8}
use Rattle.tsl_value.specs.declared.limits.TheConstants.{MOST_TEXT_BYTES}
use Rattle.tsl_value.specs.declared.scalar.KeyType.{KeyType}
use Rattle.tsl_value.specs.declared.scalar.Scalar.{Scalar}
use Rattle.tsl_value.specs.declared.scalar.Scalar.TheVariants as scalar
use Rattle.tsl_value.specs.declared.scalar.ScalarType.{ScalarType}
use Rattle.tsl_value.specs.declared.scalar.ScalarType.TheVariants as scalar_type
use Rattle.tsl_value.specs.View.{is_of_scalar}
use Rattle.tsl_value.specs.inner.Laws.{IsInBounds}
use Rattle.run_state.specs.Spelling.{entry_bytes, number, scalar_bytes}
use Rattle.state_snapshot.specs.inner.Reading.{◌>>=◌, as_scalar, entry_at, flag_at, if_text, number_at, scalar_at, text_at}
use Rattle.state_snapshot.proofs.Formats.{IsBytes, IsFormat, Takes, Takes-then, bind_some, flag_format, number_format, passed_test, some_is, text_format}

-- what a scalar of a type is that can be spelled
abbrev pub FitsScalar : ScalarType → Scalar → Type 0
FitsScalar t s = IsTrue (is_of_scalar t s) × IsInBounds s

-- two's complement, both ways
signed_fits : (n : ℕ) → n < 2 ^ 64 → FitsSigned w64 (cast_signed w64 n)
signed_fits n lt = facts.sfits_to_z (record { fits = lt })

scalar_takes : (t : ScalarType) (bytes : List ℕ) (s : Scalar) (rest : List ℕ) → IsBytes bytes → scalar_at t bytes ≡ Some (s, rest) → Takes bytes (scalar_bytes s) rest × FitsScalar t s
unfolding scalar_at
scalar_takes scalar_type.Unit bytes s rest fits e =
    subst (λ (p : Scalar × List ℕ). Takes bytes (scalar_bytes p.0) p.1 × FitsScalar scalar_type.Unit p.0) (some_is (scalar.Unit, bytes) (s, rest) e)
    (record { parts = refl; rest_fits = fits }, (refl, tt))
scalar_takes scalar_type.Int bytes s rest fits e =
    let a = bind_some (number_at bytes) (λ n. Some (scalar.Int (cast_signed w64 n.0), n.1)) (s, rest) e in
    let t = number_format.takes bytes a.0.0 a.0.1 fits a.1 in
    subst (λ (p : Scalar × List ℕ). Takes bytes (scalar_bytes p.0) p.1 × FitsScalar scalar_type.Int p.0) (some_is (scalar.Int (cast_signed w64 a.0.0), a.0.1) (s, rest) a.2) (
      subst (λ (k : ℕ). Takes bytes (number k) a.0.1) (sym (of_z-to_z w64 a.0.0 t.1)) t.0,
      (refl, signed_fits a.0.0 t.1),
    )
scalar_takes scalar_type.Bool bytes s rest fits e =
    let a = bind_some (flag_at bytes) (λ b. Some (scalar.Bool b.0, b.1)) (s, rest) e in
    let t = flag_format.takes bytes a.0.0 a.0.1 fits a.1 in
    subst (λ (p : Scalar × List ℕ). Takes bytes (scalar_bytes p.0) p.1 × FitsScalar scalar_type.Bool p.0) (some_is (scalar.Bool a.0.0, a.0.1) (s, rest) a.2) (t.0, (refl, tt))
scalar_takes scalar_type.Text bytes s rest fits e =
    let a = bind_some (text_at bytes) if_text (s, rest) e in
    let t = text_format.takes bytes a.0.0 a.0.1 fits a.1 in
    let g = passed_test (is_utf8 a.0.0 && nat_le (length a.0.0) MOST_TEXT_BYTES) (scalar.Text a.0.0, a.0.1) (s, rest) a.2 in
    let both = and_parts (is_utf8 a.0.0) (nat_le (length a.0.0) MOST_TEXT_BYTES) g.0 in
    subst (λ (p : Scalar × List ℕ). Takes bytes (scalar_bytes p.0) p.1 × FitsScalar scalar_type.Text p.0) g.1
    (t.0, (refl, (IsUtf8-from_is_utf8 a.0.0 both.0, leb-true _ _ both.1)))

scalar_again : (t : ScalarType) (s : Scalar) (rest : List ℕ) → FitsScalar t s → scalar_at t (scalar_bytes s ++ rest) ≡ Some (s, rest)
unfolding scalar_at
scalar_again scalar_type.Unit scalar.Unit rest fits = refl
scalar_again scalar_type.Int (scalar.Int z) rest fits =
    let low : cast_unsigned w64 z < 2 ^ 64 = (facts.Fits-of_z fits.1).fits in
    rw (number_format.again (cast_unsigned w64 z) rest low) (ap (λ x. Some (scalar.Int x, rest)) (facts.to_z-of_z fits.1))
scalar_again scalar_type.Bool (scalar.Bool b) rest fits = rw (flag_format.again b rest tt) refl
scalar_again scalar_type.Text (scalar.Text bytes) rest fits =
    let utf8 : is_utf8 bytes ≡ true = is_utf8-from_IsUtf8 bytes fits.1.0 in
    let short : nat_le (length bytes) MOST_TEXT_BYTES ≡ true = le-leb _ _ fits.1.1 in
    let fits_64 : length bytes < 2 ^ 64 = omega (arith, fits.1.1) in
    rw (text_format.again bytes rest fits_64, utf8, short) refl
scalar_again scalar_type.Unit (scalar.Int z) rest fits = absurd (false≢true fits.0)
scalar_again scalar_type.Unit (scalar.Bool b) rest fits = absurd (false≢true fits.0)
scalar_again scalar_type.Unit (scalar.Text bytes) rest fits = absurd (false≢true fits.0)
scalar_again scalar_type.Int scalar.Unit rest fits = absurd (false≢true fits.0)
scalar_again scalar_type.Int (scalar.Bool b) rest fits = absurd (false≢true fits.0)
scalar_again scalar_type.Int (scalar.Text bytes) rest fits = absurd (false≢true fits.0)
scalar_again scalar_type.Bool scalar.Unit rest fits = absurd (false≢true fits.0)
scalar_again scalar_type.Bool (scalar.Int z) rest fits = absurd (false≢true fits.0)
scalar_again scalar_type.Bool (scalar.Text bytes) rest fits = absurd (false≢true fits.0)
scalar_again scalar_type.Text scalar.Unit rest fits = absurd (false≢true fits.0)
scalar_again scalar_type.Text (scalar.Int z) rest fits = absurd (false≢true fits.0)
scalar_again scalar_type.Text (scalar.Bool b) rest fits = absurd (false≢true fits.0)

pub scalar_format : (t : ScalarType) → IsFormat scalar_bytes (scalar_at t) (FitsScalar t)
scalar_format t = record { takes = scalar_takes t; again = scalar_again t }

-- ---- texts of bytes that were read

abbrev text_in : List ℕ → Option Scalar
text_in bytes = cond (is_utf8 bytes && nat_le (length bytes) MOST_TEXT_BYTES) (Some (scalar.Text bytes)) None

pub text_some : (bytes raw t : List ℕ) → raw ≡ bytes → IsUtf8 raw × (t ≡ raw) → length bytes ≤ MOST_TEXT_BYTES → text_in bytes ≡ Some (scalar.Text t)
text_some bytes raw t same is short =
    let utf8 = is_utf8-from_IsUtf8 bytes (subst IsUtf8 same is.0) in
    ap (λ b. cond b (Some (scalar.Text bytes)) None) (and_from (is_utf8 bytes) (nat_le (length bytes) MOST_TEXT_BYTES) utf8 (le-leb _ _ short))
    ∙ ap (λ x. Some (scalar.Text x)) (sym (is.1 ∙ same))

pub text_none : (bytes raw : List ℕ) → raw ≡ bytes → ¬ (IsUtf8 raw) → text_in bytes ≡ None
text_none bytes raw same not_utf8 = elim (cases_Bool (is_utf8 bytes)) [
  | inl is ↦ absurd (not_utf8 (subst IsUtf8 (sym same) (IsUtf8-from_is_utf8 bytes is)))
  | inr other ↦ ap (λ b. cond b (Some (scalar.Text bytes)) None) (and_left (is_utf8 bytes) (nat_le (length bytes) MOST_TEXT_BYTES) other)
]

-- ---- entries

abbrev pub FitsEntry : KeyType → ScalarType → Scalar × Scalar → Type 0
FitsEntry k t e = FitsScalar (as_scalar k) e.0 × FitsScalar t e.1

entry_takes : (k : KeyType) (t : ScalarType) (bytes : List ℕ) (x : Scalar × Scalar) (rest : List ℕ) → IsBytes bytes → entry_at k t bytes ≡ Some (x, rest) → Takes bytes (entry_bytes x) rest × FitsEntry k t x
unfolding entry_at
entry_takes k t bytes x rest fits e =
    let a = bind_some (scalar_at (as_scalar k) bytes) (λ key. scalar_at t key.1 >>= λ value. Some ((key.0, value.0), value.1)) (x, rest) e in
    let b = bind_some (scalar_at t a.0.1) (λ value. Some ((a.0.0, value.0), value.1)) (x, rest) a.2 in
    let key = scalar_takes (as_scalar k) bytes a.0.0 a.0.1 fits a.1 in
    let value = scalar_takes t a.0.1 b.0.0 b.0.1 key.0.rest_fits b.1 in
    subst (λ (p : (Scalar × Scalar) × List ℕ). Takes bytes (entry_bytes p.0) p.1 × FitsEntry k t p.0) (some_is ((a.0.0, b.0.0), b.0.1) (x, rest) b.2)
    (Takes-then bytes (scalar_bytes a.0.0) a.0.1 (scalar_bytes b.0.0) b.0.1 key.0 value.0, (key.1, value.1))

entry_again : (k : KeyType) (t : ScalarType) (x : Scalar × Scalar) (rest : List ℕ) → FitsEntry k t x → entry_at k t (entry_bytes x ++ rest) ≡ Some (x, rest)
unfolding entry_at
entry_again k t x rest fits =
    ap (entry_at k t) (append_assoc (scalar_bytes x.0) (scalar_bytes x.1) rest)
    ∙ rw (scalar_again (as_scalar k) x.0 (scalar_bytes x.1 ++ rest) fits.0, scalar_again t x.1 rest fits.1) refl

pub entry_format : (k : KeyType) (t : ScalarType) → IsFormat entry_bytes (entry_at k t) (FitsEntry k t)
entry_format k t = record { takes = entry_takes k t; again = entry_again k t }
