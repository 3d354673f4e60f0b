-- UTF-8, byte by byte.
use Rattle.std.proofs.Common.{◌≡◌, ℕ, ◌<◌, ◌≤◌, Bool, true, false, nat_le, List, [], ◌∷◌, subst, arith}
use Rattle.std.specs.List.{list_all}
use Rattle.std.specs.Str.{IsUtf8, is_utf8}
use Rattle.std.proofs.Math.Utf8.{encode}
use Rattle.std.proofs.lemmas.Bool.{false_from_ne_true}
use Rattle.std.proofs.lemmas.Bool.Decides.{nat_tests}
use Rattle.std.proofs.lemmas.Str.{IsUtf8-from_is_utf8, IsUtf8-encode, encode_ascii}
use lib.Utf8.{low_scalar}

pub IsUtf8-one : (b : ℕ) → b < 128 → IsUtf8 (b ∷ [])
IsUtf8-one b low = subst IsUtf8 (encode_ascii b low) (IsUtf8-encode b (low_scalar b (omega arith)))

pub is_utf8-not : (bytes : List ℕ) → ¬ (IsUtf8 bytes) → is_utf8 bytes ≡ false
is_utf8-not bytes none = false_from_ne_true _ (λ e. none (IsUtf8-from_is_utf8 bytes e))

-- each byte of a character that is not ASCII is at least 128
abbrev pub are_high : List ℕ → Bool
are_high bytes = list_all (λ b. nat_le 128 b) bytes

pub are_high-encode : (c : ℕ) → 128 ≤ c → are_high (encode c) ≡ true
unfolding encode
are_high-encode c high = grind (arith, nat_tests)
