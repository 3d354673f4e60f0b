-- What `parse` answers for digits.
use Rattle.std.proofs.Common.{◌≡◌, ◌<◌, ◌^◌, ℕ, true, List, Err}
use Rattle.std.specs.Str.Parse.{ParsesUnsigned, digits_value}
use Rattle.std.proofs.lemmas.Str.Parse.{parse_digits}
use Rattle.tsl_value.specs.Literal.{are_digits}
use Rattle.tsl_value.proofs.Digits.{are_digits-parts, own}

pub not_refused : {E : Type 0} (digits : List ℕ) (e : E) → are_digits digits ≡ true → ParsesUnsigned 64 10 digits (Err e) → digits_value 10 digits < 2 ^ 64 → ⊥
not_refused digits e h parses small =
    let parts = are_digits-parts digits h in
    parse_digits own 64 digits (Err e) parses parts.1 (parts.0, small)
