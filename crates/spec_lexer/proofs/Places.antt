-- Places after characters of one line.
use Rattle.std.proofs.Common.{◌≡◌, ℕ, ◌+◌, Bool, true, false, List, [], ◌∷◌, ◌++◌, length, refl, ap, ◌∙◌, arith}
use Rattle.std.specs.List.{list_all}
use Rattle.std.specs.Prelude.{◌==◌, not, if◌then◌else◌}
use Rattle.tsl_value.specs.declared.place.Place.{Place}
use Rattle.spec_lexer.specs.Spelling.{is_within_line}
use Rattle.spec_lexer.specs.Pieces.{place_past, place_after}
use Rattle.std.proofs.lemmas.Bool.{and_parts}

fails_of_not : (b : Bool) → not b ≡ true → b ≡ false
fails_of_not true h = cc
fails_of_not false h = refl

pub place_after-within : (at : Place) (front : List ℕ) → list_all is_within_line front ≡ true → place_after at front ≡ record { line = at.line; column = at.column + length front }
place_after-within at [] h = let same : at.column ≡ at.column + 0 = omega arith in λ i. record { line = at.line; column = same i }
place_after-within at (c ∷ cs) h =
    let parts = and_parts (is_within_line c) (list_all is_within_line cs) h in
    let stays : place_past at c ≡ record { line = at.line; column = at.column + 1 } = ap (λ b. if b then (let p : Place = record { line = at.line + 1; column = 1 } in p) else record { line = at.line; column = at.column + 1 }) (fails_of_not (c == 10) parts.0) in
    let moved : (at.column + 1) + length cs ≡ at.column + length (c ∷ cs) = omega arith in
    ap (λ p. place_after p cs) stays
    ∙ place_after-within (record { line = at.line; column = at.column + 1 }) cs parts.1
    ∙ (λ i. record { line = at.line; column = moved i })

pub place_after-append : (at : Place) (front rest : List ℕ) → place_after at (front ++ rest) ≡ place_after (place_after at front) rest
place_after-append at [] rest = refl
place_after-append at (c ∷ cs) rest = place_after-append (place_past at c) cs rest
