-- What equations are called.
use Rattle.std.proofs.Common.{◌≡◌, ℕ, zero, suc, ◌+◌, ◌<◌, ◌^◌, List, [], ◌∷◌, ◌++◌, length, map, take, get_or, Some, None, ap, sym, ◌∙◌, arith}
use Rattle.std.specs.Prelude.{codes, slice_get}
use Rattle.std.specs.Fmt.{decimal}
use Rattle.std.specs.Str.{IsUtf8, IsAscii}
use Rattle.std.proofs.Math.Seq.{take-suc}
use Rattle.std.proofs.lemmas.Fmt.{IsAscii-decimal}
use Rattle.std.proofs.lemmas.List.{map-append}
use Rattle.std.proofs.lemmas.Option.{slice_get-get_or, slice_get_within, get_or_from_slice_get}
use Rattle.std.proofs.lemmas.Str.{IsUtf8-append, IsUtf8-from_ascii}

percent : IsAscii (codes "%")
percent zero = omega arith
percent (suc i) = omega arith

-- a number after `%` is text
pub number_text : (n : ℕ) → n < 2 ^ 64 → IsUtf8 (codes "%" ++ decimal n)
number_text n small =
    IsUtf8-append (codes "%") (decimal n) (IsUtf8-from_ascii (codes "%") percent) (IsUtf8-from_ascii (decimal n) (IsAscii-decimal n small))

-- one more is called by its name
pub names_more : (name_of : ℕ → List ℕ) (xs : List ℕ) (k i : ℕ) (names longer : List (List ℕ)) → names ≡ map name_of (take k xs) → Some i ≡ slice_get xs k → longer ≡ names ++ name_of i ∷ [] → longer ≡ map name_of (take (k + 1) xs)
names_more name_of xs k i names longer before at more =
    let there : k < length xs = slice_get_within xs k i (sym at) in
    let next : k + 1 ≡ suc k = omega arith in
    let item : get_or xs k i ≡ i = get_or_from_slice_get xs k i i (sym at) in
    more
    ∙ (ap (λ front. front ++ name_of i ∷ []) before
    ∙ (sym (map-append name_of (take k xs) (i ∷ []))
    ∙ ap (map name_of) (ap (λ x. take k xs ++ x ∷ []) (sym item) ∙ (sym (take-suc xs k i there) ∙ ap (λ n. take n xs) (sym next)))))

pub none_within : (xs : List ℕ) (k : ℕ) → k < length xs → None ≡ slice_get xs k → ⊥
none_within xs k there at = let e = at ∙ slice_get-get_or xs k 0 there in cc
