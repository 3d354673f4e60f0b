-- Where a byte stands first.
use Rattle.std.proofs.Common.{◌≡◌, ◌==◌, ◌≤◌, ◌<◌, ℕ, suc, ◌+◌, ◌-◌, Bool, true, false, not, List, [], ◌∷◌, length, take, drop, nat_lt, Option, Some, None, refl, sym, ap, ◌∙◌, arith, length-drop}
use Rattle.std.proofs.lemmas.Bool.{lt-ltb}
use Rattle.std.proofs.lemmas.List.{take_all}
use Rattle.std.specs.Prelude.{if◌then◌else◌, position}
use Rattle.std.specs.List.{prefix_len}
use Rattle.std.specs.Option.{option_map}
use Rattle.std.proofs.lemmas.Option.{same_Some}
use Rattle.trace_reader.specs.Form.{put_first, split_once}

-- the bytes before a place and those after it, where it is within them
abbrev at_place : Bool → ℕ → List ℕ → Option (List ℕ × List ℕ)
at_place true n bytes = Some (take n bytes, drop (n + 1) bytes)
at_place false n bytes = None

place_put : (within : Bool) (b n : ℕ) (bytes : List ℕ) → option_map (put_first b) (at_place within n bytes) ≡ at_place within (suc n) (b ∷ bytes)
place_put true b n bytes = let same : suc (n + 1) ≡ suc n + 1 = omega arith in ap (λ m. Some (b ∷ take n bytes, drop m (b ∷ bytes))) same
place_put false b n bytes = refl

suc_within : (n m : ℕ) → nat_lt n m ≡ nat_lt (suc n) (suc m)
suc_within n m = grind arith

split_step : (mark b : ℕ) (bytes : List ℕ) (is_mark : Bool) → split_once mark bytes ≡ at_place (nat_lt (prefix_len (λ x. not (x == mark)) bytes) (length bytes)) (prefix_len (λ x. not (x == mark)) bytes) bytes →
    (if is_mark then Some ([], bytes) else option_map (put_first b) (split_once mark bytes))
    ≡ at_place (nat_lt (if not is_mark then 1 + prefix_len (λ x. not (x == mark)) bytes else 0) (length (b ∷ bytes))) (if not is_mark then 1 + prefix_len (λ x. not (x == mark)) bytes else 0) (b ∷ bytes)
split_step mark b bytes true ih = let within : 0 < length (b ∷ bytes) = omega arith in ap (λ w. at_place w 0 (b ∷ bytes)) (sym (lt-ltb 0 (length (b ∷ bytes)) within))
split_step mark b bytes false ih =
    let n = prefix_len (λ x. not (x == mark)) bytes in
    ap (option_map (put_first b)) ih ∙ place_put (nat_lt n (length bytes)) b n bytes ∙ ap (λ w. at_place w (suc n) (b ∷ bytes)) (suc_within n (length bytes))
    ∙ (let same : suc n ≡ 1 + n = omega arith in ap (λ m. at_place (nat_lt m (length (b ∷ bytes))) m (b ∷ bytes)) same)

split_place : (mark : ℕ) (bytes : List ℕ) → split_once mark bytes ≡ at_place (nat_lt (prefix_len (λ x. not (x == mark)) bytes) (length bytes)) (prefix_len (λ x. not (x == mark)) bytes) bytes
split_place mark [] = refl
split_place mark (b ∷ bytes) = split_step mark b bytes (b == mark) (split_place mark bytes)

at_some : (within : Bool) (n at : ℕ) (bytes : List ℕ) → Some at ≡ (if within then Some n else None) → at_place within n bytes ≡ Some (take at bytes, drop (at + 1) bytes)
at_some true n at bytes is = let same = same_Some at n is in ap (λ m. Some (take m bytes, drop (m + 1) bytes)) (sym same)
at_some false n at bytes is = absurd (cc)

at_none : (within : Bool) (n : ℕ) (bytes : List ℕ) → None ≡ (if within then Some n else None) → at_place within n bytes ≡ None
at_none true n bytes is = absurd (cc)
at_none false n bytes is = refl

pub split_once-some : (mark at : ℕ) (bytes : List ℕ) → Some at ≡ position (λ b. b == mark) bytes → split_once mark bytes ≡ Some (take at bytes, drop (at + 1) bytes)
split_once-some mark at bytes is = split_place mark bytes ∙ at_some _ _ at bytes is

pub split_once-none : (mark : ℕ) (bytes : List ℕ) → None ≡ position (λ b. b == mark) bytes → split_once mark bytes ≡ None
split_once-none mark bytes is = split_place mark bytes ∙ at_none _ _ bytes is

-- what stands after a place, taken whole
pub rest_is : (n : ℕ) (bytes : List ℕ) → take (length bytes - n) (drop n bytes) ≡ drop n bytes
rest_is n bytes = let within : length (drop n bytes) ≤ length bytes - n = omega (arith, length-drop n bytes) in take_all (length bytes - n) (drop n bytes) within
