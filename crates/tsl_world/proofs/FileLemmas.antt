-- Files by their names and by their places.
use Rattle.std.proofs.Common.{◌≡◌, ◌≤◌, inl, inr, ℕ, true, false, Bool, List, length, Some, None, cond, is_some, slice_get, unwrap_or, nat_eq, nat_lt, refl, sym, ◌∙◌, ap, arith}
use Rattle.std.specs.Cmp.Lexicographic.{pointwise}
use Rattle.std.specs.List.{find, position, position_or_len}
use Rattle.std.proofs.lemmas.Bool.{ltb-false, lt-ltb, le-ltb}
use Rattle.std.proofs.lemmas.List.Folds.{find_at}
use Rattle.std.proofs.lemmas.List.Sums.{prefix_len-le-length}
use Rattle.std.proofs.lemmas.Option.{slice_get_cases}
use Rattle.tsl_world.specs.declared.files.NamedFile.{NamedFile}
use Rattle.tsl_world.specs.inner.Files.{bytes_or_none, file_named, place_named, bytes_named, bytes_at}

is_some-cond : (inside : Bool) (place : ℕ) → is_some (cond inside (Some place) None) ≡ inside
is_some-cond true place = refl
is_some-cond false place = refl

unwrap_or-cond : (inside : Bool) (place end : ℕ) → (inside ≡ false → place ≡ end) → unwrap_or (cond inside (Some place) None) end ≡ place
unwrap_or-cond true place end past = refl
unwrap_or-cond false place end past = sym (past refl)

-- a place where nothing is found is the end
place_past : {X : Type 0} (p : X → Bool) (xs : List X) → nat_lt (position_or_len p xs) (length xs) ≡ false → position_or_len p xs ≡ length xs
place_past p xs past =
    let low : length xs ≤ position_or_len p xs = ltb-false _ _ past in
    let high : position_or_len p xs ≤ length xs = prefix_len-le-length _ xs in
    omega arith

at_place : {X : Type 0} (p : X → Bool) (xs : List X) → slice_get xs (unwrap_or (position p xs) (length xs)) ≡ find p xs
at_place p xs = ap (λ (i : ℕ). slice_get xs i) (unwrap_or-cond _ _ _ (place_past p xs)) ∙ sym (find_at p xs)

is_some-at : {X : Type 0} (xs : List X) (i : ℕ) → nat_lt i (length xs) ≡ is_some (slice_get xs i)
is_some-at xs i = elim (slice_get_cases xs i).1 [
  | inl (x, inside, is, at) ↦ let test : nat_lt i (length xs) ≡ true = lt-ltb _ _ inside in test ∙ sym (ap is_some is)
  | inr (past, is) ↦ le-ltb _ _ past ∙ sym (ap is_some is)
]

is_some-position : {X : Type 0} (p : X → Bool) (xs : List X) → is_some (position p xs) ≡ is_some (find p xs)
is_some-position p xs = is_some-cond _ _ ∙ is_some-at xs _ ∙ sym (ap is_some (find_at p xs))

-- what is opened at the place of a name are the bytes of the first file of that name
pub bytes_found : (files : List NamedFile) (name : List ℕ) → bytes_at files (unwrap_or (place_named files name) (length files)) ≡ bytes_named files name
bytes_found files name = ap bytes_or_none (at_place (λ file. pointwise nat_eq file.name name) files)

-- a name has a place where it has a file
pub has_place : (files : List NamedFile) (name : List ℕ) → is_some (place_named files name) ≡ is_some (file_named files name)
has_place files name = is_some-position (λ file. pointwise nat_eq file.name name) files
