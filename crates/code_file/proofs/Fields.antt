-- Numbers, names, lists and types that were spelled are read again.
use Rattle.std.proofs.Common.{◌≡◌, ℕ, suc, ◌^◌, ◌<◌, true, false, ltb, eqb, List, [], ◌∷◌, ◌++◌, map, length, Option, Some, None, refl, ap, ◌∙◌, append_assoc, arith, inl, inr}
use Rattle.std.specs.Prelude.{IfSome, nat_le}
use Rattle.std.specs.Int.{w64, to_be_bytes}
use Rattle.std.specs.List.{AllByRecursion, flat_map}
use Rattle.std.proofs.lemmas.Bool.{cases_Bool, eqb-true, le-leb, le-ltb}
use Rattle.std.proofs.lemmas.List.{drop_at, length-append, take_at}
use Rattle.std.proofs.lemmas.List.Concat.{flat_map-cons}
use Rattle.std.proofs.lemmas.Nat.{from_be_bytes-to_be_bytes_4, from_be_bytes-to_be_bytes_8}
use Rattle.tsl_value.specs.declared.scalar.KeyType.{KeyType}
use Rattle.tsl_value.specs.declared.scalar.KeyType.TheVariants as key_type
use Rattle.tsl_value.specs.declared.scalar.ScalarType.{ScalarType}
use Rattle.tsl_value.specs.declared.scalar.ScalarType.TheVariants as scalar_type
use Rattle.tsl_value.specs.declared.scalar.ValueType.{ValueType}
use Rattle.tsl_value.specs.declared.scalar.ValueType.TheVariants as value_type
use Rattle.spec_lexer.specs.declared.limits.TheConstants.{MOST_NAME_BYTES}
use Rattle.trace_reader.specs.Form.{is_name}
use Rattle.trace_reader.proofs.NameLemmas.{name_read, name_some}
use Rattle.code_file.specs.Form.{IsName}
use Rattle.code_file.specs.Spelling.{key_place, list_bytes, name_bytes, number, optional_name, scalar_place, type_bytes}
use Rattle.code_file.specs.inner.Reading.{Read, bytes_at, items_at, key_type_of, list_at, name_at, named_at, number_at, optional_name_at, scalar_type_of, type_at, wide_at}

-- what reading gives
abbrev pub got : {A : Type 0} → A → List ℕ → Read A
got x rest = Some (x, rest)

-- ---- bytes and numbers

pub bytes_again : (front rest : List ℕ) → bytes_at (length front) (front ++ rest) ≡ Some (front, rest)
bytes_again front rest =
    let long : ltb (length (front ++ rest)) (length front) ≡ false = le-ltb _ _ (omega (arith, length-append front rest)) in
    rw (long, take_at front rest (length front) refl, drop_at front rest (length front) refl) refl

pub number_again : (n : ℕ) (rest : List ℕ) → n < 2 ^ 32 → number_at (number n ++ rest) ≡ Some (n, rest)
number_again n rest lt =
    let four : length (number n) ≡ 4 = refl in
    let long : ltb (length (number n ++ rest)) 4 ≡ false = le-ltb _ _ (omega (arith, length-append (number n) rest, four)) in
    rw long (ap (λ (m : ℕ). got m rest) (from_be_bytes-to_be_bytes_4 n lt))

pub wide_again : (n : ℕ) (rest : List ℕ) → n < 2 ^ 64 → wide_at (to_be_bytes w64 n ++ rest) ≡ Some (n, rest)
wide_again n rest lt =
    let eight : length (to_be_bytes w64 n) ≡ 8 = refl in
    let long : ltb (length (to_be_bytes w64 n ++ rest)) 8 ≡ false = le-ltb _ _ (omega (arith, length-append (to_be_bytes w64 n) rest, eight)) in
    rw long (ap (λ (m : ℕ). got m rest) (from_be_bytes-to_be_bytes_8 n lt))

-- ---- names

named_again : (name rest : List ℕ) → IsName name → named_at (length name) (name ++ rest) ≡ Some (name, rest)
named_again name rest is =
    let named : is_name name ≡ true = name_read name is.0 in
    let short : nat_le (length name) MOST_NAME_BYTES ≡ true = le-leb _ _ is.1 in
    rw (bytes_again name rest, named, short) refl

pub name_again : (name rest : List ℕ) → IsName name → name_at (name_bytes name ++ rest) ≡ Some (name, rest)
unfolding name_at
name_again name rest is =
    let short = is.1 in
    ap name_at (append_assoc (number (length name)) name rest) ∙ rw (number_again (length name) (name ++ rest) (omega (arith, short)), named_again name rest is) refl

pub optional_name_again : (name : Option (List ℕ)) (rest : List ℕ) → IfSome name IsName → optional_name_at (optional_name name ++ rest) ≡ Some (name, rest)
unfolding optional_name_at
optional_name_again None rest is = rw (number_again 0 rest (omega arith)) refl
optional_name_again (Some name) rest is =
    let short = is.1 in
    let some : eqb (length name) 0 ≡ false = some_length (length name) (name_some name is.0) in
    ap optional_name_at (append_assoc (number (length name)) name rest)
    ∙ rw (number_again (length name) (name ++ rest) (omega (arith, short)), some, named_again name rest is) refl
  where
    some_length : (n : ℕ) → 0 < n → eqb n 0 ≡ false
    some_length n lt = elim (cases_Bool (eqb n 0)) [
      | inl none ↦ let is = eqb-true n 0 none in absurd (omega arith)
      | inr some ↦ some
    ]

-- ---- items one after the other

module _ {X A : Type 0} (spell : X → List ℕ) (seen : X → A) (read : List ℕ → Read A) where
  abbrev pub IsAgain : X → Type 0
  IsAgain x = (rest : List ℕ) → read (spell x ++ rest) ≡ Some (seen x, rest)

  pub items_again : (xs : List X) (rest : List ℕ) → AllByRecursion IsAgain xs → items_at read (length xs) (flat_map spell xs ++ rest) ≡ Some (map seen xs, rest)
  unfolding items_at
  items_again [] rest each = refl
  items_again (x ∷ xs) rest each =
      let regrouped : flat_map spell (x ∷ xs) ++ rest ≡ spell x ++ (flat_map spell xs ++ rest) = ap (λ (t : List ℕ). t ++ rest) (flat_map-cons spell x xs) ∙ append_assoc (spell x) (flat_map spell xs) rest in
      ap (items_at read (suc (length xs))) regrouped ∙ rw (each.0 (flat_map spell xs ++ rest), items_again xs rest each.1) refl

numbers_again : (ns : List ℕ) → AllByRecursion (λ n. n < 2 ^ 32) ns → AllByRecursion (IsAgain number (λ n. n) number_at) ns
numbers_again [] low = tt
numbers_again (n ∷ ns) low = (λ rest. number_again n rest low.0, numbers_again ns low.1)

same_map : (ns : List ℕ) → map (λ n. n) ns ≡ ns
same_map [] = refl
same_map (n ∷ ns) = ap (λ more. n ∷ more) (same_map ns)

pub list_again : (ns rest : List ℕ) → length ns < 2 ^ 32 → AllByRecursion (λ n. n < 2 ^ 32) ns → list_at (list_bytes ns ++ rest) ≡ Some (ns, rest)
unfolding list_at
list_again ns rest few low =
    ap list_at (append_assoc (number (length ns)) (flat_map number ns) rest)
    ∙ rw (number_again (length ns) (flat_map number ns ++ rest) few, items_again number (λ n. n) number_at ns rest (numbers_again ns low), same_map ns) refl

-- ---- types

pub scalar_type_again : (t : ScalarType) → scalar_type_of (scalar_place t) ≡ Some t
unfolding scalar_type_of
scalar_type_again scalar_type.Unit = refl
scalar_type_again t = refl

key_type_again : (k : KeyType) → key_type_of (key_place k) ≡ Some k
unfolding key_type_of
key_type_again key_type.Int = refl
key_type_again k = refl

pub type_again : (t : ValueType) (rest : List ℕ) → type_at (type_bytes t ++ rest) ≡ Some (t, rest)
unfolding type_at scalar_type_of
type_again (value_type.Scalar scalar_type.Unit) rest = refl
type_again (value_type.Scalar scalar_type.Int) rest = refl
type_again (value_type.Scalar scalar_type.Bool) rest = refl
type_again (value_type.Scalar scalar_type.Text) rest = refl
type_again (value_type.Set k) rest = rw (key_type_again k) refl
type_again (value_type.Map k t) rest = rw (key_type_again k, scalar_type_again t) refl
type_again (value_type.Queue t) rest = rw (scalar_type_again t) refl
