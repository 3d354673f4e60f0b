-- Registers with the types of the cells that they name, as a format.
use Rattle.std.proofs.Common.{◌≡◌, ◌==◌, ◌⊎◌, ℕ, zero, suc, ◌+◌, ◌<◌, ◌^◌, Bool, true, cond, List, [], ◌∷◌, ◌++◌, length, Option, Some, None, refl, sym, ap, subst, ◌∙◌, append_assoc, inl, inr, arith}
use Rattle.std.specs.Prelude.{IsTrue, slice_get}
use Rattle.std.specs.List.{AllZip, flat_map, range_with_len}
use Rattle.std.proofs.lemmas.Bool.{and_from, and_parts, cases_Bool, eqb-true}
use Rattle.std.proofs.lemmas.List.{length_push}
use Rattle.std.proofs.lemmas.Option.{slice_get_within}
use Rattle.tsl_value.specs.Aggregate.{is_aggregate}
use Rattle.tsl_value.specs.declared.scalar.KeyType.{KeyType}
use Rattle.tsl_value.specs.declared.scalar.KeyType.TheVariants as key_type
use Rattle.tsl_value.specs.declared.scalar.Scalar.{Scalar}
use Rattle.tsl_value.specs.declared.scalar.ScalarType.{ScalarType}
use Rattle.tsl_value.specs.declared.scalar.ScalarType.TheVariants as scalar_type
use Rattle.tsl_value.specs.declared.scalar.ValueType.{ValueType}
use Rattle.tsl_value.specs.declared.scalar.ValueType.TheVariants as value_type
use Rattle.monitor_state.specs.declared.state.SavedRegister.{SavedRegister}
use Rattle.monitor_state.specs.declared.state.SavedRegister.TheVariants as saved
use Rattle.monitor_state.specs.Fits.{named_by}
use Rattle.run_state.specs.Spelling.{number, register_bytes, scalar_bytes}
use Rattle.state_snapshot.specs.inner.Reading.{◌>>=◌, bare_at, cell_at, is_key_type, is_scalar_type, is_type, named, named_before, number_at, register_at, registers_at, scalar_at}
use Rattle.state_snapshot.proofs.Formats.{IsBytes, IsBytes-rest, Takes, Takes-then, bind_some, number_format, passed_first, passed_test, some_is}
use Rattle.state_snapshot.proofs.Scalars.{FitsScalar, scalar_format}
use Rattle.state_snapshot.proofs.Numbered.{new_from, new_next, new_same}

-- ---- types that are one

scalar_is : (a b : ScalarType) → is_scalar_type a b ≡ true → a ≡ b
scalar_is scalar_type.Unit scalar_type.Unit e = refl
scalar_is scalar_type.Int scalar_type.Int e = refl
scalar_is scalar_type.Bool scalar_type.Bool e = refl
scalar_is scalar_type.Text scalar_type.Text e = refl
scalar_is a b e = absurd cc

key_is : (a b : KeyType) → is_key_type a b ≡ true → a ≡ b
key_is key_type.Int key_type.Int e = refl
key_is key_type.Bool key_type.Bool e = refl
key_is key_type.Text key_type.Text e = refl
key_is a b e = absurd cc

pub type_is : (a b : ValueType) → is_type a b ≡ true → a ≡ b
type_is (value_type.Scalar a) (value_type.Scalar b) e = ap value_type.Scalar (scalar_is a b e)
type_is (value_type.Set a) (value_type.Set b) e = ap value_type.Set (key_is a b e)
type_is (value_type.Map a x) (value_type.Map b y) e =
    let both = and_parts (is_key_type a b) (is_scalar_type x y) e in
    ap (λ k. value_type.Map k x) (key_is a b both.0) ∙ ap (value_type.Map b) (scalar_is x y both.1)
type_is (value_type.Queue a) (value_type.Queue b) e = ap value_type.Queue (scalar_is a b e)
type_is a b e = absurd cc

scalar_same : (a : ScalarType) → is_scalar_type a a ≡ true
scalar_same scalar_type.Unit = refl
scalar_same scalar_type.Int = refl
scalar_same scalar_type.Bool = refl
scalar_same scalar_type.Text = refl

key_same : (a : KeyType) → is_key_type a a ≡ true
key_same key_type.Int = refl
key_same key_type.Bool = refl
key_same key_type.Text = refl

pub type_same : (a : ValueType) → is_type a a ≡ true
type_same (value_type.Scalar a) = scalar_same a
type_same (value_type.Set a) = key_same a
type_same (value_type.Map a x) = and_from (is_key_type a a) (is_scalar_type x x) (key_same a) (scalar_same x)
type_same (value_type.Queue a) = scalar_same a

-- ---- what is read

-- an equation of this type may hold the scalar
abbrev pub FitsBare : ValueType → Scalar → Type 0
FitsBare (value_type.Scalar t) s = FitsScalar t s
FitsBare of s = ⊥

-- a register of an equation of this type, where cells of these types were named before it, and after it cells of those
abbrev pub FitsSaved : List ValueType → ValueType → SavedRegister → List ValueType → Type 0
FitsSaved types of saved.Empty after = after ≡ types
FitsSaved types of (saved.Scalar s) after = (after ≡ types) × FitsBare of s
FitsSaved types of (saved.Cell k) after = IsTrue (is_aggregate of) × (k < 2 ^ 64) × (named types of k ≡ Some (saved.Cell k, after))

abbrev pub AreSaved : List ValueType → List ValueType → List SavedRegister → List ValueType → Type 0
AreSaved types [] [] after = after ≡ types
AreSaved types [] (r ∷ rs) after = ⊥
AreSaved types (of ∷ kept) [] after = ⊥
AreSaved types (of ∷ kept) (r ∷ rs) after = (next : List ValueType) × FitsSaved types of r next × AreSaved next kept rs after

one_more : (b : ℕ) (bytes x rest : List ℕ) → Takes bytes x rest → Takes (b ∷ bytes) (b ∷ x) rest
one_more b bytes x rest taken = record { parts = ap (λ (t : List ℕ). b ∷ t) taken.parts; rest_fits = taken.rest_fits }

bare_takes : (of : ValueType) (bytes : List ℕ) (r : SavedRegister) (rest : List ℕ) → IsBytes bytes → bare_at of bytes ≡ Some (r, rest) → (s : Scalar) × (saved.Scalar s ≡ r) × Takes bytes (scalar_bytes s) rest × FitsBare of s
unfolding bare_at
bare_takes (value_type.Scalar t) bytes r rest fits e =
    let a = bind_some (scalar_at t bytes) (λ v. Some (saved.Scalar v.0, v.1)) (r, rest) e in
    let first = (scalar_format t).takes bytes a.0.0 a.0.1 fits a.1 in
    let same = some_is (saved.Scalar a.0.0, a.0.1) (r, rest) a.2 in
    (a.0.0, ap (λ p. p.0) same, subst (λ (l : List ℕ). Takes bytes (scalar_bytes a.0.0) l) (ap (λ p. p.1) same) first.0, first.1)
bare_takes (value_type.Set k) bytes r rest fits e = absurd cc
bare_takes (value_type.Map k t) bytes r rest fits e = absurd cc
bare_takes (value_type.Queue t) bytes r rest fits e = absurd cc

named_before_is : (types : List ValueType) (of : ValueType) (k : ℕ) (o : Option ValueType) (p : SavedRegister × List ValueType) → named_before types of k o ≡ Some p → (saved.Cell k ≡ p.0) × (o ≡ Some of) × (p.1 ≡ types)
named_before_is types of k None p e = absurd cc
named_before_is types of k (Some other) p e =
    let g = passed_test (is_type of other) (saved.Cell k, types) p e in
    (ap (λ q. q.0) g.1, ap Some (sym (type_is of other g.0)), sym (ap (λ q. q.1) g.1))

-- a number names the next cell, or one of before
pub named_is : (types : List ValueType) (of : ValueType) (k : ℕ) (p : SavedRegister × List ValueType) → named types of k ≡ Some p
    → (saved.Cell k ≡ p.0) × (((k ≡ length types) × (p.1 ≡ types ++ of ∷ [])) ⊎ ((k < length types) × (slice_get types k ≡ Some of) × (p.1 ≡ types)))
named_is types of k p e = elim (cases_Bool (k == length types)) [
  | inl last ↦
      let is : Some (saved.Cell k, types ++ of ∷ []) ≡ Some p = sym (ap (λ b. cond b (Some (saved.Cell k, types ++ of ∷ [])) (named_before types of k (slice_get types k))) last) ∙ e in
      let same = some_is (saved.Cell k, types ++ of ∷ []) p is in
      (ap (λ q. q.0) same, inl (eqb-true k (length types) last, sym (ap (λ q. q.1) same)))
  | inr before ↦
      let is = named_before_is types of k (slice_get types k) p (sym (ap (λ b. cond b (Some (saved.Cell k, types ++ of ∷ [])) (named_before types of k (slice_get types k))) before) ∙ e) in
      (is.0, inr (slice_get_within types k of is.1, is.1, is.2))
]

cell_takes : (types : List ValueType) (of : ValueType) (bytes : List ℕ) (r : SavedRegister) (after : List ValueType) (rest : List ℕ) → IsBytes bytes → cell_at types of bytes ≡ Some ((r, after), rest)
    → (k : ℕ) × (saved.Cell k ≡ r) × Takes bytes (number k) rest × FitsSaved types of (saved.Cell k) after
unfolding cell_at
cell_takes types of bytes r after rest fits e =
    let g = passed_first (is_aggregate of) (number_at bytes >>= λ k. named types of k.0 >>= λ q. Some (q, k.1)) ((r, after), rest) e in
    let a = bind_some (number_at bytes) (λ k. named types of k.0 >>= λ q. Some (q, k.1)) ((r, after), rest) g.1 in
    let b = bind_some (named types of a.0.0) (λ q. Some (q, a.0.1)) ((r, after), rest) a.2 in
    let first = number_format.takes bytes a.0.0 a.0.1 fits a.1 in
    let same = some_is (b.0, a.0.1) ((r, after), rest) b.2 in
    let is = (named_is types of a.0.0 b.0 b.1).0 in
    let register : saved.Cell a.0.0 ≡ r = is ∙ ap (λ p. p.0.0) same in
    let pair : b.0 ≡ (saved.Cell a.0.0, after) = λ i. (sym is i, ap (λ p. p.0.1) same i) in
    (a.0.0, register, subst (λ (l : List ℕ). Takes bytes (number a.0.0) l) (ap (λ p. p.1) same) first.0, (g.0, first.1, b.1 ∙ ap Some pair))

register_takes : (types : List ValueType) (of : ValueType) (bytes : List ℕ) (r : SavedRegister) (after : List ValueType) (rest : List ℕ) → IsBytes bytes → register_at types of bytes ≡ Some ((r, after), rest)
    → Takes bytes (register_bytes r) rest × FitsSaved types of r after
unfolding register_at
register_takes types of [] r after rest fits e = absurd cc
register_takes types of (zero ∷ bytes) r after rest fits e =
    subst (λ (p : (SavedRegister × List ValueType) × List ℕ). Takes (0 ∷ bytes) (register_bytes p.0.0) p.1 × FitsSaved types of p.0.0 p.0.1) (some_is ((saved.Empty, types), bytes) ((r, after), rest) e)
    (record { parts = refl; rest_fits = IsBytes-rest 0 bytes fits }, refl)
register_takes types of (suc zero ∷ bytes) r after rest fits e =
    let a = bind_some (bare_at of bytes) (λ q. Some ((q.0, types), q.1)) ((r, after), rest) e in
    let same = some_is ((a.0.0, types), a.0.1) ((r, after), rest) a.2 in
    let first = bare_takes of bytes a.0.0 a.0.1 (IsBytes-rest 1 bytes fits) a.1 in
    subst (λ (p : (SavedRegister × List ValueType) × List ℕ). Takes (1 ∷ bytes) (register_bytes p.0.0) p.1 × FitsSaved types of p.0.0 p.0.1) same
    (subst (λ (q : SavedRegister). Takes (1 ∷ bytes) (register_bytes q) a.0.1 × FitsSaved types of q types) first.1
    (one_more 1 bytes (scalar_bytes first.0) a.0.1 first.2, (refl, first.3)))
register_takes types of (suc (suc zero) ∷ bytes) r after rest fits e =
    let first = cell_takes types of bytes r after rest (IsBytes-rest 2 bytes fits) e in
    subst (λ (q : SavedRegister). Takes (2 ∷ bytes) (register_bytes q) rest × FitsSaved types of q after) first.1
    (one_more 2 bytes (number first.0) rest first.2, first.3)
register_takes types of (suc (suc (suc n)) ∷ bytes) r after rest fits e = absurd cc

bare_again : (of : ValueType) (s : Scalar) (rest : List ℕ) → FitsBare of s → bare_at of (scalar_bytes s ++ rest) ≡ Some (saved.Scalar s, rest)
unfolding bare_at
bare_again (value_type.Scalar t) s rest fits = rw ((scalar_format t).again s rest fits) refl
bare_again (value_type.Set k) s rest fits = absurd fits
bare_again (value_type.Map k t) s rest fits = absurd fits
bare_again (value_type.Queue t) s rest fits = absurd fits

cell_again : (types : List ValueType) (of : ValueType) (k : ℕ) (after : List ValueType) (rest : List ℕ) → FitsSaved types of (saved.Cell k) after → cell_at types of (number k ++ rest) ≡ Some ((saved.Cell k, after), rest)
unfolding cell_at
cell_again types of k after rest fits = rw (fits.0, number_format.again k rest fits.1, fits.2) refl

register_again : (types : List ValueType) (of : ValueType) (r : SavedRegister) (after : List ValueType) (rest : List ℕ) → FitsSaved types of r after → register_at types of (register_bytes r ++ rest) ≡ Some ((r, after), rest)
unfolding register_at
register_again types of saved.Empty after rest fits = ap (λ (l : List ValueType). Some ((saved.Empty, l), rest)) (sym fits)
register_again types of (saved.Scalar s) after rest fits =
    ap (λ q. q >>= λ p. Some ((p.0, types), p.1)) (bare_again of s rest fits.1) ∙ ap (λ (l : List ValueType). Some ((saved.Scalar s, l), rest)) (sym fits.0)
register_again types of (saved.Cell k) after rest fits = cell_again types of k after rest fits

pub registers_take : (types kept : List ValueType) (bytes : List ℕ) (rs : List SavedRegister) (after : List ValueType) (rest : List ℕ) → IsBytes bytes → registers_at types kept bytes ≡ Some ((rs, after), rest)
    → Takes bytes (flat_map register_bytes rs) rest × AreSaved types kept rs after
registers_take types [] bytes rs after rest fits e =
    subst (λ (p : (List SavedRegister × List ValueType) × List ℕ). Takes bytes (flat_map register_bytes p.0.0) p.1 × AreSaved types [] p.0.0 p.0.1) (some_is (([], types), bytes) ((rs, after), rest) e)
    (record { parts = refl; rest_fits = fits }, refl)
registers_take types (of ∷ kept) bytes rs after rest fits e =
    let a = bind_some (register_at types of bytes) (λ first. registers_at first.0.1 kept first.1 >>= λ others. Some ((first.0.0 ∷ others.0.0, others.0.1), others.1)) ((rs, after), rest) e in
    let b = bind_some (registers_at a.0.0.1 kept a.0.1) (λ others. Some ((a.0.0.0 ∷ others.0.0, others.0.1), others.1)) ((rs, after), rest) a.2 in
    let first = register_takes types of bytes a.0.0.0 a.0.0.1 a.0.1 fits a.1 in
    let others = registers_take a.0.0.1 kept a.0.1 b.0.0.0 b.0.0.1 b.0.1 first.0.rest_fits b.1 in
    let both = Takes-then bytes (register_bytes a.0.0.0) a.0.1 (flat_map register_bytes b.0.0.0) b.0.1 first.0 others.0 in
    subst (λ (p : (List SavedRegister × List ValueType) × List ℕ). Takes bytes (flat_map register_bytes p.0.0) p.1 × AreSaved types (of ∷ kept) p.0.0 p.0.1) (some_is ((a.0.0.0 ∷ b.0.0.0, b.0.0.1), b.0.1) ((rs, after), rest) b.2)
    (both, (a.0.0.1, first.1, others.1))

pub registers_again : (types kept : List ValueType) (rs : List SavedRegister) (after : List ValueType) (rest : List ℕ) → AreSaved types kept rs after → registers_at types kept (flat_map register_bytes rs ++ rest) ≡ Some ((rs, after), rest)
registers_again types [] [] after rest are = ap (λ (l : List ValueType). Some (([], l), rest)) (sym are)
registers_again types [] (r ∷ rs) after rest are = absurd are
registers_again types (of ∷ kept) [] after rest are = absurd are
registers_again types (of ∷ kept) (r ∷ rs) after rest are =
    let others = flat_map register_bytes rs in
    ap (registers_at types (of ∷ kept)) (append_assoc (register_bytes r) others rest)
    ∙ rw (register_again types of r are.0 (others ++ rest) are.1, registers_again are.0 kept rs after rest are.2) refl

-- ---- what it says

-- a register of an equation of this type, where all cells have these types
abbrev pub IsTypedIn : List ValueType → ValueType → SavedRegister → Type 0
IsTypedIn types of saved.Empty = Unit {0}
IsTypedIn types of (saved.Scalar s) = FitsBare of s
IsTypedIn types of (saved.Cell k) = IsTrue (is_aggregate of) × (slice_get types k ≡ Some of)

get_push : (types : List ValueType) (of : ValueType) → slice_get (types ++ of ∷ []) (length types) ≡ Some of
get_push [] of = refl
get_push (t ∷ types) of = get_push types of

get_before : (types more : List ValueType) (k : ℕ) (of : ValueType) → slice_get types k ≡ Some of → slice_get (types ++ more) k ≡ Some of
get_before [] more k of e = absurd cc
get_before (t ∷ types) more zero of e = e
get_before (t ∷ types) more (suc k) of e = get_before types more k of e

-- a register keeps the types of cells, and its cell has its type
register_keeps : (types : List ValueType) (of : ValueType) (r : SavedRegister) (after : List ValueType) → FitsSaved types of r after → (k : ℕ) (t : ValueType) → slice_get types k ≡ Some t → slice_get after k ≡ Some t
register_keeps types of saved.Empty after fits k t e = ap (λ l. slice_get l k) fits ∙ e
register_keeps types of (saved.Scalar s) after fits k t e = ap (λ l. slice_get l k) fits.0 ∙ e
register_keeps types of (saved.Cell j) after fits k t e = elim (named_is types of j (saved.Cell j, after) fits.2).1 [
  | inl next ↦ ap (λ l. slice_get l k) next.1 ∙ get_before types (of ∷ []) k t e
  | inr before ↦ ap (λ l. slice_get l k) before.2 ∙ e
]

cell_typed : (types : List ValueType) (of : ValueType) (k : ℕ) (after : List ValueType) → FitsSaved types of (saved.Cell k) after → slice_get after k ≡ Some of
cell_typed types of k after fits = elim (named_is types of k (saved.Cell k, after) fits.2).1 [
  | inl next ↦ (λ i. slice_get (next.1 i) (next.0 i)) ∙ get_push types of
  | inr before ↦ ap (λ l. slice_get l k) before.2 ∙ before.1
]

keeps : (types kept : List ValueType) (rs : List SavedRegister) (after : List ValueType) → AreSaved types kept rs after → (k : ℕ) (t : ValueType) → slice_get types k ≡ Some t → slice_get after k ≡ Some t
keeps types [] [] after are k t e = ap (λ l. slice_get l k) are ∙ e
keeps types [] (r ∷ rs) after are k t e = absurd are
keeps types (of ∷ kept) [] after are k t e = absurd are
keeps types (of ∷ kept) (r ∷ rs) after are k t e = keeps are.0 kept rs after are.2 k t (register_keeps types of r are.0 are.1 k t e)

first_typed : (types : List ValueType) (of : ValueType) (r : SavedRegister) (next after : List ValueType) → FitsSaved types of r next → ((k : ℕ) (t : ValueType) → slice_get next k ≡ Some t → slice_get after k ≡ Some t) → IsTypedIn after of r
first_typed types of saved.Empty next after fits on = tt
first_typed types of (saved.Scalar s) next after fits on = fits.1
first_typed types of (saved.Cell k) next after fits on = (fits.0, on k of (cell_typed types of k next fits))

pub all_typed : (types kept : List ValueType) (rs : List SavedRegister) (after : List ValueType) → AreSaved types kept rs after → AllZip (IsTypedIn after) kept rs
all_typed types [] [] after are = tt
all_typed types [] (r ∷ rs) after are = absurd are
all_typed types (of ∷ kept) [] after are = absurd are
all_typed types (of ∷ kept) (r ∷ rs) after are = (first_typed types of r are.0 after are.1 (keeps are.0 kept rs after are.2), all_typed are.0 kept rs after are.2)

-- so many cells are named first from here on, by the numbers that follow
record AreNext (n : ℕ) (rs : List SavedRegister) (after : List ValueType) : Type 0 where
  pub more : ℕ
  pub long : length after ≡ n + more
  pub numbered : new_from n (flat_map named_by rs) ≡ range_with_len n more

on_cell : (n k : ℕ) (rs : List SavedRegister) (after : List ValueType) → k ≡ n → AreNext (n + 1) rs after → AreNext n (saved.Cell k ∷ rs) after
on_cell n k rs after is are = record {
  more = suc are.more;
  long = omega (arith, are.long);
  numbered = ap (λ j. new_from n (j ∷ flat_map named_by rs)) is ∙ new_next n (flat_map named_by rs) ∙ ap (λ l. n ∷ l) are.numbered;
}

on_old : (n k : ℕ) (rs : List SavedRegister) (after : List ValueType) → k < n → AreNext n rs after → AreNext n (saved.Cell k ∷ rs) after
on_old n k rs after low are = record { more = are.more; long = are.long; numbered = new_same n k (flat_map named_by rs) low ∙ are.numbered }

on_none : (n : ℕ) (r : SavedRegister) (rs : List SavedRegister) (after : List ValueType) → named_by r ≡ [] → AreNext n rs after → AreNext n (r ∷ rs) after
on_none n r rs after none are = record { more = are.more; long = are.long; numbered = ap (λ l. new_from n (l ++ flat_map named_by rs)) none ∙ are.numbered }

all_next : (types kept : List ValueType) (rs : List SavedRegister) (after : List ValueType) → AreSaved types kept rs after → AreNext (length types) rs after
all_next types [] [] after are = record { more = 0; long = omega (arith, ap length are); numbered = refl }
all_next types [] (r ∷ rs) after are = absurd are
all_next types (of ∷ kept) [] after are = absurd are
all_next types (of ∷ kept) (saved.Empty ∷ rs) after are =
    on_none (length types) saved.Empty rs after refl (subst (λ l. AreNext (length l) rs after) are.1 (all_next are.0 kept rs after are.2))
all_next types (of ∷ kept) (saved.Scalar s ∷ rs) after are =
    on_none (length types) (saved.Scalar s) rs after refl (subst (λ l. AreNext (length l) rs after) are.1.0 (all_next are.0 kept rs after are.2))
all_next types (of ∷ kept) (saved.Cell k ∷ rs) after are =
    let others = all_next are.0 kept rs after are.2 in
    elim (named_is types of k (saved.Cell k, are.0) are.1.2).1 [
      | inl next ↦ on_cell (length types) k rs after next.0 (subst (λ n. AreNext n rs after) (ap length next.1 ∙ length_push types of) others)
      | inr before ↦ on_old (length types) k rs after before.0 (subst (λ l. AreNext (length l) rs after) before.2 others)
    ]

-- from the first register on
pub all_numbered : (kept : List ValueType) (rs : List SavedRegister) (after : List ValueType) → AreSaved [] kept rs after → new_from 0 (flat_map named_by rs) ≡ range_with_len 0 (length after)
all_numbered kept rs after are =
    let next = all_next [] kept rs after are in
    let long : next.more ≡ length after = omega (arith, next.long) in
    next.numbered ∙ ap (range_with_len 0) long
