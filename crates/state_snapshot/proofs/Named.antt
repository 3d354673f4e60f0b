-- What registers and cells have of one another where they are read is what a state that fits has, both ways.
use Rattle.std.proofs.Common.{◌≡◌, ◌==◌, ℕ, zero, suc, ◌+◌, ◌<◌, ◌≤◌, ◌^◌, Bool, true, false, cond, List, [], ◌∷◌, ◌++◌, map, length, get_or, drop, Option, Some, None, option_map, refl, sym, ap, subst, ◌∙◌, append_assoc, inl, inr, arith}
use Rattle.std.specs.Prelude.{IfSome, IsSomeAnd, IsTrue, MatchOption, if◌then◌else◌, nat_le, slice_get, slice_index}
use Rattle.std.specs.List.{AllByRecursion, AllZip, filter, flat_map, range_with_len}
use Rattle.std.proofs.lemmas.Bool.{cases_Bool, cases_lt, eq-eqb, eqb-true, ne_eqb, or_cases, or_left, or_right, false≢true}
use Rattle.std.proofs.lemmas.List.FromFn.{length-map-range_with_len, map-range_with_len_more}
use Rattle.std.proofs.lemmas.Option.{slice_get-map, slice_get_within}
use Rattle.std.proofs.lemmas.Slice.Zip.{AllZip-left, AllZip-right}
use Rattle.tsl_value.specs.Aggregate.{is_aggregate}
use Rattle.tsl_value.specs.declared.scalar.Scalar.{Scalar}
use Rattle.tsl_value.specs.declared.scalar.ValueType.{ValueType}
use Rattle.tsl_value.specs.declared.scalar.ValueType.TheVariants as value_type
use Rattle.tsl_value.specs.View.{Plain, is_of}
use Rattle.tsl_value.specs.inner.Laws.{IsInBounds}
use Rattle.tsl_value.proofs.Lists.{with_first, without_first}
use Rattle.aggregate_store.specs.declared.content.Content.{Content}
use Rattle.aggregate_store.specs.Content.{AllIn, AreInOrder, content_size, is_content_of}
use Rattle.flat_core.specs.declared.equation.Equation.{Equation}
use Rattle.flat_core.specs.Members.{is_in}
use Rattle.flat_core.specs.System.{System, equation}
use Rattle.monitor_state.specs.declared.state.SavedRegister.{SavedRegister}
use Rattle.monitor_state.specs.declared.state.SavedRegister.TheVariants as saved
use Rattle.monitor_state.specs.Fits.{FitsCell, FitsRegister, FitsType, named_by, type_at}
use Rattle.monitor_state.specs.Firsts.{firsts}
use Rattle.run_state.specs.Spelling.{content_bytes}
use Rattle.state_snapshot.specs.inner.Reading.{◌>>=◌, cells_at, content_at, kept_types, named, named_before, type_of_kept}
use Rattle.state_snapshot.proofs.Formats.{IsBytes, Takes, Takes-then, bind_some, some_is}
use Rattle.state_snapshot.proofs.Contents.{FitsContent, content_format}
use Rattle.state_snapshot.proofs.Numbered.{is_other, new_first, new_from, new_next, new_same}
use Rattle.state_snapshot.proofs.RegisterTypes.{AreSaved, FitsBare, IsTypedIn, type_same}

-- ---- cells of types, as a format

pub cells_take : (types : List ValueType) (bytes : List ℕ) (cells : List Content) (rest : List ℕ) → IsBytes bytes → cells_at types bytes ≡ Some (cells, rest) → Takes bytes (flat_map content_bytes cells) rest × AllZip FitsContent types cells
cells_take [] bytes cells rest fits e =
    subst (λ (p : List Content × List ℕ). Takes bytes (flat_map content_bytes p.0) p.1 × AllZip FitsContent [] p.0) (some_is ([], bytes) (cells, rest) e) (record { parts = refl; rest_fits = fits }, tt)
cells_take (of ∷ types) bytes cells rest fits e =
    let a = bind_some (content_at of bytes) (λ first. cells_at types first.1 >>= λ others. Some (first.0 ∷ others.0, others.1)) (cells, rest) e in
    let b = bind_some (cells_at types a.0.1) (λ others. Some (a.0.0 ∷ others.0, others.1)) (cells, rest) a.2 in
    let first = (content_format of).takes bytes a.0.0 a.0.1 fits a.1 in
    let others = cells_take types a.0.1 b.0.0 b.0.1 first.0.rest_fits b.1 in
    let both = Takes-then bytes (content_bytes a.0.0) a.0.1 (flat_map content_bytes b.0.0) b.0.1 first.0 others.0 in
    subst (λ (p : List Content × List ℕ). Takes bytes (flat_map content_bytes p.0) p.1 × AllZip FitsContent (of ∷ types) p.0) (some_is (a.0.0 ∷ b.0.0, b.0.1) (cells, rest) b.2) (both, (first.1, others.1))

pub cells_again : (types : List ValueType) (cells : List Content) (rest : List ℕ) → AllZip FitsContent types cells → cells_at types (flat_map content_bytes cells ++ rest) ≡ Some (cells, rest)
cells_again [] [] rest fits = refl
cells_again [] (c ∷ cells) rest fits = absurd fits
cells_again (of ∷ types) [] rest fits = absurd fits
cells_again (of ∷ types) (c ∷ cells) rest fits =
    let others = flat_map content_bytes cells in
    ap (cells_at (of ∷ types)) (append_assoc (content_bytes c) others rest) ∙ rw ((content_format of).again c (others ++ rest) fits.0, cells_again types cells rest fits.1) refl

abbrev pub IsSound : Content → Type 0
IsSound c = AreInOrder c × AllIn IsInBounds c × (content_size c < 2 ^ 64)

pub all_sound : (types : List ValueType) (cells : List Content) → AllZip FitsContent types cells → AllByRecursion IsSound cells
all_sound [] [] fits = tt
all_sound [] (c ∷ cells) fits = absurd fits
all_sound (of ∷ types) [] fits = absurd fits
all_sound (of ∷ types) (c ∷ cells) fits = ((fits.0.ordered, fits.0.bounded, fits.0.sized), all_sound types cells fits.1)

-- ---- what was read fits

bare_is : (of : ValueType) (s : Scalar) → FitsBare of s → IsTrue (is_of of (Plain s)) × IsInBounds s
bare_is (value_type.Scalar t) s fits = fits
bare_is (value_type.Set k) s fits = absurd fits
bare_is (value_type.Map k t) s fits = absurd fits
bare_is (value_type.Queue t) s fits = absurd fits

cell_is : (of : ValueType) (o : Option Content) → IsSomeAnd o (FitsContent of) → FitsCell of o
cell_is of (Some c) fits = (fits.aggregate, fits.typed)
cell_is of None fits = absurd fits

module _ (s : System) (types : List ValueType) (cells : List Content) (are : AllZip FitsContent types cells) where
  cell_at_number : (of : ValueType) (k : ℕ) → slice_get types k ≡ Some of → FitsCell of (slice_get cells k)
  cell_at_number of k is = cell_is of (slice_get cells k) (subst (λ o. MatchOption o (Unit {0}) (λ t. IsSomeAnd (slice_get cells k) (FitsContent t))) is (AllZip-left FitsContent types cells are k))

  register_fits : (o : Option Equation) (r : SavedRegister) → IsTypedIn types (type_of_kept o) r → IfSome (option_map (λ e. e.of) o) (λ of. FitsType cells of r)
  register_fits None r typed = tt
  register_fits (Some e) saved.Empty typed = tt
  register_fits (Some e) (saved.Scalar v) typed = bare_is e.of v typed
  register_fits (Some e) (saved.Cell k) typed = cell_at_number e.of k typed.1

  pub registers_fit : (keeps : List ℕ) (rs : List SavedRegister) → AllZip (IsTypedIn types) (kept_types s keeps) rs → AllZip (FitsRegister s cells) keeps rs
  registers_fit [] [] typed = tt
  registers_fit [] (r ∷ rs) typed = absurd typed
  registers_fit (v ∷ keeps) [] typed = absurd typed
  registers_fit (v ∷ keeps) (r ∷ rs) typed = (register_fits (equation s v) r typed.0, registers_fit keeps rs typed.1)

module _ (s : System) (types : List ValueType) where
  shown_at : (o : Option Equation) (k : ℕ) → IsTypedIn types (type_of_kept o) (saved.Cell k) → option_map (λ e. e.of) o ≡ slice_get types k
  shown_at None k typed = absurd (false≢true typed.0)
  shown_at (Some e) k typed = sym typed.1

  -- the type of the equation whose register names a cell is that of the cell
  pub cell_shown : (keeps : List ℕ) (rs : List SavedRegister) (i k : ℕ) → AllZip (IsTypedIn types) (kept_types s keeps) rs → slice_get rs i ≡ Some (saved.Cell k) → type_at s (slice_index keeps i) ≡ slice_get types k
  cell_shown [] [] i k typed e = absurd cc
  cell_shown [] (r ∷ rs) i k typed e = absurd typed
  cell_shown (v ∷ keeps) [] i k typed e = absurd typed
  cell_shown (v ∷ keeps) (r ∷ rs) zero k typed e = shown_at (equation s v) k (subst (IsTypedIn types (type_of_kept (equation s v))) (some_is r (saved.Cell k) e) typed.0)
  cell_shown (v ∷ keeps) (r ∷ rs) (suc i) k typed e = cell_shown keeps rs i k typed.1 e

-- ---- what fits is read again

-- where a cell is named first
abbrev is_named : SavedRegister → ℕ → Bool
is_named (saved.Cell j) k = j == k
is_named r k = false

abbrev pub place : List SavedRegister → ℕ → ℕ
place [] k = 0
place (r ∷ rs) k = if is_named r k then 0 else suc (place rs k)

named_cell : (r : SavedRegister) (k : ℕ) → is_named r k ≡ true → r ≡ saved.Cell k
named_cell (saved.Cell j) k e = ap saved.Cell (eqb-true j k e)
named_cell saved.Empty k e = absurd cc
named_cell (saved.Scalar s) k e = absurd cc

cell_named : (r : SavedRegister) (k : ℕ) → r ≡ saved.Cell k → is_named r k ≡ true
cell_named r k e = ap (λ q. is_named q k) e ∙ eq-eqb k k refl

at_place : (r : SavedRegister) (rs : List SavedRegister) (k : ℕ) (b : Bool) → is_named r k ≡ b → (b ≡ false → slice_get rs (place rs k) ≡ Some (saved.Cell k)) → slice_get (r ∷ rs) (if b then 0 else suc (place rs k)) ≡ Some (saved.Cell k)
at_place r rs k true is later = ap Some (named_cell r k is)
at_place r rs k false is later = later refl

pub placed : (rs : List SavedRegister) (i k : ℕ) → slice_get rs i ≡ Some (saved.Cell k) → slice_get rs (place rs k) ≡ Some (saved.Cell k)
placed [] i k e = absurd cc
placed (r ∷ rs) zero k e = at_place r rs k (is_named r k) refl (λ no. absurd (false≢true (sym no ∙ cell_named r k (some_is r (saved.Cell k) e))))
placed (r ∷ rs) (suc i) k e = at_place r rs k (is_named r k) refl (λ no. placed rs i k e)

in_filter : (p : ℕ → Bool) (xs : List ℕ) (k : ℕ) → is_in (filter p xs) k ≡ true → is_in xs k ≡ true
in_filter p [] k e = e
in_filter p (x ∷ xs) k e = elim (cases_Bool (p x)) [
  | inl yes_p ↦ elim (or_cases (x == k) (is_in (filter p xs) k) (sym (ap (λ l. is_in l k) (with_first p x xs yes_p)) ∙ e)) [
    | inl here ↦ or_left (x == k) (is_in xs k) here
    | inr later ↦ or_right (x == k) (is_in xs k) (in_filter p xs k later)
  ]
  | inr no_p ↦ or_right (x == k) (is_in xs k) (in_filter p xs k (sym (ap (λ l. is_in l k) (without_first p x xs no_p)) ∙ e))
]

in_firsts : (xs : List ℕ) (k : ℕ) → is_in (firsts xs) k ≡ true → is_in xs k ≡ true
in_firsts [] k e = e
in_firsts (x ∷ xs) k e = elim (or_cases (x == k) (is_in (filter (is_other x) (firsts xs)) k) e) [
  | inl here ↦ or_left (x == k) (is_in xs k) here
  | inr later ↦ or_right (x == k) (is_in xs k) (in_firsts xs k (in_filter (is_other x) (firsts xs) k later))
]

in_range : (a n k : ℕ) → a ≤ k → k < a + n → is_in (range_with_len a n) k ≡ true
in_range a zero k low high = absurd (omega (arith, low, high))
in_range a (suc n) k low high = elim (cases_lt a k) [
  | inl below ↦ or_right (a == k) (is_in (range_with_len (a + 1) n) k) (in_range (a + 1) n k (omega (arith, below)) (omega (arith, high)))
  | inr at ↦ or_left (a == k) (is_in (range_with_len (a + 1) n) k) (eq-eqb a k (omega (arith, low, at)))
]

named_somewhere : (rs : List SavedRegister) (k : ℕ) → is_in (flat_map named_by rs) k ≡ true → slice_get rs (place rs k) ≡ Some (saved.Cell k)
named_somewhere [] k e = absurd cc
named_somewhere (saved.Empty ∷ rs) k e = named_somewhere rs k e
named_somewhere (saved.Scalar s ∷ rs) k e = named_somewhere rs k e
named_somewhere (saved.Cell j ∷ rs) k e = at_place (saved.Cell j) rs k (j == k) refl (λ no. named_somewhere rs k (elim (or_cases (j == k) (is_in (flat_map named_by rs) k) e) [
  | inl here ↦ absurd (false≢true (sym no ∙ here))
  | inr later ↦ later
]))

-- each cell is named where all are numbered
pub each_named : (rs : List SavedRegister) (n k : ℕ) → firsts (flat_map named_by rs) ≡ range_with_len 0 n → k < n → slice_get rs (place rs k) ≡ Some (saved.Cell k)
each_named rs n k numbered low = named_somewhere rs k (in_firsts (flat_map named_by rs) k (ap (λ l. is_in l k) numbered ∙ in_range 0 n k (omega arith) (omega (arith, low))))

-- the type of a cell is that of the equation whose register names it first
abbrev pub cell_type : System → List ℕ → List SavedRegister → ℕ → ValueType
cell_type s keeps rs k = type_of_kept (equation s (slice_index keeps (place rs k)))

module _ (cells : List Content) (type_of : ℕ → ValueType) where
  abbrev pub IsOf : ValueType → SavedRegister → Type 0
  IsOf of saved.Empty = Unit {0}
  IsOf of (saved.Scalar v) = FitsBare of v
  IsOf of (saved.Cell k) = FitsCell of (slice_get cells k) × (of ≡ type_of k)

  abbrev pub types_to : ℕ → List ValueType
  types_to n = map type_of (range_with_len 0 n)

  get_range : (a n k : ℕ) → k < n → slice_get (range_with_len a n) k ≡ Some (a + k)
  get_range a zero k low = absurd (omega (arith, low))
  get_range a (suc n) zero low = let same : a ≡ a + 0 = omega arith in ap Some same
  get_range a (suc n) (suc k) low = let same : (a + 1) + k ≡ a + suc k = omega arith in get_range (a + 1) n k (omega (arith, low)) ∙ ap Some same

  get_type : (n k : ℕ) → k < n → slice_get (types_to n) k ≡ Some (type_of k)
  get_type n k low = slice_get-map type_of (range_with_len 0 n) k ∙ ap (option_map type_of) (get_range 0 n k low) ∙ (let same : 0 + k ≡ k = omega arith in ap (λ j. Some (type_of j)) same)

  named_next : (types : List ValueType) (of : ValueType) (k : ℕ) → k ≡ length types → named types of k ≡ Some (saved.Cell k, types ++ of ∷ [])
  named_next types of k is = ap (λ b. cond b (Some (saved.Cell k, types ++ of ∷ [])) (named_before types of k (slice_get types k))) (eq-eqb k (length types) is)

  named_old : (types : List ValueType) (of : ValueType) (k : ℕ) → k < length types → slice_get types k ≡ Some of → named types of k ≡ Some (saved.Cell k, types)
  named_old types of k low is =
      let other : (k == length types) ≡ false = ne_eqb k (length types) (λ same. omega (arith, same, low)) in
      ap (λ b. cond b (Some (saved.Cell k, types ++ of ∷ [])) (named_before types of k (slice_get types k))) other
      ∙ ap (named_before types of k) is ∙ ap (λ b. cond b (Some (saved.Cell k, types)) None) (type_same of)

  cell_aggregate : (of : ValueType) (o : Option Content) → FitsCell of o → IsTrue (is_aggregate of)
  cell_aggregate of (Some c) fits = fits.0
  cell_aggregate of None fits = absurd fits

  -- a cell that comes next, with what follows it
  next_cell : (of : ValueType) (kept : List ValueType) (k : ℕ) (rs : List SavedRegister) (n m : ℕ) → IsOf of (saved.Cell k) → n < 2 ^ 64 → k ≡ n → AreSaved (types_to (n + 1)) kept rs (types_to ((n + 1) + m)) → AreSaved (types_to n) (of ∷ kept) (saved.Cell k ∷ rs) (types_to (n + suc m))
  next_cell of kept k rs n m is low at later =
      let long : k ≡ length (types_to n) = at ∙ sym (length-map-range_with_len type_of 0 n) in
      let grown : types_to n ++ of ∷ [] ≡ types_to (n + 1) = ap (λ t. types_to n ++ t ∷ []) (is.1 ∙ ap type_of at) ∙ sym (map-range_with_len_more type_of 0 n n (omega arith)) in
      let sum : (n + 1) + m ≡ n + suc m = omega arith in
      (types_to (n + 1), (cell_aggregate of (slice_get cells k) is.0, subst (λ j. j < 2 ^ 64) (sym at) low, named_next (types_to n) of k long ∙ ap (λ l. Some (saved.Cell k, l)) grown), subst (λ j. AreSaved (types_to (n + 1)) kept rs (types_to j)) sum later)

  old_cell : (of : ValueType) (kept : List ValueType) (k : ℕ) (rs : List SavedRegister) (n : ℕ) (after : List ValueType) → IsOf of (saved.Cell k) → n ≤ 2 ^ 64 → k < n → AreSaved (types_to n) kept rs after → AreSaved (types_to n) (of ∷ kept) (saved.Cell k ∷ rs) after
  old_cell of kept k rs n after is few low later =
      let long : k < length (types_to n) = subst (λ j. k < j) (sym (length-map-range_with_len type_of 0 n)) low in
      (types_to n, (cell_aggregate of (slice_get cells k) is.0, omega (arith, few, low), named_old (types_to n) of k long (get_type n k low ∙ ap Some (sym is.1))), later)

  no_range : (k : ℕ) (xs : List ℕ) → k ∷ xs ≡ [] → ⊥
  no_range k xs e = absurd cc

  from_next : (of : ValueType) (kept : List ValueType) (k : ℕ) (rs : List SavedRegister) (n m : ℕ) → IsOf of (saved.Cell k) → n < 2 ^ 64 → k ∷ filter (nat_le n) (filter (is_other k) (firsts (flat_map named_by rs))) ≡ range_with_len n m
      → (k ≡ n → (l : ℕ) → new_from (n + 1) (flat_map named_by rs) ≡ range_with_len (n + 1) l → AreSaved (types_to (n + 1)) kept rs (types_to ((n + 1) + l)))
      → new_from n (k ∷ flat_map named_by rs) ≡ range_with_len n m → AreSaved (types_to n) (of ∷ kept) (saved.Cell k ∷ rs) (types_to (n + m))
  from_next of kept k rs n zero is low first later numbered = absurd (no_range k (filter (nat_le n) (filter (is_other k) (firsts (flat_map named_by rs)))) first)
  from_next of kept k rs n (suc m) is low first later numbered =
      let at : k ≡ n = ap (λ l. get_or l 0 0) first in
      let rest : new_from (n + 1) (flat_map named_by rs) ≡ range_with_len (n + 1) m = ap (drop 1) (sym (new_next n (flat_map named_by rs)) ∙ ap (λ j. new_from n (j ∷ flat_map named_by rs)) (sym at) ∙ numbered) in
      next_cell of kept k rs n m is low at (later at m rest)

  pub saved_back : (kept : List ValueType) (rs : List SavedRegister) (n m : ℕ) → AllZip IsOf kept rs → new_from n (flat_map named_by rs) ≡ range_with_len n m → n + length rs ≤ 2 ^ 64 → AreSaved (types_to n) kept rs (types_to (n + m))
  saved_back [] [] n zero are numbered few = let same : n + 0 ≡ n = omega arith in ap types_to same
  saved_back [] [] n (suc m) are numbered few = absurd cc
  saved_back [] (r ∷ rs) n m are numbered few = absurd are
  saved_back (of ∷ kept) [] n m are numbered few = absurd are
  saved_back (of ∷ kept) (saved.Empty ∷ rs) n m are numbered few = (types_to n, refl, saved_back kept rs n m are.1 numbered (omega (arith, few)))
  saved_back (of ∷ kept) (saved.Scalar v ∷ rs) n m are numbered few = (types_to n, (refl, are.0), saved_back kept rs n m are.1 numbered (omega (arith, few)))
  saved_back (of ∷ kept) (saved.Cell k ∷ rs) n m are numbered few = elim (cases_lt k n) [
    | inl low ↦ old_cell of kept k rs n (types_to (n + m)) are.0 (omega (arith, few)) low (saved_back kept rs n m are.1 (sym (new_same n k (flat_map named_by rs) low) ∙ numbered) (omega (arith, few)))
    | inr high ↦ from_next of kept k rs n m are.0 (omega (arith, few)) (sym (new_first n k (flat_map named_by rs) high) ∙ numbered) (λ at l more. saved_back kept rs (n + 1) l are.1 more (omega (arith, few))) numbered
  ]

  -- cells of the types of their numbers
  cells_back : (a : ℕ) (those : List Content) → ((j : ℕ) (c : Content) → slice_get those j ≡ Some c → IsTrue (is_aggregate (type_of (a + j))) × IsTrue (is_content_of (type_of (a + j)) c)) → AllByRecursion IsSound those → AllZip FitsContent (map type_of (range_with_len a (length those))) those
  cells_back a [] typed sound = tt
  cells_back a (c ∷ those) typed sound =
      let same : a + 0 ≡ a = omega arith in
      let first = subst (λ n. IsTrue (is_aggregate (type_of n)) × IsTrue (is_content_of (type_of n) c)) same (typed 0 c refl) in (
        record { aggregate = first.0; typed = first.1; ordered = sound.0.0; bounded = sound.0.1; sized = sound.0.2 },
        cells_back (a + 1) those (λ j d is. let next : a + suc j ≡ (a + 1) + j = omega arith in subst (λ n. IsTrue (is_aggregate (type_of n)) × IsTrue (is_content_of (type_of n) d)) next (typed (suc j) d is)) sound.1,
      )

  cell_of : (o : Option Content) (of : ValueType) (c : Content) → o ≡ Some c → FitsCell of o → IsTrue (is_aggregate of) × IsTrue (is_content_of of c)
  cell_of o of c is fits = subst (FitsCell of) is fits

  at_register : (o : Option ValueType) (k : ℕ) → IsSomeAnd o (λ of. IsOf of (saved.Cell k)) → FitsCell (type_of k) (slice_get cells k)
  at_register (Some of) k is = subst (λ t. FitsCell t (slice_get cells k)) is.1 is.0
  at_register None k is = absurd is

  pub cells_zip : (kept : List ValueType) (rs : List SavedRegister) → AllZip IsOf kept rs → ((k : ℕ) → k < length cells → slice_get rs (place rs k) ≡ Some (saved.Cell k)) → AllByRecursion IsSound cells → AllZip FitsContent (types_to (length cells)) cells
  cells_zip kept rs are there sound = cells_back 0 cells (λ j c is.
      let low : j < length cells = slice_get_within cells j c is in
      let same : j ≡ 0 + j = omega arith in
      let at = subst (λ o. MatchOption o (Unit {0}) (λ r. IsSomeAnd (slice_get kept (place rs j)) (λ of. IsOf of r))) (there j low) (AllZip-right IsOf kept rs are (place rs j)) in
      subst (λ n. IsTrue (is_aggregate (type_of n)) × IsTrue (is_content_of (type_of n) c)) same (cell_of (slice_get cells j) (type_of j) c is (at_register (slice_get kept (place rs j)) j at))) sound
