-- What was made of a state that fits keeps what the state says, and nothing else.
use Rattle.std.proofs.Common.{◌≡◌, ◌==◌, ℕ, zero, suc, ◌+◌, ◌<◌, ◌≤◌, ◌^◌, Bool, true, false, List, [], ◌∷◌, ◌++◌, length, map, Contains, Option, Some, None, refl, sym, ap, subst, ◌∙◌, inl, inr, arith}
use Rattle.std.proofs.lemmas.Bool.{and_parts, cases_Bool, eq-eqb, eqb-true, false≢true, true≢false}
use Rattle.std.proofs.lemmas.List.{length-map}
use Rattle.std.proofs.lemmas.List.Elements.{All-from_recursion, Contains-append_cases, Contains-append_left, Contains-append_right}
use Rattle.std.proofs.lemmas.List.FromFn.{length-range_with_len, get_or-range_with_len}
use Rattle.std.proofs.lemmas.Option.{same_Some, none-some, slice_get_within}
use Rattle.std.specs.Prelude.{if◌then◌else◌, IsTrue, IfSome, is_some, nat_eq, position, slice_get, slice_index, unwrap_or}
use Rattle.std.specs.List.{All, AllByRecursion, AllZip, filter, flat_map, range_with_len}
use Rattle.std.specs.Option.{option_map}
use Rattle.std.specs.FinMap as finite_map
use Rattle.tsl_value.specs.Aggregate.{is_aggregate}
use Rattle.tsl_value.specs.View.{View, Plain, is_of}
use Rattle.tsl_value.specs.declared.scalar.Scalar.{Scalar}
use Rattle.tsl_value.specs.declared.scalar.ValueType.{ValueType}
use Rattle.tsl_value.specs.declared.scalar.ValueType.TheVariants as value_type
use Rattle.tsl_value.specs.declared.scalar.Scalar.TheVariants as scalar
use Rattle.tsl_value.specs.inner.Laws.{IsInBounds}
use Rattle.tsl_value.proofs.Aggregates.{elements_of}
use Rattle.tsl_value.proofs.Lists.{all_by_place, cons_cases, contains_at, member_cases, none_in_nil}
use Rattle.delay_timers.specs.inner.Pending.{Times}
use Rattle.body_eval.specs.declared.register.Register.{Register}
use Rattle.body_eval.specs.declared.register.Register.TheVariants as register
use Rattle.cell_reader.specs.inner.Cells.{Cells, IsLive, view_at}
use Rattle.aggregate_store.specs.declared.content.Content.{Content}
use Rattle.aggregate_store.specs.declared.content.Content.TheVariants as content
use Rattle.aggregate_store.specs.Content.{AllIn, AreInOrder, content_of, content_size, is_content_of, is_of_aggregate, view_in}
use Rattle.aggregate_store.specs.inner.Stored.{is_listed}
use Rattle.flat_core.specs.declared.equation.Equation.{Equation}
use Rattle.flat_core.specs.Complete.{IsFlat, IsShort}
use Rattle.flat_core.specs.Kept.{is_kept, is_timer, keeps_of, timers_of}
use Rattle.flat_core.specs.Members.{is_in}
use Rattle.flat_core.specs.System.{System, equation, numbers, runs}
use Rattle.flat_core.specs.Typed.{unit_type}
use Rattle.flat_core.specs.Updates.{is_running_update, is_update_at, running_updates}
use Rattle.flat_core.proofs.Depth.{runs_below}
use Rattle.flat_core.proofs.Members.{all_at, all_from, in-Contains}
use Rattle.flat_core.proofs.Rising.{in_filter}
use Rattle.register_machine.specs.Machine.{Bare, Cell}
use Rattle.register_machine.specs.Renamed.{Renaming}
use Rattle.register_machine.specs.Short.{IsShortState, IsShortView}
use Rattle.register_machine.specs.Tidy.{IsTidy}
use Rattle.monitor_state.specs.declared.state.MonitorState.{MonitorState}
use Rattle.monitor_state.specs.declared.state.SavedRegister.{SavedRegister}
use Rattle.monitor_state.specs.declared.state.SavedRegister.TheVariants as saved
use Rattle.monitor_state.specs.Fits.{AreNumbered, FitsCell, FitsMonitor, FitsRegister, FitsType, named_by, type_at}
use Rattle.monitor_run.specs.inner.Instant.{AreTimers, AreUnkept, cells_in}
use Rattle.monitor_run.specs.inner.Registers.{AreHeld, IsHeldOf, register_at}
use Rattle.monitor_run.specs.inner.Resuming.{IsOnce, IsRestored, placed, register_with}
use Rattle.monitor_run.specs.inner.Saved.{ShowsMachine, cell_held, saved_of}
use Rattle.monitor_state.specs.Firsts.{firsts}
use Rattle.monitor_run.specs.inner.Shown.{held_at, held_by, state_of}
use Rattle.monitor_run.specs.inner.Stored.{is_stored_type, stored_count}
use Rattle.monitor_run.proofs.ContentLemmas.{bounds_short, short_view}
use Rattle.monitor_run.proofs.BareLemmas.{cell_of, tidy_listed}
use Rattle.monitor_run.proofs.EndedLemmas.{few_cells_in, few_live}
use Rattle.monitor_run.proofs.FilledLemmas.{as_many, contents_back, typed_view, view_at_place, view_of_place, views_there}
use Rattle.monitor_run.proofs.InstantLemmas.{kept_runs, listed_kept, listed_timer}
use Rattle.monitor_run.proofs.OneState.{firsts_renamed, place_renamed}
use Rattle.monitor_run.proofs.Placed.{filter_once, placed_all, placed_none, range_once, stands_at}
use Rattle.monitor_run.proofs.SavedLemmas.{range_at}
use Rattle.monitor_run.proofs.ShownStates.{held_by_one, held_in, in_firsts, map_agree, of_firsts, place, place_here, place_on, position_is, renaming}

-- ---- lists

map_map : {A B C : Type 0} (f : A → B) (g : B → C) (xs : List A) → map g (map f xs) ≡ map (λ x. g (f x)) xs
map_map f g [] = refl
map_map f g (x ∷ xs) = ap (λ l. g (f x) ∷ l) (map_map f g xs)

flat_over : {A B : Type 0} (f : A → B) (g : B → List ℕ) (xs : List A) → flat_map (λ x. g (f x)) xs ≡ flat_map g (map f xs)
flat_over f g [] = refl
flat_over f g (x ∷ xs) = ap (λ l. g (f x) ++ l) (flat_over f g xs)

index_map : (f : ℕ → ℕ) (xs : List ℕ) (k : ℕ) → k < length xs → slice_index (map f xs) k ≡ f (slice_index xs k)
index_map f [] k low = absurd (omega arith)
index_map f (x ∷ xs) zero low = refl
index_map f (x ∷ xs) (suc k) low = index_map f xs k (omega arith)

in_range : (n k : ℕ) → k < n → Contains (range_with_len 0 n) k
in_range n k low = let size = length-range_with_len 0 n in (k, omega arith, get_or-range_with_len 0 n k k low ∙ zero_more)
  where
    zero_more : 0 + k ≡ k
    zero_more = omega arith

pub range_low : (n k : ℕ) → Contains (range_with_len 0 n) k → k < n
range_low n k (i, low, is) =
    let size = length-range_with_len 0 n in
    let at = get_or-range_with_len 0 n i k (omega arith) in
    omega arith

place_in_range : (a n k : ℕ) → k < n → place (a + k) (range_with_len a n) ≡ k
place_in_range a zero k low = absurd (omega arith)
place_in_range a (suc n) zero low = place_here a (range_with_len (a + 1) n) (a + 0) (omega arith)
place_in_range a (suc n) (suc k) low =
    let same : (a + 1) + k ≡ a + suc k = omega arith in
    place_on a (range_with_len (a + 1) n) (a + suc k) (λ is. omega arith)
    ∙ ap suc (ap (λ h. place h (range_with_len (a + 1) n)) (sym same) ∙ place_in_range (a + 1) n k (omega arith))

pub place_number : (n k : ℕ) → k < n → place k (range_with_len 0 n) ≡ k
place_number n k low = let same : k ≡ 0 + k = omega arith in ap (λ j. place j (range_with_len 0 n)) same ∙ place_in_range 0 n k low

all_zip_at : {A B : Type 0} (P : A → B → Type 0) (xs : List A) (ys : List B) → AllZip P xs ys → (k : ℕ) (x : A) (y : B) → slice_get xs k ≡ Some x → slice_get ys k ≡ Some y → P x y
all_zip_at P [] ys all k x y at_x at_y = absurd (none-some x at_x)
all_zip_at P (z ∷ xs) [] all k x y at_x at_y = absurd all
all_zip_at P (z ∷ xs) (w ∷ ys) all zero x y at_x at_y = subst (λ u. P u y) (same_Some z x at_x) (subst (P z) (same_Some w y at_y) all.0)
all_zip_at P (z ∷ xs) (w ∷ ys) all (suc k) x y at_x at_y = all_zip_at P xs ys all.1 k x y at_x at_y

pub map_at : {A B : Type 0} (f : A → B) (xs : List A) (k : ℕ) (y : B) → slice_get (map f xs) k ≡ Some y → (x : A) × (slice_get xs k ≡ Some x) × (y ≡ f x)
map_at f [] k y is = absurd (none-some y is)
map_at f (x ∷ xs) zero y is = (x, refl, sym (same_Some (f x) y is))
map_at f (x ∷ xs) (suc k) y is = map_at f xs k y is

pub index_of : (xs : List ℕ) (k v : ℕ) → slice_get xs k ≡ Some v → slice_index xs k ≡ v
index_of [] k v is = absurd (none-some v is)
index_of (x ∷ xs) zero v is = same_Some x v is
index_of (x ∷ xs) (suc k) v is = index_of xs k v is

in_named : (rs : List SavedRegister) (r : SavedRegister) (k : ℕ) → Contains rs r → Contains (named_by r) k → Contains (flat_map named_by rs) k
in_named [] r k there named = absurd (none_in_nil r there)
in_named (q ∷ rs) r k there named = elim (cons_cases q r rs there) [
  | inl same ↦ Contains-append_left (named_by q) (flat_map named_by rs) k (subst (λ x. Contains (named_by x) k) (sym same) named)
  | inr after ↦ Contains-append_right (named_by q) (flat_map named_by rs) k (in_named rs r k after named)
]

-- ---- numbers of cells

-- each cell that a register names is there
abbrev pub AreLow : List SavedRegister → ℕ → Type 0
AreLow rs n = AllByRecursion (λ r. AllByRecursion (λ k. k < n) (named_by r)) rs

pub all_low : (s : System) (st : MonitorState) → AreNumbered s st → AreLow st.registers (length st.cells)
all_low s st numbered =
    all_from (λ r. AllByRecursion (λ k. k < length st.cells) (named_by r)) st.registers (λ r there.
    all_from (λ k. k < length st.cells) (named_by r) (λ k named.
    range_low (length st.cells) k (subst (λ l. Contains l k) numbered (in_firsts (flat_map named_by st.registers) k (in_named st.registers r k there named)))))

-- ---- what is asked before

pub low_in : (s : System) (st : MonitorState) → AreNumbered s st → (rs : List SavedRegister) (handles : List ℕ) → rs ≡ st.registers → length handles ≡ length st.cells → AreLow rs (length handles)
low_in s st numbered rs handles is size = subst (AreLow rs) (sym size) (subst (λ l. AreLow l (length st.cells)) (sym is) (all_low s st numbered))

pub numbers_once : (s : System) (p : ℕ → Bool) → IsOnce (filter p (numbers s))
numbers_once s p = filter_once p (numbers s) (range_once 0 (length s.equations))

pub all_updates : (s : System) → IsFlat s → (n : ℕ) → n ≡ length s.equations → (updates : List ℕ) → updates ≡ running_updates s → All (λ u. u < n) updates
all_updates s whole n size updates is =
    subst (All (λ u. u < n)) (sym is) (All-from_recursion (λ u. u < n) (running_updates s) (all_from (λ u. u < n) (running_updates s) (λ u there.
    let update = (and_parts (is_running_update s u) (is_in (numbers s) u) (sym (in_filter (is_running_update s) (numbers s) u) ∙ in-Contains (running_updates s) u there)).0 in
    let lt = runs_below s whole.proper u (and_parts (runs s u) (is_update_at (equation s u)) update).0 in omega arith)))

all_places : {A : Type 0} (P : A → Type 0) (xs : List A) → ((k : ℕ) (x : A) → slice_get xs k ≡ Some x → P x) → AllByRecursion P xs
all_places P [] each = tt
all_places P (x ∷ xs) each = (each 0 x refl, all_places P xs (λ k y at. each (suc k) y at))

aggregate_content : (of : ValueType) (c : Content) → is_aggregate of ≡ true → is_content_of of c ≡ true → is_of_aggregate c ≡ true
aggregate_content (value_type.Scalar t) c aggregate is = absurd (false≢true aggregate)
aggregate_content (value_type.Set k) (content.Set keys) aggregate is = refl
aggregate_content (value_type.Map k t) (content.Map entries) aggregate is = refl
aggregate_content (value_type.Queue t) (content.Queue elements) aggregate is = refl
aggregate_content _ _ aggregate is = absurd (false≢true is)

-- a register that names a cell
names : (r : SavedRegister) (k : ℕ) → Contains (named_by r) k → r ≡ saved.Cell k
names saved.Empty k there = absurd (none_in_nil k there)
names (saved.Scalar x) k there = absurd (none_in_nil k there)
names (saved.Cell j) k there = elim (cons_cases j k [] there) [
  | inl same ↦ ap saved.Cell same
  | inr after ↦ absurd (none_in_nil k after)
]

named_register : (rs : List SavedRegister) (k : ℕ) → Contains (flat_map named_by rs) k → (i : ℕ) × (slice_get rs i ≡ Some (saved.Cell k))
named_register [] k there = absurd (none_in_nil k there)
named_register (r ∷ rs) k there = elim (Contains-append_cases (named_by r) (flat_map named_by rs) k there) [
  | inl here ↦ (0, ap Some (names r k here))
  | inr after ↦ let rest = named_register rs k after in (suc rest.0, rest.1)
]

all_zip_right : {A B : Type 0} (P : A → B → Type 0) (xs : List A) (ys : List B) → AllZip P xs ys → (k : ℕ) (y : B) → slice_get ys k ≡ Some y → (x : A) × (slice_get xs k ≡ Some x) × P x y
all_zip_right P xs [] all k y at = absurd (none-some y at)
all_zip_right P [] (w ∷ ys) all k y at = absurd all
all_zip_right P (x ∷ xs) (w ∷ ys) all zero y at = (x, refl, subst (P x) (same_Some w y at) all.0)
all_zip_right P (x ∷ xs) (w ∷ ys) all (suc k) y at = all_zip_right P xs ys all.1 k y at

-- each cell is of an aggregate, since a register names it
pub aggregates : (s : System) → IsFlat s → (limit : ℕ) (st : MonitorState) → FitsMonitor s limit st → (cells : List Content) → cells ≡ st.cells
    → AllByRecursion (λ (c : Content). IsTrue (is_of_aggregate c) × AreInOrder c) cells
aggregates s whole limit st fits cells cells_is =
    subst (AllByRecursion (λ (c : Content). IsTrue (is_of_aggregate c) × AreInOrder c)) (sym cells_is)
    (all_places (λ (c : Content). IsTrue (is_of_aggregate c) × AreInOrder c) st.cells (λ k c at. (
      named k c at,
      (all_by_place (λ (d : Content). AreInOrder d × AllIn IsInBounds d × (content_size d < 2 ^ 64)) st.cells fits.cells k c at).0,
    )))
  where
    fits_cell : (of : ValueType) (c : Content) → FitsCell of (Some c) → IsTrue (is_of_aggregate c)
    fits_cell of c typed = aggregate_content of c typed.0 typed.1

    named : (k : ℕ) (c : Content) → slice_get st.cells k ≡ Some c → IsTrue (is_of_aggregate c)
    named k c at =
        let low = slice_get_within st.cells k c at in
        let by = named_register st.registers k (of_firsts (flat_map named_by st.registers) k (subst (λ l. Contains l k) (sym fits.numbered) (in_range (length st.cells) k low))) in
        let kept = all_zip_right (FitsRegister s st.cells) (keeps_of s) st.registers fits.typed by.0 (saved.Cell k) by.1 in
        let f = whole.proper.runs_all kept.0 (kept_runs s whole kept.0 (listed_kept s kept.0 (in-Contains (keeps_of s) kept.0 (contains_at (keeps_of s) by.0 kept.0 kept.1)))) in
        fits_cell f.0.of c (subst (FitsCell f.0.of) at (subst (λ o. IfSome (option_map (λ (e : Equation). e.of) o) (λ of. FitsType st.cells of (saved.Cell k))) f.1 kept.2))

bare_same : {x y : Scalar} → Some (Bare x) ≡ Some (Bare y) → x ≡ y
bare_same e = cc

register_cell : {h k : ℕ} → register.Aggregate h ≡ register.Aggregate k → h ≡ k
register_cell e = cc

module _ (handles : List ℕ) (n : ℕ) (q : Renaming) (renames : map q.to (range_with_len 0 n) ≡ handles) where
  handle_is : (k : ℕ) → k < n → slice_index handles k ≡ q.to k
  handle_is k low =
      let size = length-range_with_len 0 n in
      ap (λ l. slice_index l k) (sym renames) ∙ index_map q.to (range_with_len 0 n) k (omega arith) ∙ ap q.to (range_at 0 n k low ∙ zero_more)
    where
      zero_more : 0 + k ≡ k
      zero_more = omega arith

  number_is : (k : ℕ) → k < n → unwrap_or (position (λ h. nat_eq h (slice_index handles k)) handles) 0 ≡ k
  number_is k low =
      ap (λ p. unwrap_or p 0)
      ((λ i. position (λ h. nat_eq h (handle_is k low i)) (sym renames i))
      ∙ place_renamed q k (range_with_len 0 n)
      ∙ position_is k (range_with_len 0 n) (in_range n k low))
      ∙ place_number n k low

  -- a register is saved as it was
  saved_back : (r : SavedRegister) → AllByRecursion (λ k. k < n) (named_by r) → saved_of handles (held_by (register_with handles r)) ≡ r
  saved_back saved.Empty low = refl
  saved_back (saved.Scalar x) low = refl
  saved_back (saved.Cell k) low = ap saved.Cell (number_is k low.0)

  all_back : (rs : List SavedRegister) → AreLow rs n → map (λ r. saved_of handles (held_by r)) (map (register_with handles) rs) ≡ rs
  all_back [] low = refl
  all_back (r ∷ rs) low = λ k. saved_back r low.0 k ∷ all_back rs low.1 k

  cells_of : (r : SavedRegister) → AllByRecursion (λ k. k < n) (named_by r) → (rest : List ℕ) (named : List ℕ) → rest ≡ map q.to named → cell_held (held_by (register_with handles r)) ++ rest ≡ map q.to (named_by r ++ named)
  cells_of saved.Empty low rest named is = is
  cells_of (saved.Scalar x) low rest named is = is
  cells_of (saved.Cell k) low rest named is = λ i. handle_is k low.0 i ∷ is i

  all_cells : (rs : List SavedRegister) → AreLow rs n → flat_map (λ r. cell_held (held_by r)) (map (register_with handles) rs) ≡ map q.to (flat_map named_by rs)
  all_cells [] low = refl
  all_cells (r ∷ rs) low = cells_of r low.0 (flat_map (λ x. cell_held (held_by x)) (map (register_with handles) rs)) (flat_map named_by rs) (all_cells rs low.1)

-- ---- what is kept

-- the type of the first equation that holds a cell
abbrev pub holds_cell : Register → ℕ → Bool
holds_cell (register.Aggregate k) h = k == h
holds_cell _ h = false

cell_held_there : (r : Register) (h : ℕ) → holds_cell r h ≡ true → r ≡ register.Aggregate h
cell_held_there register.Empty h holds = absurd (false≢true holds)
cell_held_there (register.Scalar x) h holds = absurd (false≢true holds)
cell_held_there (register.Aggregate k) h holds = ap register.Aggregate (eqb-true k h holds)

abbrev pub types_in : System → List Register → List ℕ → ℕ → ValueType
types_in s last [] h = unit_type
types_in s last (v ∷ vs) h = if holds_cell (register_at last v) h then unwrap_or (type_at s v) unit_type else types_in s last vs h

module _ (s : System) (whole : IsFlat s) (limit : ℕ) (st : MonitorState) (fits : FitsMonitor s limit st) (cells : Cells) (ledger : List ℕ) (last : List Register) (timers : Times) (is : IsRestored s st cells ledger last timers) where
  abbrev n : ℕ
  n = length st.cells

  abbrev handles : List ℕ
  handles = is.handles

  low : AreLow st.registers n
  low = all_low s st fits.numbered

  size : length handles ≡ n
  size = as_many cells st.cells handles is.has_cells.views

  found : (q : Renaming) × (map q.to (range_with_len 0 n) ≡ handles)
  found = renaming (range_with_len 0 n) handles (range_once 0 n) is.has_cells.once (length-range_with_len 0 n ∙ sym size)

  keeps_once : IsOnce (keeps_of s)
  keeps_once = numbers_once s (is_kept s)

  as_many_kept : length (map (register_with handles) st.registers) ≡ length (keeps_of s)
  as_many_kept = length-map st.registers (register_with handles) ∙ fits.one_each.kept

  lasts_are : map (register_at last) (keeps_of s) ≡ map (register_with handles) st.registers
  lasts_are =
      map_agree (register_at last) (λ v. placed (keeps_of s) (map (register_with handles) st.registers) v register.Empty) (keeps_of s) (λ v there. is.registers v)
      ∙ placed_all (λ (r : Register). r) (keeps_of s) (map (register_with handles) st.registers) register.Empty keeps_once as_many_kept
      ∙ map_map_same (map (register_with handles) st.registers)
    where
      map_map_same : (rs : List Register) → map (λ (r : Register). r) rs ≡ rs
      map_map_same [] = refl
      map_map_same (r ∷ rs) = ap (λ l. r ∷ l) (map_map_same rs)

  held_are : firsts (flat_map (λ v. cell_held (held_at last v)) (keeps_of s)) ≡ handles
  held_are =
      ap firsts (flat_over (register_at last) (λ r. cell_held (held_by r)) (keeps_of s) ∙ ap (flat_map (λ r. cell_held (held_by r))) lasts_are ∙ all_cells handles n found.0 found.1 st.registers low)
      ∙ firsts_renamed found.0 (flat_map named_by st.registers)
      ∙ ap (map found.0.to) fits.numbered
      ∙ found.1

  registers_are : st.registers ≡ map (λ v. saved_of handles (held_at last v)) (keeps_of s)
  registers_are =
      sym (sym (map_map (register_at last) (λ r. saved_of handles (held_by r)) (keeps_of s)) ∙ ap (map (λ r. saved_of handles (held_by r))) lasts_are
      ∙ all_back handles n found.0 found.1 st.registers low)

  ordered : AllByRecursion AreInOrder st.cells
  ordered = all_from AreInOrder st.cells (λ c there. (all_at (λ (c : Content). AreInOrder c × AllIn IsInBounds c × (content_size c < 2 ^ 64)) st.cells fits.cells c there).0)

  pub shows : ShowsMachine s (state_of cells ledger last timers) st
  shows = record {
    ledger = sym (
        map_agree (slice_index ledger) (λ u. placed (running_updates s) st.ledger u 0) (running_updates s) (λ u there. is.counts u)
        ∙ placed_all (λ (k : ℕ). k) (running_updates s) st.ledger 0 (numbers_once s (is_running_update s)) fits.one_each.updates
        ∙ map_same st.ledger);
    registers = registers_are ∙ ap (λ hs. map (λ v. saved_of hs (held_at last v)) (keeps_of s)) (sym held_are);
    cells = sym (ap (map (λ h. content_of (view_at cells h))) held_are ∙ contents_back cells st.cells handles is.has_cells.views ordered);
    pending = sym (
        map_agree (finite_map.get timers) (λ d. placed (timers_of s) st.pending d None) (timers_of s) (λ d there. is.pending d)
        ∙ placed_all (λ (o : Option ℕ). o) (timers_of s) st.pending None (numbers_once s (is_timer s)) fits.one_each.delays
        ∙ map_none st.pending);
  }
    where
      map_same : (xs : List ℕ) → map (λ (k : ℕ). k) xs ≡ xs
      map_same [] = refl
      map_same (x ∷ xs) = ap (λ l. x ∷ l) (map_same xs)

      map_none : (xs : List (Option ℕ)) → map (λ (o : Option ℕ). o) xs ≡ xs
      map_none [] = refl
      map_none (x ∷ xs) = ap (λ l. x ∷ l) (map_none xs)

  -- ---- nothing else is kept

  unkept_empty : (v : ℕ) → (Contains (keeps_of s) v → ⊥) → register_at last v ≡ register.Empty
  unkept_empty v none = is.registers v ∙ placed_none (keeps_of s) (map (register_with handles) st.registers) v register.Empty none

  pub unkept : AreUnkept s last
  unkept i fails = unkept_empty i (λ there. true≢false (sym (listed_kept s i (in-Contains (keeps_of s) i there)) ∙ fails))

  in_held : (v h : ℕ) → register_at last v ≡ register.Aggregate h → Contains (keeps_of s) v × Contains handles h
  in_held v h holds = elim (member_cases (keeps_of s) v) [
    | inl kept ↦ (
      kept,
      subst (λ l. Contains l h) held_are (in_firsts (flat_map (λ u. cell_held (held_at last u)) (keeps_of s)) h (held_in (held_at last) (keeps_of s) v h kept (ap held_by holds))),
    )
    | inr none ↦ let empty = sym (unkept_empty v none) ∙ holds in absurd (cc)
  ]

  handle_live : (h : ℕ) → Contains handles h → IsLive cells h
  handle_live h there = views_there cells st.cells handles is.has_cells.views h there

  held_one : (h : ℕ) → Contains handles h → (v : ℕ) × Contains (keeps_of s) v × (held_at last v ≡ Some (Cell h))
  held_one h there =
      held_by_one (held_at last) (keeps_of s) h (of_firsts (flat_map (λ u. cell_held (held_at last u)) (keeps_of s)) h (subst (λ l. Contains l h) (sym held_are) there))

  live_named : (h : ℕ) → IsLive cells h → (v : ℕ) × Contains (keeps_of s) v × (held_at last v ≡ Some (Cell h))
  live_named h live = held_one h (is.has_cells.no_other h live)

  pub tidy : IsTidy s (state_of cells ledger last timers)
  tidy = record {
    lasts = λ v. elim (member_cases (keeps_of s) v) [ inl kept ↦ inr kept | inr none ↦ inl (ap held_by (unkept_empty v none)) ];
    there = λ v h holds none. false≢true (sym (ap is_some none) ∙ handle_live h (in_held v h (cell_of (register_at last v) h holds)).1);
    named = λ h view at. live_named h (ap is_some at);
    ledger = λ u none. is.counts u ∙ placed_none (running_updates s) st.ledger u 0 (λ there.
        true≢false (sym (listed_in (is_running_update s) u there) ∙ none));
    pending = λ d. elim (member_cases (timers_of s) d) [
      | inl timer ↦ inr timer
      | inr none ↦ inl (is.pending d ∙ placed_none (timers_of s) st.pending d None none)
    ];
  }
    where
      listed_in : (p : ℕ → Bool) (u : ℕ) → Contains (filter p (numbers s)) u → p u ≡ true
      listed_in p u there = (and_parts (p u) (is_in (numbers s) u) (sym (in_filter p (numbers s) u) ∙ in-Contains (filter p (numbers s)) u there)).0

  -- ---- registers are of their types

  -- what is kept at an equation
  record KeptAt (v : ℕ) : Type 0 where
    place : ℕ
    register : SavedRegister
    number_at : slice_get (keeps_of s) place ≡ Some v
    saved_at : slice_get st.registers place ≡ Some register
    holds : register_at last v ≡ register_with handles register

  kept_at : (v : ℕ) → Contains (keeps_of s) v → KeptAt v
  kept_at v there =
      let at = stands_at (keeps_of s) (map (register_with handles) st.registers) v register.Empty as_many_kept there in
      let by = map_at (register_with handles) st.registers at.place at.value at.value_is in
      record { place = at.place; register = by.0; number_at = at.number_is; saved_at = by.1; holds = is.registers v ∙ at.is ∙ by.2 }

  typed_cell : (of : ValueType) (k : ℕ) (o : Option Content) → slice_get st.cells k ≡ o → FitsCell of o → IsHeldOf cells of (register.Aggregate (slice_index handles k))
  typed_cell of k None at typed = absurd typed
  typed_cell of k (Some c) at typed =
      let view = view_of_place cells st.cells handles is.has_cells.views k c at in
      let view_is : view_at cells (slice_index handles k) ≡ view_in c = ap (λ o. unwrap_or o (Plain scalar.Unit)) view in
      let fit : IsTrue (is_of of (view_at cells (slice_index handles k))) = ap (is_of of) view_is ∙ typed_view of c typed.1 in
      record { typed = fit; live = (ap is_some view, elements_of of (view_at cells (slice_index handles k)) fit ∙ typed.0) }

  typed_register : (of : ValueType) (r : SavedRegister) → FitsType st.cells of r → IsHeldOf cells of (register_with handles r)
  typed_register of saved.Empty typed = record { typed = refl; live = tt }
  typed_register of (saved.Scalar x) typed = record { typed = typed.0; live = tt }
  typed_register of (saved.Cell k) typed = typed_cell of k (slice_get st.cells k) refl typed

  typed_at : (i : ℕ) (e : Equation) (kept : KeptAt i) → equation s i ≡ Some e → FitsType st.cells e.of kept.register
  typed_at i e kept at =
      subst (λ o. IfSome (option_map (λ (f : Equation). f.of) o) (λ of. FitsType st.cells of kept.register)) at
      (all_zip_at (FitsRegister s st.cells) (keeps_of s) st.registers fits.typed kept.place i kept.register kept.number_at kept.saved_at)

  each_held : (i : ℕ) (e : Equation) → equation s i ≡ Some e → IsHeldOf cells e.of (register_at last i)
  each_held i e at = elim (member_cases (keeps_of s) i) [
    | inr none ↦ subst (IsHeldOf cells e.of) (sym (unkept_empty i none)) (record { typed = refl; live = tt })
    | inl there ↦
        let kept = kept_at i there in
        subst (IsHeldOf cells e.of) (sym kept.holds) (typed_register e.of kept.register (typed_at i e kept at))
  ]

  -- registers of one cell are of one type
  named_cell : (r : SavedRegister) (h : ℕ) → register_with handles r ≡ register.Aggregate h → (k : ℕ) × (r ≡ saved.Cell k) × (slice_index handles k ≡ h)
  named_cell saved.Empty h holds = absurd (cc)
  named_cell (saved.Scalar x) h holds = absurd (cc)
  named_cell (saved.Cell k) h holds = (k, refl, register_cell holds)

  named_low : (place k : ℕ) → slice_get st.registers place ≡ Some (saved.Cell k) → k < n
  named_low place k at = (all_by_place (λ r. AllByRecursion (λ j. j < n) (named_by r)) st.registers low place (saved.Cell k) at).0

  one_type_at : (i j h : ℕ) → register_at last i ≡ register.Aggregate h → register_at last j ≡ register.Aggregate h → type_at s i ≡ type_at s j
  one_type_at i j h holds_i holds_j =
      let a = kept_at i (in_held i h holds_i).0 in
      let b = kept_at j (in_held j h holds_j).0 in
      let x = named_cell a.register h (sym a.holds ∙ holds_i) in
      let y = named_cell b.register h (sym b.holds ∙ holds_j) in
      let at_a : slice_get st.registers a.place ≡ Some (saved.Cell x.0) = a.saved_at ∙ ap Some x.1 in
      let at_y : slice_get st.registers b.place ≡ Some (saved.Cell y.0) = b.saved_at ∙ ap Some y.1 in
      let same : y.0 ≡ x.0 =
      sym (number_is handles n found.0 found.1 y.0 (named_low b.place y.0 at_y))
      ∙ ap (λ h. unwrap_or (position (λ w. nat_eq w h) handles) 0) (y.2 ∙ sym x.2)
      ∙ number_is handles n found.0 found.1 x.0 (named_low a.place x.0 at_a) in
      let at_b : slice_get st.registers b.place ≡ Some (saved.Cell x.0) = at_y ∙ ap (λ k. Some (saved.Cell k)) same in
      ap (type_at s) (sym (index_of (keeps_of s) a.place i a.number_at)) ∙ fits.shared a.place b.place x.0 at_a at_b ∙ ap (type_at s) (index_of (keeps_of s) b.place j b.number_at)

  abbrev pub types : ℕ → ValueType
  types = types_in s last (keeps_of s)

  type_found : (vs : List ℕ) (i h : ℕ) (of : ValueType) → Contains vs i → register_at last i ≡ register.Aggregate h
      → ((j : ℕ) → register_at last j ≡ register.Aggregate h → unwrap_or (type_at s j) unit_type ≡ of) → types_in s last vs h ≡ of
  type_found [] i h of there holds one = absurd (none_in_nil i there)
  type_found (v ∷ vs) i h of there holds one = elim (cases_Bool (holds_cell (register_at last v) h)) [
    | inl same ↦
        (λ k. if same k then unwrap_or (type_at s v) unit_type else types_in s last vs h) ∙ one v (cell_held_there (register_at last v) h same)
    | inr other ↦
        (λ k. if other k then unwrap_or (type_at s v) unit_type else types_in s last vs h)
        ∙ type_found vs i h of (elim (cons_cases v i vs there) [
          | inl same ↦ absurd (false≢true (sym other ∙ ap (λ w. holds_cell (register_at last w) h) same ∙ ap (λ r. holds_cell r h) holds ∙ eq-eqb h h refl))
          | inr after ↦ after
        ]) holds one
  ]

  pub held : length last ≡ length s.equations → AreHeld s types cells last
  held one_each = record {
    one_each = one_each;
    each = λ i e run at. each_held i e at;
    one_type = λ i h e run at holds. type_found (keeps_of s) i h e.of (in_held i h holds).0 holds (λ j other. ap (λ o. unwrap_or o unit_type) (one_type_at j i h other holds ∙ ap (option_map (λ (f : Equation). f.of)) at));
  }

  -- ---- texts

  pub short : IsShortState (state_of cells ledger last timers)
  short = record { lasts = short_last; cells = short_cell }
    where
      short_saved : (of : ValueType) (r : SavedRegister) → FitsType st.cells of r → (value : Scalar) → held_by (register_with handles r) ≡ Some (Bare value) → IsShort value
      short_saved of saved.Empty typed value at = absurd (cc)
      short_saved of (saved.Scalar x) typed value at = subst IsShort (bare_same at) (bounds_short x typed.1)
      short_saved of (saved.Cell k) typed value at = absurd (cc)

      short_last : (v : ℕ) (value : Scalar) → held_at last v ≡ Some (Bare value) → IsShort value
      short_last v value at = elim (member_cases (keeps_of s) v) [
        | inr none ↦ let empty = sym (ap held_by (unkept_empty v none)) ∙ at in absurd (cc)
        | inl there ↦
            let kept = kept_at v there in
            let f = whole.proper.runs_all v (kept_runs s whole v (listed_kept s v (in-Contains (keeps_of s) v there))) in
            short_saved f.0.of kept.register (typed_at v f.0 kept f.1) value (sym (ap held_by kept.holds) ∙ at)
      ]

      short_cell : (h : ℕ) (view : View) → finite_map.get cells h ≡ Some view → IsShortView view
      short_cell h view at =
          let by = view_at_place cells st.cells handles is.has_cells.views h (is.has_cells.no_other h (ap is_some at)) in
          subst IsShortView (same_Some (view_in by.0) view (sym by.2 ∙ at)) (short_view by.0 (all_at (λ (c : Content). AreInOrder c × AllIn IsInBounds c × (content_size c < 2 ^ 64)) st.cells fits.cells by.0 by.1).1)

  -- ---- pending delays

  pub due : AreTimers s st.bound timers
  due = record {
    each = λ d u at. elim (member_cases (timers_of s) d) [
      | inr none ↦ let nothing = sym (is.pending d ∙ placed_none (timers_of s) st.pending d None none) ∙ at in absurd (cc)
      | inl there ↦
          let stands = stands_at (timers_of s) st.pending d None fits.one_each.delays there in
          let value : stands.value ≡ Some u = sym (is.pending d ∙ stands.is) ∙ at in
          let pends = subst (λ p. IfSome p (λ w. (st.bound ≤ w) × (w < 2 ^ 63))) value (all_by_place (λ (p : Option ℕ). IfSome p (λ w. (st.bound ≤ w) × (w < 2 ^ 63))) st.pending fits.pending stands.place stands.value stands.value_is) in
          (listed_timer s d (in-Contains (timers_of s) d there), pends.0, pends.1)
    ];
  }

  -- ---- few cells

  stored_type : (i h : ℕ) → Contains (keeps_of s) i → register_at last i ≡ register.Aggregate h → is_stored_type (equation s i) ≡ true
  stored_type i h there holds =
      let f = whole.proper.runs_all i (kept_runs s whole i (listed_kept s i (in-Contains (keeps_of s) i there))) in
      let at : IsHeldOf cells f.0.of (register.Aggregate h) = subst (IsHeldOf cells f.0.of) holds (each_held i f.0 f.1) in
      ap is_stored_type f.1 ∙ sym (elements_of f.0.of (view_at cells h) at.typed) ∙ at.live.1

  only_listed : (h : ℕ) → IsLive cells h → is_listed (cells_in last (keeps_of s)) h ≡ true
  only_listed h live = tidy_listed s cells ledger last timers tidy h live

  pub few : finite_map.len cells ≤ stored_count s
  few =
      let live = few_live (cells_in last (keeps_of s)) cells only_listed in
      let stored = few_cells_in s last (keeps_of s) (all_from (λ i. (h : ℕ) → register_at last i ≡ register.Aggregate h → is_stored_type (equation s i) ≡ true) (keeps_of s) (λ i there h holds. stored_type i h there holds)) in
      omega arith
