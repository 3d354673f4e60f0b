-- The state of a monitor fits.
use Rattle.std.proofs.Common.{◌≡◌, ℕ, zero, suc, ◌<◌, ◌≤◌, ◌^◌, List, [], ◌∷◌, ◌++◌, length, map, Contains, Option, Some, None, refl, sym, ap, subst, ◌∙◌, inl, inr, arith}
use Rattle.std.proofs.lemmas.Bool.{cases_eq, cases_lt}
use Rattle.std.proofs.lemmas.List.{length-map}
use Rattle.std.proofs.lemmas.List.FromFn.{length-range_with_len}
use Rattle.std.proofs.lemmas.Option.{none-some, same_Some}
use Rattle.std.specs.Prelude.{IfSome, IsTrue, nat_eq, position, slice_get, slice_index, unwrap_or}
use Rattle.std.specs.List.{AllByRecursion, AllZip, flat_map, range_with_len}
use Rattle.std.specs.List.Sorted.{IsStrictlyIncreasing}
use Rattle.std.specs.Option.{option_map}
use Rattle.std.specs.FinMap as finite_map
use Rattle.tsl_value.specs.View.{Plain}
use Rattle.tsl_value.specs.declared.scalar.Scalar.{Scalar}
use Rattle.tsl_value.specs.declared.scalar.ValueType.{ValueType}
use Rattle.tsl_value.specs.inner.Laws.{IsInBounds}
use Rattle.tsl_value.proofs.Aggregates.{elements_of}
use Rattle.tsl_value.proofs.Lists.{cons_cases, contains_at, contains_map, later, map_contains, none_in_nil}
use Rattle.body_eval.specs.declared.register.Register.{Register}
use Rattle.body_eval.specs.declared.register.Register.TheVariants as register
use Rattle.cell_reader.specs.inner.Cells.{view_at}
use Rattle.aggregate_store.specs.declared.content.Content.{Content}
use Rattle.aggregate_store.specs.Content.{AllIn, AreInOrder, IsInRange, content_of, content_size}
use Rattle.aggregate_store.proofs.Contents.{contents}
use Rattle.flat_core.specs.declared.equation.Equation.{Equation}
use Rattle.flat_core.specs.Complete.{IsShort}
use Rattle.flat_core.specs.Kept.{keeps_of, timers_of}
use Rattle.flat_core.specs.Line.{inputs_of}
use Rattle.flat_core.specs.System.{System, runs}
use Rattle.flat_core.proofs.Members.{all_at, all_from, all_map, in-Contains}
use Rattle.register_machine.specs.Machine.{Held, Bare, Cell}
use Rattle.register_machine.specs.Renamed.{Renaming}
use Rattle.register_machine.specs.Short.{IsShortValue}
use Rattle.monitor_state.specs.declared.state.MonitorState.{MonitorState}
use Rattle.monitor_state.specs.declared.state.OpenEvent.{OpenEvent}
use Rattle.monitor_state.specs.declared.state.SavedRegister.TheVariants as saved
use Rattle.monitor_state.specs.Fits.{FitsCell, FitsMonitor, FitsRegister, FitsType, named_by, type_at}
use Rattle.monitor_state.specs.Inputs.{IsInputOf}
use Rattle.monitor_run.specs.inner.Registers.{IsHeldOf, register_at}
use Rattle.monitor_run.specs.inner.Saved.{CanSave, HasState, cell_held, held_cells, saved_of, value_of}
use Rattle.monitor_state.specs.Firsts.{firsts}
use Rattle.monitor_run.specs.inner.Shown.{held_at, held_by}
use Rattle.monitor_run.specs.inner.State.{State, IsReady, kept_state}
use Rattle.monitor_run.specs.inner.Taking.{InRegister}
use Rattle.monitor_run.proofs.ContentLemmas.{content_bounds, in_bounds, short_content, typed_content}
use Rattle.monitor_run.proofs.InstantLemmas.{given_of, kept_runs, listed_kept}
use Rattle.monitor_run.proofs.OneState.{firsts_renamed, none_after, place_renamed, rest_rises, value_first, value_later}
use Rattle.monitor_run.proofs.Placed.{range_once}
use Rattle.monitor_run.proofs.BareLemmas.{cell_of}
use Rattle.monitor_run.proofs.RestoredLemmas.{index_of, map_at, place_number, range_low}
use Rattle.monitor_run.proofs.ShortLemmas.{inputs_short}
use Rattle.monitor_run.proofs.ShownStates.{cell_listed, firsts_once, held_in, in_firsts, in_map, one_place, place, place_here, place_on, position_is, renaming}

-- ---- open events

value_of_member : (events : List OpenEvent) → IsStrictlyIncreasing (map (λ (e : OpenEvent). e.equation) events) → (e : OpenEvent) → Contains events e → value_of events e.equation ≡ Some (Plain e.value)
value_of_member [] rises e there = absurd (none_in_nil e there)
value_of_member (f ∷ events) rises e there = elim (cons_cases f e events there) [
  | inl same ↦ subst (λ (x : OpenEvent). value_of (f ∷ events) x.equation ≡ Some (Plain x.value)) same (value_first f events)
  | inr after ↦
      let rest = value_of_member events (rest_rises f.equation (map (λ (x : OpenEvent). x.equation) events) rises) e after in
      elim (cases_eq f.equation e.equation) [
        | inr other ↦ value_later f events e.equation other ∙ rest
        | inl same ↦ let none : None ≡ Some (Plain e.value) = sym (none_after f events rises) ∙ ap (value_of events) same ∙ rest in absurd (cc)
      ]
]

-- ---- lists

all_zip_map : {A B : Type 0} (P : A → B → Type 0) (f : A → B) (xs : List A) → ((x : A) → Contains xs x → P x (f x)) → AllZip P xs (map f xs)
all_zip_map P f [] each = tt
all_zip_map P f (x ∷ xs) each = (each x (0, omega arith, refl), all_zip_map P f xs (λ y there. each y (later x y xs there)))

get_map : {A B : Type 0} (f : A → B) (xs : List A) (k : ℕ) (x : A) → slice_get xs k ≡ Some x → slice_get (map f xs) k ≡ Some (f x)
get_map f [] k x at = absurd (none-some x at)
get_map f (y ∷ xs) zero x at = ap (λ z. Some (f z)) (same_Some y x at)
get_map f (y ∷ xs) (suc k) x at = get_map f xs k x at

at_place : (h : ℕ) (xs : List ℕ) → Contains xs h → slice_get xs (place h xs) ≡ Some h
at_place h [] there = absurd (none_in_nil h there)
at_place h (x ∷ xs) there = elim (cases_eq x h) [
  | inl same ↦ ap (slice_get (x ∷ xs)) (place_here x xs h same) ∙ ap Some same
  | inr other ↦ elim (cons_cases x h xs there) [
    | inl same ↦ absurd (other same)
    | inr after ↦ ap (slice_get (x ∷ xs)) (place_on x xs h other) ∙ at_place h xs after
  ]
]

saved_number : {i j : ℕ} → saved.Cell i ≡ saved.Cell j → i ≡ j
saved_number e = cc

-- what a saved register was, where it names a cell
held_cell : (hs : List ℕ) (o : Option Held) (k : ℕ) → saved.Cell k ≡ saved_of hs o → (h : ℕ) × (o ≡ Some (Cell h)) × (k ≡ unwrap_or (position (λ n. nat_eq n h) hs) 0)
held_cell hs None k is = absurd (cc)
held_cell hs (Some (Bare v)) k is = absurd (cc)
held_cell hs (Some (Cell h)) k is = (h, refl, saved_number is)

module _ (m : State) (ready : IsReady m) (can : CanSave m) (st : MonitorState) (has : HasState m st) where
  abbrev s : System
  s = m.system

  abbrev lasts : ℕ → Option Held
  lasts = held_at m.last

  abbrev hs : List ℕ
  hs = held_cells s (kept_state m)

  held_listed : (v h : ℕ) → Contains (keeps_of s) v → lasts v ≡ Some (Cell h) → Contains hs h
  held_listed v h kept is = in_firsts (flat_map (λ u. cell_held (lasts u)) (keeps_of s)) h (held_in lasts (keeps_of s) v h kept is)

  runs_kept : (v : ℕ) → Contains (keeps_of s) v → IsTrue (runs s v)
  runs_kept v kept = kept_runs s ready.whole v (listed_kept s v (in-Contains (keeps_of s) v kept))

  size : length st.cells ≡ length hs
  size = ap length has.machine.cells ∙ length-map hs (λ h. content_of (view_at m.cells h))

  place_is : (h : ℕ) → Contains hs h → unwrap_or (position (λ n. nat_eq n h) hs) 0 ≡ place h hs
  place_is h there = ap (λ p. unwrap_or p 0) (position_is h hs there)

  content_at : (h : ℕ) → Contains hs h → slice_get st.cells (unwrap_or (position (λ n. nat_eq n h) hs) 0) ≡ Some (content_of (view_at m.cells h))
  content_at h there =
      ap (slice_get st.cells) (place_is h there) ∙ ap (λ cs. slice_get cs (place h hs)) has.machine.cells
      ∙ get_map (λ n. content_of (view_at m.cells n)) hs (place h hs) h (at_place h hs there)

  -- ---- types

  typed_register : (v : ℕ) → Contains (keeps_of s) v → (of : ValueType) (r : Register) → register_at m.last v ≡ r → IsHeldOf m.cells of r
      → InRegister IsInRange (saved_of hs (held_by r)) → FitsType st.cells of (saved_of hs (held_by r))
  typed_register v kept of register.Empty at held range = tt
  typed_register v kept of (register.Scalar x) at held range = (held.typed, in_bounds x range (ready.short.kept.lasts v x (ap held_by at)))
  typed_register v kept of (register.Aggregate h) at held range =
      subst (FitsCell of) (sym (content_at h (held_listed v h kept (ap held_by at))))
      (sym (elements_of of (view_at m.cells h) held.typed) ∙ held.live.1, typed_content of (view_at m.cells h) held.typed)

  pub typed : AllByRecursion (InRegister IsInRange) st.registers → AllZip (FitsRegister s st.cells) (keeps_of s) st.registers
  typed range =
      subst (AllZip (FitsRegister s st.cells) (keeps_of s)) (sym has.machine.registers)
      (all_zip_map (FitsRegister s st.cells) (λ v. saved_of hs (lasts v)) (keeps_of s) (λ v kept.
      let run = runs_kept v kept in
      let found = ready.whole.proper.runs_all v run in
      let there : Contains st.registers (saved_of hs (lasts v)) = subst (λ rs. Contains rs (saved_of hs (lasts v))) (sym has.machine.registers) (map_contains (λ u. saved_of hs (lasts u)) (keeps_of s) v kept) in
      subst (λ o. IfSome (option_map (λ (e : Equation). e.of) o) (λ of. FitsType st.cells of (saved_of hs (lasts v)))) (sym found.1)
      (typed_register v kept found.0.of (register_at m.last v) refl (ready.last.each v found.0 run found.1) (all_at (InRegister IsInRange) st.registers range (saved_of hs (lasts v)) there))))

  -- ---- registers of one cell

  record NamedAt (i k : ℕ) : Type 0 where
    v : ℕ
    h : ℕ
    number_at : slice_get (keeps_of s) i ≡ Some v
    held : lasts v ≡ Some (Cell h)
    place_is : k ≡ unwrap_or (position (λ n. nat_eq n h) hs) 0

  named_at : (i k : ℕ) → slice_get st.registers i ≡ Some (saved.Cell k) → NamedAt i k
  named_at i k at =
      let by = map_at (λ v. saved_of hs (lasts v)) (keeps_of s) i (saved.Cell k) (sym (ap (λ rs. slice_get rs i) has.machine.registers) ∙ at) in
      let cell = held_cell hs (lasts by.0) k by.2 in
      record { v = by.0; h = cell.0; number_at = by.1; held = cell.1; place_is = cell.2 }

  kept_number : (i v : ℕ) → slice_get (keeps_of s) i ≡ Some v → Contains (keeps_of s) v
  kept_number i v at = contains_at (keeps_of s) i v at

  type_of_cell : (v h : ℕ) → Contains (keeps_of s) v → lasts v ≡ Some (Cell h) → type_at s v ≡ Some (ready.types h)
  type_of_cell v h kept is =
      let run = runs_kept v kept in
      let found = ready.whole.proper.runs_all v run in
      ap (option_map (λ (e : Equation). e.of)) found.1 ∙ ap Some (sym (ready.last.one_type v h found.0 run found.1 (cell_of (register_at m.last v) h is)))

  pub shared : (i j k : ℕ) → slice_get st.registers i ≡ Some (saved.Cell k) → slice_get st.registers j ≡ Some (saved.Cell k) → type_at s (slice_index (keeps_of s) i) ≡ type_at s (slice_index (keeps_of s) j)
  shared i j k at_i at_j =
      let a = named_at i k at_i in
      let b = named_at j k at_j in
      let kept_a = kept_number i a.v a.number_at in
      let kept_b = kept_number j b.v b.number_at in
      let listed_a = held_listed a.v a.h kept_a a.held in
      let listed_b = held_listed b.v b.h kept_b b.held in
      let one : a.h ≡ b.h = one_place a.h b.h hs listed_a listed_b (sym (place_is a.h listed_a) ∙ sym a.place_is ∙ b.place_is ∙ place_is b.h listed_b) in
      ap (type_at s) (index_of (keeps_of s) i a.v a.number_at) ∙ type_of_cell a.v a.h kept_a a.held ∙ ap (λ h. Some (ready.types h)) one
      ∙ sym (type_of_cell b.v b.h kept_b b.held) ∙ sym (ap (type_at s) (index_of (keeps_of s) j b.v b.number_at))

  -- ---- numbers

  found : (q : Renaming) × (map q.to hs ≡ range_with_len 0 (length hs))
  found = renaming hs (range_with_len 0 (length hs)) (firsts_once (flat_map (λ v. cell_held (lasts v)) (keeps_of s))) (range_once 0 (length hs)) (sym (length-range_with_len 0 (length hs)))

  number_of : (h : ℕ) → Contains hs h → unwrap_or (position (λ n. nat_eq n h) hs) 0 ≡ found.0.to h
  number_of h there =
      let moved : Contains (range_with_len 0 (length hs)) (found.0.to h) = subst (λ l. Contains l (found.0.to h)) found.1 (in_map found.0.to hs h there) in
      ap (λ p. unwrap_or p 0)
      (sym (place_renamed found.0 h hs) ∙ ap (position (λ n. nat_eq n (found.0.to h))) found.1 ∙ position_is (found.0.to h) (range_with_len 0 (length hs)) moved)
      ∙ place_number (length hs) (found.0.to h) (range_low (length hs) (found.0.to h) moved)

  named_cells : (o : Option Held) → ((h : ℕ) → o ≡ Some (Cell h) → Contains hs h) → (rest cells : List ℕ) → rest ≡ map found.0.to cells → named_by (saved_of hs o) ++ rest ≡ map found.0.to (cell_held o ++ cells)
  named_cells None there rest cells is = is
  named_cells (Some (Bare x)) there rest cells is = is
  named_cells (Some (Cell h)) there rest cells is = λ k. number_of h (there h refl) k ∷ is k

  all_named : (vs : List ℕ) → ((v : ℕ) → Contains vs v → Contains (keeps_of s) v) → flat_map named_by (map (λ v. saved_of hs (lasts v)) vs) ≡ map found.0.to (flat_map (λ v. cell_held (lasts v)) vs)
  all_named [] kept = refl
  all_named (v ∷ vs) kept =
      named_cells (lasts v) (λ h is. held_listed v h (kept v (0, omega arith, refl)) is) (flat_map named_by (map (λ u. saved_of hs (lasts u)) vs)) (flat_map (λ u. cell_held (lasts u)) vs)
      (all_named vs (λ u there. kept u (later v u vs there)))

  pub numbered : firsts (flat_map named_by st.registers) ≡ range_with_len 0 (length st.cells)
  numbered =
      ap (λ rs. firsts (flat_map named_by rs)) has.machine.registers
      ∙ ap firsts (all_named (keeps_of s) (λ v there. there))
      ∙ firsts_renamed found.0 (flat_map (λ v. cell_held (lasts v)) (keeps_of s))
      ∙ found.1 ∙ ap (range_with_len 0) (sym size)

  -- ---- cells

  short_cell : (h : ℕ) → Contains hs h → AllIn IsShort (content_of (view_at m.cells h))
  short_cell h there = short_content (view_at m.cells h) (ready.short.kept.cells h (view_at m.cells h) (cell_listed s (kept_state m) ready.tidy h there))

  pub cells : AllByRecursion (AllIn IsInRange) st.cells → AllByRecursion (λ (c : Content). content_size c < 2 ^ 64) st.cells
      → AllByRecursion (λ (c : Content). AreInOrder c × AllIn IsInBounds c × (content_size c < 2 ^ 64)) st.cells
  cells range sized = all_from (λ (c : Content). AreInOrder c × AllIn IsInBounds c × (content_size c < 2 ^ 64)) st.cells (λ c there.
      let by = contains_map (λ h. content_of (view_at m.cells h)) hs c (subst (λ cs. Contains cs c) has.machine.cells there) in (
        subst AreInOrder by.2 (contents.ordered (view_at m.cells by.0)),
        content_bounds c (all_at (AllIn IsInRange) st.cells range c there) (subst (AllIn IsShort) by.2 (short_cell by.0 by.1)),
        all_at (λ (x : Content). content_size x < 2 ^ 64) st.cells sized c there,
      ))

  -- ---- open events, and what is pending

  open_input : (e : OpenEvent) → Contains st.open_events e → inputs_of m.given e.equation m.bound ≡ Some (Plain e.value)
  open_input e there = sym (has.open_events.values e.equation) ∙ value_of_member st.open_events has.open_events.by_equation e there

  plain_same : {x y : Scalar} → Plain x ≡ Plain y → x ≡ y
  plain_same e = cc

  pub inputs : AllByRecursion (λ (e : OpenEvent). IsInRange e.value) st.open_events → AllByRecursion (λ (e : OpenEvent). IsInputOf s e.equation e.value × IsInBounds e.value) st.open_events
  inputs range = all_from (λ (e : OpenEvent). IsInputOf s e.equation e.value × IsInBounds e.value) st.open_events (λ e there.
      let given = given_of s m.given ready.events e.equation m.bound (Plain e.value) (open_input e there) in (
        subst (IsInputOf s e.equation) (sym (plain_same given.1)) given.2,
        in_bounds e.value (all_at (λ (x : OpenEvent). IsInRange x.value) st.open_events range e there)
            (subst IsShortValue (open_input e there) (inputs_short m.given ready.short.given e.equation m.bound)),
      ))

  pub some_given : 0 < length st.open_events → 0 < length m.given
  some_given some = from st.open_events refl some
    where
      from : (events : List OpenEvent) → st.open_events ≡ events → 0 < length events → 0 < length m.given
      from [] is none = absurd (omega arith)
      from (e ∷ events) is more = one m.given (open_input e (subst (λ es. Contains es e) (sym is) (0, omega arith, refl)))
        where
          one : (lines : List _) → inputs_of lines e.equation m.bound ≡ Some (Plain e.value) → 0 < length lines
          one [] at = absurd (cc)
          one (l ∷ lines) at = omega arith

  pub pending : AllByRecursion (λ (p : Option ℕ). IfSome p (λ u. (st.bound ≤ u) × (u < 2 ^ 63))) st.pending
  pending =
      subst (AllByRecursion (λ (p : Option ℕ). IfSome p (λ u. (st.bound ≤ u) × (u < 2 ^ 63)))) (sym has.machine.pending)
      (all_map (finite_map.get m.timers) (λ (p : Option ℕ). IfSome p (λ u. (st.bound ≤ u) × (u < 2 ^ 63))) (timers_of s) (all_from (λ d. IfSome (finite_map.get m.timers d) (λ u. (st.bound ≤ u) × (u < 2 ^ 63))) (timers_of s) (λ d there. due d (finite_map.get m.timers d) refl)))
    where
      due : (d : ℕ) (p : Option ℕ) → finite_map.get m.timers d ≡ p → IfSome p (λ u. (st.bound ≤ u) × (u < 2 ^ 63))
      due d None at = tt
      due d (Some u) at = let low = can.idle.delays d u at in let bound = has.bound in (omega arith, (ready.timers.each d u at).2)

  -- ---- all of it

  pub fits : (counts : AllByRecursion (λ n. n < 2 ^ 64) st.ledger) → m.ran < 2 ^ 64 → (0 < length m.given → m.bound < 2 ^ 63)
      → AllByRecursion (λ (e : OpenEvent). IsInRange e.value) st.open_events → AllByRecursion (InRegister IsInRange) st.registers
      → AllByRecursion (AllIn IsInRange) st.cells → AllByRecursion (λ (c : Content). content_size c < 2 ^ 64) st.cells → FitsMonitor s m.limit st
  fits counts ran time open_range register_range cell_range sized = record {
    one_each = record {
      updates = ap length has.machine.ledger ∙ length-map _ _;
      kept = ap length has.machine.registers ∙ length-map _ _;
      delays = ap length has.machine.pending ∙ length-map _ _;
    };
    counts = (let same = has.instants in omega arith, counts);
    bound = record {
      in_time = let same = has.bound in let small = ready.in_time in omega arith;
      open_in_time = λ some. let same = has.bound in let small = time (some_given some) in omega arith;
    };
    instants = record {
      within = let same = has.instants in let room = ready.room in omega arith;
      none = λ zero. has.instants ∙ ready.unbegun (let same = has.bound in let within = ready.within in omega arith);
      some = λ more. let same = has.instants in let bound = has.bound in let ran_some = ready.begun (started more) in omega arith;
    };
    open_events = record { inputs = inputs open_range; by_equation = has.open_events.by_equation };
    typed = typed register_range;
    shared = shared;
    numbered = numbered;
    cells = cells cell_range sized;
    pending = pending;
  }
    where
      started : 0 < st.bound → 0 < m.next
      started more = elim (cases_lt 0 m.next) [
        | inl begun ↦ begun
        | inr none ↦ let low = can.idle.start (omega arith) in let same = has.bound in absurd (omega arith)
      ]
