-- What is taken out of a monitor is its state.
use Rattle.std.proofs.Common.{◌≡◌, ◌==◌, ℕ, zero, suc, ◌+◌, ◌<◌, ◌≤◌, Bool, true, false, ◌&&◌, not, List, [], ◌∷◌, ◌++◌, length, map, Option, Some, None, refl, sym, ap, subst, ◌∙◌, inl, inr, arith}
use Rattle.std.proofs.lemmas.Bool.{and_parts, cases_lt, eq-eqb, ne_eqb}
use Rattle.std.proofs.lemmas.List.Elements.{All-from_recursion}
use Rattle.std.proofs.lemmas.List.Kept.{IsStrictlyIncreasing-filter}
use Rattle.std.proofs.lemmas.Option.{slice_get_within}
use Rattle.std.specs.Prelude.{if◌then◌else◌, is_some, slice_index}
use Rattle.std.specs.List.{All, AllByRecursion, filter, flat_map, range_with_len}
use Rattle.std.specs.List.Sorted.{IsStrictlyIncreasing}
use Rattle.std.specs.Option.{option_map, option_or}
use Rattle.std.specs.FinMap as finite_map
use Rattle.tsl_value.specs.declared.scalar.Scalar.{Scalar}
use Rattle.tsl_value.specs.View.{View, Plain}
use Rattle.tsl_value.specs.declared.scalar.ValueType.{ValueType}
use Rattle.body_eval.specs.declared.register.Register.{Register}
use Rattle.body_eval.specs.declared.register.Register.TheVariants as register
use Rattle.cell_reader.specs.inner.Cells.{Cells, IsLive, view_at}
use Rattle.body_eval.specs.inner.Registers.{HoldsLive}
use Rattle.aggregate_store.specs.Content.{content_of}
use Rattle.flat_core.specs.Complete.{IsFlat}
use Rattle.flat_core.specs.Instant.{is_delay}
use Rattle.flat_core.specs.Kept.{keeps_of, timers_of}
use Rattle.flat_core.specs.Line.{Line, event_in, inputs_of}
use Rattle.flat_core.specs.System.{System, equation, runs}
use Rattle.flat_core.specs.Updates.{running_updates}
use Rattle.flat_core.proofs.Depth.{runs_below}
use Rattle.flat_core.proofs.Members.{all_append, all_from, in-Contains}
use Rattle.program_text.proofs.Numbers.{numbers_with, numbers_without}
use Rattle.register_code.proofs.Gathered.{gathered_more}
use Rattle.monitor_state.specs.declared.state.MonitorState.{MonitorState}
use Rattle.monitor_state.specs.declared.state.OpenEvent.{OpenEvent}
use Rattle.monitor_run.specs.inner.Given.{AreAt, AreEventLines}
use Rattle.monitor_run.specs.inner.Registers.{AreHeld, register_at}
use Rattle.monitor_run.specs.inner.Saved.{AreOpenAt, CanSave, HasState, cell_held, saved_of, value_of}
use Rattle.monitor_state.specs.Firsts.{firsts}
use Rattle.monitor_run.specs.inner.Shown.{held_at, held_by}
use Rattle.monitor_run.specs.inner.State.{State, IsReady}
use Rattle.monitor_run.specs.inner.Taking.{event_for, found_for, opened, opened_below}
use Rattle.monitor_run.proofs.InstantLemmas.{kept_runs, listed_kept, listed_timer}

-- ---- what lines have for an input

event_is : (i at time : ℕ) (e : Option (ℕ × Scalar)) → time ≡ at → event_in i at time e ≡ option_map Plain (event_for i e)
event_is i at time None same = refl
event_is i at time (Some e) same = ap (λ b. if b && (e.0 == i) then Some (Plain e.1) else None) (eq-eqb time at same) ∙ from (e.0 == i)
  where
    from : (b : Bool) → (if b then Some (Plain e.1) else None) ≡ option_map Plain (if b then Some e.1 else None)
    from true = refl
    from false = refl

or_plain : (a b : Option Scalar) → option_or (option_map Plain a) (option_map Plain b) ≡ option_map Plain (option_or a b)
or_plain None b = refl
or_plain (Some s) b = refl

found_is : (lines : List Line) (i at : ℕ) → AreAt at lines → inputs_of lines i at ≡ option_map Plain (found_for lines i)
found_is [] i at all = refl
found_is (l ∷ lines) i at all =
    (λ k. option_or (event_is i at l.time l.event all.0 k) (found_is lines i at all.1 k)) ∙ or_plain (event_for i l.event) (found_for lines i)

-- no input has a number beyond the equations
none_beyond : (s : System) (lines : List Line) (i : ℕ) → AreEventLines s lines → length s.equations ≤ i → found_for lines i ≡ None
none_beyond s [] i all high = refl
none_beyond s (l ∷ lines) i all high =
    let here = all.0 in
    let low = slice_get_within s.equations here.input here.fits.at here.fits.is in
    (λ k. option_or (event_for i (here.is k)) (found_for lines i))
    ∙ (λ k. option_or (if ne_eqb here.input i (λ same. absurd (omega arith)) k then Some here.value else None) (found_for lines i))
    ∙ none_beyond s lines i all.1 high

-- ---- the list by equation

none_right : (v : Option View) → option_or v None ≡ v
none_right None = refl
none_right (Some v) = refl

value_append : (xs ys : List OpenEvent) (i : ℕ) → value_of (xs ++ ys) i ≡ option_or (value_of xs i) (value_of ys i)
value_append [] ys i = refl
value_append (e ∷ xs) ys i = from (e.equation == i) (value_append xs ys i)
  where
    from : (b : Bool) → value_of (xs ++ ys) i ≡ option_or (value_of xs i) (value_of ys i)
        → (if b then Some (Plain e.value) else value_of (xs ++ ys) i) ≡ option_or (if b then Some (Plain e.value) else value_of xs i) (value_of ys i)
    from true rest = refl
    from false rest = rest

value_here : (n : ℕ) (v : Option Scalar) → value_of (opened n v) n ≡ option_map Plain v
value_here n None = refl
value_here n (Some s) = λ k. if eq-eqb n n refl k then Some (Plain s) else None

value_other : (n i : ℕ) (v : Option Scalar) → (n ≡ i → ⊥) → value_of (opened n v) i ≡ None
value_other n i None apart = refl
value_other n i (Some s) apart = λ k. if ne_eqb n i apart k then Some (Plain s) else None

module _ (lines : List Line) (i : ℕ) where
  more : (n : ℕ) → value_of (opened_below lines (suc n)) i ≡ option_or (value_of (opened_below lines n) i) (value_of (opened n (found_for lines n)) i)
  more n =
      let next : suc n ≡ n + 1 = omega arith in
      ap (λ m. value_of (opened_below lines m) i) next
      ∙ ap (λ l. value_of l i) (gathered_more (λ j. opened j (found_for lines j)) n)
      ∙ value_append (opened_below lines n) (opened n (found_for lines n)) i

  value_high : (n : ℕ) → n ≤ i → value_of (opened_below lines n) i ≡ None
  value_high zero high = refl
  value_high (suc n) high =
      more n
      ∙ ap (λ v. option_or v (value_of (opened n (found_for lines n)) i)) (value_high n (omega arith))
      ∙ value_other n i (found_for lines n) (λ same. absurd (omega arith))

  value_low : (n : ℕ) → i < n → value_of (opened_below lines n) i ≡ option_map Plain (found_for lines i)
  value_low zero low = absurd (omega arith)
  value_low (suc n) low = elim (cases_lt i n) [
    | inl before ↦
        more n
        ∙ ap (option_or (value_of (opened_below lines n) i)) (value_other n i (found_for lines n) (λ same. absurd (omega arith)))
        ∙ none_right (value_of (opened_below lines n) i)
        ∙ value_low n before
    | inr level ↦
        let same : n ≡ i = omega arith in
        more n
        ∙ ap (λ v. option_or v (value_of (opened n (found_for lines n)) i)) (value_high n level)
        ∙ ap (λ j. value_of (opened j (found_for lines j)) i) same
        ∙ value_here i (found_for lines i)
  ]

-- ---- its numbers rise

numbers_of : (f : ℕ → Option Scalar) (xs : List ℕ) → map (λ (e : OpenEvent). e.equation) (flat_map (λ i. opened i (f i)) xs) ≡ filter (λ i. is_some (f i)) xs
numbers_of f [] = refl
numbers_of f (x ∷ xs) = from (f x) (numbers_of f xs)
  where
    from : (v : Option Scalar) → map (λ (e : OpenEvent). e.equation) (flat_map (λ i. opened i (f i)) xs) ≡ filter (λ i. is_some (f i)) xs
        → map (λ (e : OpenEvent). e.equation) (opened x v ++ flat_map (λ i. opened i (f i)) xs) ≡ (if is_some v then x ∷ filter (λ i. is_some (f i)) xs else filter (λ i. is_some (f i)) xs)
    from None rest = rest
    from (Some s) rest = ap (λ l. x ∷ l) rest

range_length : (a n : ℕ) → length (range_with_len a n) ≡ n
range_length a zero = refl
range_length a (suc n) = ap suc (range_length (a + 1) n)

pub range_at : (a n k : ℕ) → k < n → slice_index (range_with_len a n) k ≡ a + k
range_at a zero k low = absurd (omega arith)
range_at a (suc n) zero low = omega arith
range_at a (suc n) (suc k) low = let rest = range_at (a + 1) n k (omega arith) in omega arith

range_rises : (a n : ℕ) → IsStrictlyIncreasing (range_with_len a n)
range_rises a n = λ k lt.
    let size = range_length a n in
    let here = range_at a n k (omega arith) in
    let next = range_at a n (k + 1) (omega arith) in
    omega arith

pub open_at : (s : System) (lines : List Line) (at n : ℕ) (events : List OpenEvent)
    → AreEventLines s lines → AreAt at lines → n ≡ length s.equations → events ≡ opened_below lines n → AreOpenAt lines at events
open_at s lines at n events inputs all size is = subst (AreOpenAt lines at) (sym is) (record {
  values = λ i. elim (cases_lt i n) [
    | inl low ↦ value_low lines i n low ∙ sym (found_is lines i at all)
    | inr high ↦ value_high lines i n high ∙ sym (found_is lines i at all ∙ ap (option_map Plain) (none_beyond s lines i inputs (omega arith)))
  ];
  by_equation =
      subst IsStrictlyIncreasing (sym (numbers_of (found_for lines) (range_with_len 0 n)))
      (IsStrictlyIncreasing-filter (λ i. is_some (found_for lines i)) (range_with_len 0 n) (range_rises 0 n));
})

-- ---- what is listed is there

all_filtered : (P : ℕ → Type 0) (p : ℕ → Bool) (xs : List ℕ) → AllByRecursion P xs → AllByRecursion P (filter p xs)
all_filtered P p [] all = tt
all_filtered P p (x ∷ xs) all = from (p x) (all_filtered P p xs all.1)
  where
    from : (b : Bool) → AllByRecursion P (filter p xs) → AllByRecursion P (if b then x ∷ filter p xs else filter p xs)
    from true rest = (all.0, rest)
    from false rest = rest

all_firsts : (P : ℕ → Type 0) (xs : List ℕ) → AllByRecursion P xs → AllByRecursion P (firsts xs)
all_firsts P [] all = tt
all_firsts P (x ∷ xs) all = (all.0, all_filtered P (λ y. not (y == x)) (firsts xs) (all_firsts P xs all.1))

all_flat : (P : ℕ → Type 0) (f : ℕ → List ℕ) (xs : List ℕ) → AllByRecursion (λ x. AllByRecursion P (f x)) xs → AllByRecursion P (flat_map f xs)
all_flat P f [] all = tt
all_flat P f (x ∷ xs) all = all_append P (f x) (flat_map f xs) all.0 (all_flat P f xs all.1)

held_live : (cells : Cells) (r : Register) → HoldsLive cells r → AllByRecursion (IsLive cells) (cell_held (held_by r))
held_live cells register.Empty live = tt
held_live cells (register.Scalar s) live = tt
held_live cells (register.Aggregate h) live = (live.0, tt)

-- the cells that last registers hold
pub cells_live : (s : System) → IsFlat s → (types : ℕ → ValueType) (cells : Cells) (last : List Register) (keeps listed : List ℕ)
    → AreHeld s types cells last
    → keeps ≡ keeps_of s
    → listed ≡ firsts (flat_map (λ v. cell_held (held_at last v)) keeps)
    → All (λ h. IsLive cells h) listed
cells_live s whole types cells last keeps listed held keeps_is is =
    subst (All (IsLive cells)) (sym (is ∙ ap (λ vs. firsts (flat_map (λ v. cell_held (held_at last v)) vs)) keeps_is))
    (All-from_recursion (IsLive cells) (firsts (flat_map (λ v. cell_held (held_at last v)) (keeps_of s)))
    (all_firsts (IsLive cells) (flat_map (λ v. cell_held (held_at last v)) (keeps_of s))
    (all_flat (IsLive cells) (λ v. cell_held (held_at last v)) (keeps_of s)
    (all_from (λ v. AllByRecursion (IsLive cells) (cell_held (held_at last v))) (keeps_of s) (λ v there.
    let run = kept_runs s whole v (listed_kept s v (in-Contains (keeps_of s) v there)) in
    let found = whole.proper.runs_all v run in
    held_live cells (register_at last v) (held.each v found.0 run found.1).live)))))

pub all_timed : (s : System) → IsFlat s → (n : ℕ) → n ≡ length s.equations → (delays : List ℕ) → delays ≡ timers_of s → All (λ i. i < n) delays
all_timed s whole n size delays is =
    subst (All (λ i. i < n)) (sym is) (All-from_recursion (λ i. i < n) (timers_of s) (all_from (λ i. i < n) (timers_of s) (λ i there.
    let timer = listed_timer s i (in-Contains (timers_of s) i there) in
    let lt = runs_below s whole.proper i (and_parts (runs s i) (is_delay (equation s i)) timer).0 in omega arith)))

-- ---- the numbers of updates

map_append : (f : ℕ → ℕ) (xs ys : List ℕ) → map f (xs ++ ys) ≡ map f xs ++ map f ys
map_append f [] ys = refl
map_append f (x ∷ xs) ys = ap (λ l. f x ∷ l) (map_append f xs ys)

module _ (f : ℕ → ℕ) (P : ℕ → Bool) (n id : ℕ) where
  pub counted_with : (value : ℕ) (old new : List ℕ) → id ≡ n → P id ≡ true → value ≡ f n → old ≡ map f (filter P (range_with_len 0 n)) → new ≡ old ++ value ∷ [] → new ≡ map f (filter P (range_with_len 0 (n + 1)))
  counted_with value old new same holds value_is was is =
      is ∙ (λ k. was k ++ value_is k ∷ [])
      ∙ sym (ap (map f) (numbers_with P n (ap P (sym same) ∙ holds)) ∙ map_append f (filter P (range_with_len 0 n)) (n ∷ []))

  pub counted_without : (old : List ℕ) → id ≡ n → P id ≡ false → old ≡ map f (filter P (range_with_len 0 n)) → old ≡ map f (filter P (range_with_len 0 (n + 1)))
  counted_without old same fails was = was ∙ sym (ap (map f) (numbers_without P n (ap P (sym same) ∙ fails)))

-- the events of one equation more
pub opened_more : (lines : List Line) (n id : ℕ) (old new : List OpenEvent) → id ≡ n → old ≡ opened_below lines n → new ≡ old ++ opened id (found_for lines id) → new ≡ opened_below lines (n + 1)
opened_more lines n id old new same was is =
    is ∙ (λ k. was k ++ opened (same k) (found_for lines (same k))) ∙ sym (gathered_more (λ j. opened j (found_for lines j)) n)

-- ---- the whole state

pub has_state : (m : State) → IsReady m → CanSave m → (st : MonitorState) (n : ℕ) (cells : List ℕ)
    → n ≡ length m.system.equations
    → st.bound ≡ m.bound
    → st.instants ≡ m.ran
    → st.open_events ≡ opened_below m.given n
    → st.ledger ≡ map (slice_index m.ledger) (running_updates m.system)
    → cells ≡ firsts (flat_map (λ v. cell_held (held_at m.last v)) (keeps_of m.system))
    → st.registers ≡ map (λ v. saved_of cells (held_at m.last v)) (keeps_of m.system)
    → st.cells ≡ map (λ h. content_of (view_at m.cells h)) cells
    → st.pending ≡ map (finite_map.get m.timers) (timers_of m.system)
    → HasState m st
has_state m ready can st n cells size bound ran events ledger listed registers contents pending = record {
  bound = bound;
  instants = ran;
  open_events = open_at m.system m.given m.bound n st.open_events ready.events can.at_bound size events;
  machine = record {
    ledger = ledger;
    registers = registers ∙ ap (λ hs. map (λ v. saved_of hs (held_at m.last v)) (keeps_of m.system)) listed;
    cells = contents ∙ ap (map (λ h. content_of (view_at m.cells h))) listed;
    pending = pending;
  };
}
