-- There is one state after some events: handles and the order in which events came don't show in it.
use Rattle.std.proofs.Common.{◌≡◌, ◌==◌, ℕ, suc, ◌+◌, ◌<◌, Bool, true, false, not, List, [], ◌∷◌, ◌++◌, length, map, Option, Some, None, refl, sym, ap, subst, ◌∙◌, cond, inl, inr, arith}
use Rattle.std.specs.Prelude.{if◌then◌else◌, nat_eq, nat_lt, position, slice_index, unwrap_or}
use Rattle.std.proofs.lemmas.Bool.{cases_eq, cases_lt, eq-eqb, ne_eqb}
use Rattle.std.specs.List.{filter, flat_map, prefix_len}
use Rattle.std.specs.List.Sorted.{IsStrictlyIncreasing}
use Rattle.std.specs.Option.{option_map}
use Rattle.tsl_value.specs.declared.scalar.Scalar.{Scalar}
use Rattle.tsl_value.specs.declared.scalar.Scalar.TheVariants as scalar
use Rattle.tsl_value.specs.View.{View, Plain}
use Rattle.aggregate_store.specs.Content.{content_of}
use Rattle.cell_reader.specs.inner.Cells.{view_at}
use Rattle.flat_core.specs.Case.{Streams}
use Rattle.flat_core.specs.Kept.{keeps_of, timers_of}
use Rattle.flat_core.specs.Line.{Line, inputs_of}
use Rattle.flat_core.specs.Instant.{instants}
use Rattle.flat_core.specs.Solution.{Solves}
use Rattle.flat_core.specs.System.{System}
use Rattle.flat_core.specs.Updates.{running_updates}
use Rattle.flat_core.proofs.WellFormedOrder.{ranked_solution}
use Rattle.alias_rules.proofs.Ranks.{place}
use Rattle.register_machine.specs.Machine.{Held, Bare, Cell}
use Rattle.register_machine.specs.Renamed.{AreRenamed, Renaming, renamed}
use Rattle.register_machine.specs.Run as run
use Rattle.register_machine.specs.Stands.{RunsTo}
use Rattle.register_machine.proofs.OneRun.{one_run}
use Rattle.register_machine.proofs.Renamings.{one_to_one}
use Rattle.monitor_state.specs.declared.state.MonitorState.{MonitorState}
use Rattle.monitor_state.specs.declared.state.OpenEvent.{OpenEvent}
use Rattle.monitor_state.specs.declared.state.SavedRegister.{SavedRegister}
use Rattle.monitor_state.specs.declared.state.SavedRegister.TheVariants as saved
use Rattle.monitor_run.specs.inner.Resumed.{IsShownAfter, IsStateAfter}
use Rattle.monitor_run.specs.inner.Saved.{ShowsMachine, cell_held, held_cells, saved_of, value_of}
use Rattle.monitor_state.specs.Firsts.{firsts}
use Rattle.monitor_run.specs.inner.State.{State, IsReady, plan_of}
use Rattle.monitor_run.proofs.GapLemmas.{plan_ranked}
use Rattle.monitor_run.proofs.StepLemmas.{ready_order}

-- ---- lists of other names

map_append : (f : ℕ → ℕ) (xs ys : List ℕ) → map f (xs ++ ys) ≡ map f xs ++ map f ys
map_append f [] ys = refl
map_append f (x ∷ xs) ys = ap (λ l. f x ∷ l) (map_append f xs ys)

module _ (r : Renaming) where
  same_test : (x y : ℕ) → (r.to y == r.to x) ≡ (y == x)
  same_test x y = elim (cases_eq y x) [
    | inl same ↦ eq-eqb (r.to y) (r.to x) (ap r.to same) ∙ sym (eq-eqb y x same)
    | inr apart ↦ ne_eqb (r.to y) (r.to x) (λ is. apart (one_to_one r y x is)) ∙ sym (ne_eqb y x apart)
  ]

  others_renamed : (x : ℕ) (xs : List ℕ) → filter (λ y. not (y == r.to x)) (map r.to xs) ≡ map r.to (filter (λ y. not (y == x)) xs)
  others_renamed x [] = refl
  others_renamed x (y ∷ xs) =
      ap (λ b. cond (not b) (r.to y ∷ filter (λ z. not (z == r.to x)) (map r.to xs)) (filter (λ z. not (z == r.to x)) (map r.to xs))) (same_test x y)
      ∙ from (not (y == x)) (others_renamed x xs)
    where
      from : (b : Bool) → filter (λ z. not (z == r.to x)) (map r.to xs) ≡ map r.to (filter (λ z. not (z == x)) xs)
          → cond b (r.to y ∷ filter (λ z. not (z == r.to x)) (map r.to xs)) (filter (λ z. not (z == r.to x)) (map r.to xs))
          ≡ map r.to (cond b (y ∷ filter (λ z. not (z == x)) xs) (filter (λ z. not (z == x)) xs))
      from true rest = ap (λ l. r.to y ∷ l) rest
      from false rest = rest

  pub firsts_renamed : (xs : List ℕ) → firsts (map r.to xs) ≡ map r.to (firsts xs)
  firsts_renamed [] = refl
  firsts_renamed (x ∷ xs) =
      ap (λ l. r.to x ∷ filter (λ y. not (y == r.to x)) l) (firsts_renamed xs) ∙ ap (λ l. r.to x ∷ l) (others_renamed x (firsts xs))

  prefix_renamed : (h : ℕ) (xs : List ℕ) → prefix_len (λ k. not (nat_eq k (r.to h))) (map r.to xs) ≡ prefix_len (λ k. not (nat_eq k h)) xs
  prefix_renamed h [] = refl
  prefix_renamed h (x ∷ xs) =
      ap (λ b. cond (not b) (1 + prefix_len (λ k. not (nat_eq k (r.to h))) (map r.to xs)) 0) (same_test h x)
      ∙ ap (λ n. cond (not (nat_eq x h)) (1 + n) 0) (prefix_renamed h xs)

  length_renamed : (xs : List ℕ) → length (map r.to xs) ≡ length xs
  length_renamed [] = refl
  length_renamed (x ∷ xs) = ap suc (length_renamed xs)

  pub place_renamed : (h : ℕ) (xs : List ℕ) → position (λ k. nat_eq k (r.to h)) (map r.to xs) ≡ position (λ k. nat_eq k h) xs
  place_renamed h xs = λ k. cond (nat_lt (prefix_renamed h xs k) (length_renamed xs k)) (Some (prefix_renamed h xs k)) None

  held_renamed : (o : Option Held) → cell_held (option_map (renamed r.to) o) ≡ map r.to (cell_held o)
  held_renamed None = refl
  held_renamed (Some (Bare s)) = refl
  held_renamed (Some (Cell h)) = refl

  saved_renamed : (cells : List ℕ) (o : Option Held) → saved_of (map r.to cells) (option_map (renamed r.to) o) ≡ saved_of cells o
  saved_renamed cells None = refl
  saved_renamed cells (Some (Bare s)) = refl
  saved_renamed cells (Some (Cell h)) = ap (λ p. saved.Cell (unwrap_or p 0)) (place_renamed h cells)

  module _ (a b : run.State) (alike : AreRenamed r a b) where
    all_held : (vs : List ℕ) → flat_map (λ v. cell_held (b.lasts v)) vs ≡ map r.to (flat_map (λ v. cell_held (a.lasts v)) vs)
    all_held [] = refl
    all_held (v ∷ vs) =
        (λ k. (ap cell_held (alike.lasts v) ∙ held_renamed (a.lasts v)) k ++ all_held vs k)
        ∙ sym (map_append r.to (cell_held (a.lasts v)) (flat_map (λ u. cell_held (a.lasts u)) vs))

    cells_renamed : (s : System) → held_cells s b ≡ map r.to (held_cells s a)
    cells_renamed s = ap firsts (all_held (keeps_of s)) ∙ firsts_renamed (flat_map (λ v. cell_held (a.lasts v)) (keeps_of s))

    registers_same : (s : System) → map (λ v. saved_of (held_cells s b) (b.lasts v)) (keeps_of s) ≡ map (λ v. saved_of (held_cells s a) (a.lasts v)) (keeps_of s)
    registers_same s =
        ap (λ (f : ℕ → SavedRegister). map f (keeps_of s))
        (λ k v. (ap (λ cells. saved_of cells (b.lasts v)) (cells_renamed s) ∙ ap (saved_of (map r.to (held_cells s a))) (alike.lasts v) ∙ saved_renamed (held_cells s a) (a.lasts v)) k)

    contents_same : (hs : List ℕ) → map (λ h. content_of (view_at b.cells h)) (map r.to hs) ≡ map (λ h. content_of (view_at a.cells h)) hs
    contents_same [] = refl
    contents_same (h ∷ hs) = λ k. content_of (unwrap_or (alike.cells h k) (Plain scalar.Unit)) ∷ contents_same hs k

-- two states of the machine that differ in their handles alone show the same
same_shown : (s : System) (r : Renaming) (a b : run.State) (x y : MonitorState) → AreRenamed r a b → ShowsMachine s a x → ShowsMachine s b y
    → (x.ledger ≡ y.ledger) × (x.registers ≡ y.registers) × (x.cells ≡ y.cells) × (x.pending ≡ y.pending)
same_shown s r a b x y alike shows_x shows_y = (
  shows_x.ledger ∙ ap (λ (f : ℕ → ℕ). map f (running_updates s)) (λ k u. sym (alike.ledger u) k) ∙ sym shows_y.ledger,
  shows_x.registers ∙ sym (registers_same r a b alike s) ∙ sym shows_y.registers,
  shows_x.cells ∙ sym (contents_same r a b alike (held_cells s a)) ∙ ap (map (λ h. content_of (view_at b.cells h))) (sym (cells_renamed r a b alike s)) ∙ sym shows_y.cells,
  shows_x.pending ∙ ap (λ (f : ℕ → Option ℕ). map f (timers_of s)) (λ k i. sym (alike.pending i) k) ∙ sym shows_y.pending,
)

-- ---- open events

abbrev numbers : List OpenEvent → List ℕ
numbers events = map (λ (e : OpenEvent). e.equation) events

pub rest_rises : (x : ℕ) (xs : List ℕ) → IsStrictlyIncreasing (x ∷ xs) → IsStrictlyIncreasing xs
rest_rises x xs rises = λ k lt. let next : suc k + 1 ≡ suc (k + 1) = omega arith in subst (λ n. slice_index xs k < slice_index (x ∷ xs) n) next (rises (suc k) (omega arith))

-- no event of a number below that of the first one
none_below : (i : ℕ) (e : OpenEvent) (events : List OpenEvent) → IsStrictlyIncreasing (numbers (e ∷ events)) → i < e.equation → value_of (e ∷ events) i ≡ None
none_below i e [] rises lt = λ k. if ne_eqb e.equation i (λ same. absurd (omega arith)) k then Some (Plain e.value) else None
none_below i e (f ∷ events) rises lt =
    (λ k. if ne_eqb e.equation i (λ same. absurd (omega arith)) k then Some (Plain e.value) else value_of (f ∷ events) i)
    ∙ none_below i f events (rest_rises e.equation (numbers (f ∷ events)) rises) (let first = rises 0 (omega arith) in omega arith)

pub none_after : (e : OpenEvent) (events : List OpenEvent) → IsStrictlyIncreasing (numbers (e ∷ events)) → value_of events e.equation ≡ None
none_after e [] rises = refl
none_after e (f ∷ events) rises = none_below e.equation f events (rest_rises e.equation (numbers (f ∷ events)) rises) (rises 0 (omega arith))

pub value_first : (e : OpenEvent) (events : List OpenEvent) → value_of (e ∷ events) e.equation ≡ Some (Plain e.value)
value_first e events = λ k. if eq-eqb e.equation e.equation refl k then Some (Plain e.value) else value_of events e.equation

pub value_later : (e : OpenEvent) (events : List OpenEvent) (i : ℕ) → (e.equation ≡ i → ⊥) → value_of (e ∷ events) i ≡ value_of events i
value_later e events i apart = λ k. if ne_eqb e.equation i apart k then Some (Plain e.value) else value_of events i

no_value : {P : Type 0} {v : View} → Some v ≡ None → P
no_value e = absurd (cc)

plain_same : {a b : Scalar} → Some (Plain a) ≡ Some (Plain b) → a ≡ b
plain_same e = cc

module _ (d e : OpenEvent) (xs ys : List OpenEvent) (p : IsStrictlyIncreasing (numbers (d ∷ xs))) (q : IsStrictlyIncreasing (numbers (e ∷ ys))) (same : (i : ℕ) → value_of (d ∷ xs) i ≡ value_of (e ∷ ys) i) where
  number : d.equation ≡ e.equation
  number = elim (cases_lt d.equation e.equation) [
    | inl less ↦ no_value (sym (value_first d xs) ∙ same d.equation ∙ none_below d.equation e ys q less)
    | inr level ↦ elim (cases_lt e.equation d.equation) [
      | inl more ↦ no_value (sym (value_first e ys) ∙ sym (same e.equation) ∙ none_below e.equation d xs p more)
      | inr other ↦ omega arith
    ]
  ]

  first_same : d ≡ e
  first_same =
      let value : d.value ≡ e.value = plain_same (sym (value_first d xs) ∙ same d.equation ∙ ap (value_of (e ∷ ys)) number ∙ value_first e ys) in
      λ k. record { equation = number k; value = value k }

  rest_same : (i : ℕ) → value_of xs i ≡ value_of ys i
  rest_same i = elim (cases_eq d.equation i) [
    | inl is ↦ ap (value_of xs) (sym is) ∙ none_after d xs p ∙ sym (ap (value_of ys) (sym is ∙ number) ∙ none_after e ys q)
    | inr apart ↦ sym (value_later d xs i apart) ∙ same i ∙ value_later e ys i (λ is. apart (number ∙ is))
  ]

same_events : (xs ys : List OpenEvent) → IsStrictlyIncreasing (numbers xs) → IsStrictlyIncreasing (numbers ys) → ((i : ℕ) → value_of xs i ≡ value_of ys i) → xs ≡ ys
same_events [] [] p q same = refl
same_events [] (e ∷ ys) p q same = no_value (sym (value_first e ys) ∙ sym (same e.equation))
same_events (d ∷ xs) [] p q same = no_value (sym (value_first d xs) ∙ same d.equation)
same_events (d ∷ xs) (e ∷ ys) p q same =
    let rest = same_events xs ys (rest_rises d.equation (numbers xs) p) (rest_rises e.equation (numbers ys) q) (rest_same d e xs ys p q same) in
    λ k. first_same d e xs ys p q same k ∷ rest k

-- ---- the law

module _ (m : State) (x y : MonitorState) (lines : List Line) (ready : IsReady m) (bound_x : x.bound ≡ m.bound) (bound_y : y.bound ≡ m.bound) (after_x : IsStateAfter m.system (plan_of m) lines x) (after_y : IsStateAfter m.system (plan_of m) lines y) where
  pub one_state : x ≡ y
  one_state = λ k. record {
    bound = bound k;
    instants = instants_same k;
    open_events = events_same k;
    ledger = parts.0 k;
    registers = parts.1 k;
    cells = parts.2 k;
    pending = parts.3 k;
  }
    where
      bound : x.bound ≡ y.bound
      bound = bound_x ∙ sym bound_y

      events_same : x.open_events ≡ y.open_events
      events_same =
          same_events x.open_events y.open_events after_x.open_events.by_equation after_y.open_events.by_equation
          (λ i. after_x.open_events.values i ∙ ap (inputs_of lines i) bound ∙ sym (after_y.open_events.values i))

      solution : (z : Streams) × Solves m.system (inputs_of lines) m.bound z
      solution =
          ranked_solution m.system (place m.order) ready.whole.proper (plan_ranked m.system m.order (ready_order m ready)) (inputs_of lines) m.bound

      z : Streams
      z = solution.0

      shown_x : IsShownAfter m.system (plan_of m) lines z x
      shown_x = after_x.each z (subst (λ n. Solves m.system (inputs_of lines) n z) (sym bound_x) solution.1)

      shown_y : IsShownAfter m.system (plan_of m) lines z y
      shown_y = after_y.each z (subst (λ n. Solves m.system (inputs_of lines) n z) (sym bound_y) solution.1)

      instants_same : x.instants ≡ y.instants
      instants_same = shown_x.instants ∙ ap (λ n. length (instants m.system lines z n)) bound ∙ sym shown_y.instants

      alike : (r : Renaming) × AreRenamed r shown_x.reached shown_y.reached
      alike =
          one_run m.system (plan_of m) lines z x.bound shown_x.reached shown_y.reached shown_x.ran
          (subst (λ n. RunsTo m.system (plan_of m) lines z n shown_y.reached) (sym bound) shown_y.ran)

      parts : (x.ledger ≡ y.ledger) × (x.registers ≡ y.registers) × (x.cells ≡ y.cells) × (x.pending ≡ y.pending)
      parts = same_shown m.system alike.0 shown_x.reached shown_y.reached x y alike.1 shown_x.shows shown_y.shows
