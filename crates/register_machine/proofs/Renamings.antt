-- Instants and runs with other handles.
use Rattle.std.proofs.Common.{◌≡◌, ◌==◌, ℕ, Bool, true, false, List, [], ◌∷◌, Option, Some, None, refl, sym, ap, subst, ◌∙◌, cond, inl, inr, IsFalse}
use Rattle.std.specs.Prelude.{if◌then◌else◌}
use Rattle.std.specs.Option.{option_map, option_or}
use Rattle.std.specs.List.{list_any}
use Rattle.std.specs.FinMap as finite_map
use Rattle.std.specs.Ordering.{nat_cmp}
use Rattle.std.proofs.lemmas.Bool.{cases_eq, eq-eqb, ne_eqb}
use Rattle.std.proofs.lemmas.Cmp.{nat_cmp_total}
use Rattle.tsl_value.specs.View.{View}
use Rattle.flat_core.specs.declared.equation.Equation.{Equation}
use Rattle.flat_core.specs.Events.{Inputs}
use Rattle.flat_core.specs.Instant.{instants}
use Rattle.flat_core.specs.Kept.{keeps_of}
use Rattle.flat_core.specs.Line.{inputs_of}
use Rattle.flat_core.specs.System.{System, equation}
use Rattle.register_machine.specs.Machine.{Instr, Run, RunInPlace, Print, Keep, Timer, Held, Bare, Cell, Slot, Holds, Config, Cells, Effect, Fill, Make, held, with, counted, timed}
use Rattle.register_machine.specs.Machine.{effect, Ran, RanInPlace, OfEquation, Step, Steps}
use Rattle.register_machine.specs.Renamed.{Renaming, renamed, AreRenamed, RenamedInstants, RenamedRuns}
use Rattle.register_machine.specs.Run.{Plan, State, Instant, Runs, body, ending, started, is_cell, ended, nothing_yet}
use Rattle.register_machine.proofs.Alike.{Alike, renamed_slot, renamed_effect, any_same, held_alike, source_alike, counted_alike, timed_alike, effect_alike, roots_alike, or_renamed}
use Rattle.register_machine.proofs.Cells.{get-here, get-there}
use Rattle.register_machine.proofs.End.{get-kept}

-- ---- one value changed

pub slot_changed : (to : ℕ → ℕ) (b : Bool) (new old other : Slot) → other ≡ renamed_slot to old → (if b then renamed_slot to new else other) ≡ renamed_slot to (if b then new else old)
slot_changed to true new old other is = refl
slot_changed to false new old other is = is

last_changed : (to : ℕ → ℕ) (b : Bool) (new now old other : Option Held)
    → now ≡ option_map (renamed to) new
    → other ≡ option_map (renamed to) old
    → (if b then now else other) ≡ option_map (renamed to) (if b then new else old)
last_changed to true new now old other is is_old = is
last_changed to false new now old other is is_old = is_old

-- ---- handles

module _ (r : Renaming) where
  pub one_to_one : (h k : ℕ) → r.to h ≡ r.to k → h ≡ k
  one_to_one h k is = sym (r.there h) ∙ ap r.back is ∙ r.there k

  pub cells_changed : (m n : Cells) (h : ℕ) (v : View)
      → ((k : ℕ) → finite_map.get n (r.to k) ≡ finite_map.get m k)
      → (k : ℕ) → finite_map.get (finite_map.insert n (r.to h) v) (r.to k) ≡ finite_map.get (finite_map.insert m h v) k
  cells_changed m n h v alike k = elim (cases_eq k h) [
    | inl same ↦
        ap (λ q. finite_map.get (finite_map.insert n (r.to h) v) (r.to q)) same
        ∙ get-here n (r.to h) v ∙ sym (get-here m h v)
        ∙ sym (ap (finite_map.get (finite_map.insert m h v)) same)
    | inr other ↦ get-there n (r.to h) v (r.to k) (λ is. other (one_to_one k h is)) ∙ alike k ∙ sym (get-there m h v k other)
  ]

  is_cell_renamed : (h : ℕ) (o : Option Held) → is_cell (r.to h) (option_map (renamed r.to) o) ≡ is_cell h o
  is_cell_renamed h None = refl
  is_cell_renamed h (Some (Bare s)) = refl
  is_cell_renamed h (Some (Cell k)) = elim (cases_eq k h) [
    | inl same ↦ eq-eqb (r.to k) (r.to h) (ap r.to same) ∙ sym (eq-eqb k h same)
    | inr other ↦ ne_eqb (r.to k) (r.to h) (λ is. other (one_to_one k h is)) ∙ sym (ne_eqb k h other)
  ]

-- ---- one step

module _ (r : Renaming) (inputs : Inputs) (t : ℕ) (s : System) where
  -- what leads on from a configuration, and what that leads to
  abbrev pub Follow : Config → (Config → Type 0) → Type 0
  Follow d Leads = (e : Config) × Leads e × Alike r d e

  pub alike_filled : (c d : Config) (i : ℕ) (slot : Slot) → Alike r c d → Alike r (record c { slots = with c.slots i slot }) (record d { slots = with d.slots i (renamed_slot r.to slot) })
  alike_filled c d i slot alike = record {
    slots = λ j. slot_changed r.to (j == i) slot (c.slots j) (d.slots j) (alike.slots j);
    lasts = alike.lasts;
    cells = alike.cells;
    ledger = alike.ledger;
    pending = alike.pending;
  }

  pub alike_made : (c d : Config) (i h : ℕ) (v : View) (first second : ℕ → ℕ)
      → ((u : ℕ) → second u ≡ first u)
      → Alike r c d
      → Alike r
      (record c { slots = with c.slots i (Holds (Cell h)); cells = finite_map.insert c.cells h v; ledger = first })
      (record d { slots = with d.slots i (Holds (Cell (r.to h))); cells = finite_map.insert d.cells (r.to h) v; ledger = second })
  alike_made c d i h v first second same alike = record {
    slots = λ j. slot_changed r.to (j == i) (Holds (Cell h)) (c.slots j) (d.slots j) (alike.slots j);
    lasts = alike.lasts;
    cells = cells_changed r c.cells d.cells h v alike.cells;
    ledger = same;
    pending = alike.pending;
  }

  ran_alike : (i : ℕ) (at : Equation) (x : Effect) (c d next : Config) → Alike r c d → Ran i at c x next → Follow next (Ran i at d (renamed_effect r.to x))
  ran_alike i at (Fill slot) c d next alike ran =
      (record d { slots = with d.slots i (renamed_slot r.to slot) }, refl, subst (λ n. Alike r n (record d { slots = with d.slots i (renamed_slot r.to slot) })) (sym ran) (alike_filled c d i slot alike))
  ran_alike i at (Make v) c d next alike ran =
      let to : Config = record d { slots = with d.slots i (Holds (Cell (r.to ran.0))); cells = finite_map.insert d.cells (r.to ran.0) v; ledger = counted d i at } in (
        to,
        (r.to ran.0, alike.cells ran.0 ∙ ran.1, refl),
        subst (λ n. Alike r n to) (sym ran.2) (alike_made c d i ran.0 v (counted c i at) (counted d i at) (counted_alike r c d alike i at) alike),
      )

  in_place_alike : (i : ℕ) (at : Equation) (x : Effect) (c d next : Config) → Alike r c d → RanInPlace i at c x next → Follow next (RanInPlace i at d (renamed_effect r.to x))
  in_place_alike i at (Fill slot) c d next alike ran =
      (record d { slots = with d.slots i (renamed_slot r.to slot) }, refl, subst (λ n. Alike r n (record d { slots = with d.slots i (renamed_slot r.to slot) })) (sym ran) (alike_filled c d i slot alike))
  in_place_alike i at (Make v) c d next alike ran =
      let to : Config = record d { slots = with d.slots i (Holds (Cell (r.to ran.0))); cells = finite_map.insert d.cells (r.to ran.0) v } in (
        to,
        (r.to ran.0, source_alike r c d alike at.args ∙ ap (renamed_slot r.to) ran.1, refl),
        subst (λ n. Alike r n to) (sym ran.2) (alike_made c d i ran.0 v c.ledger d.ledger alike.ledger alike),
      )

  run_alike : (i : ℕ) (q : Option Equation) (c d next : Config)
      → Alike r c d
      → OfEquation q (λ e. Ran i e c (effect inputs t c i e) next)
      → Follow next (λ n. OfEquation q (λ e. Ran i e d (effect inputs t d i e) n))
  run_alike i None c d next alike ran = absurd ran
  run_alike i (Some at) c d next alike ran =
      let there = ran_alike i at (effect inputs t c i at) c d next alike ran in
      (there.0, subst (λ x. Ran i at d x there.0) (sym (effect_alike r c d alike inputs t i at)) there.1, there.2)

  run_in_place_alike : (i : ℕ) (q : Option Equation) (c d next : Config)
      → Alike r c d
      → OfEquation q (λ e. RanInPlace i e c (effect inputs t c i e) next)
      → Follow next (λ n. OfEquation q (λ e. RanInPlace i e d (effect inputs t d i e) n))
  run_in_place_alike i None c d next alike ran = absurd ran
  run_in_place_alike i (Some at) c d next alike ran =
      let there = in_place_alike i at (effect inputs t c i at) c d next alike ran in
      (there.0, subst (λ x. RanInPlace i at d x there.0) (sym (effect_alike r c d alike inputs t i at)) there.1, there.2)

  pub alike_kept : (c d : Config) (v : ℕ) → Alike r c d
      → Alike r (record c { lasts = with c.lasts v (option_or (held (c.slots v)) (c.lasts v)) }) (record d { lasts = with d.lasts v (option_or (held (d.slots v)) (d.lasts v)) })
  alike_kept c d v alike =
      let new : option_or (held (d.slots v)) (d.lasts v) ≡ option_map (renamed r.to) (option_or (held (c.slots v)) (c.lasts v)) =
      ap (λ h. option_or h (d.lasts v)) (held_alike r c d alike v)
      ∙ ap (option_or (option_map (renamed r.to) (held (c.slots v)))) (alike.lasts v)
      ∙ or_renamed r.to (held (c.slots v)) (c.lasts v) in
      record {
        slots = alike.slots;
        lasts = λ w. last_changed r.to (w == v) (option_or (held (c.slots v)) (c.lasts v)) (option_or (held (d.slots v)) (d.lasts v)) (c.lasts w) (d.lasts w) new (alike.lasts w);
        cells = alike.cells;
        ledger = alike.ledger;
        pending = alike.pending;
      }

  pub alike_timed : (c d : Config) (i : ℕ) (args : List ℕ) → Alike r c d → Alike r (record c { pending = timed t c i args }) (record d { pending = timed t d i args })
  alike_timed c d i args alike = record {
    slots = alike.slots;
    lasts = alike.lasts;
    cells = alike.cells;
    ledger = alike.ledger;
    pending = timed_alike r c d alike t i args;
  }

  timer_alike : (i : ℕ) (q : Option Equation) (c d next : Config)
      → Alike r c d
      → OfEquation q (λ e. next ≡ record c { pending = timed t c i e.args })
      → Follow next (λ n. OfEquation q (λ e. n ≡ record d { pending = timed t d i e.args }))
  timer_alike i None c d next alike is = absurd is
  timer_alike i (Some at) c d next alike is =
      (record d { pending = timed t d i at.args }, refl, subst (λ n. Alike r n (record d { pending = timed t d i at.args })) (sym is) (alike_timed c d i at.args alike))

  step_alike : (instr : Instr) (c d next : Config) → Alike r c d → Step inputs t s instr c next → Follow next (Step inputs t s instr d)
  step_alike (Run i) c d next alike st = run_alike i (equation s i) c d next alike st
  step_alike (RunInPlace i) c d next alike st = run_in_place_alike i (equation s i) c d next alike st
  step_alike (Print k) c d next alike st = (d, refl, subst (λ n. Alike r n d) (sym st) alike)
  step_alike (Keep v) c d next alike st =
      let to : Config = record d { lasts = with d.lasts v (option_or (held (d.slots v)) (d.lasts v)) } in
      (to, refl, subst (λ n. Alike r n to) (sym st) (alike_kept c d v alike))
  step_alike (Timer i) c d next alike st = timer_alike i (equation s i) c d next alike st

  steps_alike : (code : List Instr) (c d next : Config) → Alike r c d → Steps inputs t s code c next → Follow next (Steps inputs t s code d)
  steps_alike [] c d next alike st = (d, refl, subst (λ n. Alike r n d) (sym st) alike)
  steps_alike (instr ∷ code) c d next alike st =
      let first = step_alike instr c d st.0 alike st.1 in
      let rest = steps_alike code st.0 first.0 next first.2 st.2 in
      (rest.0, (first.0, first.1, rest.1), rest.2)

-- ---- instants

module _ (r : Renaming) where
  pub alike_started : (a b : State) → AreRenamed r a b → Alike r (started a) (started b)
  alike_started a b are = record { slots = λ i. refl; lasts = are.lasts; cells = are.cells; ledger = are.ledger; pending = are.pending }

  is_kept_alike : (s : System) (c d : Config) → Alike r c d → (h : ℕ) → list_any (λ v. is_cell (r.to h) (d.lasts v)) (keeps_of s) ≡ list_any (λ v. is_cell h (c.lasts v)) (keeps_of s)
  is_kept_alike s c d alike h =
      any_same (λ v. is_cell (r.to h) (d.lasts v)) (λ v. is_cell h (c.lasts v)) (λ v. ap (is_cell (r.to h)) (alike.lasts v) ∙ is_cell_renamed r h (c.lasts v)) (keeps_of s)

  pub alike_ended : (s : System) (c d : Config) → Alike r c d → AreRenamed r (ended s c) (ended s d)
  alike_ended s c d alike = record {
    lasts = alike.lasts;
    cells = λ h.
        get-kept d.cells (λ k. list_any (λ v. is_cell k (d.lasts v)) (keeps_of s)) (r.to h)
        ∙ ap (λ b. cond b (finite_map.get d.cells (r.to h)) None) (is_kept_alike s c d alike h)
        ∙ ap (λ o. cond (list_any (λ v. is_cell h (c.lasts v)) (keeps_of s)) o None) (alike.cells h)
        ∙ sym (get-kept c.cells (λ k. list_any (λ v. is_cell k (c.lasts v)) (keeps_of s)) h);
    ledger = alike.ledger;
    pending = alike.pending;
  }

  instant_alike : (s : System) (plan : Plan) (inputs : Inputs) (t : ℕ) (a b c : State) → AreRenamed r a c → Instant s plan inputs t a b → (d : State) × Instant s plan inputs t c d × AreRenamed r b d
  instant_alike s plan inputs t a b c are instant =
      let first = steps_alike r inputs t s (body s plan) (started a) (started c) instant.reached (alike_started a c are) instant.ran in
      let second = steps_alike r inputs t s (ending s) instant.reached first.0 instant.last first.2 instant.kept_on in (
        ended s second.0,
        record {
          reached = first.0;
          ran = first.1;
          sound = subst IsFalse (sym (roots_alike r instant.reached first.0 first.2 s)) instant.sound;
          last = second.0;
          kept_on = second.1;
          is = refl;
        },
        subst (λ x. AreRenamed r x (ended s second.0)) (sym instant.is) (alike_ended s instant.last second.0 second.2),
      )

  runs_alike : (s : System) (plan : Plan) (inputs : Inputs) (times : List ℕ) (a b c : State) → AreRenamed r a c → Runs s plan inputs times a b → (d : State) × Runs s plan inputs times c d × AreRenamed r b d
  runs_alike s plan inputs [] a b c are ran = (c, refl, subst (λ x. AreRenamed r x c) (sym ran) are)
  runs_alike s plan inputs (t ∷ times) a b c are ran =
      let first = instant_alike s plan inputs t a ran.0 c are ran.1 in
      let rest = runs_alike s plan inputs times ran.0 b first.0 first.2 ran.2 in
      (rest.0, (first.0, first.1, rest.1), rest.2)

  -- a state has one other form
  same_cells : (m n o : Cells) → ((h : ℕ) → finite_map.get n (r.to h) ≡ finite_map.get m h) → ((h : ℕ) → finite_map.get o (r.to h) ≡ finite_map.get m h) → n ≡ o
  same_cells m n o first second = finite_map.same_map nat_cmp_total finite_map.nat_cmp-IsAntisymmetric n o (λ k.
      ap (finite_map.get n) (sym (r.here k)) ∙ first (r.back k) ∙ sym (second (r.back k)) ∙ ap (finite_map.get o) (r.here k))

  pub one_form : (a b c : State) → AreRenamed r a b → AreRenamed r a c → b ≡ c
  one_form a b c first second =
      let cells = same_cells a.cells b.cells c.cells first.cells second.cells in
      λ k. record {
        lasts = λ v. (first.lasts v ∙ sym (second.lasts v)) k;
        cells = cells k;
        ledger = λ u. (first.ledger u ∙ sym (second.ledger u)) k;
        pending = λ i. (first.pending i ∙ sym (second.pending i)) k;
      }

  pub nothing_renamed : AreRenamed r nothing_yet nothing_yet
  nothing_renamed = record {
    lasts = λ v. refl;
    cells = λ h. finite_map.get-empty nat_cmp (r.to h) ∙ sym (finite_map.get-empty nat_cmp h);
    ledger = λ u. refl;
    pending = λ i. refl;
  }

pub instants_renamed : RenamedInstants
instants_renamed s plan inputs t r a b c d first second instant =
    let other = instant_alike r s plan inputs t a b c first instant in
    subst (Instant s plan inputs t c) (one_form r b other.0 d other.2 second) other.1

pub runs_renamed : RenamedRuns
runs_renamed s plan lines z t r a b are ran =
    let other = runs_alike r s plan (inputs_of lines) (instants s lines z t) nothing_yet a nothing_yet (nothing_renamed r) ran in
    subst (Runs s plan (inputs_of lines) (instants s lines z t) nothing_yet) (one_form r a other.0 b other.2 are) other.1
