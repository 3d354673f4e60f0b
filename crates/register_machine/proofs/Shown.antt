-- The laws of the register machine.
use Rattle.std.proofs.Common.{◌≡◌, ℕ, zero, suc, ◌<◌, ◌≤◌, Bool, true, false, List, [], ◌∷◌, length, Option, Some, None, Ok, refl, sym, ap, subst, ◌∙◌, Contains, option_and_then, arith}
use Rattle.std.specs.Prelude.{IsFalse}
use Rattle.std.specs.FinMap as finite_map
use Rattle.std.specs.Ordering.{nat_cmp}
use Rattle.tsl_value.specs.View.{View}
use Rattle.flat_core.specs.Case.{Streams}
use Rattle.flat_core.specs.Events.{Inputs, outcome_of}
use Rattle.flat_core.specs.Fault.{is_faulty}
use Rattle.flat_core.specs.Instant.{is_instant, instants}
use Rattle.flat_core.specs.Line.{Line, inputs_of}
use Rattle.flat_core.specs.Stream.{latest}
use Rattle.flat_core.specs.System.{System}
use Rattle.flat_core.proofs.Answered.{event_of_value}
use Rattle.alias_rules.proofs.Updates.{has_update}
use Rattle.register_machine.specs.Content.{print_of}
use Rattle.register_machine.specs.Machine.{Held, Cell, Holds, held, view_of, slot_of}
use Rattle.register_machine.specs.Run.{Plan, State, Runs, nothing_yet}
use Rattle.flat_core.specs.Kept.{keeps_of}
use Rattle.register_machine.specs.Stands.{IsGiven, RunsTo, Stands, IsCounted, stored}
use Rattle.register_machine.specs.Laws.{LeavesWhatIsRead, ShowsInstant, LookAlike, CountsCopies, GoesOn}
use Rattle.register_machine.proofs.CellCount.{instant_cells}
use Rattle.register_machine.proofs.Cells.{blank_holds, holds_same}
use Rattle.register_machine.proofs.Counted.{HasCounted, body_counted, moved_counted, run_counted}
use Rattle.register_machine.proofs.Instants.{so_far}
use Rattle.register_machine.proofs.Kept.{kept_last}
use Rattle.register_machine.proofs.InstantLaws.{sound_leaves, faulty_leaves, body_runs, instant_runs}
use Rattle.register_machine.proofs.Premises.{course_of, updates_of, silence_of}
use Rattle.register_machine.proofs.Safety.{Course, Standing, IsSpaced, time_after, start_stands, instant_on, moved, run_stands, roots_at, each_root, prints_at}
use Rattle.register_machine.proofs.LaterRuns.{runs_on}
use Rattle.register_machine.proofs.Setting.{value_is}

slot_holds : (k : Option Held) (l : Held) → slot_of k ≡ Holds l → k ≡ Some l
slot_holds None l is = blank_holds is
slot_holds (Some k) l is = ap Some (holds_same is)

held_slot : (k : Option Held) → held (slot_of k) ≡ k
held_slot None = refl
held_slot (Some k) = refl

module _ (s : System) (plan : Plan) (lines : List Line) (bound : ℕ) (z : Streams) (given : IsGiven s plan lines bound z) where
  abbrev inputs : Inputs
  inputs = inputs_of lines

  abbrev course : Course s plan inputs z bound
  course = course_of s plan lines bound z given

  standing_at : (t : ℕ) → t ≤ bound → (a : State) → RunsTo s plan lines z t a → Standing s plan inputs z t a
  standing_at t le a ran =
      let far = so_far s plan lines z bound course (silence_of s plan lines bound z given) t le in
      moved s plan inputs z bound course (time_after s plan inputs z bound course 0 (instants s lines z t)) t a (run_stands s plan inputs z bound course (instants s lines z t) a far.spaced ran) far.low far.quiet

  pub leaves : (t : ℕ) → t < bound → (a : State) → RunsTo s plan lines z t a → LeavesWhatIsRead s plan lines t a
  leaves t lt a ran = record {
    where_sound = sound_leaves s plan inputs z bound course (updates_of s plan lines bound z given) t lt a (standing_at t (omega arith) a ran);
    where_faulty = faulty_leaves s plan inputs z bound course (updates_of s plan lines bound z given) t lt a (standing_at t (omega arith) a ran);
  }

  pub shows : (t : ℕ) → t < bound → (a : State) → RunsTo s plan lines z t a → ShowsInstant s plan lines z t a
  shows t lt a ran = record {
    prints = λ before after k c is leads. prints_at s plan inputs z bound course t lt a (standing_at t (omega arith) a ran) before after k (print_of s k) c is leads refl;
    root_faults = λ c reached i run. each_root s plan inputs z bound course t lt a (standing_at t (omega arith) a ran) c reached i run;
    some_root_fault = λ c reached. roots_at s plan inputs z bound course t lt a (standing_at t (omega arith) a ran) c reached;
  }

  pub stands : (t : ℕ) → t ≤ bound → (a : State) → RunsTo s plan lines z t a → Stands s plan z t a
  stands t le a ran =
      let standing = standing_at t le a ran in
      record {
        latest_events = latest_is standing;
        cells_there = standing.between.lives;
        one_cell = standing.between.shares;
        delays = λ i d r e run is is_op is_args. standing.due i d r e (record { is = is; runs_too = run }) is_op is_args;
      }
    where
      latest_is : Standing s plan inputs z t a → (v : ℕ) → Contains (keeps_of s) v → option_and_then (view_of a.cells) (a.lasts v) ≡ latest (z v) t
      latest_is standing v found =
          let by = kept_last s given.flat.proper v found in
          let status = standing.lasts v by.0 by.1 by.2 by.3 in
          sym (ap (option_and_then (view_of a.cells)) (held_slot (a.lasts v)))
          ∙ value_is a.cells (outcome_of (Ok (latest (z v) t))) (slot_of (a.lasts v)) status (λ h holds. standing.between.view v h (slot_holds (a.lasts v) (Cell h) holds) ∙ sym (event_of_value (latest (z v) t)))
          ∙ event_of_value (latest (z v) t)

  counted_at : (t : ℕ) → t ≤ bound → (a : State) → RunsTo s plan lines z t a → HasCounted s plan z t a.ledger
  counted_at t le a ran =
      let far = so_far s plan lines z bound course (silence_of s plan lines bound z given) t le in
      moved_counted s plan inputs z bound course (time_after s plan inputs z bound course 0 (instants s lines z t)) t a.ledger far.low far.quiet
      (run_counted s plan inputs z bound course (instants s lines z t) a far.spaced ran)

  each_counted : (t : ℕ) (ledger : ℕ → ℕ) → HasCounted s plan z t ledger → IsCounted s plan z t ledger
  each_counted t ledger counted u update =
      let there = has_update s u update in counted u there.at (record { is = there.is; runs_too = there.running }) there.updates

  pub counts : (t : ℕ) → t ≤ bound → (a : State) → RunsTo s plan lines z t a → CountsCopies s plan lines bound z t a
  counts t le a ran = record {
    between = each_counted t a.ledger (counted_at t le a ran);
    within = λ lt c reached. each_counted (suc t) c.ledger (body_counted s plan inputs z bound course t lt a (standing_at t le a ran) (counted_at t le a ran) c reached);
  }

  cells_from : (times : List ℕ) (u : ℕ) (a b : State) → Standing s plan inputs z u a → finite_map.len a.cells ≤ length (stored s) → IsSpaced s plan inputs z bound course u times → Runs s plan inputs times a b → finite_map.len b.cells ≤ length (stored s)
  cells_from [] u a b standing few spaced ran = subst (λ x. finite_map.len x.cells ≤ length (stored s)) (sym ran) few
  cells_from (t ∷ times) u a b standing few spaced ran =
      let here = moved s plan inputs z bound course u t a standing spaced.0 spaced.2 in
      cells_from times (suc t) ran.0 b (instant_on s plan inputs z bound course t spaced.1 a here ran.0 ran.1) (instant_cells s plan inputs z bound course t spaced.1 a here ran.0 ran.1) spaced.3 ran.2

  pub bounded : (t : ℕ) → t ≤ bound → (a : State) → RunsTo s plan lines z t a → finite_map.len a.cells ≤ length (stored s)
  bounded t le a ran =
      let far = so_far s plan lines z bound course (silence_of s plan lines bound z given) t le in
      let none = finite_map.len-empty nat_cmp View in
      cells_from (instants s lines z t) 0 nothing_yet a (start_stands s plan inputs z) (omega arith) far.spaced ran

  pub goes_on : (t : ℕ) → t < bound → (a : State) → RunsTo s plan lines z t a → GoesOn s plan lines z t a
  goes_on t lt a ran = record {
    reaches = body_runs s plan inputs z bound course (updates_of s plan lines bound z given) t lt a (standing_at t (omega arith) a ran);
    ends = instant_runs s plan inputs z bound course (updates_of s plan lines bound z given) t lt a (standing_at t (omega arith) a ran);
  }

  one_more : (t : ℕ) → t < bound → IsFalse (is_faulty s inputs z t) → (a : State) × RunsTo s plan lines z t a → (b : Bool) → is_instant s lines z t ≡ b → (c : State) × RunsTo s plan lines z (suc t) c
  one_more t lt sound before false none = (before.0, (runs_on s plan lines z t before.0 before.1).over_gap none)
  one_more t lt sound before true comes =
      let next = (goes_on t lt before.0 before.1).ends sound in
      (next.0, (runs_on s plan lines z t before.0 before.1).over_instant comes next.0 next.1)

  pub exists : (t : ℕ) → t ≤ bound → ((u : ℕ) → u < t → IsFalse (is_faulty s inputs z u)) → (a : State) × RunsTo s plan lines z t a
  exists zero le sound = (nothing_yet, refl)
  exists (suc t) le sound = one_more t (omega arith) (sound t (omega arith)) (exists t (omega arith) (λ u lt. sound u (omega arith))) (is_instant s lines z t) refl

pub alike : (s : System) (p q : Plan) (lines : List Line) (bound : ℕ) (z : Streams) → IsGiven s p lines bound z → IsGiven s q lines bound z → (t : ℕ) → t < bound → (a b : State) → RunsTo s p lines z t a → RunsTo s q lines z t b → LookAlike s p q lines t a b
alike s p q lines bound z p_given q_given t lt a b p_ran q_ran =
    let first = shows s p lines bound z p_given t lt a p_ran in
    let second = shows s q lines bound z q_given t lt b q_ran in
    record {
      prints = λ p_before p_after q_before q_after k c d p_is p_leads q_is q_leads. first.prints p_before p_after k c p_is p_leads ∙ sym (second.prints q_before q_after k d q_is q_leads);
      root_faults = λ c d p_reaches q_reaches i run. first.root_faults c p_reaches i run ∙ sym (second.root_faults d q_reaches i run);
    }
