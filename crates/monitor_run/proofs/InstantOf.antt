-- An instant of the code is one of the register machine.
use Rattle.std.proofs.Common.{◌≡◌, ◌==◌, ℕ, Bool, true, false, ◌||◌, List, [], ◌∷◌, map, Option, Some, None, refl, sym, ap, ◌∙◌}
use Rattle.std.proofs.lemmas.Bool.{and_parts, false≢true}
use Rattle.std.specs.Prelude.{if◌then◌else◌, is_some, IsTrue, slice_index}
use Rattle.std.specs.Option.{option_and_then, option_or}
use Rattle.std.specs.List.{AllByRecursion, list_any}
use Rattle.std.specs.FinMap as finite_map
use Rattle.tsl_value.specs.declared.scalar.Scalar.TheVariants as scalar
use Rattle.body_eval.specs.declared.register.Register.{Register}
use Rattle.body_eval.specs.declared.register.Register.TheVariants as register
use Rattle.cell_reader.specs.inner.Cells.{Cells}
use Rattle.body_eval.specs.inner.Registers as cell_registers
use Rattle.aggregate_store.specs.inner.Stored.{is_listed}
use Rattle.flat_core.specs.declared.equation.Equation.{Equation}
use Rattle.flat_core.specs.declared.equation.Op.TheVariants as op
use Rattle.flat_core.specs.Events.{Inputs}
use Rattle.flat_core.specs.Complete.{IsFlat}
use Rattle.flat_core.specs.Instant.{is_delay}
use Rattle.flat_core.specs.Line.{Line}
use Rattle.flat_core.specs.Members.{is_in}
use Rattle.flat_core.specs.Pending.{option_is, reached}
use Rattle.flat_core.specs.System.{System, equation, runs}
use Rattle.flat_core.proofs.Members.{all_from, in-Contains, none_from}
use Rattle.flat_core.specs.Kept.{is_timer, keeps_of, timers_of}
use Rattle.register_machine.specs.Machine.{Bare, Config, fires, with, value_in, view_of, expiry, timed}
use Rattle.register_machine.specs.Machine as machine
use Rattle.register_machine.specs.Run.{Plan, Instant, ended, has_root, is_cell, kept_cells, root_seen}
use Rattle.register_machine.specs.Stands.{in_time}
use Rattle.register_machine.proofs.Cells.{with-here}
use Rattle.monitor_run.specs.declared.machine.Machine.{Machine}
use Rattle.monitor_run.specs.inner.Instant.{AreInputs, HasEnded, HasReached, HasRunRegisters, IsSound, cell_in, cells_in, kept_of, kept_register, left_at, second_of, set_at, set_by}
use Rattle.flat_core.specs.inner.Arity.{HasArity}
use Rattle.monitor_run.specs.inner.Here.{first_of}
use Rattle.monitor_run.specs.inner.Registers.{register_at, value_at}
use Rattle.monitor_run.specs.inner.Shown.{held_at, held_by}
use Rattle.monitor_run.proofs.CellLemmas.{seen_is}
use Rattle.monitor_run.proofs.DelayLemmas.{timer_runs, timer_shape}
use Rattle.monitor_run.proofs.EndedLemmas.{listed_append}
use Rattle.monitor_run.proofs.EndingLemmas.{HasEnding, ending_goes, expiry_is, overwritten, timed_at}
use Rattle.flat_core.proofs.Shapes.{running_args}
use Rattle.flat_core.proofs.Answered.{delay_op}
use Rattle.monitor_run.proofs.InstantLemmas.{filtered_running, kept_runs, listed_kept, listed_timer}

-- ---- the delays are there
delays_there : (s : System) → IsFlat s → AllByRecursion (λ i. (e : Equation) × (equation s i ≡ Some e)) (timers_of s)
delays_there s whole = all_from (λ i. (e : Equation) × (equation s i ≡ Some e)) (timers_of s) (λ i found.
    let f = whole.proper.runs_all i (timer_runs s i (listed_timer s i (in-Contains (timers_of s) i found))) in
    (f.0, f.1))

-- the cells of last registers
cells_listed : (last : List Register) (keeps : List ℕ) (h : ℕ) → is_listed (cells_in last keeps) h ≡ list_any (λ v. is_cell h (held_at last v)) keeps
cells_listed last [] h = refl
cells_listed last (k ∷ keeps) h = listed_append (cell_in (register_at last k)) (cells_in last keeps) h ∙ (λ j. one (register_at last k) j || cells_listed last keeps h j)
  where
    or_none : (b : Bool) → (b || false) ≡ b
    or_none true = refl
    or_none false = refl

    one : (r : Register) → is_listed (cell_in r) h ≡ is_cell h (held_by r)
    one register.Empty = refl
    one (register.Scalar x) = refl
    one (register.Aggregate c) = or_none (c == h)

held_kept : (r q : Register) → held_by (kept_register r q) ≡ option_or (held_by r) (held_by q)
held_kept register.Empty q = refl
held_kept (register.Scalar x) q = refl
held_kept (register.Aggregate h) q = refl

holds_some : (c : Cells) (r : Register) → is_some (cell_registers.held c r) ≡ is_some (held_by r)
holds_some c register.Empty = refl
holds_some c (register.Scalar x) = refl
holds_some c (register.Aggregate h) = refl

-- ---- the end
module _ (s : System) (whole : IsFlat s) (plan : Plan) (t : ℕ) (given : List Line) (old mid new : Machine) (sound : IsSound s t old) (ran : HasRunRegisters s plan t given old mid None) (ended_is : HasEnded s t mid new) (inputs : Inputs) (are : AreInputs given t inputs) where
  abbrev r : HasReached s plan inputs t old mid None
  r = ran.means inputs are

  end : (d : Config) × HasEnding inputs t s r.reached d
  end = ending_goes inputs t s (delays_there s whole) r.reached

  lasts_same : (v : ℕ) → held_at new.last.items v ≡ (end.0).lasts v
  lasts_same v =
      ap held_by (ended_is.last v) ∙ go (is_in (keeps_of s) v) refl
      ∙ sym (end.1.lasts v)
    where
      go : (b : Bool) → is_in (keeps_of s) v ≡ b → held_by (if is_in (keeps_of s) v then kept_register (register_at mid.registers.items v) (register_at mid.last.items v) else register_at mid.last.items v) ≡ overwritten (is_in (keeps_of s) v) (machine.held (r.reached.slots v)) (r.reached.lasts v)
      go true so =
          let run_v = kept_runs s whole v (listed_kept s v so) in
          (λ k. held_by (if so k then kept_register (register_at mid.registers.items v) (register_at mid.last.items v) else register_at mid.last.items v))
          ∙ held_kept (register_at mid.registers.items v) (register_at mid.last.items v)
          ∙ (λ k. option_or ((r.shows.each v run_v refl).holds k) (r.shows.beside.lasts v k))
          ∙ sym (λ k. overwritten (so k) (machine.held (r.reached.slots v)) (r.reached.lasts v))
      go false fails =
          (λ k. held_by (if fails k then kept_register (register_at mid.registers.items v) (register_at mid.last.items v) else register_at mid.last.items v))
          ∙ r.shows.beside.lasts v
          ∙ sym (λ k. overwritten (fails k) (machine.held (r.reached.slots v)) (r.reached.lasts v))

  cells_same : new.store.cells ≡ kept_cells s end.0
  cells_same =
      ended_is.cells
      ∙ (λ k. finite_map.retain_keys ((r.shows.beside.cells ∙ sym end.1.cells) k) (λ h. listed_here h k))
    where
      listed_here : (h : ℕ) → is_listed (cells_in new.last.items (keeps_of s)) h ≡ list_any (λ v. is_cell h ((end.0).lasts v)) (keeps_of s)
      listed_here h =
          cells_listed new.last.items (keeps_of s) h
          ∙ (λ k. list_any (λ v. is_cell h (lasts_same v k)) (keeps_of s))

  ledger_same : (u : ℕ) → slice_index new.store.ledger u ≡ (end.0).ledger u
  ledger_same u = ap (λ l. slice_index l u) ended_is.ledger ∙ r.shows.beside.ledger u ∙ sym (λ k. end.1.ledger k u)

  -- values, as the machine sees them
  value_here : (i : ℕ) → IsTrue (runs s i) → value_at mid.store.cells mid.registers.items i ≡ value_in r.reached i
  value_here i run_i =
      let f = whole.proper.runs_all i run_i in
      sym (seen_is mid.store.cells (register_at mid.registers.items i) (ran.held.each i f.0 run_i f.1).live)
      ∙ (λ k. option_and_then (view_of (r.shows.beside.cells k)) ((r.shows.each i run_i refl).holds k))

  fires_here : (i : ℕ) → IsTrue (runs s i) → is_some (value_at mid.store.cells mid.registers.items i) ≡ fires r.reached i
  fires_here i run_i = holds_some mid.store.cells (register_at mid.registers.items i) ∙ ap is_some (r.shows.each i run_i refl).holds

  left_none : (o : Option ℕ) → option_is t o ≡ false → left_at t o ≡ o
  left_none o fails = λ k. if fails k then None else o

  -- a delay
  module _ (i : ℕ) (e : Equation) (run_i : IsTrue (runs s i)) (is : equation s i ≡ Some e) (delay : e.op ≡ op.Delay) where
    -- without an event it was not due
    still : fires r.reached i ≡ false → finite_map.get mid.timers.times i ≡ r.reached.pending i
    still none =
        ran.timers i
        ∙ left_none (finite_map.get old.timers.times i) (sym (due_some (option_is t (finite_map.get old.timers.times i))) ∙ sym (ap is_some (r.delays i e run_i is delay)) ∙ none)
        ∙ sym (r.pending i)
      where
        due_some : (b : Bool) → is_some (if b then Some (Bare scalar.Unit) else None) ≡ b
        due_some true = refl
        due_some false = refl

    set_is : (args : List ℕ) → HasArity op.Delay args → AllByRecursion (λ a. IsTrue (runs s a)) args
        → set_by t (first_of (map (value_at mid.store.cells mid.registers.items) args)) (second_of (map (value_at mid.store.cells mid.registers.items) args)) (value_at mid.store.cells mid.registers.items i) (finite_map.get mid.timers.times i) ≡ timed t r.reached i args i
    set_is [] shape all = absurd shape
    set_is (d ∷ []) shape all = absurd shape
    set_is (d ∷ q ∷ x ∷ args) shape all = absurd shape
    set_is (d ∷ q ∷ []) shape all =
        (λ k. if fires_here q all.1.0 k || fires_here i run_i k then in_time (reached t (value_here d all.0 k)) else finite_map.get mid.timers.times i)
        ∙ go (fires r.reached q) (fires r.reached i) refl refl
      where
        Here : Bool → Bool → Type 0
        Here x y = (if x || y then in_time (reached t (value_in r.reached d)) else finite_map.get mid.timers.times i) ≡ (if y || x then with r.reached.pending i (expiry t (value_in r.reached d)) else r.reached.pending) i

        set : in_time (reached t (value_in r.reached d)) ≡ with r.reached.pending i (expiry t (value_in r.reached d)) i
        set = sym (expiry_is t (value_in r.reached d)) ∙ sym (with-here r.reached.pending i (expiry t (value_in r.reached d)))

        at : (x y : Bool) → (y ≡ false → finite_map.get mid.timers.times i ≡ r.reached.pending i) → Here x y
        at true true before = set
        at true false before = set
        at false true before = set
        at false false before = before refl

        go : (x y : Bool) → fires r.reached q ≡ x → fires r.reached i ≡ y → Here (fires r.reached q) (fires r.reached i)
        go x y fx fy = at (fires r.reached q) (fires r.reached i) still

  pending_same : (i : ℕ) → finite_map.get new.timers.times i ≡ (end.0).pending i
  pending_same i = ended_is.timers ran.types mid.store.cells ran.held i ∙ go (is_in (timers_of s) i) refl ∙ sym (end.1.pending i)
    where
      go : (b : Bool) → is_in (timers_of s) i ≡ b → (if is_in (timers_of s) i then set_at (equation s i) mid.store.cells mid.registers.items t i (finite_map.get mid.timers.times i) else finite_map.get mid.timers.times i) ≡ (if is_in (timers_of s) i then timed_at t r.reached i (equation s i) else r.reached.pending i)
      go true so =
          let timer = listed_timer s i so in
          let run_i = timer_runs s i timer in
          let f = whole.proper.runs_all i run_i in
          let is_op = delay_op f.0.op (ap is_delay (sym f.1) ∙ (and_parts (runs s i) (is_delay (equation s i)) timer).1) in
          (λ k. if so k then set_at (f.1 k) mid.store.cells mid.registers.items t i (finite_map.get mid.timers.times i) else finite_map.get mid.timers.times i)
          ∙ set_is i f.0 run_i f.1 is_op f.0.args (timer_shape s whole i f.0 timer f.1) (running_args s whole.proper i f.0 run_i f.1)
          ∙ sym (λ k. if so k then timed_at t r.reached i (f.1 k) else r.reached.pending i)
      go false fails =
          (λ k. if fails k then set_at (equation s i) mid.store.cells mid.registers.items t i (finite_map.get mid.timers.times i) else finite_map.get mid.timers.times i)
          ∙ ran.timers i ∙ left_none (finite_map.get old.timers.times i) (not_due (finite_map.get old.timers.times i) refl) ∙ sym (r.pending i)
          ∙ sym (λ k. if fails k then timed_at t r.reached i (equation s i) else r.reached.pending i)
        where
          not_due : (o : Option ℕ) → finite_map.get old.timers.times i ≡ o → option_is t o ≡ false
          not_due None is = refl
          not_due (Some u) is =
              let timer = (sound.timers.each i u is).0 in
              absurd (false≢true (sym fails ∙ filtered_running s whole (is_timer s) i (timer_runs s i timer) ∙ timer))

  -- what is kept is what the machine keeps
  kept_is : kept_of new ≡ ended s end.0
  kept_is = λ k. record { lasts = λ v. lasts_same v k; cells = cells_same k; ledger = λ u. ledger_same u k; pending = λ i. pending_same i k }

  no_root : has_root s r.reached ≡ false
  no_root = none_from (λ i. is_some (root_seen s r.reached i)) s.running (λ i run_i. ap is_some (r.least i run_i))

  pub instant_is : Instant s plan inputs t (kept_of old) (kept_of new)
  instant_is = record { reached = r.reached; ran = r.ran; sound = no_root; last = end.0; kept_on = end.1.ran; is = kept_is }
