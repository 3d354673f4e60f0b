-- Where no register holds a cell, each cell is one that a last register holds.
use Rattle.std.proofs.Common.{◌≡◌, ℕ, Bool, true, false, ◌&&◌, ◌||◌, List, Option, Some, None, refl, sym, ap, subst, ◌∙◌}
use Rattle.std.proofs.lemmas.Bool.{false≢true}
use Rattle.std.specs.Prelude.{if◌then◌else◌, is_some, IsFalse, IsTrue}
use Rattle.std.specs.FinMap as finite_map
use Rattle.tsl_value.specs.View.{View, Plain}
use Rattle.tsl_value.specs.declared.scalar.ValueType.{ValueType}
use Rattle.tsl_value.proofs.Aggregates.{elements_of}
use Rattle.delay_timers.specs.inner.Pending.{Times}
use Rattle.body_eval.specs.declared.register.Register.{Register}
use Rattle.body_eval.specs.declared.register.Register.TheVariants as register
use Rattle.cell_reader.specs.inner.Cells.{Cells, IsLive, view_at}
use Rattle.aggregate_store.specs.inner.Stored.{is_listed}
use Rattle.flat_core.specs.Complete.{IsFlat}
use Rattle.flat_core.specs.Line.{Line}
use Rattle.flat_core.specs.Members.{is_in}
use Rattle.flat_core.specs.Kept.{keeps_of}
use Rattle.flat_core.specs.System.{System}
use Rattle.flat_core.proofs.Members.{in-Contains}
use Rattle.register_machine.specs.Machine.{Cell}
use Rattle.register_machine.specs.Run.{Plan}
use Rattle.register_machine.specs.Tidy.{IsTidy}
use Rattle.monitor_run.specs.declared.machine.Machine.{Machine}
use Rattle.monitor_run.specs.declared.run.Root.{Root}
use Rattle.monitor_run.specs.inner.Here.{IsBare}
use Rattle.monitor_run.specs.inner.Instant.{AreBare, AreListed, HasRunRegisters, cells_in, kept_register}
use Rattle.monitor_run.specs.inner.Registers.{AreHeld, IsHeldOf, register_at}
use Rattle.monitor_run.specs.inner.Shown.{held_at, held_by, state_of}
use Rattle.monitor_run.specs.inner.Visits.{AreFilled}
use Rattle.monitor_run.proofs.EndedLemmas.{cell_listed}
use Rattle.monitor_run.proofs.InstantLemmas.{kept_runs, listed_kept}
use Rattle.monitor_run.proofs.SoleLemmas.{listed_cell}

-- ---- between instants

pub cell_of : (r : Register) (h : ℕ) → held_by r ≡ Some (Cell h) → r ≡ register.Aggregate h
cell_of register.Empty h is = absurd (cc)
cell_of (register.Scalar s) h is = absurd (cc)
cell_of (register.Aggregate k) h is = let same : k ≡ h = cc in ap register.Aggregate same

-- each cell is held by a last register
pub tidy_listed : (s : System) (cells : Cells) (ledger : List ℕ) (last : List Register) (timers : Times) → IsTidy s (state_of cells ledger last timers) → (h : ℕ) → IsLive cells h → is_listed (cells_in last (keeps_of s)) h ≡ true
tidy_listed s cells ledger last timers tidy h live = from (finite_map.get cells h) refl
  where
    from : (o : Option View) → finite_map.get cells h ≡ o → is_listed (cells_in last (keeps_of s)) h ≡ true
    from None is = absurd (false≢true (sym (ap is_some is) ∙ live))
    from (Some v) is =
        let by = tidy.named h v is in
        cell_listed last (keeps_of s) by.0 h (in-Contains (keeps_of s) by.0 by.1) (cell_of (register_at last by.0) h by.2)

-- ---- at the end of an instant

-- and is so still
pub listed_on : (s : System) (plan : Plan) (t : ℕ) (given : List Line) (old mid : Machine) (root : Option Root) → AreListed s old → HasRunRegisters s plan t given old mid root → AreBare mid.registers.items → AreListed s mid
listed_on s plan t given old mid root listed ran bare h live =
    ap (λ l. is_listed (cells_in l (keeps_of s)) h) ran.last_same ∙ listed h (subst (λ c. IsLive c h) (ran.cells_stay bare) live)

-- registers that are not listed as filled hold none
pub bare_filled : (all : Bool) (filled : List ℕ) (registers : List Register) → (IsFalse all → AreFilled filled registers) → ((i : ℕ) → IsTrue (all || is_in filled i) → IsBare (register_at registers i)) → AreBare registers
bare_filled true filled registers are bare i = bare i refl
bare_filled false filled registers are bare i = by (is_in filled i) refl
  where
    by : (b : Bool) → is_in filled i ≡ b → IsBare (register_at registers i)
    by true listed = bare i listed
    by false none = subst IsBare (sym ((are refl).rest i none)) tt

-- a value that is no aggregate takes no place of one
module _ (s : System) (whole : IsFlat s) (types : ℕ → ValueType) (cells : Cells) (registers last after : List Register) (held : AreHeld s types cells registers) (lasts : AreHeld s types cells last) (bare : AreBare registers)
    (after_is : (i : ℕ) → register_at after i ≡ (if is_in (keeps_of s) i then kept_register (register_at registers i) (register_at last i) else register_at last i)) where
  stays : (of : ValueType) (r : Register) (h : ℕ) → IsBare r → IsHeldOf cells of r → IsHeldOf cells of (register.Aggregate h) → kept_register r (register.Aggregate h) ≡ register.Aggregate h
  stays of register.Empty h none a b = refl
  stays of (register.Aggregate k) h none a b = absurd none
  stays of (register.Scalar x) h none a b = absurd (false≢true (elements_of of (Plain x) a.typed ∙ sym (elements_of of (view_at cells h) b.typed) ∙ b.live.1))

  pub still_listed : (h : ℕ) → is_listed (cells_in last (keeps_of s)) h ≡ true → is_listed (cells_in after (keeps_of s)) h ≡ true
  still_listed h listed =
      let at = listed_cell last (keeps_of s) h listed in
      let run = kept_runs s whole at.0 (listed_kept s at.0 at.1) in
      let found = whole.proper.runs_all at.0 run in
      cell_listed after (keeps_of s) at.0 h at.1
      (after_is at.0
      ∙ (λ k. if at.1 k then kept_register (register_at registers at.0) (at.2 k) else register_at last at.0)
      ∙ stays found.0.of (register_at registers at.0) h (bare at.0) (held.each at.0 found.0 run found.1) (subst (IsHeldOf cells found.0.of) at.2 (lasts.each at.0 found.0 run found.1)))
