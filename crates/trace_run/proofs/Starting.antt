-- How a run begins and what it leaves, by its monitor.
use Rattle.std.proofs.Common.{◌≡◌, ℕ, Bool, true, false, List, [], ◌++◌, refl, sym, ◌∙◌, ap, subst, arith, None, Option, Some, Result, Ok, Err, IfOk, not}
use Rattle.compiled_meaning.specs.inner.Ready.{IsReady}
use Rattle.flat_core.specs.System.{System}
use Rattle.monitor_run.specs.inner.State as engine
use Rattle.register_code.specs.Code.{Code}
use Rattle.trace_monitor.proofs.Saving.{code_is, few_instants, options_are}
use Rattle.run_state.specs.Fits.{FitsRun}
use Rattle.run_state.specs.declared.state.RunState.{RunState}
use Rattle.trace_monitor.specs.declared.ending.RunEnding.{RunEnding}
use Rattle.trace_monitor.specs.declared.ending.RunEnding.TheVariants as run
use Rattle.trace_monitor.specs.declared.options.Options.{Options}
use Rattle.trace_monitor.specs.Due.{IsDue}
use Rattle.trace_monitor.specs.Ending.{GoesOn}
use Rattle.trace_monitor.specs.Saved.{IsRunAfter, IsSavedAs}
use Rattle.trace_monitor.specs.inner.Kept.{Kept}
use Rattle.trace_monitor.specs.inner.Snapshot.{HasRunState}
use Rattle.trace_monitor.specs.inner.State.{State}
use Rattle.trace_monitor.specs.inner.Waits.{Waits}
use Rattle.tsl_world.specs.declared.outside.Did.{Did}
use Rattle.tsl_world.specs.declared.outside.Slot.TheVariants.{Trace}
use Rattle.tsl_world.specs.Journal.{taken}
use Rattle.trace_run.specs.Before.{Before}
use Rattle.trace_run.specs.Effects.{HasWatched, IsMonitorOf, IsStateOf, KeepsAll, Leaves, LeavesSome, ReadsWithin, StandsAfter, Watched}
use Rattle.trace_run.specs.Limited.{AreLimited}
use Rattle.trace_run.specs.Starts.{CanStart, IsBegunAfter}
use Rattle.trace_run.specs.declared.start.Start.{Start}
use Rattle.trace_run.specs.declared.start.Start.TheVariants as start
use Rattle.trace_run.proofs.Dues.{due_at_start, goes_on_at_start}

-- ---- the monitor
module _ (c : Code) (m : State) (system : m.system ≡ c.system) (in_place : m.engine.in_place ≡ c.in_place) (order : m.engine.order ≡ c.order) where
  pub made_new : (o : Options) → IsReady c.system → AreLimited o → Kept m [] → m.options ≡ o → IsMonitorOf c (start.Anew o) m
  made_new o ready limited kept options =
      let few_bytes = limited.few_bytes in
      let few_instants = limited.few_instants in
      let bytes : m.options.bytes ≡ o.bytes = ap (λ (x : Options). x.bytes) options in
      let instants : m.options.instants ≡ o.instants = ap (λ (x : Options). x.instants) options in
      let good = subst IsReady (sym system) ready in
      record {
        code = code_is m c system in_place order;
        waits = kept.waits;
        bytes = sym bytes;
        taken = sym kept.reads.taken_is;
        few_bytes = omega arith;
        few_instants = omega arith;
        after = λ b is. subst (StandsAfter m) (sym is) record {
          options = sym options;
          kept = kept;
          due = due_at_start m.system m.options good;
          goes_on = goes_on_at_start m.system m.options good;
        };
      }

  pub made_of : (until : ℕ) (st : RunState) → FitsRun c.system st → HasRunState m st → Waits m → m.options.until ≡ until → ((fed : List ℕ) → IsRunAfter c m.options fed st → Kept m fed)
      → IsMonitorOf c (start.Resumed until st) m
  made_of until st fits has waits closes kept =
      let few_bytes = fits.limits.few_bytes in
      let bytes = has.options.bytes in
      record {
        code = code_is m c system in_place order;
        waits = waits;
        bytes = bytes;
        taken = has.reader.taken;
        few_bytes = omega arith;
        few_instants = few_instants c.system m.options st fits has.options;
        after = λ b is.
            let gone = is.1 in
            let same : m.options ≡ b.options = options_are m.options b.options st has.options gone.after.options (closes ∙ sym is.0) in
            record {
              options = sym same;
              kept = kept b.bytes (subst (λ (x : Options). IsRunAfter c x b.bytes st) (sym same) gone.after);
              due = subst (λ (x : Options). IsDue m.system x b.bytes false b.text) (sym same) (subst (λ (s : System). IsDue s b.options b.bytes false b.text) (sym system) gone.due);
              goes_on = subst (λ (x : Options). GoesOn m.system x b.bytes) (sym same) (subst (λ (s : System). GoesOn s b.options b.bytes) (sym system) gone.after.goes_on);
            };
      }

-- ---- as it is made or not, out of memory
module _ {E : Type 0} (c : Code) (begun : Start) (r : Result State E) (system : IfOk r (λ m. m.system ≡ c.system)) (in_place : IfOk r (λ m. m.engine.in_place ≡ c.in_place)) (order : IfOk r (λ m. m.engine.order ≡ c.order)) where
  pub new_made : (o : Options) → begun ≡ start.Anew o → IsReady c.system → CanStart c begun → IfOk r (λ m. Kept m []) → IfOk r (λ m. m.options ≡ o) → IfOk r (IsMonitorOf c begun)
  new_made o is ready can kept options = made r system in_place order kept options
    where
      made : (r : Result State E) → IfOk r (λ m. m.system ≡ c.system) → IfOk r (λ m. m.engine.in_place ≡ c.in_place) → IfOk r (λ m. m.engine.order ≡ c.order) → IfOk r (λ m. Kept m [])
          → IfOk r (λ m. m.options ≡ o) → IfOk r (IsMonitorOf c begun)
      made (Ok m) system in_place order kept options = subst (λ (x : Start). IsMonitorOf c x m) (sym is) (made_new c m system in_place order o ready (subst (CanStart c) is can) kept options)
      made (Err e) system in_place order kept options = tt

  pub resumed_made : (until : ℕ) (st : RunState) → begun ≡ start.Resumed until st → CanStart c begun → IfOk r (λ m. HasRunState m st) → IfOk r Waits
      → IfOk r (λ m. (fed : List ℕ) → IsRunAfter c m.options fed st → Kept m fed) → IfOk r (λ m. m.options.until ≡ until) → IfOk r (IsMonitorOf c begun)
  resumed_made until st is can has waits kept closes = made r system in_place order has waits kept closes
    where
      made : (r : Result State E) → IfOk r (λ m. m.system ≡ c.system) → IfOk r (λ m. m.engine.in_place ≡ c.in_place) → IfOk r (λ m. m.engine.order ≡ c.order) → IfOk r (λ m. HasRunState m st)
          → IfOk r Waits → IfOk r (λ m. (fed : List ℕ) → IsRunAfter c m.options fed st → Kept m fed) → IfOk r (λ m. m.options.until ≡ until) → IfOk r (IsMonitorOf c begun)
      made (Ok m) system in_place order has waits kept closes =
          subst (λ (x : Start). IsMonitorOf c x m) (sym is) (made_of c m system in_place order until st (subst (CanStart c) is can).1 has waits closes kept)
      made (Err e) system in_place order has waits kept closes = tt

-- ---- what is done after all that stands before it
module _ (s u : System) (P Q : Before → Type 0) (tells_end : Bool) (same : s ≡ u) (each : (b : Before) → Q b → P b) (part : List Did) where
  pub watched_after : (taken limit earlier most : ℕ) → earlier ≡ taken → most ≡ limit → Watched s P tells_end taken limit part → Watched u Q tells_end earlier most part
  watched_after taken limit earlier most taken_is limit_is w = let all = subst (λ (x : System). Watched x P tells_end taken limit part) same w in record {
    work = all.work;
    ends = all.ends;
    stops = all.stops;
    within = subst (λ (n : ℕ). ReadsWithin n most part) (sym taken_is) (subst (λ (n : ℕ). ReadsWithin taken n part) (sym limit_is) all.within);
    after = λ b begun. all.after b (each b begun);
  }

  pub has_watched_after : (e : engine.State) (how : RunEnding) → HasWatched s P tells_end e how part → HasWatched u Q tells_end e how part
  has_watched_after e how w =
      let all = subst (λ (x : System). HasWatched x P tells_end e how part) same w in
      record { done = all.done; read = all.read; after = λ b begun. all.after b (each b begun) }

-- ---- what is left
module _ (c : Code) (begun : Start) (m new : State) (is : IsMonitorOf c begun m) (options : new.options ≡ m.options) (part : List Did) where
  saved_of : (bytes : List ℕ) → IsStateOf c new bytes → KeepsAll m new false run.Done part → (b : Before) → IsBegunAfter c begun b → IsSavedAs c b.options (b.bytes ++ taken Trace part) bytes
  saved_of bytes state keeps b after =
      let stands = is.after b after in
      subst (λ (o : Options). IsSavedAs c o (b.bytes ++ taken Trace part) bytes) (options ∙ sym stands.options) (state.saved (b.bytes ++ taken Trace part) (keeps refl refl b stands))

  pub left_of : (saves : Bool) (how : RunEnding) (left : Option (List ℕ)) → KeepsAll m new (not saves) how part → LeavesSome (IsStateOf c new) saves how left → Leaves c (IsBegunAfter c begun) saves how left part
  left_of true run.Done (Some bytes) keeps leaves = record { fits = leaves.fits; saved = saved_of bytes leaves keeps }
  left_of true run.Done None keeps leaves = leaves
  left_of true (run.Trace fault) left keeps leaves = leaves
  left_of true (run.Fault time kind place) left keeps leaves = leaves
  left_of true (run.Limit count time) left keeps leaves = leaves
  left_of false how left keeps leaves = leaves
