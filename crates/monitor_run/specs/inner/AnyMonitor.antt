-- What a step makes of a monitor, whatever events it stands for, and also where it stands for none.
use Rattle.std.specs.Prelude.{◌≡◌, ◌==◌, ℕ, ◌+◌, ◌<◌, ◌≤◌, suc, not, List, Some, Result, Ok, Err, IsTrue}
use Rattle.std.specs.List.{filter}
use Rattle.flat_core.specs.Line.{inputs_of}
use Rattle.flat_core.specs.System.{System, runs}
use Rattle.register_machine.specs.Run.{Instant}
use Rattle.monitor_run.specs.declared.monitor.Step.{Step}
use Rattle.monitor_run.specs.declared.monitor.Step.TheVariants as step
use Rattle.monitor_run.specs.declared.monitor.Stop.{Stop}
use Rattle.monitor_run.specs.declared.monitor.Stop.TheVariants as stop
use Rattle.monitor_run.specs.inner.Next.{Comes, IsIdle, NothingBefore}
use Rattle.monitor_run.specs.inner.State.{State, kept_state, plan_of}
use Rattle.monitor_run.specs.inner.Steps.{AreAsSet}

-- An instant has run, the first that comes below the bound. Its events are taken away, and no other; one more has run, and no more than
-- may. What is kept has become what an instant of the register machine makes of it.
pub record HasRunAny (old new : State) : Type 0 where
  pub time : ℕ
  pub early : time < old.bound
  pub comes : Comes old.next old.given old.timers time
  pub first : NothingBefore old.next old.given old.timers time
  pub as_set : AreAsSet old new
  pub next_is : new.next ≡ suc time
  pub given_is : new.given ≡ filter (λ l. not (l.time == time)) old.given
  pub ran_is : new.ran ≡ old.ran + 1
  pub within : new.ran ≤ new.limit
  pub instant : Instant old.system (plan_of old) (inputs_of old.given) time (kept_state old) (kept_state new)

-- the equation that a fault names is one that runs
abbrev pub NamesRunning : System → Stop → Type 0
NamesRunning s (stop.Fault t i kind) = IsTrue (runs s i)
NamesRunning s _ = Unit {0}

-- what a step answers of any monitor that has not stopped; where it is idle, no open event stands below the bound
abbrev pub HasSteppedAny : State → State → List ℕ → List ℕ → Result Step Stop → Type 0
HasSteppedAny old new before after (Ok step.Ran) = HasRunAny old new
HasSteppedAny old new before after (Ok step.Idle) = (new ≡ old) × (after ≡ before) × IsIdle new
HasSteppedAny old new before after (Err why) = (new.stop ≡ Some why) × NamesRunning old.system why
