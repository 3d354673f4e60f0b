-- What a step makes of a monitor, whatever it stands for.
use Rattle.std.proofs.Common.{◌≡◌, ◌==◌, ℕ, suc, ◌+◌, ◌<◌, true, false, not, List, [], refl, sym, ap, subst, ◌∙◌, inl, inr, arith}
use Rattle.std.proofs.lemmas.Bool.{cases_Bool, eq-eqb, eqb-true, eqb-false, ne_eqb}
use Rattle.std.specs.Prelude.{if◌then◌else◌, IsTrue}
use Rattle.std.specs.List.{filter}
use Rattle.tsl_value.proofs.Lists.{filter_all, filter_none}
use Rattle.flat_core.specs.Line.{Line, inputs_of}
use Rattle.flat_core.specs.System.{System, runs}
use Rattle.flat_core.proofs.Uniqueness.{all_by}
use Rattle.register_machine.specs.Run.{Plan, Instant}
use Rattle.monitor_run.specs.declared.machine.Machine.{Machine}
use Rattle.monitor_run.specs.declared.run.Root.{Root}
use Rattle.monitor_run.specs.inner.AnyMonitor.{HasRunAny}
use Rattle.monitor_run.specs.inner.Given.{AreAt}
use Rattle.monitor_run.specs.inner.Instant.{HasFaultedAt, HasRunInstant, kept_of}
use Rattle.monitor_run.specs.inner.Next.{Comes, NothingBefore}
use Rattle.monitor_run.specs.inner.Shown.{state_of}
use Rattle.monitor_run.specs.inner.State.{State, IsReady, kept_state, plan_of}
use Rattle.monitor_run.specs.inner.Steps.{AreAsSet}
use Rattle.monitor_run.proofs.MonitorLemmas.{Shows}

-- the events of a time are taken away where all are of one
taken_away : (time t : ℕ) (given : List Line) → AreAt time given → (if time == t then [] else given) ≡ filter (λ l. not (l.time == t)) given
taken_away time t given at = elim (cases_Bool (time == t)) [
  | inl same ↦
      (λ k. if same k then [] else given)
      ∙ sym (filter_none (λ (l : Line). not (l.time == t)) given (all_by (λ (l : Line). l.time ≡ time) (λ (l : Line). not (l.time == t) ≡ false)
      (λ l here. ap not (eq-eqb l.time t (here ∙ eqb-true time t same))) given at))
  | inr other ↦
      (λ k. if other k then [] else given)
      ∙ sym (filter_all (λ (l : Line). not (l.time == t)) given (all_by (λ (l : Line). l.time ≡ time) (λ (l : Line). not (l.time == t) ≡ true)
      (λ l here. ap not (ne_eqb l.time t (λ is. eqb-false time t other (sym here ∙ is)))) given at))
]

pub run_any : (old : State) → IsReady old → (t : ℕ) → Comes old.next old.given old.timers t → NothingBefore old.next old.given old.timers t → t < old.bound
    → (time : ℕ) → AreAt time old.given → (new : State) (machine after : Machine) (before out : List ℕ) → Shows old machine → Shows new after → AreAsSet old new
    → new.next ≡ suc t → new.ran ≡ old.ran + 1 → old.ran < old.limit → new.given ≡ (if time == t then [] else old.given)
    → HasRunInstant old.system (plan_of old) t old.given machine after before out → HasRunAny old new
run_any old ready t comes none below time at new machine after before out shows shows_new set next_is ran_is room given_is ran = record {
  time = t;
  early = below;
  comes = comes;
  first = none;
  as_set = set;
  next_is = next_is;
  given_is = given_is ∙ taken_away time t old.given at;
  ran_is = ran_is;
  within = let limit = set.limit in omega arith;
  instant =
      subst (λ a. Instant old.system (plan_of old) (inputs_of old.given) t a (kept_state new)) (λ k. state_of (shows.cells k) (shows.ledger k) (shows.last k) (shows.timers k))
      (subst (Instant old.system (plan_of old) (inputs_of old.given) t (kept_of machine)) (λ k. state_of (shows_new.cells k) (shows_new.ledger k) (shows_new.last k) (shows_new.timers k))
      (ran.instant (inputs_of old.given) (λ i. refl)));
}

-- the equation that a fault names runs
pub named_runs : (s : System) (plan : Plan) (t : ℕ) (given : List Line) (machine after : Machine) (root : Root) (before out : List ℕ) → HasFaultedAt s plan t given machine after root before out → IsTrue (runs s root.equation)
named_runs s plan t given machine after root before out faulted = (faulted.means (inputs_of given) (λ i. refl)).least.0
