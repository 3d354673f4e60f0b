-- What an engine has counted where it is idle, or stops.
use Rattle.std.proofs.Common.{◌≡◌, ◌∙◌, ℕ, zero, suc, ◌≤◌, Bool, true, false, ◌&&◌, List, ◌++◌, length, inl, inr, refl, sym, ap, subst, arith}
use Rattle.std.proofs.lemmas.Bool.{cases_lt}
use Rattle.std.specs.Prelude.{IsTrue}
use Rattle.lift_func.specs.declared.fault.FaultKind.{FaultKind}
use Rattle.flat_core.specs.inner.BoundLaws.{AreFrom, HappensAtInstants}
use Rattle.flat_core.specs.Case.{Streams}
use Rattle.flat_core.specs.Line.{Line, inputs_of}
use Rattle.flat_core.specs.Solution.{Solves}
use Rattle.flat_core.specs.Stream.{has_event}
use Rattle.flat_core.specs.System.{System, equation, runs}
use Rattle.flat_core.proofs.LaterLines.{leaves_earlier}
use Rattle.flat_core.proofs.Silence.{happens_at_instants}
use Rattle.flat_core.proofs.SmallerBound.{solves_less}
use Rattle.monitor_run.specs.declared.monitor.Stop.TheVariants as stop
use Rattle.register_machine.specs.Copied.{copied}
use Rattle.flat_core.specs.Updates.{is_update_at}
use Rattle.monitor_run.specs.inner.Next.{NoInstant}
use Rattle.monitor_run.specs.inner.Stands.{KeepsOf, Stands}
use Rattle.monitor_run.specs.inner.State as engine
use Rattle.monitor_run.specs.inner.Steps.{AreAsSet, HasFaulted, IsAtLimit, NoneIsLeft, stopped}
use Rattle.alias_rules.proofs.Ranks.{place}
use Rattle.monitor_run.proofs.GapLemmas.{copied_still, plan_ranked}
use Rattle.monitor_run.proofs.StepLemmas.{counted, ready_order}
use Rattle.monitor_run.proofs.LawLemmas.{no_instants}
use Rattle.trace_monitor.specs.inner.Kept.{events_of}
use Rattle.trace_monitor.specs.inner.Run.{HasCopiedTo, HasCountedTo, HasRanTo}
use Rattle.trace_monitor.proofs.Events.{events_alike, events_solve}

-- ---- no instant comes between two times
module _ (s : System) (lines : List Line) (z : Streams) (n : ℕ) where
  copies_still : (set : List ℕ) (bound : ℕ) → HappensAtInstants s lines bound z → (u : ℕ) → IsTrue (runs s u) → (t : ℕ) → n ≤ t → t ≤ bound → NoInstant s lines z n t → copied s set z u t ≡ copied s set z u n
  copies_still set bound happens u run zero le within none = let same : zero ≡ n = omega arith in ap (copied s set z u) same
  copies_still set bound happens u run (suc t) le within none = elim (cases_lt t n) [
    | inl end ↦ let same : suc t ≡ n = omega arith in ap (copied s set z u) same
    | inr more ↦ copied_still s set z u t (ap has_event (happens.silent t (omega arith) (none t more (omega arith)) u run)) ∙ copies_still set bound happens u run t more (omega arith) (λ w low lt. none w low (omega arith))
  ]

both_first : (a b : Bool) → IsTrue (a && b) → IsTrue a
both_first true b h = refl
both_first false b h = h

-- ---- what an engine keeps stays so up to a time before which no further instant comes
module _ (m : engine.State) (ready : engine.IsReady m) (lines : List Line) (stands : Stands m lines) where
  keeps : (z : Streams) → Solves m.system (inputs_of lines) m.bound z → KeepsOf m lines z
  keeps z zs = stands.keeps z (solves_less m.system (inputs_of lines) m.next m.bound z ready.within zs)

  happens : (z : Streams) → Solves m.system (inputs_of lines) m.bound z → HappensAtInstants m.system lines m.bound z
  happens z zs = happens_at_instants m.system lines z m.bound ready.whole.proper ready.whole.complete.typed (place m.order) (plan_ranked m.system m.order (ready_order m ready)) zs

  counts_still : (t : ℕ) → t ≤ m.bound → ((z : Streams) → Solves m.system (inputs_of lines) m.bound z → (m.next ≤ t) × NoInstant m.system lines z m.next t) → HasCountedTo m m.system lines m.bound t
  counts_still t within none = (
    record {
      within = within;
      ran = λ z zs. (keeps z zs).ran ∙ ap length (sym (no_instants m.system lines z m.next t (none z zs).0 (none z zs).1));
    },
    record {
      ledger = λ z zs u update.
          counted m ready lines stands m.bound ready.in_time ready.within z zs u update
          ∙ sym (copies_still m.system lines z m.next m.in_place m.bound (happens z zs) u (both_first (runs m.system u) (is_update_at (equation m.system u)) update) t (none z zs).0 within (none z zs).1);
    },
  )

  pub counts_idle : NoneIsLeft m lines → HasCountedTo m m.system lines m.bound m.bound
  counts_idle none = counts_still m.bound (omega arith) (λ z zs. (ready.within, none z zs))

  pub counts_limit : (new : engine.State) (count t : ℕ) → new ≡ stopped m (stop.Limit count t) → IsAtLimit m lines count t → HasCountedTo new m.system lines m.bound t
  counts_limit new count t same full =
      let early = full.early in
      let counts = counts_still t (omega arith) (λ z zs. let next = full.each z (solves_less m.system (inputs_of lines) (suc t) m.bound z (omega arith) zs) in (next.late, next.first)) in
      subst (λ (e : engine.State). HasCountedTo e m.system lines m.bound t) (sym same) (record { within = counts.0.within; ran = counts.0.ran }, record { ledger = counts.1.ledger })

pub copies_fault : (old new : engine.State) (lines : List Line) (t i : ℕ) (kind : FaultKind) → AreAsSet old new → HasFaulted old new lines t i kind → HasCopiedTo new old.system lines old.bound (suc t)
copies_fault old new lines t i kind as_set faulted = record {
  ledger = λ z zs u update.
      let early = faulted.early in
      faulted.ledger z (solves_less old.system (inputs_of lines) (suc t) old.bound z (omega arith) zs) u update
      ∙ ap (λ (set : List ℕ). copied old.system set z u (suc t)) (sym as_set.in_place);
}

-- ---- from the events that were given below a bound to all lines below a higher one
module _ (e : engine.State) (s : System) (ls more : List Line) (low high : ℕ) (le : low ≤ high) (from : AreFrom low more) (t : ℕ) where
  solved : (z : Streams) → Solves s (inputs_of (ls ++ more)) high z → Solves s (inputs_of (events_of ls)) low z
  solved z zs = events_solve s ls z low (((leaves_earlier s low ls more from).solves_same z).1 (solves_less s (inputs_of (ls ++ more)) low high z le zs))

  pub ran_stays : HasRanTo e s (events_of ls) low t → HasRanTo e s (ls ++ more) high t
  ran_stays h = record {
    within = let within = h.within in omega arith;
    ran = λ z zs. h.ran z (solved z zs) ∙ ap length ((events_alike s ls z low).instants_same t h.within ∙ ((leaves_earlier s low ls more from).happens z).instants_same t h.within);
  }

  pub copies_stay : HasCopiedTo e s (events_of ls) low t → HasCopiedTo e s (ls ++ more) high t
  copies_stay h = record { ledger = λ z zs. h.ledger z (solved z zs) }
