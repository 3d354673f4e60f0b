-- What is given of a system, a plan and a solution gives what the proofs along a run ask for.
use Rattle.std.proofs.Common.{◌≡◌, ℕ, ◌<◌, true, false, List, [], ◌∷◌, refl, sym, ap, subst, ◌∙◌, inr, IsTrue, map}
use Rattle.std.proofs.Math.Bool.{true≢false}
use Rattle.tsl_value.proofs.Aggregates.{elements_of}
use Rattle.tsl_value.specs.View.{View, is_of}
use Rattle.tsl_value.specs.declared.scalar.ValueType.{ValueType}
use Rattle.tsl_value.specs.declared.scalar.ValueType.TheVariants as value_type
use Rattle.flat_core.specs.declared.equation.Equation.{Equation}
use Rattle.flat_core.specs.inner.BoundLaws.{HappensAtInstants}
use Rattle.flat_core.specs.Case.{Streams}
use Rattle.flat_core.specs.Events.{Inputs}
use Rattle.flat_core.specs.Fault.{is_faulty}
use Rattle.flat_core.specs.Line.{Line, inputs_of}
use Rattle.flat_core.specs.System.{System, runs}
use Rattle.tsl_value.specs.Aggregate.{is_aggregate, has_elements}
use Rattle.flat_core.specs.inner.TypedEvents.{AreTypedInputs, HasTypedEvents}
use Rattle.flat_core.specs.TypedSystem.{AreOfTypes}
use Rattle.flat_core.specs.WellFormed.{IsRanked}
use Rattle.flat_core.proofs.Members.{all_at}
use Rattle.flat_core.proofs.Silence.{happens_at_instants}
use Rattle.flat_core.proofs.TypedEvents.{inputs_typed, events_typed}
use Rattle.trigger_rules.specs.inner.Firing.{at_time, IsUpToFault}
use Rattle.trigger_rules.proofs.Times.{exact, implied, all_are_clear}
use Rattle.alias_rules.specs.Conflict.{StandsBefore, needed}
use Rattle.flat_core.specs.Updates.{is_update}
use Rattle.alias_rules.proofs.Ranks.{order_ranked, place}
use Rattle.alias_rules.proofs.Updates.{has_update}
use Rattle.register_machine.specs.Run.{Plan}
use Rattle.register_machine.specs.Stands.{IsGiven}
use Rattle.register_machine.proofs.Running.{Running, Prints}
use Rattle.tsl_value.proofs.Lists.{contains_at}
use Rattle.register_machine.proofs.Orders.{followed}
use Rattle.register_machine.proofs.Reach.{TriggerLaw}
use Rattle.register_machine.proofs.Setting.{Fit}
use Rattle.register_machine.proofs.Effects.{some_equation}
use Rattle.register_machine.proofs.Fitting.{type_at, type_of, fit_from}
use Rattle.register_machine.proofs.Taken.{event_no_fault}
use Rattle.register_machine.proofs.Safety.{Course}

types_are : (s : System) (args : List ℕ) (types : List ValueType) → AreOfTypes s.equations args types → map (type_at s) args ≡ types
types_are s [] [] of = refl
types_are s [] (t ∷ types) of = absurd of
types_are s (a ∷ args) [] of = absurd of
types_are s (a ∷ args) (t ∷ types) of =
    let here : type_at s a ≡ t = ap type_of (of.0).is ∙ (of.0).of_is in
    let rest = types_are s args types of.1 in
    λ k. here k ∷ rest k

module _ (s : System) (plan : Plan) (lines : List Line) (bound : ℕ) (z : Streams) (given : IsGiven s plan lines bound z) where
  abbrev inputs : Inputs
  inputs = inputs_of lines

  abbrev rank : ℕ → ℕ
  rank = place plan.order

  ranked : IsRanked s rank
  ranked = order_ranked s (StandsBefore s plan.in_place) (λ a b must. needed must) plan.order given.fine.ordered

  inputs_are_typed : AreTypedInputs s inputs
  inputs_are_typed = inputs_typed s lines given.typed_lines

  events_are_typed : HasTypedEvents s bound z
  events_are_typed = events_typed s inputs bound z given.flat.proper given.flat.complete.typed rank ranked inputs_are_typed given.solves

  up_to : (t : ℕ) → t < bound → ((w : ℕ) → w < t → is_faulty s inputs z w ≡ false) → IsUpToFault s inputs bound z t
  up_to t lt sound = record {
    proper = given.flat.proper;
    typed = given.flat.complete.typed;
    rank = rank;
    ranked = ranked;
    solves = given.solves;
    typed_inputs = inputs_are_typed;
    below = lt;
    sound = sound;
  }

  law_at : (t : ℕ) → t < bound → ((w : ℕ) → w < t → is_faulty s inputs z w ≡ false) → TriggerLaw s z t
  law_at t lt sound =
      let up = up_to t lt sound in
      record {
        implied = λ i j run_i run_j implies fires_i sound_j. implied s inputs bound z t (up_to t lt sound) i j run_i run_j implies sound_j fires_i;
        meet = λ i j run_i run_j fires_i fires_j. inr (record {
          holds = at_time z t;
          first = (exact s inputs bound z t (up_to t lt sound) i run_i (event_no_fault (z i t) fires_i)).1 fires_i;
          second = (exact s inputs bound z t (up_to t lt sound) j run_j (event_no_fault (z j t) fires_j)).1 fires_j;
        });
      }

  fits : (i : ℕ) (e : Equation) → Running s i e → Fit s e.op e.args e.of
  fits i e running =
      let typed = given.flat.complete.typed.each i e running.is in
      fit_from s e.op typed.types e.of typed.typed e.args (types_are s e.args typed.types typed.arguments)

  printed_runs : (x n : ℕ) → Prints s x n → IsTrue (runs s x)
  printed_runs x n p =
      subst (λ i. IsTrue (runs s i)) (sym p.printed.of)
      (all_at (λ o. IsTrue (runs s o.equation)) s.outputs given.flat.outputs_run p.printed.output (contains_at s.outputs p.number p.printed.output p.printed.is))

  pub course_of : Course s plan inputs z bound
  course_of = record {
    proper = given.flat.proper;
    fitting = fits;
    fine = given.fine.fine;
    agrees = followed s (StandsBefore s plan.in_place) plan.order given.fine.ordered;
    solves = given.solves;
    small = given.small;
    typed = λ t lt i e running v is. elements_of e.of v (events_are_typed.each i e running.runs_too running.is t lt v is);
    law = law_at;
    no_fault = λ t lt sound none x run. all_are_clear s inputs bound z t (up_to t lt sound) none x run;
    printed_run = printed_runs;
  }

  pub updates_of : (y : ℕ) (e : Equation) → Running s y e → IsTrue (Rattle.flat_core.specs.Members.is_in plan.in_place y) → IsTrue (is_update e.op)
  updates_of y e running listed =
      let u = has_update s y (given.fine.updates y listed) in
      subst (λ d. IsTrue (is_update d.op)) (some_equation (sym u.is ∙ running.is)) u.updates

  pub silence_of : HappensAtInstants s lines bound z
  silence_of = happens_at_instants s lines z bound given.flat.proper given.flat.complete.typed rank ranked given.solves
