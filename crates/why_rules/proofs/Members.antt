-- What happens at the members of a slice in a solution without a fault there.
use Rattle.std.proofs.Common.{◌≡◌, ℕ, ◌<◌, Bool, true, false, List, Option, Some, None, Ok, refl, sym, ap, ◌∙◌}
use Rattle.std.specs.Prelude.{IsTrue, if◌then◌else◌}
use Rattle.std.specs.List.{Contains}
use Rattle.std.proofs.lemmas.Option.{none-some}
use Rattle.std.proofs.lemmas.Bool.{true≢false}
use Rattle.tsl_value.specs.View.{View}
use Rattle.lift_func.specs.Apply.{Answer}
use Rattle.flat_core.specs.declared.equation.Equation.{Equation}
use Rattle.flat_core.specs.Members.{is_in}
use Rattle.flat_core.specs.System.{System, runs}
use Rattle.flat_core.specs.Complete.{IsFlat}
use Rattle.flat_core.specs.Stream.{Outcome, Event, Fault, event, is_fault}
use Rattle.flat_core.specs.Events.{Inputs, outcome_of}
use Rattle.flat_core.specs.Case.{Streams, is_blocked, own, own_of}
use Rattle.flat_core.specs.Solution.{Solves}
use Rattle.flat_slice.specs.Slice.{IsSlice}
use Rattle.flat_slice.proofs.SliceLemmas.{member_runs, argument_member}
use Rattle.why_rules.specs.Rules.{IsMember}
use Rattle.why_rules.specs.Derivation.{IsSound}

no_outcome : (x : Option Outcome) → event x ≡ None → is_fault x ≡ false → x ≡ None
no_outcome None none sound = refl
no_outcome (Some (Event v)) none sound = absurd (none-some v (sym none))
no_outcome (Some Fault) none sound = absurd (true≢false sound)

event_here : (blocked : Bool) (a : Answer) (v : Option View) → a ≡ Ok v → is_fault (if blocked then Some Fault else outcome_of a) ≡ false → event (if blocked then Some Fault else outcome_of a) ≡ v
event_here true a v is sound = absurd (true≢false sound)
event_here false a None is sound = λ k. event (outcome_of (is k))
event_here false a (Some v) is sound = λ k. event (outcome_of (is k))

module _ (s : System) (whole : IsFlat s) (o : ℕ) (o_runs : IsTrue (runs s o)) (slice : List ℕ) (is : IsSlice s o slice) (p : Inputs) (bound : ℕ) (z : Streams) (solves : Solves s p bound z) (sound : IsSound slice z bound) where
  pub runs_member : (i : ℕ) → IsTrue (is_in slice i) → IsTrue (runs s i)
  runs_member = member_runs s whole.proper o o_runs slice is

  pub argument_in : (i : ℕ) (e : Equation) → IsMember s slice p i e → (a : ℕ) → Contains e.args a → IsTrue (is_in slice a)
  argument_in i e m a c = argument_member s whole.proper o o_runs slice is i a (record { at = e; is = m.is; argument = c }) m.among

  pub nothing : (i t : ℕ) → IsTrue (is_in slice i) → t < bound → event (z i t) ≡ None → z i t ≡ None
  nothing i t member lt none = no_outcome (z i t) none (sound.none i t member lt)

  -- a member's event is its own case
  pub own_event : (i t : ℕ) (e : Equation) → IsMember s slice p i e → t < bound → (v : Option View) → own_of p z i e.op e.args e.of t ≡ Ok v → event (z i t) ≡ v
  own_event i t e m lt v is_own =
      let happens = solves.each i e (runs_member i m.among) m.is t lt in
      ap event happens ∙ event_here (is_blocked z e t) (own p z i e t) v is_own (sym (ap is_fault happens) ∙ sound.none i t m.among lt)
