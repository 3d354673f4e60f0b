-- Lines from a bound on leave what happens below it.
use Rattle.std.proofs.Common.{◌≡◌, ◌==◌, ℕ, ◌<◌, ◌≤◌, false, ◌&&◌, ◌||◌, List, [], ◌∷◌, ◌++◌, Option, Some, None, Ok, refl, sym, ap, ◌∙◌, arith}
use Rattle.std.specs.Prelude.{if◌then◌else◌, is_some}
use Rattle.std.specs.Option.{option_or, option_and_then}
use Rattle.std.specs.List.{list_any}
use Rattle.std.proofs.lemmas.Bool.{ne_eqb}
use Rattle.std.proofs.lemmas.List.Folds.{list_any-append}
use Rattle.std.proofs.Math.Bool.{or-false}
use Rattle.tsl_value.specs.View.{Plain}
use Rattle.tsl_value.specs.declared.scalar.Scalar.{Scalar}
use Rattle.tsl_value.specs.declared.scalar.ValueType.{ValueType}
use Rattle.flat_core.specs.declared.equation.Op.{Op}
use Rattle.flat_core.specs.declared.equation.Op.TheVariants as op
use Rattle.flat_core.specs.declared.equation.Equation.{Equation}
use Rattle.flat_core.specs.Stream.{Fault, has_event}
use Rattle.flat_core.specs.Case.{Streams, own_of, is_blocked, case_of, root_of, root_fault}
use Rattle.flat_core.specs.Events.{Inputs, outcome_of, fault_of}
use Rattle.flat_core.specs.Line.{Line, event_in, inputs_of}
use Rattle.flat_core.specs.System.{System, equation}
use Rattle.flat_core.specs.Fault.{root_at}
use Rattle.flat_core.specs.Instant.{is_delay, is_instant}
use Rattle.flat_core.specs.inner.BoundLaws.{AreFrom, LeavesEarlier}
use Rattle.flat_core.proofs.Alike.{alike_from}

-- the case of an equation sees the event of its own input at its time, and no other
module _ (inputs given : Inputs) (z : Streams) (i t : ℕ) (same : inputs i t ≡ given i t) where
  own_given : (o : Op) (args : List ℕ) (of : ValueType) → own_of inputs z i o args of t ≡ own_of given z i o args of t
  own_given op.Input args of = ap Ok same
  own_given _ args of = refl

  pub case_of_given : (e : Equation) → case_of inputs z i e t ≡ case_of given z i e t
  case_of_given e = let own = own_given e.op e.args e.of in λ k. if is_blocked z e t then Some Fault else outcome_of (own k)

  root_of_given : (e : Equation) (o : Op) → root_of inputs z i e o t ≡ root_of given z i e o t
  root_of_given e op.Delay = refl
  root_of_given e _ = let own = own_given e.op e.args e.of in λ k. if is_blocked z e t then None else fault_of (own k)

  found_given : (found : Option Equation) → option_and_then (λ e. root_fault inputs z i e t) found ≡ option_and_then (λ e. root_fault given z i e t) found
  found_given None = refl
  found_given (Some e) = root_of_given e e.op

  pub root_at_given : (s : System) → root_at s inputs z t i ≡ root_at s given z t i
  root_at_given s = found_given (equation s i)

module _ (bound t : ℕ) (lt : t < bound) where
  no_event : (i time : ℕ) (e : Option (ℕ × Scalar)) → bound ≤ time → event_in i t time e ≡ None
  no_event i time None le = refl
  no_event i time (Some e) le = λ k. if ne_eqb time t (λ is. absurd (omega arith)) k && (e.0 == i) then Some (Plain e.1) else None

  pub later_input : (i : ℕ) (more : List Line) → AreFrom bound more → inputs_of more i t ≡ None
  later_input i [] all = refl
  later_input i (l ∷ more) all = let rest = later_input i more all.1 in λ k. option_or (no_event i l.time l.event all.0 k) (rest k)

  pub inputs_kept : (i : ℕ) (ls more : List Line) → AreFrom bound more → inputs_of ls i t ≡ inputs_of (ls ++ more) i t
  inputs_kept i [] more all = sym (later_input i more all)
  inputs_kept i (l ∷ ls) more all = ap (option_or (event_in i t l.time l.event)) (inputs_kept i ls more all)

  later_line : (more : List Line) → AreFrom bound more → list_any (λ l. (l.time == t) && is_some l.event) more ≡ false
  later_line [] all = refl
  later_line (l ∷ more) all = let rest = later_line more all.1 in λ k. (ne_eqb l.time t (λ is. let from = all.0 in absurd (omega arith)) k && is_some l.event) || rest k

  pub instant_kept : (s : System) (ls more : List Line) (z : Streams) → AreFrom bound more → is_instant s ls z t ≡ is_instant s (ls ++ more) z t
  instant_kept s ls more z all =
      let here = list_any-append (λ l. (l.time == t) && is_some l.event) ls more ∙ ap (λ b. list_any (λ l. (l.time == t) && is_some l.event) ls || b) (later_line more all) ∙ or-false _ in
      λ k. (t == 0) || sym here k || list_any (λ i. is_delay (equation s i) && has_event (z i t)) s.running

pub leaves_earlier : (s : System) (bound : ℕ) (ls more : List Line) → AreFrom bound more → LeavesEarlier s bound ls more
leaves_earlier s bound ls more all = record {
  inputs_same = λ i t lt. inputs_kept bound t lt i ls more all;
  solves_same = λ z. (
    (λ was. record { each = λ i e run is t lt. was.each i e run is t lt ∙ case_of_given (inputs_of ls) (inputs_of (ls ++ more)) z i t (inputs_kept bound t lt i ls more all) e }),
    (λ was. record { each = λ i e run is t lt. was.each i e run is t lt ∙ sym (case_of_given (inputs_of ls) (inputs_of (ls ++ more)) z i t (inputs_kept bound t lt i ls more all) e) }),
  );
  happens = λ z. alike_from s bound ls z (ls ++ more) z (λ t i lt run. root_at_given (inputs_of ls) (inputs_of (ls ++ more)) z i t (inputs_kept bound t lt i ls more all) s) (λ t lt. instant_kept bound t lt s ls more z all);
}
