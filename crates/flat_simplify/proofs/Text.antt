-- The instants up to the fault time stay, and so does the text that is due.
use Rattle.std.proofs.Common.{◌≡◌, ◌==◌, ℕ, zero, suc, ◌<◌, ◌≤◌, Bool, true, false, not, ◌&&◌, ◌||◌, List, [], ◌∷◌, ◌++◌, take, Some, cond, refl, sym, ap, ◌∙◌, inl, inr, arith}
use Rattle.std.specs.Prelude.{IsTrue, if◌then◌else◌}
use Rattle.std.specs.List.{AllByRecursion, list_any, filter, flat_map}
use Rattle.std.proofs.lemmas.Bool.{and_from, and_parts}
use Rattle.std.proofs.lemmas.List.Folds.{flat_map-map}
use Rattle.tsl_value.proofs.Lists.{all_take, filter_none, flat_map_same}
use Rattle.flat_core.specs.declared.equation.Equation.{Equation}
use Rattle.flat_core.specs.declared.equation.Output.{Output}
use Rattle.flat_core.specs.declared.equation.Op.TheVariants as op
use Rattle.flat_core.specs.Stream.{Fault, event, has_event, is_fault}
use Rattle.flat_core.specs.Case.{Streams, delayed, own_of, used_of}
use Rattle.flat_core.specs.Events.{Inputs, outcome_of}
use Rattle.flat_core.specs.Fault.{is_faulty, is_over}
use Rattle.flat_core.specs.Instant.{is_delay_op, is_delay, is_instant, instants}
use Rattle.flat_core.specs.Line.{Line, inputs_of, is_line_on}
use Rattle.flat_core.specs.System.{System, runs, equation}
use Rattle.flat_core.specs.Text.{event_line, text_at, due_instants, due_text}
use Rattle.flat_core.proofs.Members.{all_at, all_from, some_from, some_in, same_truth}
use Rattle.flat_core.proofs.PendingLemmas.{some_before_from, none_before_from}
use Rattle.flat_core.proofs.SmallerBound.{instants_first}
use Rattle.flat_core.proofs.Uniqueness.{all_by}
use Rattle.flat_simplify.specs.CanFault.{can_fault_op}
use Rattle.flat_simplify.specs.Replaced.{itself}
use Rattle.flat_core.specs.Renumbered.{new_number, with_new_equation}
use Rattle.flat_core.proofs.Instants.{instants_below}
use Rattle.flat_core.proofs.Answered.{value_is_no_fault, delay_op}
use Rattle.flat_simplify.specs.inner.Solved.{AreSolved, IsSoundBefore}
use Rattle.flat_simplify.specs.inner.Laws.{IsFit, KeepsText}
use Rattle.flat_simplify.proofs.Faults.{first_fault, sound_after, keeps_faults}
use Rattle.flat_simplify.proofs.Streams.{fit, new_equation_at, new_for, sound_kept, kept}

-- ---- lists

-- where a test holds in front and not after, those of the first that pass it are the first in front
filter_front : (p : ℕ → Bool) (n : ℕ) (xs ys : List ℕ) → AllByRecursion (λ x. p x ≡ true) xs → AllByRecursion (λ y. p y ≡ false) ys → filter p (take n (xs ++ ys)) ≡ take n xs
filter_front p zero xs ys all none = refl
filter_front p (suc n) [] ys all none = filter_none p (take (suc n) ys) (all_take (λ y. p y ≡ false) (suc n) ys none)
filter_front p (suc n) (x ∷ xs) ys all none = (λ k. cond (all.0 k) (x ∷ filter p (take n (xs ++ ys))) (filter p (take n (xs ++ ys)))) ∙ ap (λ l. x ∷ l) (filter_front p n xs ys all.1 none)

-- ---- instants

-- where no root fault comes before a time, and from it on it is over, the due instants are the first before it
due_front : (s : System) (lines : List Line) (z : Streams) (bound f limit : ℕ) → f ≤ bound → IsSoundBefore s (inputs_of lines) z f → ((t : ℕ) → f ≤ t → t < bound → is_over s (inputs_of lines) z t ≡ true) → due_instants s lines z bound limit ≡ take limit (instants s lines z f)
due_front s lines z bound f limit le sound over =
    let due : ℕ → Bool = λ t. not (is_over s (inputs_of lines) z t) in
    let parts = instants_first s lines z f bound le in
    let front = all_by (λ t. t < f) (λ t. due t ≡ true) (λ t lt. ap not (none_before_from (is_faulty s (inputs_of lines) z) (suc t) (λ m less. sound m (omega arith)))) (instants s lines z f) (instants_below s lines z f) in
    let beyond = all_by (λ t. (f ≤ t) × (t < bound)) (λ t. due t ≡ false) (λ t between. ap not (over t between.0 between.1)) parts.0 parts.2 in
    ap (λ ts. filter due (take limit ts)) parts.1 ∙ filter_front due limit (instants s lines z f) parts.0 front beyond

module _ (s u : System) (lines : List Line) (bound : ℕ) (z w : Streams) (both : AreSolved s u (inputs_of lines) bound z w) where
  abbrev inputs : Inputs
  inputs = inputs_of lines

  fitting : IsFit s u
  fitting = fit s u inputs bound z w both

  -- a delay is never Fault
  delay_clear : (i : ℕ) (e : Equation) → IsTrue (runs s i) → equation s i ≡ Some e → e.op ≡ op.Delay → (t : ℕ) → t < bound → is_fault (z i t) ≡ false
  delay_clear i e run is delays t lt =
      ap is_fault (both.solves.each i e run is t lt)
      ∙ (λ k. is_fault (if list_any (λ a. is_fault (z a t)) (used_of (delays k) e.args) then Some Fault else outcome_of (own_of inputs z i (delays k) e.args e.of t)))
      ∙ value_is_no_fault (delayed z i e.args t)

  -- the delays that ran run, with the outcomes that they had
  module _ (t : ℕ) (lt : t < bound) (sound : IsSoundBefore s inputs z t) where
    delay_same : (i : ℕ) (e : Equation) → IsTrue (runs s i) → IsTrue (runs u i) → equation s i ≡ Some e → e.op ≡ op.Delay → w i t ≡ z i t
    delay_same i e run remains is delays =
        kept s u inputs bound z w both t lt sound i i run (itself (λ a r. fitting.left i a remains r)) remains (delay_clear i e run is delays t lt)

    event_to : (i : ℕ) → IsTrue (runs s i) → (is_delay (equation s i) && has_event (z i t)) ≡ true → IsTrue (runs u i) × ((is_delay (equation u i) && has_event (w i t)) ≡ true)
    event_to i run h =
        let parts = and_parts (is_delay (equation s i)) (has_event (z i t)) h in
        let found = both.proper.runs_all i run in
        let e = found.0 in
        let delays = delay_op e.op (sym (ap is_delay found.1) ∙ parts.0) in
        let remains = fitting.faulting i (record { at = e; is = found.1; running = run; faults = ap can_fault_op delays }) in
        let same = delay_same i e run remains found.1 delays in
        (remains, and_from (is_delay (equation u i)) (has_event (w i t)) (ap is_delay (new_equation_at s u inputs bound z w both i e found.1) ∙ ap is_delay_op delays) (ap has_event same ∙ parts.1))

    event_from : (i : ℕ) → IsTrue (runs u i) → (is_delay (equation u i) && has_event (w i t)) ≡ true → IsTrue (runs s i) × ((is_delay (equation s i) && has_event (z i t)) ≡ true)
    event_from i remains h =
        let parts = and_parts (is_delay (equation u i)) (has_event (w i t)) h in
        let run = fitting.ran i remains in
        let found = both.proper.runs_all i run in
        let e = found.0 in
        let delays = delay_op e.op (sym (ap is_delay (new_equation_at s u inputs bound z w both i e found.1)) ∙ parts.0) in
        let same = delay_same i e run remains found.1 delays in
        (run, and_from (is_delay (equation s i)) (has_event (z i t)) (ap is_delay found.1 ∙ ap is_delay_op delays) (sym (ap has_event same) ∙ parts.1))

    delays_same : list_any (λ i. is_delay (equation u i) && has_event (w i t)) u.running ≡ list_any (λ i. is_delay (equation s i) && has_event (z i t)) s.running
    delays_same =
        let p = λ (i : ℕ). is_delay (equation s i) && has_event (z i t) in
        let q = λ (i : ℕ). is_delay (equation u i) && has_event (w i t) in
        same_truth (list_any q u.running) (list_any p s.running)
        (λ h. let found = some_in q u.running h in let it = event_from found.0 found.1 found.2 in some_from p s.running found.0 it.0 it.1)
        (λ h. let found = some_in p s.running h in let it = event_to found.0 found.1 found.2 in some_from q u.running found.0 it.0 it.1)

    pub instant_same : is_instant u lines w t ≡ is_instant s lines z t
    instant_same = let delays = delays_same in λ k. (t == 0) || is_line_on t lines || delays k

  pub instants_same : (t : ℕ) → t ≤ bound → IsSoundBefore s inputs z t → instants u lines w t ≡ instants s lines z t
  instants_same zero le sound = refl
  instants_same (suc t) le sound =
      let earlier : IsSoundBefore s inputs z t = λ m less. sound m (omega arith) in
      let before = instants_same t (omega arith) earlier in
      let here = instant_same t (omega arith) earlier in
      λ k. before k ++ (if here k then t ∷ [] else [])

  -- ---- the text of a time before the fault time
  text_same : (t : ℕ) → t < bound → IsSoundBefore s inputs z (suc t) → text_at u w t ≡ text_at s z t
  text_same t lt sound =
      let earlier : IsSoundBefore s inputs z t = λ m less. sound m (omega arith) in
      let replaced = both.simplified.replaced in
      let line = λ (o : Output). event_line t o.name (event (w o.equation t)) in
      let keeps = all_from (λ o. line (with_new_equation replaced o) ≡ event_line t o.name (event (z o.equation t))) s.outputs (λ o c.
      let run = all_at (λ p. IsTrue (runs s p.equation)) s.outputs both.outputs_run o c in
      let remains = fitting.outputs_stand o (new_number replaced o.equation) c (new_for s u inputs bound z w both o.equation run) in
      ap (λ x. event_line t o.name (event x)) (sound_kept s u inputs bound z w both t lt earlier (sound t (omega arith)) o.equation (run, remains))) in
      ap (flat_map line) both.simplified.renumbered.outputs_are ∙ flat_map-map line (with_new_equation replaced) s.outputs ∙ flat_map_same (λ o. line (with_new_equation replaced o)) (λ o. event_line t o.name (event (z o.equation t))) s.outputs keeps

  -- the time from which on it is over, or the bound
  record IsFront (f : ℕ) : Type 0 where
    early : f ≤ bound
    sound : IsSoundBefore s inputs z f
    over : (t : ℕ) → f ≤ t → t < bound → is_over s inputs z t ≡ true

  front : (f : ℕ) × IsFront f
  front = elim (first_fault s u inputs bound z w both bound) [
    | inl sound ↦ (bound, record { early = omega arith; sound = sound; over = λ t le lt. absurd (omega arith) })
    | inr found ↦ let less = found.1 in (found.0, record { early = omega arith; sound = found.2.1; over = λ t le lt. some_before_from (is_faulty s inputs z) (suc t) found.0 (omega arith) found.2.0 })
  ]

  due_same : (limit : ℕ) → due_text u lines w bound limit ≡ due_text s lines z bound limit
  due_same limit =
      let f = front.0 in
      let at = front.1 in
      let le = at.early in
      let over : (t : ℕ) → f ≤ t → t < bound → is_over u inputs w t ≡ true = λ t high lt. (keeps_faults s u inputs bound z w both).over_same t lt ∙ at.over t high lt in
      let before = due_front s lines z bound f limit le at.sound at.over in
      let after = due_front u lines w bound f limit le (sound_after s u inputs bound z w both f le at.sound) over in
      let times = all_take (λ t. t < f) limit (instants s lines z f) (instants_below s lines z f) in
      let texts = all_by (λ t. t < f) (λ t. text_at u w t ≡ text_at s z t) (λ t lt. text_same t (omega arith) (λ m less. at.sound m (omega arith))) (take limit (instants s lines z f)) times in
      ap (flat_map (text_at u w)) (after ∙ ap (take limit) (instants_same f le at.sound)) ∙ flat_map_same (text_at u w) (text_at s z) (take limit (instants s lines z f)) texts ∙ sym (ap (flat_map (text_at s z)) before)

  pub keeps_text : KeepsText s u lines bound z w
  keeps_text = record { instant_same = instant_same; instants_same = instants_same; due_same = due_same }
