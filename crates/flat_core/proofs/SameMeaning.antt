-- Streams that agree at running equations mean the same.
use Rattle.std.proofs.Common.{◌≡◌, ◌==◌, ℕ, ◌<◌, ◌&&◌, ◌||◌, List, [], ◌∷◌, None, refl, sym, ap, ◌∙◌, arith}
use Rattle.std.specs.Prelude.{IsTrue, if◌then◌else◌, is_some}
use Rattle.std.specs.Option.{option_and_then}
use Rattle.std.specs.List.{AllByRecursion, list_any}
use Rattle.flat_core.specs.declared.equation.Op.{Op}
use Rattle.flat_core.specs.declared.equation.Op.TheVariants as op
use Rattle.flat_core.specs.declared.equation.Equation.{Equation}
use Rattle.flat_core.specs.Stream.{event, has_event}
use Rattle.flat_core.specs.Case.{Streams, used_of, amount_fault, root_of, root_fault}
use Rattle.flat_core.specs.Events.{Inputs, fault_of, refused}
use Rattle.flat_core.specs.Line.{Line, inputs_of}
use Rattle.flat_core.specs.System.{System, runs, equation, IsProper}
use Rattle.flat_core.specs.Fault.{root_at}
use Rattle.flat_core.specs.Instant.{is_delay, is_instant}
use Rattle.flat_core.specs.inner.BoundLaws.{HappensAlike, OutputsAgree}
use Rattle.flat_core.proofs.Alike.{any_same, alike_from}
use Rattle.flat_core.proofs.Locality.{AgreeBefore, own-same, blocked-same}
use Rattle.flat_core.proofs.Uniqueness.{all_by, used_all}

module _ (s : System) (bound : ℕ) (z w : Streams) (proper : IsProper s) (same : (i : ℕ) → IsTrue (runs s i) → (t : ℕ) → t < bound → z i t ≡ w i t) where
  module _ (inputs : Inputs) (t : ℕ) (lt : t < bound) where
    past : (a : ℕ) → IsTrue (runs s a) → AgreeBefore (z a) (w a) t
    past a run u low = same a run u (omega arith)

    amount_alike : (args : List ℕ) → AllByRecursion (λ a. z a t ≡ w a t) args → amount_fault z args t ≡ amount_fault w args t
    amount_alike (d ∷ r ∷ []) all = λ k. refused (event (all.0 k))
    amount_alike [] all = refl
    amount_alike (d ∷ []) all = refl
    amount_alike (d ∷ r ∷ x ∷ args) all = refl

    root_of_alike : (i : ℕ) (e : Equation) (o : Op) → AgreeBefore (z i) (w i) t → AllByRecursion (λ a. AgreeBefore (z a) (w a) t) e.args → AllByRecursion (λ a. z a t ≡ w a t) e.args → root_of inputs z i e o t ≡ root_of inputs w i e o t
    root_of_alike i e op.Delay self before now = amount_alike e.args now
    root_of_alike i e _ self before now =
        let used = used_all (λ a. z a t ≡ w a t) e.op e.args now in
        let blocked = blocked-same inputs z w i t (used_of e.op e.args) used in
        let own = own-same inputs z w i t e.op e.args e.of self before used in
        λ k. if blocked k then None else fault_of (own k)

    root_alike : (i : ℕ) → IsTrue (runs s i) → root_at s inputs z t i ≡ root_at s inputs w t i
    root_alike i run =
        let found = proper.runs_all i run in
        let e = found.0 in
        let before = all_by (λ a. IsTrue (runs s a)) (λ a. AgreeBefore (z a) (w a) t) past e.args found.2 in
        let now = all_by (λ a. IsTrue (runs s a)) (λ a. z a t ≡ w a t) (λ a r. same a r t lt) e.args found.2 in
        ap (option_and_then (λ f. root_fault inputs z i f t)) found.1 ∙ root_of_alike i e e.op (past i run) before now ∙ sym (ap (option_and_then (λ f. root_fault inputs w i f t)) found.1)

  instant_alike : (lines : List Line) (t : ℕ) → t < bound → is_instant s lines z t ≡ is_instant s lines w t
  instant_alike lines t lt =
      let delays = any_same (λ i. is_delay (equation s i) && has_event (z i t)) (λ i. is_delay (equation s i) && has_event (w i t)) s.running (λ i run. ap (λ o. is_delay (equation s i) && has_event o) (same i run t lt)) in
      λ k. (t == 0) || list_any (λ l. (l.time == t) && is_some l.event) lines || delays k

  pub happens_alike : (lines : List Line) → HappensAlike s bound lines z lines w
  happens_alike lines = alike_from s bound lines z lines w (λ t i lt run. root_alike (inputs_of lines) t lt i run) (instant_alike lines)

  pub outputs_agree : AllByRecursion (λ o. IsTrue (runs s o.equation)) s.outputs → OutputsAgree s bound z w
  outputs_agree run = all_by (λ o. IsTrue (runs s o.equation)) (λ o. (t : ℕ) → t < bound → event (z o.equation t) ≡ event (w o.equation t)) (λ o r t lt. ap event (same o.equation r t lt)) s.outputs run
