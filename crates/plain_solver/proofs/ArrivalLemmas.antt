-- Where an instant is due by what happened before, it comes.
use Rattle.std.proofs.Common.{◌≡◌, ◌==◌, ℕ, Bool, true, false, ◌&&◌, ◌||◌, List, [], ◌∷◌, Option, Some, None, refl, sym, ap, subst, ◌∙◌, inl, inr}
use Rattle.std.proofs.Math.Bool.{true≢false, or-true}
use Rattle.std.specs.Prelude.{if◌then◌else◌, is_some, IsTrue}
use Rattle.std.specs.List.{AllByRecursion, list_any}
use Rattle.flat_core.specs.declared.equation.Op.{Op}
use Rattle.flat_core.specs.declared.equation.Op.TheVariants as op
use Rattle.flat_core.specs.declared.equation.Equation.{Equation}
use Rattle.flat_core.specs.Stream.{Event, has_event}
use Rattle.flat_core.specs.Case.{Streams, case_of, delayed}
use Rattle.flat_core.specs.Events.{unit, expires}
use Rattle.flat_core.specs.Complete.{IsFlat}
use Rattle.flat_core.specs.Instant.{is_delay_op, is_delay, is_instant, is_due, expires_at}
use Rattle.flat_core.specs.Line.{Line, inputs_of}
use Rattle.flat_core.specs.System.{System, runs, equation}
use Rattle.flat_core.proofs.Locality.{AgreeBefore, expires-same}
use Rattle.flat_core.specs.inner.Arity.{HasArity}
use Rattle.flat_core.proofs.Shapes.{shape_of}
use Rattle.flat_core.proofs.DueLemmas.{delay_event}
use Rattle.flat_core.proofs.Members.{some_from, some_in}
use Rattle.std.proofs.lemmas.Bool.{or_cases}

module _ (s : System) (lines : List Line) (whole : IsFlat s) (z w : Streams) (t : ℕ)
    (past : (i : ℕ) (e : Equation) → IsTrue (runs s i) → equation s i ≡ Some e → AgreeBefore (z i) (w i) t × AllByRecursion (λ a. AgreeBefore (z a) (w a) t) e.args)
    (here : (i : ℕ) (e : Equation) → IsTrue (runs s i) → equation s i ≡ Some e → w i t ≡ case_of (inputs_of lines) w i e t) where
  expiry_event : (i : ℕ) (e : Equation) (o : Op) (args : List ℕ) → IsTrue (runs s i) → equation s i ≡ Some e → e.op ≡ o → e.args ≡ args → HasArity o args → (is_delay_op o && is_some (delayed z i args t)) ≡ true → (is_delay_op o && has_event (w i t)) ≡ true
  expiry_event i e op.Delay (d ∷ r ∷ []) running is op_is args_are shape due =
      let before = past i e running is in
      let args = subst (AllByRecursion (λ a. AgreeBefore (z a) (w a) t)) args_are before.1 in
      let expiry = expires-same (z d) (w d) (z r) (w r) (z i) (w i) t args.0 args.1.0 before.0 in
      ap has_event (here i e running is ∙ delay_event (inputs_of lines) w i t e op_is d r args_are)
      ∙ (λ k. has_event (if sym expiry k then Some (Event unit) else None))
      ∙ both (expires (z d) (z r) (z i) t) ∙ due
    where
      both : (x : Bool) → has_event (if x then Some (Event unit) else None) ≡ is_some (if x then Some unit else None)
      both true = refl
      both false = refl
  expiry_event i e op.Delay _ running is op_is args_are shape due = absurd shape
  expiry_event i e _ args running is op_is args_are shape due = absurd (true≢false (sym due))

  expiry_found : (i : ℕ) → IsTrue (runs s i) → (found : Option Equation) → equation s i ≡ found → expires_at found z i t ≡ true → (is_delay found && has_event (w i t)) ≡ true
  expiry_found i running None is due = absurd (true≢false (sym due))
  expiry_found i running (Some e) is due = expiry_event i e e.op e.args running is refl refl (shape_of s whole i e is) due

  pub comes : is_due s lines z t ≡ true → is_instant s lines w t ≡ true
  comes due =
      let first = (t == 0) || list_any (λ l. (l.time == t) && is_some l.event) lines in
      elim (or_cases first (list_any (λ i. expires_at (equation s i) z i t) s.running) due) [
        | inl early ↦ λ k. early k || list_any (λ i. is_delay (equation s i) && has_event (w i t)) s.running
        | inr expiry ↦
            let found = some_in (λ i. expires_at (equation s i) z i t) s.running expiry in
            let one = some_from (λ i. is_delay (equation s i) && has_event (w i t)) s.running found.0 found.1 (expiry_found found.0 found.1 (equation s found.0) refl found.2) in
            (λ k. first || one k) ∙ or-true first
      ]
