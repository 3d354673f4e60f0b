-- Two solutions of a system with an order to run it in agree.
use Rattle.std.proofs.Common.{◌≡◌, ℕ, ◌<◌, Bool, false, List, [], ◌∷◌, Some, sym, ap, ◌∙◌, inl, inr, arith}
use Rattle.std.proofs.lemmas.Bool.{false≢true}
use Rattle.std.proofs.lemmas.Option.{slice_get_within}
use Rattle.std.specs.Prelude.{IsTrue}
use Rattle.std.specs.List.{AllByRecursion}
use Rattle.flat_core.specs.declared.equation.Equation.{Equation}
use Rattle.flat_core.specs.Case.{Streams, used_of}
use Rattle.flat_core.specs.Events.{Inputs}
use Rattle.flat_core.specs.inner.Dependency.{with_one, with_all, IsOrdered, IsRunOrder}
use Rattle.flat_core.specs.System.{System, runs, equation, IsProper}
use Rattle.flat_core.specs.Solution.{Solves}
use Rattle.flat_core.proofs.Existence.{one_or_done}
use Rattle.flat_core.proofs.Locality.{AgreeBefore, case_of-same}
use Rattle.flat_core.proofs.Uniqueness.{agree_past, all_by, all_with, used_all}
use Rattle.flat_core.proofs.Shapes.{running_args}
use Rattle.plain_solver.proofs.OrderLemmas.{listed_done}

module _ (s : System) (inputs : Inputs) (order : List ℕ) (run_order : IsRunOrder s order) (proper : IsProper s) (bound : ℕ) (z w : Streams) (zs : Solves s inputs bound z) (ws : Solves s inputs bound w) where
  module _ (t : ℕ) (lt : t < bound) (past : (i : ℕ) → IsTrue (runs s i) → AgreeBefore (z i) (w i) t) where
    -- an equation of which the used arguments agree
    agree_one : (i : ℕ) (e : Equation) → IsTrue (runs s i) → equation s i ≡ Some e → AllByRecursion (λ a. z a t ≡ w a t) (used_of e.op e.args) → z i t ≡ w i t
    agree_one i e run is now =
        let before = all_by (λ a. IsTrue (runs s a)) (λ a. AgreeBefore (z a) (w a) t) (λ a runs_a. past a runs_a) e.args (running_args s proper i e run is) in
        zs.each i e run is t lt ∙ case_of-same inputs z w i t e (past i run) before now ∙ sym (ws.each i e run is t lt)

    -- along an order
    agree_along : (rest : List ℕ) (done : ℕ → Bool) → IsOrdered s done rest → ((i : ℕ) → IsTrue (done i) → IsTrue (runs s i) → z i t ≡ w i t) → (i : ℕ) → IsTrue (with_all rest done i) → IsTrue (runs s i) → z i t ≡ w i t
    agree_along [] done ordered known = known
    agree_along (x ∷ rest) done ordered known =
        agree_along rest (with_one x done) ordered.4 (λ i h run. elim (one_or_done x done i h) [
          | inl same ↦
              let e = ordered.0 in
              let is : equation s i ≡ Some e = ap (equation s) same ∙ ordered.1 in
              agree_one i e run is
              (all_with (λ a. IsTrue (done a)) (λ a. IsTrue (runs s a)) (λ a. z a t ≡ w a t) known (used_of e.op e.args) ordered.3 (used_all (λ a. IsTrue (runs s a)) e.op e.args (running_args s proper i e run is)))
          | inr before ↦ known i before run
        ])

    agree_at : (i : ℕ) → IsTrue (runs s i) → z i t ≡ w i t
    agree_at i run =
        let found = proper.runs_all i run in
        agree_along order (λ j. false) run_order.ordered (λ j h r. absurd (false≢true h)) i (listed_done order (λ j. false) i (run_order.all i (slice_get_within s.equations i found.0 found.1))) run

  pub agree : (i : ℕ) → IsTrue (runs s i) → (t : ℕ) → t < bound → z i t ≡ w i t
  agree i run t lt = agree_past s bound z w agree_at bound (omega arith) i run t lt
