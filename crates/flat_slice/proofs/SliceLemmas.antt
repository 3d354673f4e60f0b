-- A slice is a system of its own, with one solution for the events of its inputs.
use Rattle.std.proofs.Common.{◌≡◌, ℕ, zero, suc, ◌<◌, ◌≤◌, List, [], ◌∷◌, Some, Ok, refl, sym, ap, subst, ◌∙◌, arith}
use Rattle.std.specs.Prelude.{IsTrue, if◌then◌else◌}
use Rattle.std.specs.List.{AllByRecursion, Contains}
use Rattle.std.proofs.lemmas.Option.{same_Some}
use Rattle.tsl_value.specs.declared.scalar.ValueType.{ValueType}
use Rattle.flat_core.specs.declared.equation.Op.{Op}
use Rattle.flat_core.specs.declared.equation.Op.TheVariants as op
use Rattle.flat_core.specs.declared.equation.Equation.{Equation}
use Rattle.translation_order.proofs.PathLemmas.{walk_on, walk_keeps}
use Rattle.flat_core.specs.Members.{is_in}
use Rattle.flat_core.specs.System.{System, runs, IsProper}
use Rattle.flat_core.specs.Needed.{HasArgument}
use Rattle.flat_core.specs.WellFormed.{IsRanked, IsWellFormed}
use Rattle.flat_core.specs.Stream.{Fault}
use Rattle.flat_core.specs.Events.{Inputs, outcome_of}
use Rattle.flat_core.specs.Case.{Streams, is_blocked, own_of, case_of}
use Rattle.flat_core.specs.Solution.{Solves}
use Rattle.flat_core.proofs.Uniqueness.{agree_before}
use Rattle.flat_core.proofs.WellFormedRank.{rank_of, well_formed_ranked}
use Rattle.flat_core.proofs.Members.{all_from, all_at}
use Rattle.flat_slice.specs.Slice.{IsSlice, AgreeUpTo, Decides}

-- what happens at an equation that is no input asks no input
own_of-inputs : (p q : Inputs) (z : Streams) (i t : ℕ) (o : Op) (args : List ℕ) (of : ValueType) → (o ≡ op.Input → p i t ≡ q i t) → own_of p z i o args of t ≡ own_of q z i o args of t
own_of-inputs p q z i t op.Input args of same = ap Ok (same refl)
own_of-inputs p q z i t o args of same = refl

pub case_of-inputs : (p q : Inputs) (z : Streams) (i t : ℕ) (e : Equation) → (e.op ≡ op.Input → p i t ≡ q i t) → case_of p z i e t ≡ case_of q z i e t
case_of-inputs p q z i t e same = ap (λ a. if is_blocked z e t then Some Fault else outcome_of a) (own_of-inputs p q z i t e.op e.args e.of same)

one_of_one : (o i : ℕ) → Contains (o ∷ []) i → o ≡ i
one_of_one o i (zero, lt, is) = is
one_of_one o i (suc k, lt, is) = absurd (omega arith)

-- inputs that agree up to t are equal below the time after it
below_next : (u t : ℕ) → u < suc t → u ≤ t
below_next u t lt = omega arith

module _ (s : System) (proper : IsProper s) (o : ℕ) (o_runs : IsTrue (runs s o)) (slice : List ℕ) (is : IsSlice s o slice) where
  argument_runs : (i j : ℕ) → HasArgument s.equations i j → IsTrue (runs s i) → IsTrue (runs s j)
  argument_runs i j h run =
      let found = proper.runs_all i run in
      all_at (λ a. IsTrue (runs s a)) h.at.args (subst (λ e. AllByRecursion (λ a. IsTrue (runs s a)) e.args) (same_Some found.0 h.at (sym found.1 ∙ h.is)) found.2) j h.argument

  pub member_runs : (i : ℕ) → IsTrue (is_in slice i) → IsTrue (runs s i)
  member_runs i member =
      let reached = (is i).0 member in
      walk_keeps (λ n. IsTrue (runs s n)) argument_runs reached.walk (subst (λ n. IsTrue (runs s n)) (one_of_one o reached.start reached.among) o_runs)

  pub argument_member : (i j : ℕ) → HasArgument s.equations i j → IsTrue (is_in slice i) → IsTrue (is_in slice j)
  argument_member i j h member =
      let reached = (is i).0 member in
      (is j).1 (record { start = reached.start; among = reached.among; walk = walk_on reached.walk h })

  abbrev sliced : System
  sliced = record s { running = slice }

  sliced_proper : IsProper sliced
  sliced_proper = record {
    runs_all = λ i member.
        let found = proper.runs_all i (member_runs i member) in
        (found.0, found.1, all_from (λ a. IsTrue (is_in slice a)) found.0.args (λ a argument. argument_member i a (record { at = found.0; is = found.1; argument = argument }) member));
  }

  module _ (formed : IsWellFormed s) where
    abbrev rank : ℕ → ℕ
    rank = rank_of s formed

    sliced_ranked : IsRanked sliced rank
    sliced_ranked = record { falls = λ i e member at. (well_formed_ranked s formed).falls i e (member_runs i member) at }

    -- the slice has the solution of the whole, also for other inputs that agree with these
    solved : (p q : Inputs) (bound t : ℕ) (z : Streams) → Solves s q bound z → t < bound → AgreeUpTo s slice t p q → Solves sliced p (suc t) z
    solved p q bound t z whole lt agree = record {
      each = λ i e member at u low.
          whole.each i e (member_runs i member) at u (omega arith) ∙ sym (case_of-inputs p q z i u e (λ input. agree.same i e member at input u (below_next u t low)));
    }

    pub decides : Decides s slice
    decides = record {
      same = λ p q bound other_bound z w zs ws t lt other_lt agree i member.
          let own = solved p p bound t z zs lt (record { same = λ a e in_slice at input u low. refl }) in
          let other = solved p q other_bound t w ws other_lt agree in
          agree_before sliced p rank sliced_proper sliced_ranked (suc t) z w own other (suc t) (omega arith) i member t (omega arith);
    }
