-- Where no fault and no limit ends a run at a bound, there is no root fault below it, and what happens there is due.
use Rattle.std.proofs.Common.{◌≡◌, ℕ, suc, ◌<◌, true, false, not, List, take, Contains, None, inl, inr, sym, ap, subst, arith}
use Rattle.std.specs.Prelude.{IsTrue}
use Rattle.std.proofs.lemmas.Bool.{cases_Bool}
use Rattle.std.proofs.lemmas.List.{take_all}
use Rattle.flat_core.specs.inner.BoundLaws.{HappensAtInstants}
use Rattle.flat_core.specs.Case.{Streams}
use Rattle.flat_core.specs.Complete.{IsFlat}
use Rattle.flat_core.specs.Ending.{EndsAtBound}
use Rattle.flat_core.specs.Fault.{is_faulty, is_over}
use Rattle.flat_core.specs.Instant.{instants, is_instant}
use Rattle.flat_core.specs.Line.{Line, inputs_of}
use Rattle.flat_core.specs.Solution.{Solves}
use Rattle.flat_core.specs.System.{System, runs}
use Rattle.flat_core.specs.Text.{due_instants}
use Rattle.flat_core.specs.WellFormed.{IsWellFormed}
use Rattle.flat_core.proofs.Instants.{instants_below, instants_have}
use Rattle.flat_core.proofs.Members.{all_at}
use Rattle.flat_core.proofs.PendingLemmas.{none_before_from}
use Rattle.flat_core.proofs.Silence.{happens_at_instants}
use Rattle.flat_core.proofs.WellFormedRank.{rank_of, well_formed_ranked}
use Rattle.compiled_meaning.proofs.FirstInstants.{Listed, first_few, first_sound}
use Rattle.tsl_value.proofs.Lists.{all_take, kept_in}

module _ (s : System) (whole : IsFlat s) (formed : IsWellFormed s) (lines : List Line) (z : Streams) (bound limit : ℕ) (solves : Solves s (inputs_of lines) bound z) (quiet : EndsAtBound s lines z bound limit) where
  happens : HappensAtInstants s lines bound z
  happens = happens_at_instants s lines z bound whole.proper whole.complete.typed (rank_of s formed) (well_formed_ranked s formed) solves

  listed : Listed s lines z bound limit happens quiet
  listed = record {
    below = λ t at. all_at (λ u. u < bound) (take limit (instants s lines z bound)) (all_take (λ u. u < bound) limit (instants s lines z bound) (instants_below s lines z bound)) t at;
  }

  all_are_first : take limit (instants s lines z bound) ≡ instants s lines z bound
  all_are_first = take_all limit (instants s lines z bound) (first_few s lines z bound limit happens quiet listed)

  among_first : (t : ℕ) → t < bound → is_instant s lines z t ≡ true → Contains (take limit (instants s lines z bound)) t
  among_first t lt is = subst (λ (l : List ℕ). Contains l t) (sym all_are_first) (instants_have s lines z bound t lt is)

  pub sound_below : (t : ℕ) → t < bound → is_faulty s (inputs_of lines) z t ≡ false
  sound_below t lt = elim (cases_Bool (is_instant s lines z t)) [
    | inl is ↦ first_sound s lines z bound limit happens quiet listed t (among_first t lt is)
    | inr none ↦ happens.sound t lt none
  ]

  -- where something happens
  pub due_below : (i t : ℕ) → IsTrue (runs s i) → t < bound → (z i t ≡ None → ⊥) → Contains (due_instants s lines z bound limit) t
  due_below i t run lt some = elim (cases_Bool (is_instant s lines z t)) [
    | inl is ↦ kept_in (λ u. not (is_over s (inputs_of lines) z u)) (take limit (instants s lines z bound)) t (among_first t lt is)
        (ap not (none_before_from (is_faulty s (inputs_of lines) z) (suc t) (λ u low. sound_below u (omega arith))))
    | inr none ↦ absurd (some (happens.silent t lt none i run))
  ]
