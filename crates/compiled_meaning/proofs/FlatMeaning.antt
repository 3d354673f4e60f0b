-- How a run of a flat system stands, its specification says.
use Rattle.std.proofs.Common.{◌≡◌, ℕ, ◌<◌, Bool, true, false, List, take, Some, refl, sym, ◌∙◌, arith}
use Rattle.std.specs.Prelude.{not, IsTrue}
use Rattle.std.specs.List.{Contains}
use Rattle.std.proofs.lemmas.Bool.{true≢false}
use Rattle.lift_func.specs.declared.fault.FaultKind.{FaultKind}
use Rattle.flat_core.specs.inner.BoundLaws.{HappensAtInstants}
use Rattle.flat_core.specs.Case.{Streams}
use Rattle.flat_core.specs.Ending.{EndsInFault, EndsAtLimit, EndsAtBound}
use Rattle.flat_core.specs.Fault.{root_at, is_faulty}
use Rattle.flat_core.specs.Instant.{instants}
use Rattle.flat_core.specs.Line.{Line, inputs_of}
use Rattle.flat_core.specs.System.{System, runs, IsProper}
use Rattle.flat_core.proofs.Members.{all_at}
use Rattle.flat_meaning.specs.inner.Laws.{MeansTheSame}
use Rattle.flat_meaning.proofs.DueText.{are_instants, to_faulty, taken_low}
use Rattle.spec_meaning.specs.Due.{IsFaulty}
use Rattle.syntax_tree.specs.Tree as tree
use Rattle.compiled_meaning.specs.Meant.{FaultTimeIsMeant, QuietIsMeant, LimitIsMeant}
use Rattle.compiled_meaning.proofs.FirstInstants.{Listed, first_sound, first_few}

true_and_not : (b : Bool) → b ≡ true → not b ≡ true → ⊥
true_and_not true is other = true≢false (sym other)
true_and_not false is other = true≢false (sym is)

module _ (items : List tree.Item) (s : System) (lines : List Line) (bound : ℕ) (z : Streams) (same : MeansTheSame items s lines bound z) where
  -- a root fault of the system is one of the specification
  pub root_is_meant : IsProper s → (t i : ℕ) (kind : FaultKind) → t < bound → IsTrue (runs s i) → root_at s (inputs_of lines) z t i ≡ Some kind → IsFaulty items lines t
  root_is_meant proper t i kind low run is =
      let found = proper.runs_all i run in
      let root = (same.roots t found.0.place kind low).0 (record { number = i; of = found.0; running = run; is = found.1; place_is = refl; root = is }) in
      record { at = root.at; kind = kind; root = root.root }

  module _ (limit : ℕ) where
    -- instants without a root fault of the system have none of the specification
    sound_meant : ((t : ℕ) → Contains (take limit (instants s lines z bound)) t → is_faulty s (inputs_of lines) z t ≡ false)
        → (t : ℕ) → Contains (take limit (instants s lines z bound)) t → IsFaulty items lines t → ⊥
    sound_meant sound t among faulty =
        true≢false (sym (to_faulty items s lines bound z same t (taken_low items s lines bound z same limit t among) faulty) ∙ sound t among)

    listed : (happens : HappensAtInstants s lines bound z) (quiet : EndsAtBound s lines z bound limit) → Listed s lines z bound limit happens quiet
    listed happens quiet = record {
      below = taken_low items s lines bound z same limit;
    }

    pub quiet_is_meant : HappensAtInstants s lines bound z → EndsAtBound s lines z bound limit → QuietIsMeant items lines bound limit
    quiet_is_meant happens quiet = let list = listed happens quiet in record {
      instants = instants s lines z bound;
      are = are_instants items s lines bound z same;
      sound = sound_meant (first_sound s lines z bound limit happens quiet list);
      few = first_few s lines z bound limit happens quiet list;
    }

    pub limit_is_meant : (t : ℕ) → EndsAtLimit s lines z bound limit t → LimitIsMeant items lines bound limit t
    limit_is_meant t limited = record {
      instants = instants s lines z bound;
      are = are_instants items s lines bound z same;
      sound = sound_meant (λ u among. all_at (λ v. is_faulty s (inputs_of lines) z v ≡ false) (take limit (instants s lines z bound)) limited.sound u among);
      next = limited.next;
    }

    pub fault_time_is_meant : IsProper s → (t i : ℕ) (kind : FaultKind) → EndsInFault s lines z bound limit t i kind → FaultTimeIsMeant items lines bound limit t
    fault_time_is_meant proper t i kind fault =
        let low : t < bound = taken_low items s lines bound z same limit t fault.within in record {
          faulty = root_is_meant proper t i kind low fault.named.running fault.named.root;
          least = λ u lt faulty. true_and_not (is_faulty s (inputs_of lines) z u) (to_faulty items s lines bound z same u (less u lt low) faulty) (fault.named.first u lt);
          closed = low;
          instants = instants s lines z bound;
          are = are_instants items s lines bound z same;
          within = fault.within;
        }
      where
        less : (u : ℕ) → u < t → t < bound → u < bound
        less u lt low = omega arith
