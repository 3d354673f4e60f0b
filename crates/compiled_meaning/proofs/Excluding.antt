-- That a run is quiet, ends in a fault and ends at the limit exclude each other, by the meaning of a specification.
use Rattle.std.proofs.Common.{◌≡◌, ℕ, ◌<◌, take, length, slice_get, arith, List, Some, subst}
use Rattle.std.specs.List.{Contains}
use Rattle.std.proofs.lemmas.Option.{slice_get_within}
use Rattle.flat_core.specs.Line.{Line}
use Rattle.flat_meaning.proofs.OneText.{same_instants}
use Rattle.syntax_tree.specs.Tree as tree
use Rattle.compiled_meaning.specs.Meant.{FaultTimeIsMeant, QuietIsMeant, LimitIsMeant}

module _ (items : List tree.Item) (lines : List Line) (bound limit : ℕ) where
  pub loud : (t : ℕ) → QuietIsMeant items lines bound limit → FaultTimeIsMeant items lines bound limit t → ⊥
  loud t quiet fault =
      let same = same_instants items lines bound fault.instants quiet.instants fault.are quiet.are in
      quiet.sound t (subst (λ (l : List ℕ). Contains (take limit l) t) same fault.within) fault.faulty

  pub long : (t : ℕ) → QuietIsMeant items lines bound limit → LimitIsMeant items lines bound limit t → ⊥
  long t quiet limited =
      let same = same_instants items lines bound limited.instants quiet.instants limited.are quiet.are in
      let there : slice_get quiet.instants limit ≡ Some t = subst (λ (l : List ℕ). slice_get l limit ≡ Some t) same limited.next in
      let lt : limit < length quiet.instants = slice_get_within quiet.instants limit t there in
      let few = quiet.few in
      absurd (omega arith)

  pub both : (t u : ℕ) → FaultTimeIsMeant items lines bound limit t → LimitIsMeant items lines bound limit u → ⊥
  both t u fault limited =
      let same = same_instants items lines bound fault.instants limited.instants fault.are limited.are in
      limited.sound t (subst (λ (l : List ℕ). Contains (take limit l) t) same fault.within) fault.faulty
