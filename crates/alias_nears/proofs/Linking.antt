-- How content goes, forth and back.
use Rattle.std.proofs.Common.{◌≡◌, ℕ, ◌<◌, List, [], ◌++◌, length, sym, subst, arith}
use Rattle.std.proofs.lemmas.List.Elements.{All-append}
use Rattle.flat_core.specs.declared.equation.Op.{Op}
use Rattle.flat_core.specs.System.{System}
use Rattle.translation_order.specs.Order.{AreOfSteps}
use Rattle.alias_rules.specs.Uses.{passed_of, last_of, written_of, Takes}
use Rattle.alias_paths.specs.declared.uses.Uses.{Uses}
use Rattle.alias_paths.specs.inner.Kept.{AreUses}
use Rattle.alias_paths.specs.inner.Pairs.{ArePairs, AreTurned}
use Rattle.alias_paths.proofs.Rooting.{turned_of_steps}
use Rattle.alias_paths.proofs.Using.{uses_of_steps}

-- pairs of one list after those of another
of_steps_joined : (n : ℕ) (first second all : List (ℕ × ℕ)) → all ≡ first ++ second → AreOfSteps n first → AreOfSteps n second → AreOfSteps n all
of_steps_joined n first second all is a b = subst (AreOfSteps n) (sym is) (All-append (λ p. (p.0 < n) × (p.1 < n)) first second a b)

no_steps : (n : ℕ) → AreOfSteps n []
no_steps n k d low = absurd (omega arith)

module _ (s : System) (uses : Uses) (are : AreUses s uses) where
  use_steps : (f : Op → List ℕ → List ℕ) (pairs seen : List (ℕ × ℕ)) → ArePairs (Takes s f) pairs → seen ≡ pairs → AreOfSteps (length s.equations) seen
  use_steps f pairs seen takes is = subst (AreOfSteps (length s.equations)) (sym is) (uses_of_steps s f pairs takes)

  pub links_of_steps : (none one two three four passed written lasts seen turned back : List (ℕ × ℕ)) → none ≡ [] → passed ≡ uses.passed → written ≡ uses.written → lasts ≡ uses.lasts → one ≡ none ++ passed → two ≡ one ++ written → three ≡ two ++ lasts → seen ≡ three → AreTurned seen turned → back ≡ turned → four ≡ three ++ back → AreOfSteps (length s.equations) four
  links_of_steps none one two three four passed written lasts seen turned back empty p w l one_is two_is three_is at are_turned at_back four_is =
      let n = length s.equations in
      let first = of_steps_joined n none passed one one_is (subst (AreOfSteps n) (sym empty) (no_steps n)) (use_steps passed_of uses.passed passed are.passed p) in
      let second = of_steps_joined n one written two two_is first (use_steps written_of uses.written written are.written w) in
      let third = of_steps_joined n two lasts three three_is second (use_steps last_of uses.lasts lasts are.lasts l) in
      let other = turned_of_steps n three turned (subst (λ list. AreTurned list turned) at are_turned) third in
      of_steps_joined n three back four four_is third (subst (AreOfSteps n) (sym at_back) other)
