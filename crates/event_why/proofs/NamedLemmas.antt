-- The facts that a step names.
use Rattle.std.proofs.Common.{◌≡◌, ℕ, ◌<◌, List, [], ◌∷◌, ◌++◌, Some, refl, sym, ◌∙◌, slice_get}
use Rattle.std.proofs.lemmas.Option.{same_Some}
use Rattle.why_rules.specs.Facts.{Fact}
use Rattle.event_why.specs.declared.fact.WhyStep.{WhyStep}
use Rattle.event_why.specs.Said.{said}
use Rattle.event_why.specs.Check.{AreNamed}
use Rattle.event_why.specs.Check as check

module _ (steps : List WhyStep) (k : ℕ) where
  -- numbers have the facts of one list
  pub named_once : (ns : List ℕ) (fs gs : List Fact) → AreNamed steps k ns fs → AreNamed steps k ns gs → fs ≡ gs
  named_once ns fs gs check.AreNamed.done check.AreNamed.done = refl
  named_once ns fs gs (check.AreNamed.next {n = n} {ns = rest} {fs = xs} a early is others) (check.AreNamed.next {fs = ys} b also_early at more) =
      λ j. said ((same_Some a b (sym is ∙ at) j).fact) ∷ named_once rest xs ys others more j

  -- one more number
  pub named_push : (ns : List ℕ) (fs : List Fact) (n : ℕ) (step : WhyStep) → n < k → slice_get steps n ≡ Some step → AreNamed steps k ns fs → AreNamed steps k (ns ++ n ∷ []) (fs ++ said step.fact ∷ [])
  named_push ns fs n step early is check.AreNamed.done = check.AreNamed.next step early is check.AreNamed.done
  named_push ns fs n step early is (check.AreNamed.next {ns = rest} {fs = gs} a first at others) = check.AreNamed.next a first at (named_push rest gs n step early is others)
