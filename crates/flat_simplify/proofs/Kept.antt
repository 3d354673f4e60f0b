-- Simplification changes arguments of equations, and nothing else of them.
use Rattle.std.proofs.Common.{◌≡◌, ℕ, List, map, Some, None, sym, ap, ◌∙◌}
use Rattle.std.specs.Prelude.{slice_get}
use Rattle.std.proofs.lemmas.Option.{slice_get-map}
use Rattle.std.proofs.lemmas.Simd.{map-map}
use Rattle.flat_core.specs.declared.equation.Equation.{Equation}
use Rattle.flat_core.specs.Renumbered.{with_new_args}
use Rattle.flat_core.specs.System.{System}
use Rattle.flat_simplify.specs.Simplified.{IsSimplified}
use Rattle.flat_simplify.specs.inner.Laws.{without_args, KeepsEquations}

pub equations_kept : (s u : System) → IsSimplified s u → KeepsEquations s u
equations_kept s u made =
    let same : map without_args u.equations ≡ map without_args s.equations = ap (map without_args) made.renumbered.equations_are ∙ map-map without_args (with_new_args made.replaced) s.equations in
    record {
      all_same = same;
      each = λ i. sym (slice_get-map without_args u.equations i) ∙ ap (λ es. slice_get es i) same ∙ slice_get-map without_args s.equations i;
    }
