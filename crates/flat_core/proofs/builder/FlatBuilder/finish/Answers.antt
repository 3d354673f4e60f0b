use Rattle.std.proofs.Common.{◌≡◌, ◌↔◌, ℕ, List, sym, ap, subst, ◌∙◌}
use Rattle.std.specs.Prelude.{IsTrue}
use Rattle.flat_core.specs.declared.equation.Equation.{Equation}
use Rattle.flat_core.specs.declared.equation.Output.{Output}
use Rattle.flat_core.specs.Members.{is_in}
use Rattle.flat_core.specs.Needed.{IsReached}
use Rattle.flat_core.specs.System.{System}
use Rattle.flat_core.specs.inner.Marks.{ArgumentsThere}
use Rattle.flat_core.specs.Complete.{IsComplete}
use Rattle.flat_core.proofs.Finished.{arguments_there, finished_flat, finished_needed}
use Rattle.flat_core.proofs.builder.FlatBuilder.finish.Goals as goal

pub needed-requires-clause-there : goal.needed-requires-clause-there
needed-requires-clause-there c =
    subst ArgumentsThere (sym (c.deref.ensures.value ∙ ap (λ (s : System). s.equations) c.self.view_is)) (arguments_there c.args.self c.requires.typed)

read : {equations equations' : List Equation} {outputs outputs' : List Output} → equations ≡ equations' → outputs ≡ outputs' → (running : List ℕ) (i : ℕ) → IsTrue (is_in running i) ↔ IsReached equations outputs i → IsTrue (is_in running i) ↔ IsReached equations' outputs' i
read {equations} {equations'} {outputs} {outputs'} e o running i exact =
    let P : List Equation → Type 0 = λ es. IsTrue (is_in running i) ↔ IsReached es outputs i in
    subst (λ os. IsTrue (is_in running i) ↔ IsReached equations' os i) o (subst P e exact)

pub invariant_of-result : goal.invariant_of-result
invariant_of-result c =
    let complete = subst IsComplete (sym c.self.view_is) c.requires in
    let running = c.in_ok-running.running in
    let exact : (i : ℕ) → IsTrue (is_in running i) ↔ IsReached c.self.inside.equations.items c.self.inside.outputs.items i = λ i. read c.deref.ensures.value c.deref-2.ensures.value running i (c.in_ok-running.ensures.members i) in
    finished_flat _ complete running exact c.self.invariant.0 c.self.invariant.1 c.in_ok-running.ensures.ascending

pub returns-clause-needed : goal.returns-clause-needed
returns-clause-needed c =
    let complete = subst IsComplete (sym c.self.view_is) c.requires in
    let running = c.in_ok-running.running in
    finished_needed _ complete running (λ i. read c.deref.ensures.value c.deref-2.ensures.value running i (c.in_ok-running.ensures.members i))

pub returns-clause-is_flat : goal.returns-clause-is_flat
returns-clause-is_flat c = invariant_of-result c
