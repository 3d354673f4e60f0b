use Rattle.std.proofs.Common.{ℕ, ◌<◌, length, false}
use Rattle.std.proofs.lemmas.Result.{IfOk-weaker}
use Rattle.trigger_starts.specs.inner.AtomLists.{AreDifferent, atoms_at}
use Rattle.trigger_starts.specs.inner.Kept.{AreAtomsOf}
use Rattle.trigger_diagram.specs.inner.Kept.{HaveAtoms}
use Rattle.trigger_diagram.proofs.Keeping.{atoms_told, different_told}
use Rattle.trigger_diagram.proofs.diagrams.Diagrams.atoms.Goals as goal

pub returns-clause-different : goal.returns-clause-different
returns-clause-different c =
    IfOk-weaker c.gather.result (λ all. AreAtomsOf false c.deref.result.now c.deref-2.result.now c.as_slice.result.now all.items) (λ all. (x : ℕ) → x < length c.args.self.now.rules → AreDifferent (atoms_at all.items x))
    (λ all are. different_told c.args.self.now c.self.inside.rules.items c.deref.result.now c.self.inside.starts.items c.deref-2.result.now c.self.inside.order.items c.as_slice.result.now c.self.inside.arena all.items c.self.view_is c.deref.ensures.value c.deref-2.ensures.value c.as_slice.ensures.value c.self.invariant.ordered are)
    c.gather.ensures.atoms

pub returns-clause-exact : goal.returns-clause-exact
returns-clause-exact c =
    IfOk-weaker c.gather.result (λ all. AreAtomsOf false c.deref.result.now c.deref-2.result.now c.as_slice.result.now all.items) (λ all. HaveAtoms c.args.self.now all.items)
    (λ all are. atoms_told c.args.self.now c.self.inside.rules.items c.deref.result.now c.self.inside.starts.items c.deref-2.result.now c.self.inside.order.items c.as_slice.result.now c.self.inside.arena all.items c.self.view_is c.deref.ensures.value c.deref-2.ensures.value c.as_slice.ensures.value c.self.invariant.ordered are c.self.invariant.starts_are)
    c.gather.ensures.atoms
