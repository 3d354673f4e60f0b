use Rattle.std.proofs.Common.{[], map, sym, ap, subst, ◌∙◌}
use Rattle.flat_core.specs.Complete.{IsFlat}
use Rattle.flat_core.specs.inner.Marks.{ArgumentsThere}
use Rattle.flat_core.specs.Renumbered.{with_new_args, renumbered}
use Rattle.flat_core.specs.System.{System}
use Rattle.flat_core.proofs.Finished.{arguments_there}
use Rattle.flat_core.proofs.Renumbering.{renumbered_typed}
use Rattle.flat_core.proofs.flat.Flat.reached.Goals as goal

pub reached-requires-clause-there : goal.reached-requires-clause-there
reached-requires-clause-there c =
    let s = c.args.self.now in
    let replaced = c.args.replaced.now in
    let flat = subst IsFlat c.self.view_is c.self.invariant in
    let there = arguments_there (renumbered s replaced []) (renumbered_typed s replaced [] c.requires.replaced.same_type flat.complete.typed) in
    subst (λ es. ArgumentsThere (map (with_new_args replaced) es)) (sym (c.deref.ensures.value ∙ ap (λ (v : System). v.equations) c.self.view_is)) there
