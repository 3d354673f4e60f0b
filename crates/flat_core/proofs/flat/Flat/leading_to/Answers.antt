use Rattle.std.proofs.Common.{◌≡◌, ◌↔◌, ℕ, map, sym, ap, subst, ◌∙◌, IfOk, IsTrue}
use Rattle.flat_core.specs.Complete.{IsFlat}
use Rattle.flat_core.specs.Members.{is_in}
use Rattle.flat_core.specs.Needed.{IsReachedFrom}
use Rattle.flat_core.specs.inner.Marks.{ArgumentsThere}
use Rattle.flat_core.specs.Renumbered.{with_new_args}
use Rattle.flat_core.specs.System.{System}
use Rattle.flat_core.proofs.Finished.{arguments_there}
use Rattle.flat_core.proofs.Renumbering.{same_equations}
use Rattle.flat_core.proofs.flat.Flat.leading_to.Goals as goal

pub reached-requires-clause-there : goal.reached-requires-clause-there
reached-requires-clause-there c =
    let s = c.args.self.now in
    let flat = subst IsFlat c.self.view_is c.self.invariant in
    let own = c.deref.ensures.value ∙ ap (λ (v : System). v.equations) c.self.view_is in
    let same = ap (λ es. map (with_new_args c.new-unchanged.result) es) own ∙ ap (λ r. map (with_new_args r) s.equations) c.new-unchanged.ensures ∙ same_equations s.equations in
    subst ArgumentsThere (sym same) (arguments_there s flat.complete.typed)

pub returns-clause-members : goal.returns-clause-members
returns-clause-members c =
    let s = c.args.self.now in
    let own = c.deref.ensures.value ∙ ap (λ (v : System). v.equations) c.self.view_is in
    let same = ap (λ es. map (with_new_args c.new-unchanged.result) es) own ∙ ap (λ r. map (with_new_args r) s.equations) c.new-unchanged.ensures ∙ same_equations s.equations in
    subst (λ es. IfOk c.reached.result (λ r. (i : ℕ) → IsTrue (is_in r i) ↔ IsReachedFrom es c.args.starts.now i)) same c.reached.ensures.members
