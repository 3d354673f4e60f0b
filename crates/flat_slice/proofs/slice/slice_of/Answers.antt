use Rattle.std.proofs.Common.{◌≡◌, ◌↔◌, ℕ, [], ◌∷◌, get_or, Some, sym, ap, subst, ◌∙◌}
use Rattle.std.specs.Prelude.{IsTrue}
use Rattle.std.proofs.lemmas.Option.{get_or_from_slice_get, slice_get-get_or}
use Rattle.std.proofs.lemmas.Result.{IfOk-weaker}
use Rattle.tsl_value.proofs.Lists.{contains_at}
use Rattle.flat_core.specs.declared.equation.Output.{Output}
use Rattle.flat_core.specs.Members.{is_in}
use Rattle.flat_core.specs.System.{runs}
use Rattle.flat_core.specs.Needed.{IsReachedFrom}
use Rattle.flat_core.proofs.Members.{all_at}
use Rattle.flat_slice.specs.Slice.{IsSlice, IsSliceOf, Decides}
use Rattle.flat_slice.proofs.SliceLemmas.{decides}
use Rattle.flat_slice.proofs.slice.slice_of.Goals as goal

pub returns-clause-members : goal.returns-clause-members
returns-clause-members c =
    let s = c.args.flat.now in
    let own = c.index-outputs-output.result in
    let start = get_or c.outputs.result.now c.args.output own in
    IfOk-weaker c.leading_to.result (λ r. (i : ℕ) → IsTrue (is_in r i) ↔ IsReachedFrom s.equations (start.equation ∷ []) i) (IsSliceOf s c.args.output)
    (λ r members output at.
    let same : start ≡ output = ap (λ os. get_or os c.args.output own) c.outputs.ensures ∙ get_or_from_slice_get s.outputs c.args.output output own at in
    subst (λ (o : Output). IsSlice s o.equation r) same members)
    c.leading_to.ensures.members

pub returns-clause-decides : goal.returns-clause-decides
returns-clause-decides c =
    let s = c.args.flat.now in
    let own = c.index-outputs-output.result in
    let start = get_or c.outputs.result.now c.args.output own in
    let whole = c.assert_whole.ensures.is_flat in
    let there = slice_get-get_or s.outputs c.args.output own c.requires.there ∙ ap (λ os. Some (get_or os c.args.output own)) (sym c.outputs.ensures) in
    let runs_start = all_at (λ o. IsTrue (runs s o.equation)) s.outputs whole.outputs_run start (contains_at s.outputs c.args.output start there) in
    IfOk-weaker c.leading_to.result (λ r. (i : ℕ) → IsTrue (is_in r i) ↔ IsReachedFrom s.equations (start.equation ∷ []) i) (Decides s)
    (λ r members. decides s whole.proper start.equation runs_start r members c.requires.well_formed)
    c.leading_to.ensures.members
