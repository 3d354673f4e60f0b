use Rattle.std.proofs.Common.{◌≡◌, ◌<◌, [], ◌∷◌, ◌++◌, Some, length, refl, ap, sym, subst, ◌∙◌, slice_get}
use Rattle.std.proofs.lemmas.Option.{slice_get_read}
use Rattle.flat_core.specs.declared.equation.Output.{Output}
use Rattle.flat_core.specs.System.{System}
use Rattle.event_why.proofs.PartLemmas.{part_sliced}
use Rattle.event_why.proofs.sliced.sliced.Goals as goal

pub returns : goal.returns
returns c =
    let s = c.args.flat.now in
    let number = c.args.number in
    let o : Output = c.index-outputs-number.result in
    let there = subst (λ os. number < length os) (sym c.outputs.ensures) c.requires in
    let read = slice_get_read c.outputs.result.now (length c.outputs.result.now) number o refl there c.index-outputs-number.is in
    let at : slice_get s.outputs number ≡ Some o = subst (λ os. slice_get os number ≡ Some o) c.outputs.ensures read in
    let p : Output = record { name = c.in_ok-copy.field-0; equation = o.equation } in
    let same : p ≡ o = ap (λ n. record { name = n; equation = o.equation }) c.in_ok-copy.ensures in
    let added = c.in_ok-add_output.ensures in
    let equations = c.in_ok-finish.ensures.equations ∙ ap (λ (b : System). b.equations) added ∙ c.in_ok-builder.ensures.equations in
    let outputs = c.in_ok-finish.ensures.outputs ∙ ap (λ (b : System). b.outputs) added ∙ ap (λ os. os ++ p ∷ []) c.in_ok-builder.ensures.outputs ∙ ap (λ q. q ∷ []) same in
    part_sliced s c.in_ok-finish.field-0 number o c.assert_whole.ensures.is_flat at equations outputs c.in_ok-finish.ensures.is_flat c.in_ok-finish.ensures.needed
