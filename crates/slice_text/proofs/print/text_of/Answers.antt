use Rattle.std.proofs.Common.{◌≡◌, ◌∙◌, Some, get_or, length, refl, slice_get, ap}
use Rattle.std.proofs.lemmas.Option.{slice_get_read}
use Rattle.slice_text.proofs.Slices.{is_slice_text, members_there}
use Rattle.slice_text.proofs.print.text_of.Goals as goal

pub put_members-requires : goal.put_members-requires
put_members-requires c = members_there c.args.flat.now c.args.number c.in_ok-slice.slice c.assert_whole.ensures.is_flat c.requires.there c.in_ok-slice.ensures.members

pub returns : goal.returns
returns c =
    let outputs = c.args.flat.now.outputs in
    let own = c.index-outputs-number.result in
    let at : slice_get outputs c.args.number ≡ Some own = slice_get_read outputs (length outputs) c.args.number own refl c.requires.there (c.index-outputs-number.is ∙ ap (λ os. get_or os c.args.number own) c.outputs.ensures) in
    is_slice_text c.args.flat.now c.args.number own c.in_ok-slice.slice c.put_output.new.out at c.in_ok-slice.ensures.ascending c.in_ok-slice.ensures.members
    (rw (c.in_ok-put_members.ensures, c.new-text.ensures) at c.in_ok-put_output.ensures)
