use Rattle.std.proofs.Common.{ap, length, map, ◌∙◌}
use Rattle.std.proofs.lemmas.List.{length-map}
use Rattle.std.proofs.lemmas.Result.{err_from_is_err_and}
use Rattle.syntax_tree.specs.inner.OneLevel.{item_of}
use Rattle.expr_types.specs.inner.Shown.{kinds_of}
use Rattle.equation_marks.specs.Marks.{all_marks}
use Rattle.macro_flatten.specs.declared.context.Context.{Context}
use Rattle.macro_flatten.proofs.Inputs.{have_event_types, table_length}
use Rattle.macro_flatten.proofs.Lists.{refused_at}
use Rattle.macro_flatten.proofs.Whole.{inputs_refused, is_begun}
use Rattle.macro_flatten.proofs.flatten.flatten.Goals as goal

pub inputs-requires : goal.inputs-requires
inputs-requires c = have_event_types (map item_of c.args.items.now) c.requires.checked.good_types

pub foresee-requires-clause-room : goal.foresee-requires-clause-room
foresee-requires-clause-room c =
    ap length c.in_ok-streams.ensures.streams ∙ table_length (length c.new-maker.result.equations) (map item_of c.args.items.now) ∙ length-map c.args.items.now item_of

pub after_inputs-requires-clause-begun : goal.after_inputs-requires-clause-begun
after_inputs-requires-clause-begun c =
    let context : Context = record { alloc = c.args.alloc; items = c.args.items; names = c.args.names; kinds = c.args.kinds; functions = c.args.functions; streams = c.deref.result } in
    is_begun context c.count.result c.new-maker.result c.inputs.new.maker c.in_ok-streams.streams.items c.foresee.new.streams.items c.deref.ensures.value c.requires.names c.requires.checked c.new-maker.ensures.equations c.new-maker.ensures.outputs c.in_ok-streams.ensures.made c.count.ensures.count c.in_ok-streams.ensures.streams c.in_ok-foresee.ensures.foreseen c.requires.bodies c.requires.small c.requires.nests

pub returns-in_err-streams-clause-refused : goal.returns-in_err-streams-clause-refused
returns-in_err-streams-clause-refused c =
    let p = err_from_is_err_and c.from_residual.result c.from_residual.ensures.1 in
    refused_at c.from_residual.result p.0 _ (all_marks (map item_of c.args.items.now) (kinds_of c.args.kinds.now)) p.1 p.2
    (inputs_refused (map item_of c.args.items.now) (kinds_of c.args.kinds.now) c.new-maker.result c.new-maker.ensures.equations _ c.in_err-streams.ensures.refused)
