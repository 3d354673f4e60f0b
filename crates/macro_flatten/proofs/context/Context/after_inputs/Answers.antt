use Rattle.std.proofs.Common.{arith}
use Rattle.std.proofs.lemmas.Result.{err_from_is_err_and}
use Rattle.equation_marks.specs.Marks.{all_marks}
use Rattle.macro_flatten.specs.inner.Items.{items_in, kinds_in}
use Rattle.macro_flatten.proofs.Lists.{refused_at}
use Rattle.macro_flatten.proofs.Whole.{is_complete, outputs_refused, outputs_room, streams_refused, whole_flat, whole_marks, whole_within}
use Rattle.macro_flatten.proofs.context.Context.after_inputs.Goals as goal

pub outputs-requires-clause-room : goal.outputs-requires-clause-room
outputs-requires-clause-room c = outputs_room c.args.self.now c.args.maker c.requires.begun c.definitions.new.maker c.in_ok-definitions.ensures.made c.requires.few

pub finish-requires : goal.finish-requires
finish-requires c =
    is_complete c.args.self.now c.args.maker c.requires.begun c.definitions.new.maker c.in_ok-definitions.ensures.made c.outputs.new.maker c.in_ok-outputs.ensures.made c.requires.outputs c.requires.short (omega arith)

pub returns-in_err-definitions-clause-refused : goal.returns-in_err-definitions-clause-refused
returns-in_err-definitions-clause-refused c =
    let p = err_from_is_err_and c.from_residual.result c.from_residual.ensures.1 in
    refused_at c.from_residual.result p.0 _ (all_marks (items_in c.args.self.now) (kinds_in c.args.self.now)) p.1 p.2
    (streams_refused c.args.self.now c.args.maker c.requires.begun _ c.in_err-definitions.ensures.refused)

pub returns-in_err-outputs-clause-refused : goal.returns-in_err-outputs-clause-refused
returns-in_err-outputs-clause-refused c =
    let p = err_from_is_err_and c.from_residual-in_err-outputs.result c.from_residual-in_err-outputs.ensures.1 in
    refused_at c.from_residual-in_err-outputs.result p.0 _ (all_marks (items_in c.args.self.now) (kinds_in c.args.self.now)) p.1 p.2
    (outputs_refused c.args.self.now c.args.maker c.requires.begun c.definitions.new.maker c.in_ok-definitions.ensures.made _ c.in_err-outputs.ensures.refused)

pub returns-clause-flat : goal.returns-clause-flat
returns-clause-flat c =
    whole_flat c.args.self.now c.args.maker c.requires.begun c.definitions.new.maker c.in_ok-definitions.ensures.made c.outputs.new.maker c.in_ok-outputs.ensures.made c.in_ok-finish.field-0 c.in_ok-finish.ensures.equations c.in_ok-finish.ensures.outputs (omega arith)

pub returns-clause-marks : goal.returns-clause-marks
returns-clause-marks c =
    whole_marks c.args.self.now c.args.maker c.requires.begun c.definitions.new.maker c.in_ok-definitions.ensures.made c.outputs.new.maker c.in_ok-outputs.ensures.made c.in_ok-finish.field-0 c.in_ok-finish.ensures.equations

pub returns-clause-within : goal.returns-clause-within
returns-clause-within c =
    whole_within c.args.self.now c.args.maker c.requires.begun c.definitions.new.maker c.in_ok-definitions.ensures.made c.outputs.new.maker c.in_ok-outputs.ensures.made c.in_ok-finish.field-0 c.in_ok-finish.ensures.equations c.count.ensures.within
