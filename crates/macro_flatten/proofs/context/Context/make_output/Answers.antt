use Rattle.std.proofs.Common.{ap}
use Rattle.std.proofs.lemmas.Result.{on_ok_weaker}
use Rattle.syntax_tree.specs.inner.OneLevel.{item_of}
use Rattle.macro_flatten.proofs.Outputs.{definition_no_output, input_no_output, named_output_can, named_output_made, output_can, output_made, printed_room}
use Rattle.macro_flatten.proofs.context.Context.make_output.Goals as goal

pub output_name-requires : goal.output_name-requires
output_name-requires c =
    output_can c.args.self.now c.args.here.now c.in-Output.field-0 c.in-Output.place c.in-Output.name (item_of c.args.item.now) c.requires.ready c.requires.here c.requires.item (ap item_of c.in-Output.is)

pub printed-requires : goal.printed-requires
printed-requires c =
    named_output_can c.args.self.now c.args.here.now c.in-OutputAs.field-0 c.in-OutputAs.field-2 c.in-OutputAs.expression c.in-OutputAs.name (item_of c.args.item.now) c.requires.ready c.requires.here c.requires.item (ap item_of c.in-OutputAs.is)

pub add_output-requires : goal.add_output-requires
add_output-requires c =
    printed_room c.args.self.now c.args.here.now.around.number _ c.in-Output.name c.args.maker.now c.output_name.new.maker c.in_ok-stream-in-Output.stream c.in_ok-stream-in-Output.ensures.printed c.requires.room

pub add_output-requires-in-OutputAs : goal.add_output-requires-in-OutputAs
add_output-requires-in-OutputAs c =
    printed_room c.args.self.now c.args.here.now.around.number c.in-OutputAs.expression c.in-OutputAs.name c.args.maker.now c.printed.new.maker c.in_ok-stream-in-OutputAs.stream c.in_ok-stream-in-OutputAs.ensures.printed c.requires.room

pub returns-in_ok-stream-in-Output-clause-made : goal.returns-in_ok-stream-in-Output-clause-made
returns-in_ok-stream-in-Output-clause-made c =
    on_ok_weaker c.add_output.result (output_made c.args.self.now c.args.here.now.around.number c.in-Output.field-0 c.in-Output.place c.in-Output.name (item_of c.args.item.now) c.args.maker.now c.output_name.new.maker c.add_output.new.maker c.in_ok-stream-in-Output.stream (ap item_of c.in-Output.is) c.in_ok-stream-in-Output.ensures.printed) c.add_output.ensures.added

pub returns-in_ok-stream-in-OutputAs-clause-made : goal.returns-in_ok-stream-in-OutputAs-clause-made
returns-in_ok-stream-in-OutputAs-clause-made c =
    on_ok_weaker c.add_output-in-OutputAs.result (named_output_made c.args.self.now c.args.here.now.around.number c.in-OutputAs.field-0 c.in-OutputAs.field-2 c.in-OutputAs.expression c.in-OutputAs.name (item_of c.args.item.now) c.args.maker.now c.printed.new.maker c.add_output-in-OutputAs.new.maker c.in_ok-stream-in-OutputAs.stream (ap item_of c.in-OutputAs.is) c.in_ok-stream-in-OutputAs.ensures.printed) c.add_output-in-OutputAs.ensures.added

pub returns-in-Input-clause-made : goal.returns-in-Input-clause-made
returns-in-Input-clause-made c =
    input_no_output c.args.self.now c.args.here.now.around.number _ _ _ _ (item_of c.args.item.now) c.args.maker.now (ap item_of c.in-Input.is)

pub returns-in-Defined-clause-made : goal.returns-in-Defined-clause-made
returns-in-Defined-clause-made c =
    definition_no_output c.args.self.now c.args.here.now.around.number _ _ (item_of c.args.item.now) c.args.maker.now (ap item_of c.in-Defined.is)
