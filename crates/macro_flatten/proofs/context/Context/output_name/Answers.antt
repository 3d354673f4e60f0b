use Rattle.macro_flatten.proofs.Outputs.{name_can, name_is, name_is_refused, unit_is, unit_is_refused}
use Rattle.macro_flatten.proofs.context.Context.output_name.Goals as goal

pub named-requires : goal.named-requires
named-requires c =
    name_can c.args.self.now c.args.here.now c.args.place c.args.name.now c.as_str.result.now c.as_str-else-is_unit.result.now c.is_unit.result c.requires c.as_str.ensures c.as_str-else-is_unit.ensures c.is_unit.ensures c.if-is_unit.false

pub returns-then-is_unit-clause-printed : goal.returns-then-is_unit-clause-printed
returns-then-is_unit-clause-printed c =
    unit_is c.args.self.now c.args.here.now.around.number c.args.place c.args.name.now c.as_str.result.now c.is_unit.result c.args.maker.now c.unit.new.maker c.unit.result c.as_str.ensures c.is_unit.ensures c.if-is_unit.true c.unit.ensures.stream c.unit.ensures.made

pub returns-then-is_unit-clause-refused : goal.returns-then-is_unit-clause-refused
returns-then-is_unit-clause-refused c =
    unit_is_refused c.args.self.now c.args.here.now.around.number c.args.place c.args.name.now c.as_str.result.now c.is_unit.result c.args.maker.now c.unit.result c.as_str.ensures c.is_unit.ensures c.if-is_unit.true c.unit.ensures.refused

pub returns-else-is_unit-clause-printed : goal.returns-else-is_unit-clause-printed
returns-else-is_unit-clause-printed c =
    name_is c.args.self.now c.args.here.now c.args.place c.args.name.now c.as_str.result.now c.as_str-else-is_unit.result.now c.is_unit.result c.requires c.as_str.ensures c.as_str-else-is_unit.ensures c.is_unit.ensures c.if-is_unit.false c.args.maker.now c.named.result c.named.ensures

pub returns-else-is_unit-clause-refused : goal.returns-else-is_unit-clause-refused
returns-else-is_unit-clause-refused c =
    name_is_refused c.args.self.now c.args.here.now c.args.place c.args.name.now c.as_str.result.now c.as_str-else-is_unit.result.now c.is_unit.result c.requires c.as_str.ensures c.as_str-else-is_unit.ensures c.is_unit.ensures c.if-is_unit.false c.args.maker.now c.named.result c.named.ensures
