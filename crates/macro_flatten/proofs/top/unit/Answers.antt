use Rattle.std.proofs.Common.{◌-◌, [], ap, length, ◌∙◌, arith}
use Rattle.flat_core.specs.System.{with_name}
use Rattle.flat_core.specs.Typed.{unit_type}
use Rattle.stream_constructs.specs.Construct as construct
use Rattle.stream_constructs.specs.Made.{equations_for}
use Rattle.macro_flatten.proofs.Named.{with_named}
use Rattle.macro_flatten.proofs.top.unit.Goals as goal

pub returns-clause-made : goal.returns-clause-made
returns-clause-made c =
    let mid = c.unit.new.self in
    with_named c.args.maker.now mid c.name_last.new.self (equations_for c.args.maker.now c.args.place unit_type construct.Unit []) c.args.name.now c.in_ok-stream.ensures.made (omega arith)
    (c.name_last.ensures ∙ ap (with_name mid (length mid.equations - 1)) c.in_ok-copy.ensures)
