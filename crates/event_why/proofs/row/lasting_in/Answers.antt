use Rattle.std.proofs.Common.{ap}
use Rattle.std.specs.Option.{option_copied}
use Rattle.event_why.proofs.RowLemmas.{lasting_some}
use Rattle.event_why.proofs.row.lasting_in.Goals as goal

pub returns-in-Some : goal.returns-in-Some
returns-in-Some c T lines t i can op_is =
    lasting_some T lines t i c.args.e.now c.args.draft.now c.args.row.now can (option_copied c.latest_in.result) c.argument-in-Some.result c.argument.result
    (option_copied c.event_in.result) c.in-Some.field-0.now op_is c.argument-in-Some.ensures c.argument.ensures c.event_in.ensures (ap option_copied c.in-Some.is) c.latest_in.ensures
