use Rattle.std.proofs.Common.{◌-◌, ap, ◌∙◌}
use Rattle.code_file.specs.inner.Reading.{body_at, node_at}
use Rattle.code_reader.proofs.Bodies.{no_room, nothing_left, some_room}
use Rattle.code_reader.proofs.body.+read_body.Goals as goal

pub read_body-returns-then-room-eq0 : goal.read_body-returns-then-room-eq0
read_body-returns-then-room-eq0 t c = no_room c.args.room c.args.bytes.now c.if-room-eq0.true

pub read_body-returns-in-Some : goal.read_body-returns-in-Some
read_body-returns-in-Some t c =
    let is = some_room c.args.room c.args.bytes.now c.if-room-eq0.false ∙ ap (node_at (body_at (c.args.room - 1))) c.in-Some.ensures.cases.0 in
    rw is c.read_node.ensures

pub read_body-returns-in-None : goal.read_body-returns-in-None
read_body-returns-in-None t c =
    some_room c.args.room c.args.bytes.now c.if-room-eq0.false ∙ nothing_left (body_at (c.args.room - 1)) c.args.bytes.now c.in-None.ensures.cases
