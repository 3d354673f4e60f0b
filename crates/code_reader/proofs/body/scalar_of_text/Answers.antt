use Rattle.code_reader.proofs.TakenBodies.{text_none, text_some}
use Rattle.code_reader.proofs.body.scalar_of_text.Goals as goal

pub returns-in-Some : goal.returns-in-Some
returns-in-Some c = text_some c.args.bytes.now c.in_ok-from_slice.field-0 c.in-Some.text c.in_ok-from_slice.ensures c.in-Some.ensures c.if-bytes-gt-MOST_TEXT_BYTES.false

pub returns-in-None : goal.returns-in-None
returns-in-None c = text_none c.args.bytes.now c.in_ok-from_slice.field-0 c.in_ok-from_slice.ensures c.in-None.ensures
