use Rattle.std.proofs.lemmas.Str.{is_utf8-from_IsUtf8}
use Rattle.tsl_value.proofs.Utf8.{is_utf8-not}
use Rattle.trace_reader.proofs.NameLemmas.{named, not_named, no_name, no_text, word_is_no_name}
use Rattle.trace_reader.proofs.name.name_of.Goals as goal
use Rattle.trace_reader.proofs.name.name_of.Goals.{in_default-via-in-Ok+then-are_name_characters+else-not-is_word, in_default-via-in-Ok+else-are_name_characters, in_default-via-in_default}

pub returns-in-Ok : goal.returns-in-Ok
returns-in-Ok c = named c.args.bytes.now c.in-Ok.name.now c.in-Ok.ensures.cases.0 (is_utf8-from_IsUtf8 c.args.bytes.now c.in-Ok.ensures.cases.1) c.if-are_name_characters.ensures c.if-not-is_word.ensures

pub returns-in_default : goal.returns-in_default
returns-in_default c = elim c.in_default.branch [
  | in_default-via-in-Ok+then-are_name_characters+else-not-is_word w ↦
      not_named c.args.bytes.now (word_is_no_name c.args.bytes.now w.in-Ok.name.now w.in-Ok.ensures.cases.0 (is_utf8-from_IsUtf8 c.args.bytes.now w.in-Ok.ensures.cases.1) w.if-not-is_word.ensures)
  | in_default-via-in-Ok+else-are_name_characters w ↦
      not_named c.args.bytes.now (no_name c.args.bytes.now w.in-Ok.name.now w.in-Ok.ensures.cases.0 (is_utf8-from_IsUtf8 c.args.bytes.now w.in-Ok.ensures.cases.1) w.if-are_name_characters.ensures)
  | in_default-via-in_default w ↦ not_named c.args.bytes.now (no_text c.args.bytes.now (is_utf8-not c.args.bytes.now w.in_default.ensures.cases.0))
]
