use Rattle.std.proofs.Common.{refl, sym, ◌∙◌}
use Rattle.trace_reader.proofs.PlainLemmas.{literal_value}
use Rattle.trace_reader.proofs.plain.literal_before.Goals as goal

pub returns-in-Ok-Some : goal.returns-in-Ok-Some
returns-in-Ok-Some c =
    literal_value c.args.of c.args.bytes.now c.in_ok-len.len c.in-Ok-Some.value c.in_ok-len.ensures (c.if-not-is_whole.ensures refl) (sym c.in-Ok-Some.field-0-is ∙ c.in-Ok-Some.ensures)
