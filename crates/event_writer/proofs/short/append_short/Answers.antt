use Rattle.std.proofs.Common.{arith, length, nat_le, rules}
use Rattle.std.proofs.lemmas.Bool.{and_parts, leb-true}
use Rattle.std.proofs.lemmas.Fmt.{length-decimal-le}
use Rattle.event_writer.specs.inner.Short.{is_no_text}
use Rattle.event_writer.proofs.short.append_short.Goals as goal

pub write_digits-start-requires : goal.write_digits-start-requires
write_digits-start-requires c =
    let name = leb-true (length c.args.name.now) 40 (and_parts (nat_le (length c.args.name.now) 40) (is_no_text c.args.value.now) c.requires).0 in
    let short = c.write_scalar-value.ensures.short in
    let equals = c.write_before-equals.ensures.start in
    let from_name = c.write_before-from_name.ensures.start in
    let colon = c.write_before-colon.ensures.start in
    let small = c.get.ensures.bounded in
    (omega (arith, length-decimal-le 19 c.get.result (omega arith) (omega arith) (omega arith)), search rules)
