use Rattle.std.proofs.Common.{ℕ, List, ◌++◌, ap, ◌∙◌}
use Rattle.std.specs.Prelude.{codes}
use Rattle.trace_reader.proofs.PlainLemmas.{line_read, named_input}
use Rattle.trace_reader.proofs.plain.plain_line.Goals as goal

pub returns : goal.returns
returns c =
    let time = c.in_ok-time.ensures in
    let name = c.in_ok-name.name.now in
    let of = c.in_ok-of.of in
    record {
      of = of;
      name = name;
      input = named_input c.args.inputs.now c.in_ok-input.input of name c.in_ok-input.ensures c.in_ok-name.ensures c.in_ok-of.ensures;
      line = rw time.1 (line_read of name c.args.bytes.now c.in_ok-digits.after_time.now c.in_ok-after.field-0.now c.in_ok-value.end.now c.in_ok-_next._next.now c.in_ok-digits.digits c.in_ok-input.input c.in_ok-value.value
          c.in_ok-digits.ensures.number (c.in_ok-named.ensures ∙ ap (λ (bs : List ℕ). codes ": " ++ bs) c.in_ok-after.ensures) c.in_ok-value.ensures c.in_ok-_next.ensures time.0);
    }
