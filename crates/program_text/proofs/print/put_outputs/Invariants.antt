use Rattle.std.proofs.Common.{◌≡◌, ◌++◌, take}
use Rattle.std.specs.List.{flat_map}
use Rattle.program_text.specs.Text.{output_line}
use Rattle.program_text.proofs.print.put_outputs.Given as goal

abbrev pub invariant-loop-output : goal.invariant-loop-output
invariant-loop-output l = l.out ≡ l.initial.out ++ flat_map output_line (take l.output-index l.outputs)
