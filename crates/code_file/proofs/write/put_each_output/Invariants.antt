use Rattle.std.proofs.Common.{◌≡◌, ◌++◌, take}
use Rattle.std.specs.List.{flat_map}
use Rattle.code_file.specs.Spelling.{output_bytes}
use Rattle.code_file.proofs.write.put_each_output.Given as goal

abbrev pub invariant-loop-output : goal.invariant-loop-output
invariant-loop-output l = l.out ≡ l.initial.out ++ flat_map output_bytes (take l.output-index l.outputs)
