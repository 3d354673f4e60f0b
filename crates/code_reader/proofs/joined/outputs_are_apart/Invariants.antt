use Rattle.std.proofs.Common.{◌≡◌, [], drop, map}
use Rattle.std.specs.String.{string_bytes}
use Rattle.code_reader.specs.inner.Names.{are_apart, output_names}
use Rattle.code_reader.proofs.joined.outputs_are_apart.Given as goal

abbrev pub invariant-loop-output : goal.invariant-loop-output
invariant-loop-output l = are_apart (map string_bytes l.names.keys) (output_names (drop l.output-index l.outputs)) ≡ are_apart [] (output_names l.outputs)
