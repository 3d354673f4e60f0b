use Rattle.std.proofs.Common.{◌≡◌, [], drop, map}
use Rattle.std.specs.String.{string_bytes}
use Rattle.code_reader.specs.inner.Names.{are_apart, input_names}
use Rattle.code_reader.proofs.joined.inputs_are_apart.Given as goal

abbrev pub invariant-loop-equation : goal.invariant-loop-equation
invariant-loop-equation l = are_apart (map string_bytes l.names.keys) (input_names (drop l.equation-index l.equations)) ≡ are_apart [] (input_names l.equations)
