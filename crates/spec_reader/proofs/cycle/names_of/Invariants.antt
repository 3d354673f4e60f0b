use Rattle.std.proofs.Common.{◌≡◌, map, take}
use Rattle.program_text.specs.Text.{label_text}
use Rattle.spec_reader.proofs.cycle.names_of.Given as goal

abbrev pub invariant-loop-place : goal.invariant-loop-place
invariant-loop-place l = l.names.items ≡ map (label_text l.flat) (take l.place l.equations)
