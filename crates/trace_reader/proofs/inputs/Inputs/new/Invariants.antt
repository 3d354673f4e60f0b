use Rattle.std.proofs.Common.{◌≡◌, ℕ, List, drop}
use Rattle.std.specs.List.{position_from}
use Rattle.std.specs.Option.{option_or}
use Rattle.trace_reader.specs.inner.Places.{place_in}
use Rattle.trace_reader.specs.Reading.{input_called, is_input_called}
use Rattle.trace_reader.proofs.inputs.Inputs.new.Given as goal

-- what is noted, and else what stands from the number on, is the first input
abbrev pub invariant-loop-number : goal.invariant-loop-number
invariant-loop-number l = (name : List ℕ) → option_or (place_in l.places name) (position_from (is_input_called name) l.number (drop l.number l.flat.equations)) ≡ input_called l.flat name
