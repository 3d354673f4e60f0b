use Rattle.std.proofs.Common.{◌≡◌, ◌++◌, take}
use Rattle.std.specs.List.{flat_map}
use Rattle.program_text.specs.Text.{equation_line}
use Rattle.slice_text.proofs.print.put_members.Given as goal

abbrev pub invariant-loop-place : goal.invariant-loop-place
invariant-loop-place l = l.out ≡ l.initial.out ++ flat_map (equation_line l.flat) (take l.place l.set)
