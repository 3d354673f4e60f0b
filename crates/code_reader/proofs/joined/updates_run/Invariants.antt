use Rattle.std.proofs.Common.{◌≡◌, drop}
use Rattle.std.specs.List.{list_all}
use Rattle.flat_core.specs.Updates.{is_running_update}
use Rattle.code_reader.specs.Parts.{code_in}
use Rattle.code_reader.proofs.joined.updates_run.Given as goal

abbrev pub invariant-loop-place : goal.invariant-loop-place
invariant-loop-place l =
    list_all (is_running_update (code_in l.parts).system) (drop l.place l.parts.plan.in_place) ≡ list_all (is_running_update (code_in l.parts).system) l.parts.plan.in_place
