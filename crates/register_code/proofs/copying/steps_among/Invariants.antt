use Rattle.std.proofs.Common.{◌≡◌, take}
use Rattle.std.specs.List.{filter}
use Rattle.alias_rules.specs.Steps.{is_step}
use Rattle.register_code.proofs.copying.steps_among.Given as goal

abbrev pub invariant-loop-number : goal.invariant-loop-number
invariant-loop-number l = l.steps ≡ filter (is_step l.flat) (take l.number-index l.numbers)
