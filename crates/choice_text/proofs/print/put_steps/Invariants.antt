use Rattle.std.proofs.Common.{◌≡◌, ◌++◌, codes, take}
use Rattle.std.specs.List.{flat_map}
use Rattle.choice_text.specs.Text.{step_label}
use Rattle.choice_text.proofs.print.put_steps.Given as goal

abbrev pub invariant-loop-step : goal.invariant-loop-step
invariant-loop-step l = l.out ≡ l.initial.out ++ flat_map (λ y. step_label l.flat y ++ codes " -> ") (take l.step-index l.steps)
