use Rattle.std.proofs.Common.{◌≡◌, ◌++◌, take}
use Rattle.std.specs.List.{flat_map}
use Rattle.register_code.specs.Text.{keep_text}
use Rattle.register_code.proofs.print.put_keeps.Given as goal

abbrev pub invariant-loop-id : goal.invariant-loop-id
invariant-loop-id l = l.out ≡ l.initial.out ++ flat_map keep_text (take l.id-index l.ids)
