use Rattle.std.proofs.Common.{◌≡◌, ◌++◌, take}
use Rattle.program_text.specs.Text.{args_text}
use Rattle.program_text.proofs.print.put_args.Given as goal

abbrev pub invariant-loop-id : goal.invariant-loop-id
invariant-loop-id l = l.out ≡ l.initial.out ++ args_text (take l.id-index l.args)
