use Rattle.std.proofs.Common.{◌≡◌, ◌++◌, length, option_map}
use Rattle.tsl_value.specs.Literal.{quoted}
use Rattle.tsl_value.proofs.literal.read_content.Given as goal

abbrev pub invariant-loop-byte : goal.invariant-loop-byte
invariant-loop-byte l = quoted l.initial.rest ≡ option_map (λ more. l.content ++ more) (quoted l.rest)

abbrev pub decreases-loop-byte : goal.decreases-loop-byte
decreases-loop-byte l = length l.rest
