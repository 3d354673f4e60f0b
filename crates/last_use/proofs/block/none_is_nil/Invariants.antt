use Rattle.std.proofs.Common.{ℕ, ◌<◌}
use Rattle.alias_nears.specs.inner.Beginning.{IsNilVariable}
use Rattle.last_use.proofs.block.none_is_nil.Given as goal

abbrev pub invariant-loop-number : goal.invariant-loop-number
invariant-loop-number l = (x : ℕ) → x < l.number → IsNilVariable l.flat x → ⊥
