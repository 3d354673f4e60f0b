use Rattle.std.proofs.Common.{◌≡◌, [], map, replicate}
use Rattle.step_uses.proofs.rows.Rows.with_count.Given as goal

abbrev pub invariant-loop-n : goal.invariant-loop-n
invariant-loop-n l = map (λ v. v.items) l.rows.items ≡ replicate l._n []
