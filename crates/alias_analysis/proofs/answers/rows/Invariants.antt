use Rattle.std.proofs.Common.{◌≡◌, length, map}
use Rattle.alias_analysis.specs.inner.Answers.{AreRows}
use Rattle.alias_analysis.proofs.answers.rows.Given as goal

abbrev pub invariant-loop-number : goal.invariant-loop-number
invariant-loop-number l = record {
  each : length l.rows.items ≡ l.number;
  made : AreRows l.question l.flat (map (λ v. v.items) l.rows.items);
}
