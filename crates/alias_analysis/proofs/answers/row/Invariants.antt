use Rattle.std.proofs.Common.{◌≡◌, length}
use Rattle.alias_analysis.specs.inner.Answers.{IsRow}
use Rattle.alias_analysis.proofs.answers.row.Given as goal

abbrev pub invariant-loop-number : goal.invariant-loop-number
invariant-loop-number l = record {
  each : length l.row.items ≡ l.number;
  made : IsRow l.question l.flat l.update l.row.items;
}
