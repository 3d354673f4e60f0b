use Rattle.std.proofs.Common.{take}
use Rattle.alias_paths.specs.inner.Marking.{AddsMarks, IsMarkedBy}
use Rattle.alias_nears.specs.inner.Contents.{IsNewBeside}
use Rattle.alias_paths.proofs.Adding.{IsIt}
use Rattle.alias_analysis.proofs.wider.beside_on.Given as goal

abbrev pub invariant-loop-number : goal.invariant-loop-number
invariant-loop-number l = AddsMarks l.initial.beside (IsMarkedBy (take l.number-index l.listed) (IsIt (IsNewBeside l.flat l.update l.found l.marked))) l.beside
