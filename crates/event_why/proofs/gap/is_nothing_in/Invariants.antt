use Rattle.std.proofs.Common.{◌↔◌, drop}
use Rattle.flat_core.specs.Line.{inputs_of}
use Rattle.why_rules.specs.Rules.{NothingGiven}
use Rattle.event_why.proofs.gap.is_nothing_in.Given as goal

abbrev pub invariant-loop-line : goal.invariant-loop-line
invariant-loop-line l =
    NothingGiven l.grounds.flat.now l.grounds.slice.now (inputs_of (drop l.line-index l.lines)) l.fn.from l.to
    ↔ NothingGiven l.grounds.flat.now l.grounds.slice.now (inputs_of l.lines) l.fn.from l.to
