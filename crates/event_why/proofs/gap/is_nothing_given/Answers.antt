use Rattle.std.proofs.Common.{◌↔◌, ◌<◌, ◌≤◌, subst, sym}
use Rattle.std.proofs.lemmas.List.{take_rest}
use Rattle.std.specs.Prelude.{IsTrue}
use Rattle.std.specs.List.{All}
use Rattle.std.specs.List.Sorted.{IsPartitionPoint}
use Rattle.flat_core.specs.declared.line.TraceLine.{TraceLine}
use Rattle.flat_core.specs.Line.{IsSorted, inputs_of}
use Rattle.why_rules.specs.Rules.{NothingGiven}
use Rattle.plain_solver.proofs.LinesLemmas.{sorted_rest}
use Rattle.event_why.proofs.Iff.{through}
use Rattle.event_why.proofs.GivenLemmas.{early_skipped, rest_late}
use Rattle.event_why.proofs.gap.is_nothing_given.Goals as goal

pub is_nothing_in-requires-clause-sorted : goal.is_nothing_in-requires-clause-sorted
is_nothing_in-requires-clause-sorted c =
    let ls = c.args.grounds.now.lines.now in
    subst IsSorted (sym (take_rest ls c.count_before.result)) (sorted_rest ls c.count_before.result c.requires.sorted)

pub is_nothing_in-requires-clause-late : goal.is_nothing_in-requires-clause-late
is_nothing_in-requires-clause-late c =
    let ls = c.args.grounds.now.lines.now in
    let k = c.count_before.result in
    let place = subst (λ t. IsPartitionPoint (λ (l : TraceLine). l.time < t) (λ (l : TraceLine). t ≤ l.time) ls k) c.get.ensures.value c.count_before.ensures.place in
    subst (All (λ (l : TraceLine). c.args.from ≤ l.time)) (sym (take_rest ls k))
    (rest_late c.args.grounds.now.flat.now c.args.grounds.now.slice.now c.args.from c.args.to ls k c.count_before.ensures.within place)

pub returns : goal.returns
returns c =
    let s = c.args.grounds.now.flat.now in
    let slice = c.args.grounds.now.slice.now in
    let ls = c.args.grounds.now.lines.now in
    let k = c.count_before.result in
    let place = subst (λ t. IsPartitionPoint (λ (l : TraceLine). l.time < t) (λ (l : TraceLine). t ≤ l.time) ls k) c.get.ensures.value c.count_before.ensures.place in
    through (subst (λ xs. IsTrue c.is_nothing_in.result ↔ NothingGiven s slice (inputs_of xs) c.args.from c.args.to) (take_rest ls k) c.is_nothing_in.ensures)
    (early_skipped s slice c.args.from c.args.to ls k place)
