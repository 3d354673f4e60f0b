use Rattle.std.proofs.Common.{◌++◌, Option, Ok, ap, subst}
use Rattle.trace_monitor.specs.declared.ending.RunEnding.{RunEnding}
use Rattle.trace_monitor.specs.declared.options.Options.{Options}
use Rattle.trace_monitor.specs.Next.{IsNext, is_nothing}
use Rattle.trace_monitor.specs.Saved.{IsSavedAs}
use Rattle.resumed_run.proofs.Parts.{ended, goes_on}
use Rattle.resumed_run.proofs.save.part_of.Goals as goal

pub returns-in-Some-clause-part : goal.returns-in-Some-clause-part
returns-in-Some-clause-part c = λ fed kept.
    let m = c.args.monitor.now in
    let piece = c.args.piece.now in
    let next = subst (λ (x : Option RunEnding). IsNext m.system m.options (fed ++ piece) (is_nothing piece) x) c.in-Some.is (c.in_ok-ending.ensures.ending fed kept) in
    ended m c.args.code.now fed piece c.advance.new.out c.in-Some.ending c.requires.code (λ before due. c.in_ok-ending.ensures.text fed before kept due) next

pub returns-in_ok-state-in-None-clause-part : goal.returns-in_ok-state-in-None-clause-part
returns-in_ok-state-in-None-clause-part c = λ fed kept.
    let m = c.args.monitor.now in
    let piece = c.args.piece.now in
    let state = c.in_ok-state-in-None.state in
    let next = subst (λ (x : Option RunEnding). IsNext m.system m.options (fed ++ piece) (is_nothing piece) x) c.in-None.is (c.in_ok-ending.ensures.ending fed kept) in
    let is = subst (λ (o : Options). IsSavedAs c.args.code.now o (fed ++ piece) state) c.in_ok-ending.ensures.options
    (c.in_ok-state-in-None.ensures.saved (fed ++ piece) (c.in_ok-ending.ensures.kept fed kept (ap Ok c.in-None.is))) in
    goes_on m c.args.code.now fed piece c.advance.new.out state c.requires.code (λ before due. c.in_ok-ending.ensures.text fed before kept due) next is
