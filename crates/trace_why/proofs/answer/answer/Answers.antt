use Rattle.std.proofs.Common.{subst}
use Rattle.event_why.specs.declared.explained.Explained.{Explained}
use Rattle.event_why.specs.Explained.{IsExplained}
use Rattle.flat_core.specs.Line.{inputs_of}
use Rattle.trace_why.proofs.Answering.{no_fault_told, text_told}
use Rattle.trace_why.proofs.answer.answer.Goals as goal

pub unreachable-requires : goal.unreachable-requires
unreachable-requires c =
    let s = c.args.flat.now in
    let q = c.args.question in
    no_fault_told s c.args.lines.now q c.assert_whole.ensures.is_flat c.in-Fault.time c.in-Fault.equation c.in-Fault.kind c.requires.calm
    (subst (λ (e : Explained). IsExplained s (inputs_of c.args.lines.now) q.output q.time e) c.in-Fault.is c.in_ok-why.ensures)

pub returns-in_ok-text_of-in-Why : goal.returns-in_ok-text_of-in-Why
returns-in_ok-text_of-in-Why c =
    let s = c.args.flat.now in
    let q = c.args.question in
    text_told s c.args.lines.now q c.in-Why.why c.in_ok-text_of-in-Why.field-0
    (subst (λ (e : Explained). IsExplained s (inputs_of c.args.lines.now) q.output q.time e) c.in-Why.is c.in_ok-why.ensures) c.in_ok-text_of-in-Why.ensures
