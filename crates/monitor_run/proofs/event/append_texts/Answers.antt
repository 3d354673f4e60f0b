use Rattle.std.proofs.Common.{◌<◌, [], length, ap, arith}
use Rattle.std.proofs.lemmas.List.{get_or_default}
use Rattle.std.specs.Prelude.{slice_set}
use Rattle.monitor_run.proofs.EventLemmas.{all_moved, begun, move_next, none_moved, on_err}
use Rattle.monitor_run.proofs.event.append_texts.Goals as goal

pub loop-output-init : goal.loop-output-init
loop-output-init c = none_moved c.args.texts.now c.args.out.now c.args.marked.now c.requires.size c.requires.unprinted

pub returns-in_err-append_text-clause-err : goal.returns-in_err-append_text-clause-err
returns-in_err-append_text-clause-err c =
    on_err c.from_residual.result _ (begun (λ x. x) c.args.texts.now c.loop-output.next c.args.out.now c.loop-output.out c.append_text.new.out c.in_err-append_text.ensures.err c.loop-output.invariant.so_far)

pub loop-output-preserved : goal.loop-output-preserved
loop-output-preserved c =
    let m = c.loop-output.invariant in
    let within = c.in-Some.ensures.within in
    let each = m.each in
    let size = m.size in
    let there : c.in-Some.output < length c.loop-output.texts = omega arith in
    move_next _ _ _ _ _ _ m c.in-Some.output within c.in-Some.ensures.least c.take_least.new.self c.in-Some.ensures.taken
    _ (get_or_default c.loop-output.texts c.in-Some.output c.index-texts-output.result [] there)
    c.append_text.new.out c.in_ok-append_text.ensures.ok _ (ap (slice_set c.loop-output.texts c.in-Some.output) c.in_ok-append_text.ensures.empty)

pub returns-clause-ok : goal.returns-clause-ok
returns-clause-ok c = (all_moved _ _ _ _ _ _ c.loop-output.invariant c.in_default.ensures.least).0

pub returns-clause-empty : goal.returns-clause-empty
returns-clause-empty c = (all_moved _ _ _ _ _ _ c.loop-output.invariant c.in_default.ensures.least).1
