use Rattle.std.proofs.Common.{◌+◌, ◌<◌, [], append-nil, length, drop, sym, ap, arith}
use Rattle.std.proofs.lemmas.Grind.{common_steps}
use Rattle.std.proofs.lemmas.Result.{err_from_is_err_and}
use Rattle.tsl_value.proofs.Results.{on_err}
use Rattle.stream_constructs.specs.Equations.{held, held_each}
use Rattle.tsl_value.proofs.Lists.{left_at}
use Rattle.stream_constructs.proofs.Steps.{refused_later}
use Rattle.stream_constructs.proofs.Partly.{has_later, has_made}
use Rattle.stream_constructs.proofs.maker.Maker.hold_each.Goals as goal

pub returns-in_err-stream-clause-refused : goal.returns-in_err-stream-clause-refused
returns-in_err-stream-clause-refused c =
    let p = err_from_is_err_and c.from_residual.result c.from_residual.ensures.1 in
    let parts = c.args.parts.now in
    let i = c.loop-part.part-index in
    let n = length c.loop-part.self.equations in
    let lt : i < length parts = omega arith in
    let here = left_at parts i c.part-item.result lt c.part-item.is in
    refused_later c.from_residual.result p.0 _ c.loop-part.self c.args.self.now (held c.args.place n c.args.trigger c.part-item.result) (held_each c.args.place (n + 2) c.args.trigger (drop (i + 1) parts)) (held_each c.args.place n c.args.trigger (drop i parts)) _ p.1 p.2
    (ap (held_each c.args.place n c.args.trigger) (sym here)) c.loop-part.invariant.made c.in_err-stream.ensures.refused

pub returns-in_err-stream-clause-partly : goal.returns-in_err-stream-clause-partly
returns-in_err-stream-clause-partly c =
    let parts = c.args.parts.now in
    let i = c.loop-part.part-index in
    let n = length c.loop-part.self.equations in
    let lt : i < length parts = omega arith in
    let here = left_at parts i c.part-item.result lt c.part-item.is in
    on_err _ (has_later c.args.self.now c.loop-part.self c.hold.new.self (held c.args.place n c.args.trigger c.part-item.result) (held_each c.args.place (n + 2) c.args.trigger (drop (i + 1) parts)) (held_each c.args.place n c.args.trigger (drop i parts)) _
    c.loop-part.invariant.begun (ap (held_each c.args.place n c.args.trigger) (sym here)) c.loop-part.invariant.made c.in_err-stream.ensures.partly)

pub returns-in_err-push-clause-partly : goal.returns-in_err-push-clause-partly
returns-in_err-push-clause-partly c =
    let parts = c.args.parts.now in
    let i = c.loop-part.part-index in
    let n = length c.loop-part.self.equations in
    let lt : i < length parts = omega arith in
    let here = left_at parts i c.part-item.result lt c.part-item.is in
    let own = held c.args.place n c.args.trigger c.part-item.result in
    on_err _ (has_later c.args.self.now c.loop-part.self c.hold.new.self own (held_each c.args.place (n + 2) c.args.trigger (drop (i + 1) parts)) (held_each c.args.place n c.args.trigger (drop i parts)) _
    c.loop-part.invariant.begun (ap (held_each c.args.place n c.args.trigger) (sym here)) c.loop-part.invariant.made (has_made c.loop-part.self c.hold.new.self own [] own (append-nil own) c.in_ok-stream.ensures.made))

pub loop-part-preserved : goal.loop-part-preserved
loop-part-preserved c =
    let parts = c.args.parts.now in
    let i = c.loop-part.part-index in
    let n = length c.loop-part.self.equations in
    let lt : i < length parts = omega arith in
    let here = left_at parts i c.part-item.result lt c.part-item.is in
    let own = held c.args.place n c.args.trigger c.part-item.result in record {
      made = grind (arith, common_steps);
      begun =
          has_later c.args.self.now c.loop-part.self c.hold.new.self own (held_each c.args.place (n + 2) c.args.trigger (drop (i + 1) parts)) (held_each c.args.place n c.args.trigger (drop i parts)) _
          c.loop-part.invariant.begun (ap (held_each c.args.place n c.args.trigger) (sym here)) c.loop-part.invariant.made (has_made c.loop-part.self c.hold.new.self own [] own (append-nil own) c.in_ok-stream.ensures.made);
      streams = grind (arith, common_steps);
    }
