use Rattle.std.proofs.Common.{◌++◌}
use Rattle.std.proofs.lemmas.Result.{on_ok_weaker}
use Rattle.trace_monitor.specs.Next.{is_nothing}
use Rattle.trace_why.proofs.Gathering.{gathered, never_memory, other_fault}
use Rattle.trace_why.proofs.gather.gather.Goals as goal

pub returns-in-Ok : goal.returns-in-Ok
returns-in-Ok c = λ s strict limit fed reads.
    let bytes = fed ++ c.args.piece.now in
    let ended = is_nothing c.args.piece.now in
    let before = c.args.lines.now.items in
    gathered c.read_all.new.self s strict limit bytes ended before c.read_all.new.lines.items c.read_all.result
    (never_memory c.read_all.result c.in-Ok.field-0 c.in-Ok.is)
    (c.read_all.ensures.gathers s strict limit bytes before ended (c.in_ok-feed.ensures s strict limit fed before reads)) c.read_all.ensures.more

pub returns-in-Err : goal.returns-in-Err
returns-in-Err c = on_ok_weaker c.unless_memory.result (λ other s strict limit fed reads.
    let bytes = fed ++ c.args.piece.now in
    let ended = is_nothing c.args.piece.now in
    let before = c.args.lines.now.items in
    gathered c.read_all.new.self s strict limit bytes ended before c.read_all.new.lines.items c.read_all.result
    (other_fault c.read_all.result c.in-Err.fault c.in-Err.is other)
    (c.read_all.ensures.gathers s strict limit bytes before ended (c.in_ok-feed.ensures s strict limit fed before reads)) c.read_all.ensures.more) c.unless_memory.ensures
