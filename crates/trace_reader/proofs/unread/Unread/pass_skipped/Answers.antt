use Rattle.std.proofs.Common.{◌+◌, arith, length-drop}
use Rattle.trace_reader.specs.inner.Reader.{Passes}
use Rattle.trace_reader.proofs.unread.Unread.pass_skipped.Goals as goal

pub loop-len-init : goal.loop-len-init
loop-len-init c = (Passes.none, omega arith)

pub loop-len-preserved : goal.loop-len-preserved
loop-len-preserved c =
    let it = c.loop-len.invariant in
    let fewer = it.1 in
    let some = c.in-Some.ensures.some in
    let within = c.in-Some.ensures.within in
    let rest = length-drop (c.in-Some.len + 1) c.loop-len.self in
    rw (c.skip_line.ensures, c.skipped_len.ensures.same) (Passes.more c.in-Some.len it.0 c.in-Some.ensures.line c.in-Some.ensures.skipped, omega arith)

pub returns-clause-stops : goal.returns-clause-stops
returns-clause-stops c = rw c.skipped_len.ensures.same c.in_default.ensures.none
