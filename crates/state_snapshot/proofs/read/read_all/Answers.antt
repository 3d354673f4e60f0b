use Rattle.std.proofs.Common.{arith}
use Rattle.state_snapshot.proofs.Fitting.{events_read}
use Rattle.state_snapshot.proofs.read.read_all.Goals as goal

pub if_fits-requires : goal.if_fits-requires
if_fits-requires c = events_read c.args.code.now.system c.args.bytes.now c.in_ok-state.state c.in_ok-state.rest.now (λ i. omega (arith, c.type_inv.bytes i)) c.in_ok-state.ensures
