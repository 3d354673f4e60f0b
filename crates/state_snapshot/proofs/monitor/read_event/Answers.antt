use Rattle.std.proofs.Common.{sym, arith}
use Rattle.state_snapshot.proofs.RunFields.{number_fits}
use Rattle.state_snapshot.proofs.monitor.read_event.Goals as goal

pub overflow_cast-number : goal.overflow_cast-number
overflow_cast-number c = omega (arith, number_fits c.args.flat.now c.in_ok-number.number c.in-Some.of c.assert_whole.ensures.is_flat (sym c.in-Some.ensures))
