use Rattle.std.proofs.Common.{subst}
use Rattle.trace_run.specs.Starts.{CanStart}
use Rattle.trace_run.proofs.Starting.{new_made, resumed_made}
use Rattle.trace_run.proofs.run.monitor_of.Goals as goal

pub new-requires-clause-some : goal.new-requires-clause-some
new-requires-clause-some c = (subst (CanStart c.args.code.now) c.in-Anew.is c.requires.starts).some_bytes

pub new-requires-clause-few : goal.new-requires-clause-few
new-requires-clause-few c = (subst (CanStart c.args.code.now) c.in-Anew.is c.requires.starts).few_bytes

pub new-requires-clause-instants : goal.new-requires-clause-instants
new-requires-clause-instants c = (subst (CanStart c.args.code.now) c.in-Anew.is c.requires.starts).some_instants

pub new-requires-clause-until : goal.new-requires-clause-until
new-requires-clause-until c = (subst (CanStart c.args.code.now) c.in-Anew.is c.requires.starts).until

pub returns-in-Anew : goal.returns-in-Anew
returns-in-Anew c =
    new_made c.args.code.now c.args.start c.new.result c.new.ensures.system c.new.ensures.in_place c.new.ensures.order c.in-Anew.options c.in-Anew.is c.requires.ready c.requires.starts c.new.ensures.kept c.new.ensures.options

pub from_state-requires-clause-fits : goal.from_state-requires-clause-fits
from_state-requires-clause-fits c = (subst (CanStart c.args.code.now) c.in-Resumed.is c.requires.starts).1

pub from_state-requires-clause-until : goal.from_state-requires-clause-until
from_state-requires-clause-until c = (subst (CanStart c.args.code.now) c.in-Resumed.is c.requires.starts).0

pub returns-in-Resumed : goal.returns-in-Resumed
returns-in-Resumed c =
    resumed_made c.args.code.now c.args.start c.from_state.result c.from_state.ensures.system c.from_state.ensures.in_place c.from_state.ensures.order c.in-Resumed.until c.in-Resumed.state c.in-Resumed.is c.requires.starts
    c.from_state.ensures.state c.from_state.ensures.waits c.from_state.ensures.kept c.from_state.ensures.until
