use Rattle.std.proofs.Common.{◌∙◌}
use Rattle.trace_monitor.specs.inner.Kept.{events_of}
use Rattle.trace_monitor.proofs.Taking.{if_err, on_both, on_ok, taken_line}
use Rattle.trace_monitor.proofs.Waiting.{can_come, memory_names, saves_line, still_line}
use Rattle.trace_monitor.proofs.monitor.take_line.Goals as goal

pub give-requires-clause-going : goal.give-requires-clause-going
give-requires-clause-going c = c.in_default.ensures.any.going

pub give-requires-clause-takes : goal.give-requires-clause-takes
give-requires-clause-takes c = can_come c.args.engine.now c.run_below.new.engine c.args.line c.requires.can_save c.requires.may c.in_default.ensures.any

pub returns-clause-can_save : goal.returns-clause-can_save
returns-clause-can_save c =
    on_ok c.give.result _ _ (saves_line c.args.engine.now c.run_below.new.engine c.args.line c.requires.can_save c.requires.may c.in_default.ensures.any c.give.new.engine) c.give.ensures.any

pub returns-clause-bound : goal.returns-clause-bound
returns-clause-bound c = on_ok c.give.result _ _ (λ set. set.bound ∙ c.in_default.ensures.any.as_set.bound) c.give.ensures.as_set

pub returns-clause-limit : goal.returns-clause-limit
returns-clause-limit c = on_ok c.give.result _ _ (λ set. set.limit ∙ c.in_default.ensures.any.as_set.limit) c.give.ensures.as_set

pub returns-clause-still_open : goal.returns-clause-still_open
returns-clause-still_open c =
    on_ok c.give.result _ _ (still_line c.args.engine.now c.run_below.new.engine c.args.line c.requires.can_save c.requires.may c.in_default.ensures.any c.give.new.engine) c.give.ensures.any

pub returns-clause-named : goal.returns-clause-named
returns-clause-named c = if_err c.give.result _ _ (memory_names c.args.engine.now.system) c.give.ensures.stop

pub returns-clause-taken : goal.returns-clause-taken
returns-clause-taken c =
    let set = c.give.ensures.as_set in
    on_both c.give.result _ _ _ (λ given same lines text has. taken_line c.args.engine.now c.run_below.new.engine c.give.new.engine lines c.args.line text c.args.out.now c.run_below.new.out
    (c.in_default.ensures.runs (events_of lines) text has.written) given same) c.give.ensures.given set
