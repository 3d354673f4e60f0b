use Rattle.std.proofs.Common.{rules, ◌≡◌, ◌++◌, ℕ, false, List, Option, Result, IfOk, subst}
use Rattle.tsl_value.specs.declared.memory.NoMemory.{NoMemory}
use Rattle.trace_monitor.specs.declared.ending.RunEnding.{RunEnding}
use Rattle.trace_monitor.specs.Due.{IsDue}
use Rattle.trace_monitor.specs.inner.Kept.{Kept}
use Rattle.trace_monitor.specs.Next.{EndsSo, is_nothing}
use Rattle.trace_monitor.specs.inner.State.{State}
use Rattle.trace_monitor.proofs.Advancing.{begun_at, counted_after, counted_from, due_after, kept_after, next_after, next_due, ran_on, stopped_on, text_due}
use Rattle.flat_core.specs.System.{IsProper, System}
use Rattle.trace_monitor.proofs.Waiting.{begins_in_step, done_at_end, fault_there, one_system, waits_again}
use Rattle.trace_monitor.proofs.Taking.{if_ok, on_if_ok, on_kept}
use Rattle.trace_monitor.proofs.monitor.TraceMonitor.advance.Goals as goal

pub run_all-halted-requires : goal.run_all-halted-requires
run_all-halted-requires c =
    let at : State = record { system = c.self.inside.code.now.system; options = c.self.inside.options; reader = c.self.inside.reader; last = c.self.inside.last; engine = c.self.inside.engine } in
    begins_in_step c.args.self.now c.feed.new.self at c.args.piece.now c.requires.waits c.self.view_is c.in_ok-feed.ensures.rest c.in_ok-feed.ensures.any

pub conclude-ending-requires : goal.conclude-ending-requires
conclude-ending-requires c =
    let at : State = record { system = c.self.inside.code.now.system; options = c.self.inside.options; reader = c.self.inside.reader; last = c.self.inside.last; engine = c.self.inside.engine } in
    let step = begins_in_step c.args.self.now c.feed.new.self at c.args.piece.now c.requires.waits c.self.view_is c.in_ok-feed.ensures.rest c.in_ok-feed.ensures.any in
    let one = one_system c.args.self.now c.feed.new.self at c.args.piece.now c.requires.waits c.self.view_is c.in_ok-feed.ensures.rest c.in_ok-feed.ensures.any in
    let ready = c.instants.ensures.ready step.can_save.going in
    fault_there c.args.self.now c.feed.new.self at c.args.piece.now c.requires.waits c.self.view_is c.in_ok-feed.ensures.rest c.in_ok-feed.ensures.any
    c.run_all-halted.new.reader c.run_all-halted.new.engine c.run_all-halted.new.last c.run_all-halted.result c.run_all-halted.ensures.halts
    (subst (λ (s : System). IsProper s) one ready.whole.proper) c.run_all-halted.ensures.named

pub returns-clause-goes_on : goal.returns-clause-goes_on
returns-clause-goes_on c = λ is.
    let at : State = record { system = c.self.inside.code.now.system; options = c.self.inside.options; reader = c.self.inside.reader; last = c.self.inside.last; engine = c.self.inside.engine } in
    waits_again c.args.self.now c.feed.new.self at c.args.piece.now c.requires.waits c.self.view_is c.in_ok-feed.ensures.rest c.in_ok-feed.ensures.any
    c.run_all-halted.new.reader c.run_all-halted.new.engine c.run_all-halted.new.last c.run_all-halted.result c.run_all-halted.ensures.halts
    c.run_all-halted.ensures.in_step c.run_all-halted.ensures.limit c.run_all-halted.ensures.as_set
    (subst (λ (answer : Result (Option RunEnding) NoMemory). IfOk answer (EndsSo c.self.inside.code.now.system c.run_all-halted.result)) is c.conclude-ending.ensures)

pub returns-clause-done : goal.returns-clause-done
returns-clause-done c = λ is.
    let at : State = record { system = c.self.inside.code.now.system; options = c.self.inside.options; reader = c.self.inside.reader; last = c.self.inside.last; engine = c.self.inside.engine } in
    done_at_end c.args.self.now c.feed.new.self at c.args.piece.now c.requires.waits c.self.view_is c.in_ok-feed.ensures.rest c.in_ok-feed.ensures.any
    c.run_all-halted.new.reader c.run_all-halted.new.engine c.run_all-halted.new.last c.run_all-halted.result c.run_all-halted.ensures.halts
    (subst (λ (answer : Result (Option RunEnding) NoMemory). IfOk answer (EndsSo c.self.inside.code.now.system c.run_all-halted.result)) is c.conclude-ending.ensures)

pub returns-clause-kept : goal.returns-clause-kept
returns-clause-kept c = λ fed kept is.
    let m = c.args.self.now in
    let piece = c.args.piece.now in
    let at : State = record { system = c.self.inside.code.now.system; options = c.self.inside.options; reader = c.self.inside.reader; last = c.self.inside.last; engine = c.self.inside.engine } in
    let begun = begun_at m c.feed.new.self at fed piece kept c.self.view_is c.in_ok-feed.ensures.rest (c.in_ok-feed.ensures.fed fed kept.lines kept.reads) in
    let ready = c.instants.ensures.ready begun.read.has.written.stands.going in
    let until : c.unwrap-until.result ≡ c.self.inside.options.until = search rules in
    let halted = c.run_all-halted.result in
    let r = c.run_all-halted.new.reader in
    let e = c.run_all-halted.new.engine in
    let last = c.run_all-halted.new.last in
    let after = c.run_all-halted.new.out in
    let ran = ran_on at (fed ++ piece) (is_nothing piece) kept.lines kept.text begun ready r e last after halted c.unwrap-until.result c.truncate.new.self c.run_all-halted.ensures.run until c.truncate.ensures in
    kept_after at (fed ++ piece) (is_nothing piece) kept.lines kept.text begun ready r e last after halted ran
    (waits_again m c.feed.new.self at piece c.requires.waits c.self.view_is c.in_ok-feed.ensures.rest c.in_ok-feed.ensures.any r e last halted c.run_all-halted.ensures.halts
    c.run_all-halted.ensures.in_step c.run_all-halted.ensures.limit c.run_all-halted.ensures.as_set
    (subst (λ (answer : Result (Option RunEnding) NoMemory). IfOk answer (EndsSo c.self.inside.code.now.system halted)) is c.conclude-ending.ensures)).waits
    (subst (λ (answer : Result (Option RunEnding) NoMemory). IfOk answer (EndsSo c.self.inside.code.now.system halted)) is c.conclude-ending.ensures)

pub returns-clause-text : goal.returns-clause-text
returns-clause-text c = on_kept c.conclude-ending.result
    (λ (new : List ℕ). (fed text : List ℕ) → Kept c.args.self.now fed → IsDue c.args.self.now.system c.args.self.now.options fed false text
    → IsDue c.args.self.now.system c.args.self.now.options (fed ++ c.args.piece.now) (is_nothing c.args.piece.now) (text ++ new))
    c.run_all-halted.new.out c.clear_if_err.new.text c.clear_if_err.ensures (on_if_ok c.conclude-ending.result _ _ (λ answer ends fed text kept before.
    let m = c.args.self.now in
    let piece = c.args.piece.now in
    let at : State = record { system = c.self.inside.code.now.system; options = c.self.inside.options; reader = c.self.inside.reader; last = c.self.inside.last; engine = c.self.inside.engine } in
    let begun = begun_at m c.feed.new.self at fed piece kept c.self.view_is c.in_ok-feed.ensures.rest (c.in_ok-feed.ensures.fed fed kept.lines kept.reads) in
    let ready = c.instants.ensures.ready begun.read.has.written.stands.going in
    let until : c.unwrap-until.result ≡ c.self.inside.options.until = search rules in
    let halted = c.run_all-halted.result in
    let r = c.run_all-halted.new.reader in
    let e = c.run_all-halted.new.engine in
    let last = c.run_all-halted.new.last in
    let after = c.run_all-halted.new.out in
    let ran = ran_on at (fed ++ piece) (is_nothing piece) kept.lines kept.text begun ready r e last after halted c.unwrap-until.result c.truncate.new.self c.run_all-halted.ensures.run until c.truncate.ensures in
    let stopped = stopped_on at (fed ++ piece) (is_nothing piece) kept.lines kept.text begun ready r e last after halted c.unwrap-until.result c.truncate.new.self c.run_all-halted.ensures.stops until c.truncate.ensures in
    text_due m c.feed.new.self at fed (fed ++ piece) (is_nothing piece) kept text after c.self.view_is c.in_ok-feed.ensures.rest before
    (due_after at (fed ++ piece) (is_nothing piece) kept.lines kept.text begun ready r e last after halted answer ran stopped ends)) c.conclude-ending.ensures)

pub returns-clause-ending : goal.returns-clause-ending
returns-clause-ending c = if_ok c.conclude-ending.result _ _ (λ answer ends fed kept.
    let m = c.args.self.now in
    let piece = c.args.piece.now in
    let at : State = record { system = c.self.inside.code.now.system; options = c.self.inside.options; reader = c.self.inside.reader; last = c.self.inside.last; engine = c.self.inside.engine } in
    let begun = begun_at m c.feed.new.self at fed piece kept c.self.view_is c.in_ok-feed.ensures.rest (c.in_ok-feed.ensures.fed fed kept.lines kept.reads) in
    let ready = c.instants.ensures.ready begun.read.has.written.stands.going in
    let until : c.unwrap-until.result ≡ c.self.inside.options.until = search rules in
    let halted = c.run_all-halted.result in
    let r = c.run_all-halted.new.reader in
    let e = c.run_all-halted.new.engine in
    let last = c.run_all-halted.new.last in
    let after = c.run_all-halted.new.out in
    let ran = ran_on at (fed ++ piece) (is_nothing piece) kept.lines kept.text begun ready r e last after halted c.unwrap-until.result c.truncate.new.self c.run_all-halted.ensures.run until c.truncate.ensures in
    let stopped = stopped_on at (fed ++ piece) (is_nothing piece) kept.lines kept.text begun ready r e last after halted c.unwrap-until.result c.truncate.new.self c.run_all-halted.ensures.stops until c.truncate.ensures in
    next_due m c.feed.new.self at (fed ++ piece) (is_nothing piece) answer c.self.view_is c.in_ok-feed.ensures.rest
    (next_after at (fed ++ piece) (is_nothing piece) kept.lines kept.text begun ready r e last after halted answer ran stopped ends)) c.conclude-ending.ensures

pub returns-clause-counted : goal.returns-clause-counted
returns-clause-counted c = λ fed how kept is.
    let m = c.args.self.now in
    let piece = c.args.piece.now in
    let at : State = record { system = c.self.inside.code.now.system; options = c.self.inside.options; reader = c.self.inside.reader; last = c.self.inside.last; engine = c.self.inside.engine } in
    let begun = begun_at m c.feed.new.self at fed piece kept c.self.view_is c.in_ok-feed.ensures.rest (c.in_ok-feed.ensures.fed fed kept.lines kept.reads) in
    let ready = c.instants.ensures.ready begun.read.has.written.stands.going in
    let until : c.unwrap-until.result ≡ c.self.inside.options.until = search rules in
    let halted = c.run_all-halted.result in
    let r = c.run_all-halted.new.reader in
    let e = c.run_all-halted.new.engine in
    let last = c.run_all-halted.new.last in
    let after = c.run_all-halted.new.out in
    let ran = ran_on at (fed ++ piece) (is_nothing piece) kept.lines kept.text begun ready r e last after halted c.unwrap-until.result c.truncate.new.self c.run_all-halted.ensures.run until c.truncate.ensures in
    let stopped = stopped_on at (fed ++ piece) (is_nothing piece) kept.lines kept.text begun ready r e last after halted c.unwrap-until.result c.truncate.new.self c.run_all-halted.ensures.stops until c.truncate.ensures in
    counted_from m c.feed.new.self at (fed ++ piece) (is_nothing piece) e how c.self.view_is c.in_ok-feed.ensures.rest
    (counted_after at (fed ++ piece) (is_nothing piece) kept.lines kept.text begun ready r e last after halted how ran stopped
    (subst (λ (answer : Result (Option RunEnding) NoMemory). IfOk answer (EndsSo c.self.inside.code.now.system halted)) is c.conclude-ending.ensures))
