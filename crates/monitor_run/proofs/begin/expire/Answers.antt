use Rattle.std.proofs.Common.{sym, subst, ap, ◌∙◌, length, arith, length-set, ◌≤◌, ◌<◌}
use Rattle.monitor_run.proofs.BeginLemmas.{expiring-one, fewer, filled_put}
use Rattle.monitor_run.proofs.begin.expire.Goals as goal

pub loop-delay-preserved : goal.loop-delay-preserved
loop-delay-preserved c =
    let there : c.new.result < length c.loop-delay.registers = (let b = c.in-Some.ensures.bounded in let room = c.loop-delay.invariant.room in omega (arith, c.new.ensures)) in
    record {
      each =
          rw (c.fill.ensures.put, c.new.ensures) (expiring-one c.args.time c.in-Some.delay c.args.timers.now.times c.loop-delay.timers.times c.take_due.new.self.times c.args.registers.now c.loop-delay.registers
          (ap (λ p. p.times) c.in-Some.ensures.taken) c.in-Some.ensures.due.is_due (let b = c.in-Some.ensures.bounded in let room = c.loop-delay.invariant.room in omega arith) c.loop-delay.invariant.each);
      capacity = ap (λ p. p.capacity) c.in-Some.ensures.taken ∙ c.loop-delay.invariant.capacity;
      room = rw (c.fill.ensures.put, length-set) (subst (λ n. n ≤ length c.loop-delay.registers) (sym (ap (λ p. p.capacity) c.in-Some.ensures.taken)) c.loop-delay.invariant.room);
      filled_are = λ going was. rw (c.fill.ensures.put, c.in_ok-fill.ensures.listed going) (filled_put _ _ _ _ there (c.loop-delay.invariant.filled_are going was));
    }

pub loop-delay-smaller : goal.loop-delay-smaller
loop-delay-smaller c = fewer c.loop-delay.timers.times c.take_due.new.self.times c.in-Some.delay c.args.time (ap (λ p. p.times) c.in-Some.ensures.taken) c.in-Some.ensures.due.is_due
