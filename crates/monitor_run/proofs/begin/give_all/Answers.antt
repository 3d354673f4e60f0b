use Rattle.std.proofs.Common.{subst, length}
use Rattle.monitor_run.specs.inner.Given.{AreThere}
use Rattle.monitor_run.proofs.BeginLemmas.{AreMoving, front_there, last_there, moved-length, moving-one}
use Rattle.monitor_run.proofs.begin.give_all.Goals as goal

pub loop-line-preserved : goal.loop-line-preserved
loop-line-preserved c =
    let there = subst (AreThere (length c.loop-line.registers)) c.in-Some.ensures.items c.loop-line.invariant.there in
    record {
      moving =
          rw c.give_one.ensures.moved (moving-one c.args.given.now.items c.pop.new.self.items c.in-Some.line c.args.registers.now c.loop-line.registers
          (subst (λ ls. AreMoving c.args.given.now.items ls c.args.registers.now c.loop-line.registers) c.in-Some.ensures.items c.loop-line.invariant.moving) (last_there (length c.loop-line.registers) c.pop.new.self.items c.in-Some.line there));
      there = rw (c.give_one.ensures.moved, moved-length) (front_there (length c.loop-line.registers) c.pop.new.self.items c.in-Some.line there);
      filled_are = λ going was. c.in_ok-give_one.ensures.filled going (c.loop-line.invariant.filled_are going was);
    }
