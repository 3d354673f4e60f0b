use Rattle.gate_circuits.proofs.Adding.{added_none, added_more, added_there, added_from}
use Rattle.gate_circuits.proofs.marks.Marks.add_each.Goals as goal

pub loop-number-init : goal.loop-number-init
loop-number-init c = added_none c.args.numbers.now c.args.self.now

pub loop-number-preserved : goal.loop-number-preserved
loop-number-preserved c = added_more c.args.numbers.now c.args.self.now c.loop-number.self c.add.new.self c.loop-number.number-index c.loop-number-test.true c.loop-number.invariant c.add.ensures.room c.add.ensures.here c.add.ensures.others

pub returns : goal.returns
returns c = record {
  room = c.loop-number.invariant.room;
  kept = c.loop-number.invariant.kept;
  there = added_there c.args.numbers.now c.args.self.now c.loop-number.self c.loop-number.number-index c.loop-number-test.false c.loop-number.invariant;
  from = added_from c.args.numbers.now c.args.self.now c.loop-number.self c.loop-number.number-index c.loop-number-test.false c.loop-number.invariant;
}
