use Rattle.std.proofs.Common.{refl}
use Rattle.gate_circuits.proofs.Turns.{divided_begin}
use Rattle.gate_circuits.proofs.knowledge.Knowledge.summands.Goals as goal

pub down-init : goal.down-init
down-init c =
    divided_begin c.args.self.now c.gates-gates.result.now c.args.sum _ c.in_ok-marked.marked c.add.new.self _ c.gates-gates.ensures.value refl c.in_ok-marked.ensures.room c.add.ensures.room c.new-summands.ensures.items c.in_ok-marked.ensures.none c.add.ensures.here c.add.ensures.others
