use Rattle.std.proofs.lemmas.Bool.{both_ways}
use Rattle.gate_circuits.specs.inner.Marks.{has}
use Rattle.gate_circuits.proofs.knowledge.Knowledge.start.Goals as goal

pub returns : goal.returns
returns c b h leaves on =
    c.close.ensures leaves (c.learn_inputs.ensures leaves (c.learn.ensures leaves (λ x none. absurd (both_ways (has c.in_ok-known.known x) (c.in_ok-known.ensures.none x) none)) on) on) b h
