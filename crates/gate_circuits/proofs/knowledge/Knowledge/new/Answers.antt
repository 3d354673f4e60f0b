use Rattle.std.proofs.Common.{ℕ, ◌<◌, sym, subst}
use Rattle.gate_circuits.proofs.Gates.{never_on}
use Rattle.gate_circuits.proofs.knowledge.Knowledge.new.Goals as goal

pub invariant_of-result : goal.invariant_of-result
invariant_of-result c = record {
  never = never_on c.args.circuit c.in_ok-all.all c.in_ok-possible.possible (λ y low. c.in_ok-all.ensures y (subst (λ (n : ℕ). y < n) (sym c.len-count.ensures) low)) c.in_ok-possible.ensures;
  sound = c.in_ok-rows.ensures c.args.circuit;
}
