use Rattle.std.proofs.Common.{sym, subst}
use Rattle.trigger_circuits.specs.inner.Circuits.{IsCircuitOf}
use Rattle.trigger_formulas.proofs.side.Side.of.Goals as goal

pub returns : goal.returns
returns c = record {
  met_each = c.in_ok-met.ensures.one_each;
  met_are = λ x low. c.in_ok-met.ensures.exact x (c.requires.ordered.all x low);
  circuit_of = subst (λ l. IsCircuitOf c.args.at_zero c.args.rules.now c.args.starts.now l c.in_ok-formulas.formulas.gates.items) (sym c.in_ok-implied.ensures) c.in_ok-formulas.ensures;
}
