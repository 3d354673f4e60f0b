use Rattle.std.proofs.Common.{Some, ap, sym, ◌∙◌, slice_get}
use Rattle.tsl_value.proofs.Lists.{one_more}
use Rattle.flat_core.specs.System.{System}
use Rattle.event_why.proofs.sliced.same_equations.Goals as goal

pub loop-n-preserved : goal.loop-n-preserved
loop-n-preserved c =
    let s = c.args.flat.now in
    let at = ap (slice_get s.equations) (sym c.new.ensures) ∙ c.equation.ensures ∙ ap Some (sym c.in_ok-copy.ensures) in
    record {
      equations =
          one_more s.equations c.loop-n.n c.in_ok-copy.field-0 c.loop-n.builder.equations c.add.new.self.equations
          at c.loop-n.invariant.equations (ap (λ (b : System). b.equations) c.in_ok-add.ensures.after);
      outputs = ap (λ (b : System). b.outputs) c.in_ok-add.ensures.after ∙ c.loop-n.invariant.outputs;
    }
