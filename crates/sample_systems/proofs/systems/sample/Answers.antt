use Rattle.std.proofs.Common.{[], ◌∷◌, ◌++◌, ap, ◌∙◌}
use Rattle.flat_core.specs.declared.equation.Output.{Output}
use Rattle.flat_core.specs.System.{System}
use Rattle.sample_systems.specs.Systems.{sample_equations}
use Rattle.tsl_value.proofs.Lists.{one_more}
use Rattle.sample_systems.proofs.SampleLemmas.{sample_complete}
use Rattle.sample_systems.proofs.systems.sample.Goals as goal

pub loop-n-preserved : goal.loop-n-preserved
loop-n-preserved c = record {
  equations =
      one_more sample_equations c.loop-n.n c.in_ok-sample_equation.field-0 c.loop-n.builder.equations c.add.new.self.equations
      c.in_ok-sample_equation.ensures c.loop-n.invariant.equations (ap (λ (b : System). b.equations) c.in_ok-add.ensures.after);
  outputs = ap (λ (b : System). b.outputs) c.in_ok-add.ensures.after ∙ c.loop-n.invariant.outputs;
}

pub finish-requires : goal.finish-requires
finish-requires c =
    let o : Output = record { name = c.in_ok-from_str.field-0; equation = c.new.result } in
    let same = c.in_ok-add_output.ensures in
    sample_complete c.add_output.new.self c.loop-n.n o c.loop-n-test.false (ap (λ (b : System). b.equations) same ∙ c.loop-n.invariant.equations) (ap (λ (b : System). b.outputs) same ∙ ap (λ os. os ++ o ∷ []) c.loop-n.invariant.outputs) c.new.ensures
