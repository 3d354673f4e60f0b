use Rattle.std.proofs.Common.{[], ◌∷◌, ◌++◌, ap, ◌∙◌}
use Rattle.flat_core.specs.declared.equation.Output.{Output}
use Rattle.flat_core.specs.System.{System}
use Rattle.tsl_value.proofs.Lists.{one_more}
use Rattle.flat_tests.specs.Small.{small_equations}
use Rattle.flat_tests.proofs.SmallLemmas.{small_complete}
use Rattle.flat_tests.proofs.tests.small_system.small_system.Goals as goal

pub loop-n-preserved : goal.loop-n-preserved
loop-n-preserved c = record {
  equations =
      one_more small_equations c.loop-n.n c.in_ok-small_equation.field-0 c.loop-n.builder.equations c.add.new.self.equations
      c.in_ok-small_equation.ensures c.loop-n.invariant.equations (ap (λ (b : System). b.equations) c.in_ok-add.ensures.after);
  outputs = ap (λ (b : System). b.outputs) c.in_ok-add.ensures.after ∙ c.loop-n.invariant.outputs;
}

pub finish-requires : goal.finish-requires
finish-requires c =
    let p : Output = record { name = c.in_ok-from_str.field-0; equation = c.new.result } in
    let d : Output = record { name = c.in_ok-from_str-2.field-0; equation = c.new-2.result } in
    let first = c.in_ok-add_output.ensures in
    let second = c.in_ok-add_output-2.ensures in
    let equations = ap (λ (b : System). b.equations) second ∙ ap (λ (b : System). b.equations) first ∙ c.loop-n.invariant.equations in
    let outputs = ap (λ (b : System). b.outputs) first ∙ ap (λ os. os ++ p ∷ []) c.loop-n.invariant.outputs in
    small_complete c.add_output-2.new.self c.loop-n.n p d c.loop-n-test.false equations (ap (λ (b : System). b.outputs) second ∙ ap (λ os. os ++ d ∷ []) outputs)
    c.new.ensures c.new-2.ensures c.in_ok-from_str.ensures c.in_ok-from_str-2.ensures
