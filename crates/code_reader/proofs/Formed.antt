-- The form of a code file is what reading tells of its parts, and how they stand to each other.
use Rattle.std.proofs.Common.{List, [], ◌∷◌}
use Rattle.std.specs.List.{AllByRecursion}
use Rattle.std.specs.List.Sorted.{IsStrictlyIncreasing}
use Rattle.flat_core.specs.declared.equation.Output.{Output}
use Rattle.register_code.specs.Code.{Code}
use Rattle.code_file.specs.Form.{IsForm, IsName}
use Rattle.code_reader.specs.inner.Joined.{IsJoined}
use Rattle.code_reader.proofs.TakenEntries.{IsOutput}
use Rattle.code_reader.proofs.TakenWhole.{IsRead}

outputs_named : (os : List Output) → AllByRecursion IsOutput os → AllByRecursion (λ o. IsName o.name) os
outputs_named [] are = tt
outputs_named (o ∷ os) are = (are.0.0, outputs_named os are.1)

pub form_from : (c : Code) → IsRead c → IsStrictlyIncreasing c.in_place → IsJoined c → IsForm c
form_from c read rises joined = record {
  few_equations = read.few_equations;
  running = read.running;
  running_there = read.running_there;
  equations = λ i e it. (read.equations i e it).0;
  spelled = record {
    named = λ i e it. (read.equations i e it).1;
    inputs_named = joined.inputs.named;
    inputs_differ = joined.inputs.differ;
    outputs_named = outputs_named c.system.outputs read.outputs;
    few_updates = joined.sound.few_updates;
  };
  some_output = joined.sound.some_output;
  few_outputs = read.few_outputs;
  names_differ = joined.outputs;
  outputs_run = joined.sound.outputs_run;
  ascending = rises;
  updates = joined.sound.updates;
  steps = joined.sound.steps;
  few_steps = read.few_steps;
}

pub joined_of : (c : Code) → IsForm c → IsJoined c
joined_of c form = record {
  sound = record {
    few_updates = form.spelled.few_updates;
    some_output = form.some_output;
    outputs_run = form.outputs_run;
    updates = form.updates;
    steps = form.steps;
  };
  inputs = record { named = form.spelled.inputs_named; differ = form.spelled.inputs_differ };
  outputs = form.names_differ;
}
