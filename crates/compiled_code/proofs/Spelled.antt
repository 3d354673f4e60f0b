-- Compiled code has a spelling.
use Rattle.std.proofs.Common.{◌≡◌, ℕ, List, Option, Some, None, refl, IfSome}
use Rattle.trace_reader.proofs.JudgedLemmas.{only_input}
use Rattle.code_file.specs.Form.{IsName}
use Rattle.compiled_code.specs.Spelled.{CompiledCodeHasASpelling}
use Rattle.compiled_code.proofs.Named.{compiled_has_short_names}
use Rattle.compiled_code.proofs.Inputs.{compiled_has_named_inputs}
use Rattle.compiled_code.proofs.Updates.{compiled_has_few_updates}

if_named : (o : Option (List ℕ)) → ((name : List ℕ) → o ≡ Some name → IsName name) → IfSome o IsName
if_named None each = tt
if_named (Some name) each = each name refl

pub compiled_code_has_a_spelling : CompiledCodeHasASpelling
compiled_code_has_a_spelling source items u compiled =
    let names = compiled_has_short_names source items u compiled in
    let inputs = compiled_has_named_inputs source items u compiled in
    record {
      named = λ i e is. if_named e.name (λ name named. names.equations i e name is.is named);
      inputs_named = λ i e is. inputs.named i e is.is (only_input e.op is.input);
      inputs_differ = λ i j e f is there same. inputs.differ i j e f is.is there.is (only_input e.op is.input) (only_input f.op there.input) same;
      outputs_named = names.outputs;
      few_updates = compiled_has_few_updates source items u compiled;
    }
