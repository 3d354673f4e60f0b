-- How the parts of a code file stand to each other.
use Rattle.std.specs.Prelude.{◌≡◌, ◌<◌, ◌≤◌, ◌&&◌, ℕ, Bool, nat_le, nat_lt, List, [], Some, length, IsTrue}
use Rattle.std.specs.List.{AllByRecursion, list_all}
use Rattle.flat_core.specs.declared.equation.Equation.{Equation}
use Rattle.flat_core.specs.Complete.{HaveDifferentNames}
use Rattle.flat_core.specs.System.{System, OutputsRun, runs}
use Rattle.flat_core.specs.Updates.{is_running_update, running_updates}
use Rattle.alias_rules.specs.Steps.{is_step}
use Rattle.register_code.specs.Code.{Code}
use Rattle.stream_constructs.specs.declared.limits.TheConstants.{MOST_UPDATES}
use Rattle.code_file.specs.Form.{IsInput}
use Rattle.code_reader.specs.inner.Names.{are_apart, input_names, output_names}

-- all inputs have names, and no two of them the same
pub record HasInputNames (s : System) : Type 0 where
  pub named : (i : ℕ) (e : Equation) → IsInput s i e → (name : List ℕ) × (e.name ≡ Some name)
  pub differ : (i j : ℕ) (e f : Equation) → IsInput s i e → IsInput s j f → e.name ≡ f.name → i ≡ j

-- an output, outputs that run, few updates that run, and a plan of running updates and of steps
pub record IsSound (c : Code) : Type 0 where
  pub few_updates : length (running_updates c.system) ≤ MOST_UPDATES
  pub some_output : 0 < length c.system.outputs
  pub outputs_run : OutputsRun c.system
  pub updates : AllByRecursion (λ i. IsTrue (is_running_update c.system i)) c.in_place
  pub steps : AllByRecursion (λ x. IsTrue (is_step c.system x)) c.order

-- all of it
pub record IsJoined (c : Code) : Type 0 where
  pub sound : IsSound c
  pub inputs : HasInputNames c.system
  pub outputs : HaveDifferentNames c.system.outputs

-- ---- the same as tests

abbrev pub run : Code → Bool
run c =
    list_all (λ o. runs c.system o.equation) c.system.outputs
    && (list_all (is_running_update c.system) c.in_place && list_all (is_step c.system) c.order)

abbrev pub is_sound : Code → Bool
is_sound c = nat_lt 0 (length c.system.outputs) && (nat_le (length (running_updates c.system)) MOST_UPDATES && run c)

abbrev pub is_joined : Code → Bool
is_joined c = is_sound c && (are_apart [] (input_names c.system.equations) && are_apart [] (output_names c.system.outputs))
