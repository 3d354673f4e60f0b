-- A complete system of which the needed equations run.
use Rattle.std.proofs.Common.{◌≡◌, ◌↔◌, ℕ, ◌<◌, ◌≤◌, ◌^◌, List, [], ◌∷◌, length, Some, get_or, refl, sym, subst, arith}
use Rattle.std.specs.Prelude.{IsTrue, slice_get}
use Rattle.std.specs.List.{AllByRecursion, Contains}
use Rattle.std.specs.List.Sorted.{IsStrictlyIncreasing}
use Rattle.std.proofs.lemmas.List.Elements.{All-from_recursion}
use Rattle.std.proofs.lemmas.Option.{get_or_from_slice_get, slice_get-get_or, slice_get_within}
use Rattle.tsl_value.specs.declared.scalar.ValueType.{ValueType}
use Rattle.flat_core.specs.declared.equation.Op.{Op}
use Rattle.flat_core.specs.declared.equation.Equation.{Equation}
use Rattle.flat_core.specs.declared.equation.Output.{Output}
use Rattle.translation_order.specs.Graph.{stay}
use Rattle.flat_core.specs.Members.{is_in}
use Rattle.flat_core.specs.System.{System, equation, IsProper}
use Rattle.flat_core.specs.Typed.{IsTyped}
use Rattle.flat_core.specs.TypedSystem.{AreOfTypes, IsTypedEquation, IsTypedSystem, IsOfType}
use Rattle.flat_core.specs.Needed.{HasArgument, IsReached, RunsNeeded}
use Rattle.flat_core.specs.Complete.{IsComplete, IsFlat}
use Rattle.flat_core.specs.inner.Marks.{ArgumentsThere}
use Rattle.flat_core.proofs.Members.{all_from, all_at}
use Rattle.translation_order.proofs.PathLemmas.{walk_on, walk_keeps}
use Rattle.flat_core.specs.declared.limits.TheConstants.{MOST_EQUATIONS}

-- an equation that is there is of its own type
pub own_type : (equations : List Equation) (a : ℕ) (e : Equation) → slice_get equations a ≡ Some e → IsOfType equations a e.of
own_type equations a e is = record { at = e; is = is; of_is = refl }

pub typed_below : (equations : List Equation) (args : List ℕ) (types : List ValueType) → AreOfTypes equations args types → AllByRecursion (λ a. a < length equations) args
typed_below equations [] [] of = tt
typed_below equations (a ∷ args) (t ∷ types) of = (slice_get_within equations a of.0.at of.0.is, typed_below equations args types of.1)
typed_below equations [] (t ∷ types) of = absurd of
typed_below equations (a ∷ args) [] of = absurd of

-- the arguments of each equation of a typed system are there
pub typed_there : (s : System) → IsTypedSystem s → (i : ℕ) (e : Equation) → equation s i ≡ Some e → AllByRecursion (λ a. a < length s.equations) e.args
typed_there s typed i e is = let h = typed.each i e is in typed_below s.equations e.args h.types h.arguments

pub arguments_there : (s : System) → IsTypedSystem s → ArgumentsThere s.equations
arguments_there s typed k d lt =
    let e = get_or s.equations k d in
    All-from_recursion (λ a. a < length s.equations) e.args (typed_there s typed k e (slice_get-get_or s.equations k d lt))

-- an equation of a number below the count is there
pub equation_there : (equations : List Equation) (i : ℕ) → i < length equations → (e : Equation) × (slice_get equations i ≡ Some e)
equation_there [] i lt = absurd (omega arith)
equation_there (e ∷ equations) i lt = (get_or (e ∷ equations) i e, slice_get-get_or (e ∷ equations) i e lt)

module _ (b : System) (complete : IsComplete b) (running : List ℕ) (exact : (i : ℕ) → IsTrue (is_in running i) ↔ IsReached b.equations b.outputs i) where
  abbrev finished : System
  finished = record { equations = b.equations; outputs = b.outputs; running = running }

  output_runs : (o : Output) → Contains b.outputs o → IsTrue (is_in running o.equation)
  output_runs o printed = (exact o.equation).1 (record { output = o; printed = printed; walk = stay })

  argument_there : (i j : ℕ) → HasArgument b.equations i j → i < length b.equations → j < length b.equations
  argument_there i j step lt = all_at (λ a. a < length b.equations) step.at.args (typed_there b complete.typed i step.at step.is) j step.argument

  runs_there : (i : ℕ) → IsTrue (is_in running i) → i < length b.equations
  runs_there i h =
      let r = (exact i).0 h in
      walk_keeps (λ j. j < length b.equations) argument_there r.walk (all_at (λ o. o.equation < length b.equations) b.outputs complete.outputs_there r.output r.printed)

  argument_runs : (i : ℕ) → IsTrue (is_in running i) → (e : Equation) → equation b i ≡ Some e → AllByRecursion (λ a. IsTrue (is_in running a)) e.args
  argument_runs i h e is =
      let r = (exact i).0 h in
      all_from (λ a. IsTrue (is_in running a)) e.args (λ a there. (exact a).1 (record { output = r.output; printed = r.printed; walk = walk_on r.walk (record { at = e; is = is; argument = there }) }))

  finished_proper : IsProper finished
  finished_proper = record {
    runs_all = λ i h. let e = equation_there b.equations i (runs_there i h) in (e.0, e.1, argument_runs i h e.0 e.1);
  }

  pub finished_flat : length b.equations ≤ MOST_EQUATIONS → length b.outputs ≤ 2 ^ 31 → IsStrictlyIncreasing running → IsFlat finished
  finished_flat few_equations few_outputs ascending = record {
    complete = record {
      typed = record { each = complete.typed.each };
      some_output = complete.some_output;
      outputs_there = complete.outputs_there;
      names_differ = complete.names_differ;
      short_texts = complete.short_texts;
    };
    few_equations = few_equations;
    few_outputs = few_outputs;
    ascending = ascending;
    outputs_run = all_from (λ o. IsTrue (is_in running o.equation)) b.outputs output_runs;
    proper = finished_proper;
  }

  pub finished_needed : RunsNeeded finished
  finished_needed = record { each = exact }

-- a system of which each listed equation is typed
pub typed_from_all : (s : System) → AllByRecursion (IsTypedEquation s.equations) s.equations → IsTypedSystem s
typed_from_all s all = record { each = λ i e is. all_at (IsTypedEquation s.equations) s.equations all e (i, slice_get_within s.equations i e is, get_or_from_slice_get s.equations i e e is) }

-- an equation that is known by its parts
pub typed_as : (equations : List Equation) (e : Equation) (o : Op) (args : List ℕ) (of : ValueType) (types : List ValueType) → e.op ≡ o → e.args ≡ args → e.of ≡ of → AreOfTypes equations args types → IsTyped o types of → IsTypedEquation equations e
typed_as equations e o args of types op_is args_are of_is arguments typed = record {
  types = types;
  arguments = subst (λ xs. AreOfTypes equations xs types) (sym args_are) arguments;
  typed = subst (λ f. IsTyped e.op types f) (sym of_is) (subst (λ p. IsTyped p types of) (sym op_is) typed);
}
