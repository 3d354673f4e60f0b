-- Values are of their equations' types.
use Rattle.std.proofs.Common.{◌≡◌, ℕ, List, [], ◌∷◌, map, Some, subst}
use Rattle.std.specs.Prelude.{IsTrue}
use Rattle.std.specs.List.{All, AllByRecursion}
use Rattle.tsl_value.specs.declared.scalar.ValueType.{ValueType}
use Rattle.body_eval.specs.declared.register.Register.{Register}
use Rattle.cell_reader.specs.inner.Cells.{Cells}
use Rattle.body_eval.specs.inner.Registers.{HoldsLive}
use Rattle.flat_core.specs.declared.equation.Equation.{Equation}
use Rattle.flat_core.specs.Complete.{IsFlat}
use Rattle.flat_core.specs.System.{System, runs, equation}
use Rattle.flat_core.specs.TypedSystem.{AreOfTypes}
use Rattle.flat_core.specs.inner.TypedEvents.{IsOf, AreOf}
use Rattle.monitor_run.specs.inner.Here.{TakesTyped}
use Rattle.monitor_run.specs.inner.Registers.{AreHeld, register_at, value_at}
use Rattle.std.proofs.lemmas.List.Elements.{All-from_recursion}
use Rattle.flat_core.proofs.Shapes.{running_args}

module _ (s : System) (whole : IsFlat s) (types : ℕ → ValueType) (c : Cells) (registers : List Register) (held : AreHeld s types c registers) where
  pub values_typed : (args : List ℕ) (kinds : List ValueType) → AllByRecursion (λ a. IsTrue (runs s a)) args → AreOfTypes s.equations args kinds → AreOf kinds (map (value_at c registers) args)
  values_typed [] [] run of = tt
  values_typed [] (u ∷ kinds) run of = absurd of
  values_typed (a ∷ args) [] run of = absurd of
  values_typed (a ∷ args) (u ∷ kinds) run of = (
    subst (λ v. IsOf v (value_at c registers a)) of.0.of_is (held.each a of.0.at run.0 of.0.is).typed,
    values_typed args kinds run.1 of.1,
  )

  values_live : (args : List ℕ) (kinds : List ValueType) → AllByRecursion (λ a. IsTrue (runs s a)) args → AreOfTypes s.equations args kinds → AllByRecursion (λ a. HoldsLive c (register_at registers a)) args
  values_live [] [] run of = tt
  values_live [] (u ∷ kinds) run of = absurd of
  values_live (a ∷ args) [] run of = absurd of
  values_live (a ∷ args) (u ∷ kinds) run of = ((held.each a of.0.at run.0 of.0.is).live, values_live args kinds run.1 of.1)

  pub args_live : (i : ℕ) (e : Equation) → IsTrue (runs s i) → equation s i ≡ Some e → All (λ a. HoldsLive c (register_at registers a)) e.args
  args_live i e run is =
      let g = whole.complete.typed.each i e is in
      All-from_recursion (λ a. HoldsLive c (register_at registers a)) e.args (values_live e.args g.types (running_args s whole.proper i e run is) g.arguments)

  pub takes_typed : (i : ℕ) (e : Equation) → IsTrue (runs s i) → equation s i ≡ Some e → TakesTyped c registers e
  takes_typed i e run is =
      let g = whole.complete.typed.each i e is in
      record { types = g.types; typed = g.typed; values = values_typed e.args g.types (running_args s whole.proper i e run is) g.arguments; live = args_live i e run is }
