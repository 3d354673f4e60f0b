-- It cannot be that no plan is taken.
use Rattle.std.proofs.Common.{ℕ, List, refl}
use Rattle.std.specs.List.{filter}
use Rattle.flat_core.specs.System.{System, IsProper, OutputsRun}
use Rattle.flat_core.specs.WellFormed.{IsWellFormed}
use Rattle.alias_rules.specs.Conflict.{StandsBefore}
use Rattle.alias_rules.specs.Fine.{IsFine, IsTakenPlan}
use Rattle.alias_rules.specs.Steps.{step_count, is_step, IsLeastOrderBy}
use Rattle.alias_rules.specs.Uses.{AreUpdates}
use Rattle.alias_rules.proofs.Acyclic.{some_order}
use Rattle.alias_rules.proofs.Below.{some_listed}
use Rattle.alias_rules.proofs.Empty.{empty_is_fine}
use Rattle.alias_rules.proofs.Listed.{listed_fits}
use Rattle.alias_rules.proofs.TakenPlan.{first_low}

module _ (s : System) (proper : IsProper s) (outputs_run : OutputsRun s) where
  pub some_order_of : (set : List ℕ) → AreUpdates s set → IsFine s set → ((order : List ℕ) → IsLeastOrderBy s (StandsBefore s set) order → ⊥) → ⊥
  some_order_of set updates fine none =
      some_order (step_count s) (StandsBefore s set) fine.acyclic (first_low s proper outputs_run set updates)
      (λ all least. none (filter (is_step s) all) (record { all = all; is_least = least; is = refl }))

  pub some_plan : IsWellFormed s → ((set order : List ℕ) → IsTakenPlan s set order → ⊥) → ⊥
  some_plan formed none = some_listed s (λ set listed.
      let fit = listed_fits s set (empty_is_fine s proper outputs_run formed) listed in
      some_order_of set fit.updates fit.fine (λ order ordered. none set order (record { listed = listed; ordered = ordered })))
