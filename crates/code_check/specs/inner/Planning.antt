-- What is answered of cycles and of plans.
use Rattle.std.specs.Prelude.{ℕ, List}
use Rattle.flat_core.specs.System.{System}
use Rattle.flat_core.specs.WellFormed.{IsWellFormed}
use Rattle.alias_rules.specs.Fine.{IsFinePlan}
use Rattle.register_code.specs.Code.{Code}
use Rattle.code_file.specs.declared.fault.CodeFault.{CodeFault}
use Rattle.code_file.specs.declared.fault.CodeFault.TheVariants as fault

-- a cycle, or out of memory
abbrev pub IsCycleFault : System → CodeFault → Type 0
IsCycleFault s fault.Cycle = IsWellFormed s → ⊥
IsCycleFault s fault.Memory = Unit {0}
IsCycleFault s _ = ⊥

-- a plan that is not fine, or out of memory
abbrev pub IsPlanFault : System → List ℕ → List ℕ → CodeFault → Type 0
IsPlanFault s set order fault.NotFine = IsFinePlan s set order → ⊥
IsPlanFault s set order fault.Memory = Unit {0}
IsPlanFault s set order _ = ⊥

abbrev pub code_by : System → List ℕ → List ℕ → Code
code_by s set order = record { system = s; in_place = set; order = order }

-- a cycle, or else a plan that is not fine, or out of memory
abbrev pub IsPlannedFault : System → List ℕ → List ℕ → CodeFault → Type 0
IsPlannedFault s set order fault.Cycle = IsWellFormed s → ⊥
IsPlannedFault s set order fault.NotFine = IsWellFormed s × (IsFinePlan s set order → ⊥)
IsPlannedFault s set order fault.Memory = Unit {0}
IsPlannedFault s set order _ = ⊥
