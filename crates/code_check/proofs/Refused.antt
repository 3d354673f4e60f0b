-- Why code is refused, from what each check answers.
use Rattle.std.proofs.Common.{◌≡◌, ℕ, List, Result, Ok, Err, IfOk, IfErr, OnOk, sym, subst}
use Rattle.flat_core.specs.WellFormed.{IsWellFormed}
use Rattle.alias_rules.specs.Fine.{IsFinePlan}
use Rattle.flat_core.specs.System.{System}
use Rattle.register_code.specs.Code.{Code}
use Rattle.code_file.specs.declared.fault.CodeFault.{CodeFault}
use Rattle.code_file.specs.declared.fault.CodeFault.TheVariants as fault
use Rattle.code_check.specs.Checked.{HasTypes, IsChecked, IsRefusedFor}
use Rattle.code_check.specs.inner.Planning.{IsCycleFault, IsPlanFault, IsPlannedFault, code_by}
use Rattle.code_check.specs.inner.Typing.{IsTypeFault, NoneBreaks}

module _ (s : System) (set order : List ℕ) where
  pub cycle_planned : (why : CodeFault) → IsCycleFault s why → IsPlannedFault s set order why
  cycle_planned (fault.WrongTypes i) f = absurd f
  cycle_planned fault.Cycle f = f
  cycle_planned fault.NotFine f = absurd f
  cycle_planned fault.Memory f = tt
  cycle_planned fault.TooLong f = absurd f
  cycle_planned fault.WrongForm f = absurd f

  pub plan_planned : IsWellFormed s → (why : CodeFault) → IsPlanFault s set order why → IsPlannedFault s set order why
  plan_planned formed (fault.WrongTypes i) f = absurd f
  plan_planned formed fault.Cycle f = absurd f
  plan_planned formed fault.NotFine f = (formed, f)
  plan_planned formed fault.Memory f = tt
  plan_planned formed fault.TooLong f = absurd f
  plan_planned formed fault.WrongForm f = absurd f

module _ (c : Code) where
  pub type_refused : (why : CodeFault) → IsTypeFault c.system.equations c.system.running why → IsRefusedFor c why
  type_refused (fault.WrongTypes i) f = f
  type_refused fault.Cycle f = absurd f
  type_refused fault.NotFine f = absurd f
  type_refused fault.Memory f = tt
  type_refused fault.TooLong f = absurd f
  type_refused fault.WrongForm f = absurd f

  pub typed : NoneBreaks c.system.equations c.system.running → HasTypes c
  typed none = record { none_breaks = none }

  pub plan_refused : HasTypes c → (why : CodeFault) → IsPlannedFault c.system c.in_place c.order why → IsRefusedFor c why
  plan_refused types (fault.WrongTypes i) f = absurd f
  plan_refused types fault.Cycle f = record { types = types; cycle = f }
  plan_refused types fault.NotFine f = record { types = types; well_formed = f.0; not_fine = f.1 }
  plan_refused types fault.Memory f = tt
  plan_refused types fault.TooLong f = absurd f
  plan_refused types fault.WrongForm f = absurd f

-- ---- answers of calls, handed on

pub err_with : (P : CodeFault → Type 0) (r : Result Code CodeFault) (y x : CodeFault) → r ≡ Err y → y ≡ x → P x → IfErr r P
err_with P r y x is same p = subst (λ (q : Result Code CodeFault). IfErr q P) (sym is) (subst P (sym same) p)

module _ (s : System) (set order : List ℕ) (c : Code) (same : code_by s set order ≡ c) (types : HasTypes c) where
  as_planned : HasTypes (code_by s set order)
  as_planned = subst HasTypes (sym same) types

  pub all_taken : (r : Result Code CodeFault) → IfOk r (λ (d : Code). d ≡ code_by s set order) → OnOk r (IsWellFormed s) → OnOk r (IsFinePlan s set order) → IfOk r IsChecked
  all_taken (Ok d) is formed fine = subst IsChecked (sym is) (record { types = as_planned; well_formed = formed; fine = fine })
  all_taken (Err why) is formed fine = tt

  pub all_refused : (r : Result Code CodeFault) → IfErr r (IsPlannedFault s set order) → IfErr r (IsRefusedFor c)
  all_refused (Ok d) f = tt
  all_refused (Err why) f = subst (λ (d : Code). IsRefusedFor d why) same (plan_refused (code_by s set order) as_planned why f)
