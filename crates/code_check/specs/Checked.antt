-- What is checked of code that bytes spell, and why it is refused: the types of its equations come first, then cycles, then the plan.
use Rattle.std.specs.Prelude.{ℕ}
use Rattle.translation_order.specs.Least.{IsLeast}
use Rattle.flat_core.specs.WellFormed.{IsWellFormed}
use Rattle.alias_rules.specs.Fine.{IsFinePlan}
use Rattle.register_code.specs.Code.{Code}
use Rattle.equation_types.specs.Breaking.{BreaksTypes}
use Rattle.code_file.specs.declared.fault.CodeFault.{CodeFault}
use Rattle.code_file.specs.declared.fault.CodeFault.TheVariants as fault

module _ (c : Code) where
  -- equation i breaks arity or types, or it runs and an argument of it does not
  abbrev pub BreaksTypesIn : ℕ → Type 0
  BreaksTypesIn i = BreaksTypes c.system.equations c.system.running i

  -- no equation does
  pub record HasTypes : Type 0 where
    pub none_breaks : (i : ℕ) → BreaksTypesIn i → ⊥

  -- code that is taken
  pub record IsChecked : Type 0 where
    pub types : HasTypes
    pub well_formed : IsWellFormed c.system
    pub fine : IsFinePlan c.system c.in_place c.order

  pub record HasCycle : Type 0 where
    pub types : HasTypes
    pub cycle : IsWellFormed c.system → ⊥

  pub record IsNotFine : Type 0 where
    pub types : HasTypes
    pub well_formed : IsWellFormed c.system
    pub not_fine : IsFinePlan c.system c.in_place c.order → ⊥

  -- why code is refused whose bytes have the right form, or out of memory
  abbrev pub IsRefusedFor : CodeFault → Type 0
  IsRefusedFor (fault.WrongTypes i) = IsLeast BreaksTypesIn i
  IsRefusedFor fault.Cycle = HasCycle
  IsRefusedFor fault.NotFine = IsNotFine
  IsRefusedFor fault.Memory = Unit {0}
  IsRefusedFor fault.TooLong = ⊥
  IsRefusedFor fault.WrongForm = ⊥
