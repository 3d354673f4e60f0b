-- What is answered of types.
use Rattle.std.specs.Prelude.{ℕ, List}
use Rattle.translation_order.specs.Least.{IsLeast}
use Rattle.flat_core.specs.declared.equation.Equation.{Equation}
use Rattle.equation_types.specs.Breaking.{BreaksTypes}
use Rattle.code_file.specs.declared.fault.CodeFault.{CodeFault}
use Rattle.code_file.specs.declared.fault.CodeFault.TheVariants as fault

module _ (equations : List Equation) (running : List ℕ) where
  abbrev pub NoneBreaks : Type 0
  NoneBreaks = (i : ℕ) → BreaksTypes equations running i → ⊥

  -- the least equation that breaks types, or out of memory
  abbrev pub IsTypeFault : CodeFault → Type 0
  IsTypeFault (fault.WrongTypes i) = IsLeast (BreaksTypes equations running) i
  IsTypeFault fault.Memory = Unit {0}
  IsTypeFault _ = ⊥
