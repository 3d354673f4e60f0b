-- Programs that can be run.
use Rattle.std.proofs.Common.{◌≡◌, ℕ, List, ap}
use Rattle.compiled_meaning.specs.Compiled.{Compiles}
use Rattle.flat_core.specs.WellFormed.{IsWellFormed}
use Rattle.register_code.specs.Code.{Code, IsCode}
use Rattle.syntax_tree.specs.Tree as tree
use Rattle.trace_run.specs.Program.{IsCodeOf, Program, coded, specified, system_of}

-- code of a well-formed system
pub record IsGoodCode (c : Code) : Type 0 where
  pub is_code : IsCode c
  pub well_formed : IsWellFormed c.system

-- what some source is compiled to, or such code
abbrev pub CanBeRun : Program → Type 0
CanBeRun (specified items s) = (source : List ℕ) × Compiles source items s
CanBeRun (coded c) = IsGoodCode c

-- the code of a program has its system
pub code_system : (p : Program) (c : Code) → IsCodeOf p c → c.system ≡ system_of p
code_system (specified items s) c is = is.0
code_system (coded d) c is = ap (λ (e : Code). e.system) is
