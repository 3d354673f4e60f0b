-- What is kept of a system: which equations take the content of which variables.
use Rattle.std.specs.Prelude.{◌≡◌, ℕ, ◌<◌, Bool, List, [], length, IsTrue}
use Rattle.std.specs.List.{Contains}
use Rattle.flat_core.specs.declared.equation.Op.{Op}
use Rattle.flat_core.specs.inner.Marks.{has_mark}
use Rattle.flat_core.specs.System.{System}
use Rattle.alias_rules.specs.Uses.{read_of, passed_of, last_of, written_of, IsVariable, IsStored, Takes}
use Rattle.alias_rules.specs.Roots.{Carries}
use Rattle.alias_paths.specs.declared.uses.Uses.{Uses}
use Rattle.alias_paths.specs.declared.paths.Paths.{Paths}
use Rattle.alias_paths.specs.inner.Pairs.{ArePairs, Adds, AreTurned}
use Rattle.alias_paths.specs.inner.Marking.{AreJust}
use Rattle.alias_paths.specs.inner.Flows.{Flows}

-- a variable among these arguments of an equation
pub record IsTakenAt (s : System) (arguments : List ℕ) (number a i : ℕ) : Type 0 where
  pub is : i ≡ number
  pub variable : IsVariable s a
  pub argument : Contains arguments a

-- the equation of this number takes the content of a
pub record IsUseAt (s : System) (arguments_of : Op → List ℕ → List ℕ) (number a i : ℕ) : Type 0 where
  pub is : i ≡ number
  pub takes : Takes s arguments_of a i

pub record AddsUses (s : System) (number : ℕ) (old new : Uses) : Type 0 where
  pub read : Adds old.read (IsUseAt s read_of number) new.read
  pub passed : Adds old.passed (IsUseAt s passed_of number) new.passed
  pub lasts : Adds old.lasts (IsUseAt s last_of number) new.lasts
  pub written : Adds old.written (IsUseAt s written_of number) new.written

-- an equation below a bound takes the content of a
pub record IsUseBelow (s : System) (arguments_of : Op → List ℕ → List ℕ) (bound a i : ℕ) : Type 0 where
  pub low : i < bound
  pub takes : Takes s arguments_of a i

pub record HasUsesBelow (s : System) (bound : ℕ) (uses : Uses) : Type 0 where
  pub read : Adds [] (IsUseBelow s read_of bound) uses.read
  pub passed : Adds [] (IsUseBelow s passed_of bound) uses.passed
  pub lasts : Adds [] (IsUseBelow s last_of bound) uses.lasts
  pub written : Adds [] (IsUseBelow s written_of bound) uses.written

-- all uses of a system
pub record AreUses (s : System) (uses : Uses) : Type 0 where
  pub read : ArePairs (Takes s read_of) uses.read
  pub passed : ArePairs (Takes s passed_of) uses.passed
  pub lasts : ArePairs (Takes s last_of) uses.lasts
  pub written : ArePairs (Takes s written_of) uses.written

-- how content goes on where the updates of a set happen in place, and which variables are stored
pub record ArePaths (s : System) (set : List ℕ) (p : Paths) : Type 0 where
  pub carriers : ArePairs (Carries s set) p.carriers
  pub back : AreTurned p.carriers p.back
  pub flows : ArePairs (Flows s set) p.flows
  pub flows_back : AreTurned p.flows p.flows_back
  pub stored : AreJust (length s.equations) (IsStored s) p.stored

-- all marked equations are stored variables
abbrev pub AreStoredMarks : System → List Bool → Type 0
AreStoredMarks s marks = (x : ℕ) → IsTrue (has_mark marks x) → IsStored s x
