-- What a system has by its source, beside what each system has: short names, inputs under different ones, and
-- few updates.
use Rattle.std.specs.Prelude.{◌≡◌, ◌≤◌, ℕ, List, length, Some}
use Rattle.std.specs.List.{AllByRecursion}
use Rattle.flat_core.specs.declared.equation.Equation.{Equation}
use Rattle.flat_core.specs.declared.equation.Op.TheVariants as op
use Rattle.flat_core.specs.System.{System, equation}
use Rattle.flat_core.specs.Updates.{running_updates}
use Rattle.spec_lexer.specs.declared.limits.TheConstants.{MOST_NAME_BYTES}
use Rattle.stream_constructs.specs.declared.limits.TheConstants.{MOST_UPDATES}
use Rattle.trace_reader.specs.inner.Spelling.{SpellsName}

-- a name of the language, of at most 255 bytes
abbrev pub IsShortName : List ℕ → Type 0
IsShortName name = SpellsName name × (length name ≤ MOST_NAME_BYTES)

module _ (s : System) where
  -- each equation that has a name, and each output
  pub record HasShortNames : Type 0 where
    pub equations : (i : ℕ) (e : Equation) (name : List ℕ) → equation s i ≡ Some e → e.name ≡ Some name → IsShortName name
    pub outputs : AllByRecursion (λ o. IsShortName o.name) s.outputs

  -- whether they run or not
  pub record HasNamedInputs : Type 0 where
    pub named : (i : ℕ) (e : Equation) → equation s i ≡ Some e → e.op ≡ op.Input → (name : List ℕ) × (e.name ≡ Some name)
    pub differ :
        (i j : ℕ) (e f : Equation)
        → equation s i ≡ Some e
        → equation s j ≡ Some f
        → e.op ≡ op.Input
        → f.op ≡ op.Input
        → e.name ≡ f.name
        → i ≡ j

  abbrev pub HasFewUpdates : Type 0
  HasFewUpdates = length (running_updates s) ≤ MOST_UPDATES
