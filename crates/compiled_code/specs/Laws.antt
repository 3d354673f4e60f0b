-- What the system that is run has by its source.
use Rattle.std.specs.Prelude.{ℕ, List}
use Rattle.flat_core.specs.System.{System}
use Rattle.syntax_tree.specs.Tree as tree
use Rattle.compiled_meaning.specs.Compiled.{Compiles}
use Rattle.compiled_code.specs.Held.{HasShortNames, HasNamedInputs, HasFewUpdates}

abbrev pub CompiledHasShortNames : Type 0
CompiledHasShortNames = (source : List ℕ) (items : List tree.Item) (u : System) → Compiles source items u → HasShortNames u

abbrev pub CompiledHasNamedInputs : Type 0
CompiledHasNamedInputs = (source : List ℕ) (items : List tree.Item) (u : System) → Compiles source items u → HasNamedInputs u

abbrev pub CompiledHasFewUpdates : Type 0
CompiledHasFewUpdates = (source : List ℕ) (items : List tree.Item) (u : System) → Compiles source items u → HasFewUpdates u
