-- What is told of the slice of an output.
use Rattle.std.specs.Prelude.{◌≡◌, ℕ, List, ◌++◌, Some, slice_get}
use Rattle.std.specs.List.{flat_map}
use Rattle.std.specs.List.Sorted.{IsStrictlyIncreasing}
use Rattle.flat_core.specs.declared.equation.Output.{Output}
use Rattle.flat_core.specs.System.{System}
use Rattle.flat_slice.specs.Slice.{IsSlice}
use Rattle.program_text.specs.Text.{equation_line, output_line}

-- the output of this number, counted from 0, is printed under this name
pub record IsOutputCalled (s : System) (name : List ℕ) (k : ℕ) : Type 0 where
  pub output : Output
  pub is : slice_get s.outputs k ≡ Some output
  pub called : output.name ≡ name

-- an output is
abbrev pub HasOutput : System → List ℕ → Type 0
HasOutput s name = (k : ℕ) × IsOutputCalled s name k

-- the lines of some equations, in their order, and then that of an output
abbrev pub slice_lines : System → List ℕ → Output → List ℕ
slice_lines s slice output = flat_map (equation_line s) slice ++ output_line output

-- this text tells the slice of the output of this number: its equations by number
pub record IsSliceText (s : System) (k : ℕ) (text : List ℕ) : Type 0 where
  pub output : Output
  pub is_output : slice_get s.outputs k ≡ Some output
  pub slice : List ℕ
  pub ascending : IsStrictlyIncreasing slice
  pub is_slice : IsSlice s output.equation slice
  pub is : text ≡ slice_lines s slice output

-- it tells the slice of the output that is printed under this name
abbrev pub HasSliceText : System → List ℕ → List ℕ → Type 0
HasSliceText s name text = (k : ℕ) × IsOutputCalled s name k × IsSliceText s k text
