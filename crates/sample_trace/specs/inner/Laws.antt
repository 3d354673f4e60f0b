-- A law of the sample trace.
use Rattle.std.specs.Prelude.{◌≡◌, ◌==◌, ◌<◌, ◌^◌, ◌%◌, ℕ, List, [], ◌∷◌, ◌++◌, codes, map}
use Rattle.std.specs.Fmt.{decimal}
use Rattle.std.specs.List.{range_with_len, slice_split}
use Rattle.sample_trace.specs.Trace.{trace_text}

-- what a line says, without its end
unfoldable pub said_text : ℕ → List ℕ
said_text time = decimal time ++ (codes ": i = " ++ decimal (time % 1000))

-- Cut at its line feeds the trace is what its lines say, one for each time, and nothing after the last.
abbrev pub HasOneLineEach : Type 0
HasOneLineEach =
    (count : ℕ) →
    count < 2 ^ 63 →
    slice_split (λ b. b == 10) (trace_text count) ≡ map said_text (range_with_len 1 count) ++ [] ∷ []
