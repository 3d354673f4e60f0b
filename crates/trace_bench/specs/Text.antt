-- The text of a tally.
use Rattle.std.specs.Prelude.{ℕ, List, ◌++◌, codes}
use Rattle.std.specs.Fmt.{decimal}
use Rattle.trace_bench.specs.declared.tally.Tally.{Tally}

-- the line of a number with a name
abbrev pub count_line : List ℕ → ℕ → List ℕ
count_line name number = name ++ (codes " " ++ (decimal number ++ codes "\n"))

abbrev pub tally_text : Tally → List ℕ
tally_text t =
    count_line (codes "events") t.events
    ++ (count_line (codes "instants") t.instants
    ++ (count_line (codes "bytes") t.bytes
    ++ count_line (codes "copied") t.copied))
