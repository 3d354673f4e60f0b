-- Reading as the code goes: equations with the numbers of those that run, and a plan whose set rises.
use Rattle.std.specs.Prelude.{◌+◌, ◌&&◌, ℕ, Bool, true, if◌then◌else◌, nat_le, List, [], ◌∷◌, map, Option, Some, None}
use Rattle.flat_core.specs.declared.equation.Equation.{Equation}
use Rattle.flat_core.specs.declared.equation.Output.{Output}
use Rattle.flat_core.specs.declared.limits.TheConstants.{MOST_EQUATIONS}
use Rattle.register_code.specs.Code.{Code}
use Rattle.code_file.specs.inner.Reading.{◌>>=◌, Read, code_at, count_at, entry_read, items_at, list_at, output_at, running_from}

-- what entries have: their equations, and the numbers of those that run
abbrev pub equations_of : List (Bool × Equation) → List Equation × List ℕ
equations_of entries = (map (λ p. p.1) entries, running_from 0 entries)

abbrev pub equations_at : ℕ → List ℕ → Read (List Equation × List ℕ)
equations_at count bytes = items_at entry_read count bytes >>= λ entries. Some (equations_of entries.0, entries.1)

-- numbers that rise, of which the first is at least this
abbrev pub rises_from : ℕ → List ℕ → Bool
rises_from least [] = true
rises_from least (n ∷ ns) = nat_le least n && rises_from (n + 1) ns

abbrev pub if_rising : List ℕ → Option (List ℕ)
if_rising ns = if rises_from 0 ns then Some ns else None

-- the set and the order of a plan
abbrev pub plan_at : List ℕ → Read (List ℕ × List ℕ)
plan_at bytes = list_at bytes >>= λ p. list_at p.1 >>= λ q. if_rising p.0 >>= λ set. Some ((set, q.0), q.1)

abbrev pub system_of : List Equation × List ℕ → List Output → List ℕ × List ℕ → Code
system_of equations outputs plan = record {
  system = record { equations = equations.0; outputs = outputs; running = equations.1 };
  in_place = plan.0;
  order = plan.1;
}

-- the parts of code, one after another
abbrev pub parts_at : List ℕ → Read Code
parts_at bytes = do
  count ← count_at MOST_EQUATIONS bytes
  equations ← equations_at count.0 count.1
  count ← count_at 0x8000_0000 equations.1
  outputs ← items_at output_at count.0 count.1
  plan ← plan_at outputs.1
  Some (system_of equations.0 outputs.0 plan.0, plan.1)

-- code whose set of updates in place rises
abbrev pub rising_at : List ℕ → Read Code
rising_at bytes = code_at bytes >>= λ c. if_rising c.0.in_place >>= λ set. Some c
