use Rattle.std.proofs.Common.{◌≡◌, ◌<◌, ℕ, drop, take}
use Rattle.std.specs.Prelude.{IsTrue}
use Rattle.flat_core.specs.Members.{is_in}
use Rattle.code_reader.specs.inner.Rising.{rises_from}
use Rattle.code_reader.proofs.parts.set_of.Given as goal

abbrev pub invariant-loop-number : goal.invariant-loop-number
invariant-loop-number l =
    (l.set ≡ take l.number-index l.numbers)
    × (rises_from l.least (drop l.number-index l.numbers) ≡ rises_from 0 l.numbers)
    × ((j : ℕ) → IsTrue (is_in l.set j) → j < l.least)
