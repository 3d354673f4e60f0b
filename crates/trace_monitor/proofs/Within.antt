-- A trace of which nothing is refused is within its limit of bytes.
use Rattle.std.proofs.Common.{◌≡◌, ◌≤◌, ℕ, ◌+◌, false, true, List, [], ◌∷◌, ◌++◌, length, arith, length-append}
use Rattle.trace_monitor.specs.inner.Kept.{Kept}
use Rattle.trace_monitor.specs.Next.{is_nothing}
use Rattle.trace_monitor.specs.inner.State.{State}

pub kept_within : (m : State) (fed : List ℕ) → Kept m fed → length fed ≤ m.options.bytes
kept_within m fed kept =
    let within = kept.waits.within in
    let taken = kept.reads.taken_is in
    let limit = kept.waits.bytes_limit in
    omega arith

-- a piece that is something has a byte more
pub some_more : (fed piece : List ℕ) (n : ℕ) → is_nothing piece ≡ false → n ≤ length fed → n + 1 ≤ length (fed ++ piece)
some_more fed [] n some le = absurd (let e : true ≡ false = some in cc)
some_more fed (b ∷ piece) n some le = let all = length-append fed (b ∷ piece) in omega arith
