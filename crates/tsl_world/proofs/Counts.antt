-- Counts that rise.
use Rattle.std.proofs.Common.{◌≡◌, ℕ, ◌+◌, ◌-◌, ◌^◌, min, arith}
use Rattle.tsl_world.specs.World.{RoseBy}

-- so much, and then so much more
pub rose_more : (m n before mid now : ℕ) → RoseBy m before mid → RoseBy n mid now → RoseBy (m + n) before now
rose_more m n before mid now first more =
    let a : mid ≡ min (before + m) (2 ^ 64 - 1) = first in
    let b : now ≡ min (mid + n) (2 ^ 64 - 1) = more in
    omega arith
