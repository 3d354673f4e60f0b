-- Without cells no handle is live.
use Rattle.std.proofs.Common.{ℕ}
use Rattle.std.specs.Ordering.{nat_cmp}
use Rattle.std.specs.FinMap as finite_map
use Rattle.cell_reader.specs.inner.Cells.{IsLive}

pub none_is_live : (handle : ℕ) → IsLive finite_map.empty handle → ⊥
none_is_live handle h = let none = rw (finite_map.get-empty nat_cmp handle) at h in cc
