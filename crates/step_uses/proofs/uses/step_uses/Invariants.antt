use Rattle.std.proofs.Common.{◌≡◌, ℕ, ◌<◌, ◌&&◌, ltb, length, get_or}
use Rattle.flat_core.specs.Members.{is_in}
use Rattle.step_uses.specs.Uses.{row, used_by}
use Rattle.step_uses.proofs.uses.step_uses.Given as goal

abbrev pub invariant-loop-place : goal.invariant-loop-place
invariant-loop-place l = record {
  size : length l.rows ≡ length l.flat.equations;
  uses : (a p : ℕ) → a < length l.flat.equations → is_in (row l.rows a) p ≡ (ltb p l.place && is_in (used_by l.flat (get_or l.order p 0)) a);
}
