use Rattle.std.proofs.Common.{◌≡◌, ℕ, ◌<◌, ◌||◌, ◌&&◌, eqb, length, take}
use Rattle.flat_core.specs.Members.{is_in}
use Rattle.step_uses.specs.Uses.{row}
use Rattle.step_uses.proofs.uses.add_each.Given as goal

abbrev pub invariant-loop-id : goal.invariant-loop-id
invariant-loop-id l = record {
  size : length l.rows ≡ length l.fn.rows;
  added : (a p : ℕ) → a < length l.fn.rows → is_in (row l.rows a) p ≡ (is_in (row l.fn.rows a) p || (is_in (take l.id-index l.ids) a && eqb l.number p));
}
