use Rattle.std.proofs.Common.{◌≡◌, ℕ, ◌<◌, false, length, get_or, take}
use Rattle.flat_core.specs.Members.{is_in}
use Rattle.step_uses.proofs.uses.marked.Given as goal

abbrev pub invariant-loop-id : goal.invariant-loop-id
invariant-loop-id l = record {
  size : length l.marks.items ≡ l.count;
  marked : (i : ℕ) → i < l.count → get_or l.marks.items i false ≡ is_in (take l.id-index l.ids) i;
}
