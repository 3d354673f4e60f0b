use Rattle.std.proofs.Common.{◌≡◌, ℕ, ◌<◌, ◌&&◌, length, take}
use Rattle.flat_core.specs.Members.{is_in}
use Rattle.step_uses.specs.Uses.{is_of_delay, row}
use Rattle.step_uses.proofs.uses.delay_uses.Given as goal

abbrev pub invariant-loop-delay : goal.invariant-loop-delay
invariant-loop-delay l = record {
  size : length l.rows ≡ length l.flat.equations;
  uses : (a d : ℕ) → a < length l.flat.equations → is_in (row l.rows a) d ≡ (is_in (take l.delay-index l.delays) d && is_of_delay l.flat d a);
}
