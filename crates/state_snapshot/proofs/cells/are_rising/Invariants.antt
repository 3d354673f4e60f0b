use Rattle.std.proofs.Common.{◌≡◌, ◌∷◌, drop}
use Rattle.state_snapshot.specs.inner.Reading.{is_key_below, rise_by}
use Rattle.state_snapshot.proofs.cells.are_rising.Given as goal

abbrev pub invariant-loop-key : goal.invariant-loop-key
invariant-loop-key l = rise_by is_key_below (l.last ∷ drop l.key-index l.others) ≡ rise_by is_key_below l.keys
