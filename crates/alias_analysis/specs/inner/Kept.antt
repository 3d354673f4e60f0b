-- What is kept of a system.
use Rattle.std.specs.Prelude.{◌≡◌}
use Rattle.flat_core.specs.System.{System}
use Rattle.alias_paths.specs.declared.uses.Uses.{Uses}
use Rattle.alias_paths.specs.inner.Kept.{AreUses}

-- the answers about its triggers, and the uses of content
pub record IsGraph (s answered : System) (uses : Uses) : Type 0 where
  pub same : answered ≡ s
  pub are_uses : AreUses s uses
