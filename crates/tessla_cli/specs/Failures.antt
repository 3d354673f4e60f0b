-- How often calls of the outside have failed.
use Rattle.std.specs.Prelude.{◌≡◌, ◌⊎◌, ℕ}
use Rattle.tsl_world.specs.World.{RoseBy}

-- how many calls have failed, and how many writes to Err among them
pub record Failures : Type 0 where
  pub all : ℕ
  pub to_err : ℕ

-- the two counts of a world
abbrev pub failures : {W : Type 0} → (W → ℕ) → (W → ℕ) → W → Failures
failures faults unheard w = record { all = faults w; to_err = unheard w }

-- none failed
pub record NoneFailed (before now : Failures) : Type 0 where
  pub all : now.all ≡ before.all
  pub to_err : now.to_err ≡ before.to_err

-- one call failed, and no write to Err
pub record CallFailed (before now : Failures) : Type 0 where
  pub all : RoseBy 1 before.all now.all
  pub to_err : now.to_err ≡ before.to_err

-- one write to Err failed, and no other call
pub record WriteFailed (before now : Failures) : Type 0 where
  pub all : RoseBy 1 before.all now.all
  pub to_err : RoseBy 1 before.to_err now.to_err

-- one of each
pub record BothFailed (before now : Failures) : Type 0 where
  pub all : RoseBy 2 before.all now.all
  pub to_err : RoseBy 1 before.to_err now.to_err

-- Some failed. The counts tell these cases apart where they begin two below 2^64 - 1, at which they stop.
abbrev pub SomeFailed : Failures → Failures → Type 0
SomeFailed before now = CallFailed before now ⊎ WriteFailed before now ⊎ BothFailed before now
