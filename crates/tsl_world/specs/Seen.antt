-- What a journal shows, but for what Err was given. A text on Err so leaves all of it as it was.
use Rattle.std.specs.Prelude.{ℕ, Bool, List, []}
use Rattle.tsl_world.specs.declared.outside.Slot.{Slot}
use Rattle.tsl_world.specs.declared.outside.Channel.{Channel}
use Rattle.tsl_world.specs.declared.outside.Channel.TheVariants as channel
use Rattle.tsl_world.specs.declared.outside.Did.{Did}
use Rattle.tsl_world.specs.Journal.{given, taken, ended, openings, creations}

pub record Seen : Type 0 where
  -- what was taken from a slot, and whether its end was read
  pub taken : Slot → List ℕ
  pub ended : Slot → Bool
  -- what a channel was given; of Err nothing
  pub given : Channel → List ℕ
  -- what was opened and made, or that was tried
  pub opened : List (Slot × List ℕ)
  pub made : List (Channel × List ℕ)

-- what a channel other than Err was given
abbrev pub given_aside : Channel → List Did → List ℕ
given_aside channel.Err journal = []
given_aside to journal = given to journal

abbrev pub seen : List Did → Seen
seen journal = record {
  taken = λ from. taken from journal;
  ended = λ from. ended from journal;
  given = λ to. given_aside to journal;
  opened = openings journal;
  made = creations journal;
}
