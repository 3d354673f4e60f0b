-- What is given to Err leaves what a journal shows.
use Rattle.std.proofs.Common.{◌≡◌, List, ◌++◌, refl}
use Rattle.tsl_world.specs.declared.outside.Channel.{Channel}
use Rattle.tsl_world.specs.declared.outside.Channel.TheVariants as channel
use Rattle.tsl_world.specs.declared.outside.Did.{Did}
use Rattle.tsl_world.specs.Journal.{IsGift, Each}
use Rattle.tsl_world.specs.Seen.{Seen, given_aside, seen}
use Rattle.tsl_world.proofs.Untouched.{creations_before, ended_before, given_before, gifts_elsewhere, gifts_read_none, gifts_transfer, openings_before, taken_before}

module _ (part more : List Did) (gifts : Each (IsGift channel.Err) more) where
  given_told : (to : Channel) → given_aside to (part ++ more) ≡ given_aside to part
  given_told channel.Out = given_before channel.Out part more (gifts_elsewhere channel.Err channel.Out refl more gifts)
  given_told channel.Err = refl
  given_told channel.State = given_before channel.State part more (gifts_elsewhere channel.Err channel.State refl more gifts)
  given_told channel.Code = given_before channel.Code part more (gifts_elsewhere channel.Err channel.Code refl more gifts)

  pub seen_told : seen (part ++ more) ≡ seen part
  seen_told = λ i. record {
    taken = λ from. taken_before from part more (gifts_read_none channel.Err from more gifts) i;
    ended = λ from. ended_before from part more (gifts_read_none channel.Err from more gifts) i;
    given = λ to. given_told to i;
    opened = openings_before part more (gifts_transfer channel.Err more gifts) i;
    made = creations_before part more (gifts_transfer channel.Err more gifts) i;
  }
