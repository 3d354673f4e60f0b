-- A channel as it is written, a write at a time.
use Rattle.std.proofs.Common.{◌≡◌, ℕ, ◌<◌, Bool, if◌then◌else◌, List, [], ◌∷◌, ◌++◌, length, sym, ◌∙◌, ap, subst, arith, append_assoc, Ok, Err, Result}
use Rattle.std.proofs.lemmas.List.{append-nil}
use Rattle.tsl_world.specs.Begins.{BeginsStrictly}
use Rattle.tsl_world.specs.Journal.{given, IsDone, IsGift, Each}
use Rattle.tsl_world.specs.declared.outside.Channel.{Channel}
use Rattle.tsl_world.specs.declared.outside.Did.{Did}
use Rattle.tsl_world.specs.declared.outside.Did.TheVariants.{Gave, NotGave}
use Rattle.tsl_world.proofs.Journals.{given-append, Each-append}
use Rattle.tsl_world.proofs.Places.{at_each, stops_one}
use Rattle.tsl_world.proofs.Untouched.{same_channel_itself}
use Rattle.trace_run.specs.Effects.{Gives}

-- these bytes were given, and no write failed
pub record HasGiven (to : Channel) (bytes rest : List ℕ) (part : List Did) : Type 0 where
  pub gifts : Each (IsGift to) part
  pub done : Each IsDone part
  pub is : bytes ≡ given to part ++ rest

-- something is left, so what was given is less
less : {A : Type 0} (whole front rest : List A) → 0 < length rest → whole ≡ front ++ rest → BeginsStrictly front whole
less whole front [] some is = absurd (omega arith)
less whole front (x ∷ rest) some is = record { next = x; rest = rest; is = is }

-- a write that fails before all was given
pub gave_less : {E : Type 0} (to : Channel) (bytes rest : List ℕ) (result : Result (Unit {0}) E) (error : E) (part : List Did) → result ≡ Err error → 0 < length rest → HasGiven to bytes rest part
    → Gives to bytes result (part ++ NotGave to ∷ [])
gave_less {E = E} to bytes rest result error part failed some has =
    let same : given to (part ++ NotGave to ∷ []) ≡ given to part = given-append to part (NotGave to ∷ []) ∙ append-nil (given to part) in
    let is : bytes ≡ given to (part ++ NotGave to ∷ []) ++ rest = has.is ∙ sym (ap (λ (l : List ℕ). l ++ rest) same) in
    subst (λ (r : Result (Unit {0}) E). Gives to bytes r (part ++ NotGave to ∷ [])) (sym failed) record {
      writes = record {
        gifts = Each-append (IsGift to) part (NotGave to ∷ []) has.gifts (same_channel_itself to, tt);
        stops = stops_one part (NotGave to) has.done;
      };
      done = tt;
      some = record { rest = rest; is = is };
      whole = tt;
      less = less bytes (given to (part ++ NotGave to ∷ [])) rest some is;
    }

-- one write more
pub gave_more : (to : Channel) (bytes rest piece more : List ℕ) (part : List Did) → rest ≡ piece ++ more → HasGiven to bytes rest part → HasGiven to bytes more (part ++ Gave to piece ∷ [])
gave_more to bytes rest piece more part cut has = record {
  gifts = Each-append (IsGift to) part (Gave to piece ∷ []) has.gifts (same_channel_itself to, tt);
  done = Each-append IsDone part (Gave to piece ∷ []) has.done (tt, tt);
  is = has.is ∙ ap (λ (l : List ℕ). given to part ++ l) cut ∙ sym (append_assoc (given to part) piece more) ∙ sym (ap (λ (l : List ℕ). l ++ more) gave_piece);
}
  where
    gave_piece : given to (part ++ Gave to piece ∷ []) ≡ given to part ++ piece
    gave_piece =
        given-append to part (Gave to piece ∷ [])
        ∙ ap (λ (b : Bool). given to part ++ ((if b then piece else []) ++ [])) (same_channel_itself to)
        ∙ ap (λ (l : List ℕ). given to part ++ l) (append-nil piece)

-- all was given
pub gave_all : {E : Type 0} (to : Channel) (bytes : List ℕ) (part : List Did) → HasGiven to bytes [] part → Gives {E = E} to bytes (Ok tt) part
gave_all to bytes part has =
    let is : given to part ≡ bytes = sym (has.is ∙ append-nil (given to part)) in
    record {
      writes = record { gifts = has.gifts; stops = at_each IsDone part has.done };
      done = has.done;
      some = record { rest = []; is = has.is };
      whole = is;
      less = tt;
    }
