-- What the journal of a run shows, and what is read whole first.
use Rattle.std.proofs.Common.{◌≡◌, ◌⊎◌, inl, inr, ℕ, ◌≤◌, true, false, List, [], ◌∷◌, ◌++◌, length, refl, sym, ◌∙◌, ap, subst, append_assoc, Option, Some}
use Rattle.std.specs.Prelude.{⊤}
use Rattle.std.proofs.lemmas.List.{append-nil}
use Rattle.command_words.specs.declared.command.Command.{Command}
use Rattle.tsl_world.specs.Begins.{Begins}
use Rattle.tsl_world.specs.declared.outside.Did.{Did}
use Rattle.tsl_world.specs.declared.outside.Did.TheVariants.{Opened, Created, Took, Gave, NotOpened, NotCreated, NotTook, NotGave}
use Rattle.tsl_world.specs.declared.outside.Slot.{Slot}
use Rattle.tsl_world.specs.declared.outside.Slot.TheVariants as slot
use Rattle.tsl_world.specs.declared.outside.Slot.TheVariants.{Trace}
use Rattle.tsl_world.specs.declared.outside.Channel.{Channel}
use Rattle.tsl_world.specs.declared.outside.Channel.TheVariants as channel
use Rattle.tsl_world.specs.declared.outside.Channel.TheVariants.{Out, Err}
use Rattle.tsl_world.specs.Journal.{given, taken, ended, openings, creations, same_channel, same_slot, AtAll, AtEntries, AtReads, StopsAtEnd, StopsAtFailure, IsAny, IsCreation, IsDone, IsGift, IsOpening, IsRead, IsNoRead, IsNoGift, IsTransfer, IsWithin, Each}
use Rattle.tsl_world.specs.Seen.{Seen, seen}
use Rattle.tsl_world.proofs.Journals.{openings-append, creations-append, Each-append, each_more}
use Rattle.tsl_world.proofs.Untouched.{not_gift, not_read, taken_before, taken_after, ended_after, ended_before, given_after, given_none, openings_none, transfer_makes_none, transfer_opens_none}
use Rattle.tsl_world.proofs.Places.{at_none, at_not, at_no_read, at_join, at_more, at_after, at_weaker, at_fewer, at_each, at_each_join, at_one, stops_after, stops_one}
use Rattle.tessla_cli.specs.Asked.{for_asked, made_files, trace_files}
use Rattle.tessla_cli.specs.Stages.{AreWhole, AreWholeBefore, HasWhole, IsNotPast, IsPast, at_work, most_of, opened_at, whole_at}
use Rattle.tessla_cli.specs.Conduct.{IsAllWhole, IsJudged, IsTurn, MakesAsAsked, MakesLast, MayMake, TakesInTurn, WritesLast, StopsAtEnds, StopsAtLimits, ReadsPieces, OpensAsAsked, BeginsOn, GoesOnAtRead, GoesOnAtReads, IsPartlyDue}
use Rattle.tessla_cli.specs.Headline.{IsDueAtRead, IsDueAtReads}
use Rattle.trace_run.specs.Effects.{IsTraceWork}
use Rattle.tessla_cli.specs.inner.RunPhases.{IsTake, MayReadFile, ReadsFile, GivesFile, ReadsName, unopened, no_file, reading}
use Rattle.tessla_cli.proofs.Reading.{same_slot_itself}
use Rattle.trace_reader.specs.declared.limits.TheConstants.{MOST_PIECE_BYTES}

-- What holds of each read of a slot holds of a part of such reads, and so for a part that reads the trace and writes output.
pub each_take : (P : Did → Type 0) (from : Slot) → ((bytes : List ℕ) → length bytes ≤ MOST_PIECE_BYTES → P (Took from bytes)) → P (NotTook from) → (part : List Did) → Each (IsTake from) part → Each P part
each_take P from take fails [] all = tt
each_take P from take fails (Took at bytes ∷ part) all = (subst (λ (s : Slot). P (Took s bytes)) (sym all.0.0) (take bytes all.0.1), each_take P from take fails part all.1)
each_take P from take fails (NotTook at ∷ part) all = (subst (λ (s : Slot). P (NotTook s)) (sym all.0) fails, each_take P from take fails part all.1)
each_take P from take fails (Gave a b ∷ part) all = absurd all.0
each_take P from take fails (NotGave a ∷ part) all = absurd all.0
each_take P from take fails (Opened a b ∷ part) all = absurd all.0
each_take P from take fails (Created a b ∷ part) all = absurd all.0
each_take P from take fails (NotOpened a b ∷ part) all = absurd all.0
each_take P from take fails (NotCreated a b ∷ part) all = absurd all.0

pub each_work : (P : Did → Type 0) → ((bytes : List ℕ) → length bytes ≤ MOST_PIECE_BYTES → P (Took Trace bytes)) → ((bytes : List ℕ) → P (Gave Out bytes)) → P (NotTook Trace) → P (NotGave Out) → (part : List Did) → Each IsTraceWork part → Each P part
each_work P take gave untaken ungiven [] all = tt
each_work P take gave untaken ungiven (Took at bytes ∷ part) all = (subst (λ (s : Slot). P (Took s bytes)) (sym all.0.0) (take bytes all.0.1), each_work P take gave untaken ungiven part all.1)
each_work P take gave untaken ungiven (Gave to bytes ∷ part) all = (subst (λ (c : Channel). P (Gave c bytes)) (sym all.0) (gave bytes), each_work P take gave untaken ungiven part all.1)
each_work P take gave untaken ungiven (NotTook at ∷ part) all = (subst (λ (s : Slot). P (NotTook s)) (sym all.0) untaken, each_work P take gave untaken ungiven part all.1)
each_work P take gave untaken ungiven (NotGave to ∷ part) all = (subst (λ (c : Channel). P (NotGave c)) (sym all.0) ungiven, each_work P take gave untaken ungiven part all.1)
each_work P take gave untaken ungiven (Opened a b ∷ part) all = absurd all.0
each_work P take gave untaken ungiven (Created a b ∷ part) all = absurd all.0
each_work P take gave untaken ungiven (NotOpened a b ∷ part) all = absurd all.0
each_work P take gave untaken ungiven (NotCreated a b ∷ part) all = absurd all.0

-- no opening stands in a part of reads and writes
pub no_opening_in : (slot : Slot) (part : List Did) → Each IsTransfer part → Each (λ did. IsOpening slot did → ⊥) part
no_opening_in slot part = each_more IsTransfer (λ did. IsOpening slot did → ⊥) (transfer_opens_none slot) part

-- no creation either
pub no_creation_in : (part : List Did) → Each IsTransfer part → Each (λ did. IsCreation did → ⊥) part
no_creation_in part = each_more IsTransfer (λ did. IsCreation did → ⊥) transfer_makes_none part

-- nothing is given where nothing is written
pub nothing_given : (part : List Did) (to : Channel) → Each (IsNoGift to) part → (seen part).given to ≡ []
nothing_given part channel.Out none = given_none channel.Out part none
nothing_given part channel.Err none = refl
nothing_given part channel.State none = given_none channel.State part none
nothing_given part channel.Code none = given_none channel.Code part none

-- A file stays whole where nothing of it is read.
pub whole_more : (from : Slot) (part more : List Did) → Each (IsNoRead from) more → HasWhole from (seen part) → HasWhole from (seen (part ++ more))
whole_more from part more none (inl is) = inl (ended_before from part more none ∙ is)
whole_more from part more none (inr past) = inr (subst (λ (l : List ℕ). IsPast (most_of from) (length l)) (sym (taken_before from part more none)) past)

-- What every run shows, whatever ends it.
pub record Shows (c : Option Command) (part : List Did) : Type 0 where
  pub opens : OpensAsAsked c part
  pub makes : MakesAsAsked c part
  pub makes_last : MakesLast c part
  pub in_turn : TakesInTurn c part
  pub writes_last : WritesLast c part
  pub ends : StopsAtEnds part
  pub limits : StopsAtLimits part
  pub pieces : ReadsPieces part
  pub stops : StopsAtFailure part
  pub due : IsDueAtReads c part
  pub goes_on : GoesOnAtReads c part
  pub partly : IsPartlyDue c (seen part)
  pub silent : Each (IsNoGift Err) part

-- nothing is made
pub makes_none : (c : Option Command) (part : List Did) → creations part ≡ [] → MakesAsAsked c part
makes_none c part none = record { rest = for_asked made_files c; is = ap (λ (l : List (Channel × List ℕ)). l ++ for_asked made_files c) (sym none) }

pub none_made_last : (c : Option Command) (part : List Did) → Each (λ did. IsCreation did → ⊥) part → MakesLast c part
none_made_last c part none = at_not IsCreation (λ before. IsAllWhole c (seen before) × MayMake c (seen before)) part none

-- what is said of each channel but Err
abbrev pub IsOn : Option Command → List Did → Channel → Type 0
IsOn c part to = ((seen part).given to ≡ []) ⊎ BeginsOn c (seen part) to

pub partly_of : (c : Option Command) (part : List Did) → IsOn c part Out → IsOn c part channel.State → IsOn c part channel.Code → IsPartlyDue c (seen part)
partly_of c part out state code channel.Out = out
partly_of c part out state code channel.Err = inl refl
partly_of c part out state code channel.State = state
partly_of c part out state code channel.Code = code

-- one channel alone is written
pub on_out : (c : Option Command) (part : List Did) → ((to : Channel) → same_channel Out to ≡ false → Each (IsNoGift to) part) → IsOn c part Out → IsPartlyDue c (seen part)
on_out c part others out = partly_of c part out (inl (nothing_given part channel.State (others channel.State refl))) (inl (nothing_given part channel.Code (others channel.Code refl)))

pub on_code : (c : Option Command) (part : List Did) → ((to : Channel) → same_channel channel.Code to ≡ false → Each (IsNoGift to) part) → BeginsOn c (seen part) channel.Code → IsPartlyDue c (seen part)
on_code c part others code = partly_of c part (inl (nothing_given part channel.Out (others channel.Out refl))) (inl (nothing_given part channel.State (others channel.State refl))) (inr code)

-- this slot, or another
which_slot : (from at : Slot) → (from ≡ at) ⊎ (same_slot from at ≡ false)
which_slot slot.Spec slot.Spec = inl refl
which_slot slot.Spec slot.Trace = inr refl
which_slot slot.Spec slot.State = inr refl
which_slot slot.Spec slot.Code = inr refl
which_slot slot.Trace slot.Spec = inr refl
which_slot slot.Trace slot.Trace = inl refl
which_slot slot.Trace slot.State = inr refl
which_slot slot.Trace slot.Code = inr refl
which_slot slot.State slot.Spec = inr refl
which_slot slot.State slot.Trace = inr refl
which_slot slot.State slot.State = inl refl
which_slot slot.State slot.Code = inr refl
which_slot slot.Code slot.Spec = inr refl
which_slot slot.Code slot.Trace = inr refl
which_slot slot.Code slot.State = inr refl
which_slot slot.Code slot.Code = inl refl

-- what holds of one slot, and of each other one
pub by_slot : (from : Slot) (P : Slot → Type 0) → P from → ((at : Slot) → same_slot from at ≡ false → P at) → (at : Slot) → P at
by_slot from P first others at = elim (which_slot from at) [
  | inl is ↦ subst P is first
  | inr other ↦ others at other
]

-- two slots are as far apart either way
apart_back : (at from : Slot) → same_slot at from ≡ false → same_slot from at ≡ false
apart_back at from other = elim (which_slot from at) [
  | inl same ↦ let bad : false ≡ true = sym (subst (λ (s : Slot). same_slot at s ≡ false) same other) ∙ same_slot_itself at in absurd cc
  | inr is ↦ is
]

-- no entry is of one slot and of another
pub apart_none : {A : Type 0} (at from : Slot) → same_slot at from ≡ false → same_slot at from ≡ true → A
apart_none at from other same = absurd (let bad : false ≡ true = sym other ∙ same in cc)

-- nothing is made where no entry is a creation
pub unmade_none : (part : List Did) → Each (λ did. IsCreation did → ⊥) part → creations part ≡ []
unmade_none [] all = refl
unmade_none (Created to name ∷ part) all = absurd (all.0 tt)
unmade_none (NotCreated to name ∷ part) all = absurd (all.0 tt)
unmade_none (did ∷ part) all = unmade_none part all.1

-- ---- parts that read files in order

-- so much of a file may be taken before a read
abbrev IsWithinAt : Slot → List Did → Type 0
IsWithinAt from before = IsNotPast (most_of from) (length (taken from before))

-- What every journal shows of reads and of calls that failed.
pub record IsOrderly (c : Command) (part : List Did) : Type 0 where
  pub in_turn : TakesInTurn (Some c) part
  pub ends : StopsAtEnds part
  pub limits : StopsAtLimits part
  pub pieces : ReadsPieces part
  pub stops : StopsAtFailure part
  pub silent : Each (IsNoGift Err) part

-- so is a file opened that follows
abbrev pub MayOpen : Option Command → Slot → List Did → Type 0
MayOpen c from before = IsTurn c from (seen before) × IsJudged c from (seen before)

-- nothing is read but this slot
abbrev pub ReadsOnly : Slot → List Did → Type 0
ReadsOnly own part = (at : Slot) → same_slot own at ≡ false → Each (IsNoRead at) part

-- a slot is opened before all else, where it is opened
abbrev pub OpensFirst : Slot → List Did → Type 0
OpensFirst at part = AtEntries (IsOpening at) (λ less. less ≡ []) part

pub opening_first : (at : Slot) (did : Did) (more : List Did) → Each (λ did. IsOpening at did → ⊥) more → OpensFirst at (did ∷ more)
opening_first at did more none =
    at_join (IsOpening at) (λ less. less ≡ []) (did ∷ []) more
    (at_one (IsOpening at) (λ less. less ≡ []) [] did (at_none (IsOpening at) (λ less. less ≡ [])) refl) (at_not (IsOpening at) (λ less. did ∷ less ≡ []) more none)

-- A part that opens and reads no other slot than this one, as every journal does.
pub record ReadsSlot (own : Slot) (part : List Did) : Type 0 where
  pub only : ReadsOnly own part
  pub opens_only : (at : Slot) → same_slot own at ≡ false → Each (λ did. IsOpening at did → ⊥) part
  pub opens_first : OpensFirst own part
  pub ends : StopsAtEnd own part
  pub limits : AtReads own (IsWithinAt own) part
  pub pieces : ReadsPieces part
  pub stops : StopsAtFailure part
  pub silent : Each (IsNoGift Err) part

-- A part that opens and reads nothing.
pub record ReadsNothing (part : List Did) : Type 0 where
  pub unread : (at : Slot) → Each (IsNoRead at) part
  pub unopened : (at : Slot) → Each (λ did. IsOpening at did → ⊥) part
  pub pieces : ReadsPieces part
  pub stops : StopsAtFailure part
  pub silent : Each (IsNoGift Err) part

-- A part in which a file is opened and read, as far as it comes, and nothing else is done.
pub record ReadsOneFile (at : Slot) (name : List ℕ) (part : List Did) : Type 0 where
  pub reads : ReadsSlot at part
  pub opens : (openings part ≡ []) ⊎ (openings part ≡ (at, name) ∷ [])
  pub unmade : Each (λ did. IsCreation did → ⊥) part
  pub ungiven : (to : Channel) → Each (IsNoGift to) part

-- a file is opened before the rest of it is read
pub opened_before : (at : Slot) (name : List ℕ) (rest : List Did) → ReadsSlot at rest → Each (λ did. IsOpening at did → ⊥) rest → ReadsSlot at (Opened at name ∷ rest)
opened_before at name rest r none = record {
  only = λ from other. (tt, r.only from other);
  opens_only = λ from other. (apart_none at from other, r.opens_only from other);
  opens_first = opening_first at (Opened at name) rest none;
  ends = stops_after at (Opened at name ∷ []) rest (tt, tt) r.ends;
  limits = at_after at (IsWithinAt at) (IsWithinAt at) (Opened at name ∷ []) rest (tt, tt) (λ less within. within) r.limits;
  pieces = (tt, r.pieces);
  stops = at_each_join IsDone (Opened at name ∷ []) rest (tt, tt) r.stops;
  silent = (tt, r.silent);
}

-- a file could not be opened
pub unopened_slot : (at : Slot) (name : List ℕ) → ReadsSlot at (NotOpened at name ∷ [])
unopened_slot at name = record {
  only = λ from other. (tt, tt);
  opens_only = λ from other. (apart_none at from other, tt);
  opens_first = opening_first at (NotOpened at name) [] tt;
  ends = at_no_read at (λ before. ended at before ≡ false) (NotOpened at name ∷ []) (tt, tt);
  limits = at_no_read at (IsWithinAt at) (NotOpened at name ∷ []) (tt, tt);
  pieces = (tt, tt);
  stops = stops_one [] (NotOpened at name) tt;
  silent = (tt, tt);
}

module _ (at : Slot) (most : ℕ) (limit : most_of at ≡ Some most) (name : List ℕ) where
  unopened_file : ReadsOneFile at name []
  unopened_file = record {
    reads = record {
      only = λ from other. tt;
      opens_only = λ from other. tt;
      opens_first = at_none (IsOpening at) (λ less. less ≡ []);
      ends = at_none (IsRead at) (λ before. ended at before ≡ false);
      limits = at_none (IsRead at) (IsWithinAt at);
      pieces = tt;
      stops = at_none IsAny (Each IsDone);
      silent = tt;
    };
    opens = inl refl;
    unmade = tt;
    ungiven = λ to. tt;
  }

  no_file_there : ReadsOneFile at name (NotOpened at name ∷ [])
  no_file_there = record { reads = unopened_slot at name; opens = inr refl; unmade = ((λ (no : ⊥). no), tt); ungiven = λ to. (tt, tt) }

  module _ (reads : List Did) (r : ReadsFile at most reads) where
    transfers : Each IsTransfer reads
    transfers = each_take IsTransfer at (λ bytes short. tt) tt reads r.only

    file_limits : AtReads at (IsWithinAt at) (Opened at name ∷ reads)
    file_limits =
        at_after at (MayReadFile at most) (IsWithinAt at) (Opened at name ∷ []) reads (tt, tt)
        (λ less h. subst (λ (m : Option ℕ). IsNotPast m (length (taken at less))) (sym limit) h.within) r.reads

    file_opens : openings (Opened at name ∷ reads) ≡ (at, name) ∷ []
    file_opens = ap (λ (l : List (Slot × List ℕ)). (at, name) ∷ l) (openings_none reads transfers)

    reading_file : ReadsOneFile at name (Opened at name ∷ reads)
    reading_file = record {
      reads = record {
        only = λ from other. (tt, each_take (IsNoRead from) at (λ bytes short. other) other reads r.only);
        opens_only = λ from other. (apart_none at from other, no_opening_in from reads transfers);
        opens_first = opening_first at (Opened at name) reads (no_opening_in at reads transfers);
        ends = at_after at (MayReadFile at most) (λ before. ended at before ≡ false) (Opened at name ∷ []) reads (tt, tt) (λ less h. h.unended) r.reads;
        limits = file_limits;
        pieces = (tt, each_take (IsWithin MOST_PIECE_BYTES) at (λ bytes short. short) tt reads r.only);
        stops = at_each_join IsDone (Opened at name ∷ []) reads (tt, tt) r.stops;
        silent = (tt, each_take (IsNoGift Err) at (λ bytes short. tt) tt reads r.only);
      };
      opens = inr file_opens;
      unmade = ((λ (no : ⊥). no), no_creation_in reads transfers);
      ungiven = λ to. (tt, each_take (IsNoGift to) at (λ bytes short. tt) tt reads r.only);
    }

  one_file : (part : List Did) → ReadsName at most name part → ReadsOneFile at name part
  one_file _ unopened = unopened_file
  one_file _ no_file = no_file_there
  one_file _ (reading reads r) = reading_file reads r

-- ---- fronts

-- no file of these stands in the slot
abbrev pub AreApart : Slot → List (Slot × List ℕ) → Type 0
AreApart at [] = ⊤
AreApart at (file ∷ files) = (same_slot at file.0 ≡ false) × AreApart at files

apart_parts : (at : Slot) (files more : List (Slot × List ℕ)) → AreApart at (files ++ more) → AreApart at files × AreApart at more
apart_parts at [] more apart = (tt, apart)
apart_parts at (file ∷ files) more apart = let rest = apart_parts at files more apart.1 in ((apart.0, rest.0), rest.1)

whole_parts : (x : Seen) (files more : List (Slot × List ℕ)) → AreWhole files x → AreWhole more x → AreWhole (files ++ more) x
whole_parts x [] more w v = v
whole_parts x (file ∷ files) more w v = (w.0, whole_parts x files more w.1 v)

-- files stay whole where another slot is read
whole_on : (own : Slot) (files : List (Slot × List ℕ)) → AreApart own files → (part more : List Did) → ReadsOnly own more → AreWhole files (seen part) → AreWhole files (seen (part ++ more))
whole_on own [] apart part more only w = tt
whole_on own (file ∷ files) apart part more only w = (whole_more file.0 part more (only file.0 apart.0) w.0, whole_on own files apart.1 part more only w.1)

-- it is the turn of a file where those before it are whole
turn_of : (at : Slot) (name : List ℕ) (files more : List (Slot × List ℕ)) (x : Seen) → AreWhole files x → AreWholeBefore at (files ++ (at, name) ∷ more) x
turn_of at name [] more x w = inl (same_slot_itself at)
turn_of at name (file ∷ files) more x w = inr (w.0, turn_of at name files more x w.1)

-- what begins a list begins it after the same front
pub begins_after : {A : Type 0} (front short whole : List A) → Begins short whole → Begins (front ++ short) (front ++ whole)
begins_after front short whole b = record { rest = b.rest; is = ap (λ (l : List _). front ++ l) b.is ∙ sym (append_assoc front short b.rest) }

-- What is known of a part in which these files were read, one after another and each whole, and nothing else was done.
pub record Front (c : Command) (files : List (Slot × List ℕ)) (front : List Did) : Type 0 where
  pub opens : openings front ≡ files
  pub unmade : Each (λ did. IsCreation did → ⊥) front
  pub ungiven : (to : Channel) → Each (IsNoGift to) front
  pub unread : (at : Slot) → AreApart at files → Each (IsNoRead at) front
  pub unopened : (at : Slot) → AreApart at files → Each (λ did. IsOpening at did → ⊥) front
  pub done : Each IsDone front
  pub whole : AreWhole files (seen front)
  pub orderly : IsOrderly c front

-- before any file
pub front_none : (c : Command) → Front c [] []
front_none c = record {
  opens = refl;
  unmade = tt;
  ungiven = λ to. tt;
  unread = λ at apart. tt;
  unopened = λ at apart. tt;
  done = tt;
  whole = tt;
  orderly = record {
    in_turn = record { opens = λ from. at_none (IsOpening from) (MayOpen (Some c) from); reads = λ from. at_none (IsRead from) (λ before. IsTurn (Some c) from (seen before)) };
    ends = λ from. at_none (IsRead from) (λ before. ended from before ≡ false);
    limits = λ from. at_none (IsRead from) (IsWithinAt from);
    pieces = tt;
    stops = at_none IsAny (Each IsDone);
    silent = tt;
  };
}

-- a part with no creation, no write and no read of the trace
shows_quiet : (c : Command) (part : List Did) → OpensAsAsked (Some c) part → Each (λ did. IsCreation did → ⊥) part → ((to : Channel) → Each (IsNoGift to) part) → Each (IsNoRead Trace) part → IsOrderly c part → Shows (Some c) part
shows_quiet c part opens unmade gifts unread o = record {
  opens = opens;
  makes = makes_none (Some c) part (unmade_none part unmade);
  makes_last = none_made_last (Some c) part unmade;
  in_turn = o.in_turn;
  writes_last = λ to other. at_not (IsGift to) (λ before. IsAllWhole (Some c) (seen before)) part (each_more (IsNoGift to) (λ did. IsGift to did → ⊥) (not_gift to) part (gifts to));
  ends = o.ends;
  limits = o.limits;
  pieces = o.pieces;
  stops = o.stops;
  due = at_no_read Trace (λ before. IsDueAtRead (Some c) (seen before)) part unread;
  goes_on = at_no_read Trace (λ before. GoesOnAtRead (Some c) (seen before)) part unread;
  partly = λ to. inl (nothing_given part to (gifts to));
  silent = o.silent;
}

-- where nothing was done
pub shows_none : (c : Option Command) → Shows c []
shows_none c = record {
  opens = record { rest = for_asked (opened_at at_work) c; is = refl };
  makes = makes_none c [] refl;
  makes_last = none_made_last c [] tt;
  in_turn = record { opens = λ from. at_none (IsOpening from) (MayOpen c from); reads = λ from. at_none (IsRead from) (λ before. IsTurn c from (seen before)) };
  writes_last = λ to other. at_none (IsGift to) (λ before. IsAllWhole c (seen before));
  ends = λ from. at_none (IsRead from) (λ before. ended from before ≡ false);
  limits = λ from. at_none (IsRead from) (IsWithinAt from);
  pieces = tt;
  stops = at_none IsAny (Each IsDone);
  due = at_none (IsRead Trace) (λ before. IsDueAtRead c (seen before));
  goes_on = at_none (IsRead Trace) (λ before. GoesOnAtRead c (seen before));
  partly = λ to. inl (nothing_given [] to tt);
  silent = tt;
}

module _ (c : Command) (files : List (Slot × List ℕ)) (front : List Did) (f : Front c files front) where
  pub front_unmade : creations front ≡ []
  front_unmade = unmade_none front f.unmade

  -- the openings of the front and of what is after it
  pub front_openings : (rest : List Did) → openings (front ++ rest) ≡ files ++ openings rest
  front_openings rest = openings-append front rest ∙ ap (λ (l : List (Slot × List ℕ)). l ++ openings rest) f.opens

  pub front_creations : (rest : List Did) → creations (front ++ rest) ≡ creations rest
  front_creations rest = creations-append front rest ∙ ap (λ (l : List (Channel × List ℕ)). l ++ creations rest) front_unmade

  pub front_given : (to : Channel) (rest : List Did) → given to (front ++ rest) ≡ given to rest
  front_given to rest = given_after to front rest (f.ungiven to)

  pub front_silent : (to : Channel) → (seen front).given to ≡ []
  front_silent to = nothing_given front to (f.ungiven to)

  -- the files are whole where nothing more of them is read
  pub whole_now : (own : Slot) → AreApart own files → (rest : List Did) → ReadsOnly own rest → AreWhole files (seen (front ++ rest))
  whole_now own apart rest only = whole_on own files apart front rest only f.whole

  whole_along : (own : Slot) → AreApart own files → (rest : List Did) → ReadsOnly own rest → AtAll (λ less. AreWhole files (seen (front ++ less))) rest
  whole_along own apart rest only less entry = whole_now own apart less (λ at other. at_each (IsNoRead at) rest (only at other) less entry)

  -- nothing is read after the front
  pub then_nothing : (rest : List Did) → ReadsNothing rest → IsOrderly c (front ++ rest)
  then_nothing rest r = record {
    in_turn = record {
      opens = λ from. at_join (IsOpening from) (MayOpen (Some c) from) front rest (f.orderly.in_turn.opens from) (at_not (IsOpening from) (λ less. MayOpen (Some c) from (front ++ less)) rest (r.unopened from));
      reads = λ from. at_more from (λ before. IsTurn (Some c) from (seen before)) front rest (f.orderly.in_turn.reads from) (r.unread from);
    };
    ends = λ from. at_more from (λ before. ended from before ≡ false) front rest (f.orderly.ends from) (r.unread from);
    limits = λ from. at_more from (IsWithinAt from) front rest (f.orderly.limits from) (r.unread from);
    pieces = Each-append (IsWithin MOST_PIECE_BYTES) front rest f.orderly.pieces r.pieces;
    stops = at_each_join IsDone front rest f.done r.stops;
    silent = Each-append (IsNoGift Err) front rest f.orderly.silent r.silent;
  }

  -- another file is read after the front
  module _ (at : Slot) (name : List ℕ) (apart : AreApart at files) (more : List (Slot × List ℕ)) (asked : opened_at at_work c ≡ files ++ (at, name) ∷ more) where
    turn_at : (x : Seen) → AreWhole files x → IsTurn (Some c) at x
    turn_at x w = subst (λ (l : List (Slot × List ℕ)). AreWholeBefore at l x) (sym asked) (turn_of at name files more x w)

    -- entries of one kind stand in turn after the front
    in_turn_after : (Q : Slot → Did → Type 0) (rest : List Did) → ReadsOnly at rest → ((from : Slot) → same_slot at from ≡ false → Each (λ did. Q from did → ⊥) rest)
        → (from : Slot) → AtEntries (Q from) (λ less. IsTurn (Some c) from (seen (front ++ less))) rest
    in_turn_after Q rest only none =
        by_slot at (λ from. AtEntries (Q from) (λ less. IsTurn (Some c) from (seen (front ++ less))) rest)
        (at_weaker (Q at) (λ less. AreWhole files (seen (front ++ less))) (λ less. IsTurn (Some c) at (seen (front ++ less))) rest (λ less w. turn_at (seen (front ++ less)) w)
        (at_fewer IsAny (Q at) (λ less. AreWhole files (seen (front ++ less))) rest (λ did is. tt) (whole_along at apart rest only)))
        (λ from other. at_not (Q from) (λ less. IsTurn (Some c) from (seen (front ++ less))) rest (none from other))

    opens_then : (opened : List (Slot × List ℕ)) → (opened ≡ []) ⊎ (opened ≡ (at, name) ∷ []) → Begins opened ((at, name) ∷ more)
    opens_then opened (inl is) = record { rest = (at, name) ∷ more; is = ap (λ (l : List (Slot × List ℕ)). l ++ (at, name) ∷ more) (sym is) }
    opens_then opened (inr is) = record { rest = more; is = ap (λ (l : List (Slot × List ℕ)). l ++ more) (sym is) }

    -- what is opened is asked for
    pub opens_next : (rest : List Did) → (openings rest ≡ []) ⊎ (openings rest ≡ (at, name) ∷ []) → OpensAsAsked (Some c) (front ++ rest)
    opens_next rest is =
        subst (λ (l : List (Slot × List ℕ)). Begins (openings (front ++ rest)) l) (sym asked)
        (subst (λ (l : List (Slot × List ℕ)). Begins l (files ++ (at, name) ∷ more)) (sym (front_openings rest)) (begins_after files (openings rest) ((at, name) ∷ more) (opens_then (openings rest) is)))

    -- what was read before it was judged
    module _ (judged : IsJudged (Some c) at (seen front)) where
      judged_first : (less : List Did) → less ≡ [] → IsJudged (Some c) at (seen (front ++ less))
      judged_first less none = subst (λ (l : List Did). IsJudged (Some c) at (seen l)) (sym (ap (λ (l : List Did). front ++ l) none ∙ append-nil front)) judged

      judged_after : (rest : List Did) → ReadsSlot at rest → (from : Slot) → AtEntries (IsOpening from) (λ less. IsJudged (Some c) from (seen (front ++ less))) rest
      judged_after rest r =
          by_slot at (λ from. AtEntries (IsOpening from) (λ less. IsJudged (Some c) from (seen (front ++ less))) rest)
          (at_weaker (IsOpening at) (λ less. less ≡ []) (λ less. IsJudged (Some c) at (seen (front ++ less))) rest judged_first r.opens_first)
          (λ from other. at_not (IsOpening from) (λ less. IsJudged (Some c) from (seen (front ++ less))) rest (r.opens_only from other))

      pub then_slot : (rest : List Did) → ReadsSlot at rest → IsOrderly c (front ++ rest)
      then_slot rest r = record {
        in_turn = record {
          opens = λ from. at_join (IsOpening from) (MayOpen (Some c) from) front rest (f.orderly.in_turn.opens from)
              (λ less entry. (in_turn_after IsOpening rest r.only r.opens_only from less entry, judged_after rest r from less entry));
          reads = λ from. at_join (IsRead from) (λ before. IsTurn (Some c) from (seen before)) front rest (f.orderly.in_turn.reads from)
              (in_turn_after IsRead rest r.only (λ from other. each_more (IsNoRead from) (λ did. IsRead from did → ⊥) (not_read from) rest (r.only from other)) from);
        };
        ends = by_slot at (λ from. StopsAtEnd from (front ++ rest)) (stops_after at front rest (f.unread at apart) r.ends)
            (λ from other. at_more from (λ before. ended from before ≡ false) front rest (f.orderly.ends from) (r.only from other));
        limits = by_slot at (λ from. AtReads from (IsWithinAt from) (front ++ rest))
            (at_after at (IsWithinAt at) (IsWithinAt at) front rest (f.unread at apart)
            (λ less h. subst (λ (l : List ℕ). IsNotPast (most_of at) (length l)) (sym (taken_after at front less (f.unread at apart))) h) r.limits)
            (λ from other. at_more from (IsWithinAt from) front rest (f.orderly.limits from) (r.only from other));
        pieces = Each-append (IsWithin MOST_PIECE_BYTES) front rest f.orderly.pieces r.pieces;
        stops = at_each_join IsDone front rest f.done r.stops;
        silent = Each-append (IsNoGift Err) front rest f.orderly.silent r.silent;
      }

      module _ (most : ℕ) (limit : most_of at ≡ Some most) (aside : same_slot at Trace ≡ false) (before_trace : AreApart Trace files) where
        -- the file is read, as far as it comes
        pub shows_reading : (part : List Did) → ReadsName at most name part → Shows (Some c) (front ++ part)
        shows_reading part reads =
            let one = one_file at most limit name part reads in
            shows_quiet c (front ++ part) (opens_next part one.opens) (Each-append (λ did. IsCreation did → ⊥) front part f.unmade one.unmade)
            (λ to. Each-append (IsNoGift to) front part (f.ungiven to) (one.ungiven to)) (Each-append (IsNoRead Trace) front part (f.unread Trace before_trace) (one.reads.only Trace aside))
            (then_slot part one.reads)

      module _ (most : ℕ) (limit : most_of at ≡ Some most) (reads : List Did) (r : ReadsFile at most reads) (bytes : List ℕ) (g : GivesFile at most bytes reads) where
        abbrev whole_file : List Did
        whole_file = Opened at name ∷ reads

        file_whole : HasWhole at (seen (front ++ whole_file))
        file_whole = elim g.whole [
          | inl is ↦ inl (ended_after at front whole_file (f.unread at apart) ∙ is)
          | inr past ↦ inr (subst (λ (l : List ℕ). IsPast (most_of at) (length l)) (sym (taken_after at front whole_file (f.unread at apart)))
              (subst (λ (m : Option ℕ). IsPast m (length (taken at whole_file))) (sym limit) past))
        ]

        -- the file was read whole, too
        pub then_file : Front c (files ++ (at, name) ∷ []) (front ++ whole_file)
        then_file = let one = reading_file at most limit name reads r in record {
          opens = front_openings whole_file ∙ ap (λ (l : List (Slot × List ℕ)). files ++ l) (file_opens at most limit name reads r);
          unmade = Each-append (λ did. IsCreation did → ⊥) front whole_file f.unmade one.unmade;
          ungiven = λ to. Each-append (IsNoGift to) front whole_file (f.ungiven to) (one.ungiven to);
          unread = λ from others. let parts = apart_parts from files ((at, name) ∷ []) others in Each-append (IsNoRead from) front whole_file (f.unread from parts.0) (one.reads.only from (apart_back from at parts.1.0));
          unopened = λ from others. let parts = apart_parts from files ((at, name) ∷ []) others in
              Each-append (λ did. IsOpening from did → ⊥) front whole_file (f.unopened from parts.0) (one.reads.opens_only from (apart_back from at parts.1.0));
          done = Each-append IsDone front whole_file f.done (tt, g.done);
          whole = whole_parts (seen (front ++ whole_file)) files ((at, name) ∷ []) (whole_now at apart whole_file one.reads.only) (file_whole, tt);
          orderly = then_slot whole_file one.reads;
        }

  -- ---- what is done after all files that are read whole
  module _ (before_trace : AreApart Trace files) (all : files ≡ whole_at at_work c) where
    -- nothing
    pub shows_front : Shows (Some c) front
    shows_front =
        shows_quiet c front (record { rest = trace_files c; is = ap (λ (l : List (Slot × List ℕ)). l ++ trace_files c) (sym (f.opens ∙ all)) }) f.unmade f.ungiven (f.unread Trace before_trace) f.orderly

    all_whole : (x : Seen) → AreWhole files x → IsAllWhole (Some c) x
    all_whole x w = subst (λ (l : List (Slot × List ℕ)). AreWhole l x) all w

    all_whole_along : (rest : List Did) → ReadsOnly Trace rest → AtAll (λ less. IsAllWhole (Some c) (seen (front ++ less))) rest
    all_whole_along rest only less entry = all_whole (seen (front ++ less)) (whole_along Trace before_trace rest only less entry)

    makes_asked : (made : List (Channel × List ℕ)) → (made ≡ []) ⊎ (made ≡ made_files c) → Begins made (made_files c)
    makes_asked made (inl is) = record { rest = made_files c; is = ap (λ (l : List (Channel × List ℕ)). l ++ made_files c) (sym is) }
    makes_asked made (inr is) = record { rest = []; is = sym is ∙ sym (append-nil made) }

    -- the work
    pub shows_tail : (rest : List Did) → ReadsOnly Trace rest → IsOrderly c (front ++ rest) → OpensAsAsked (Some c) (front ++ rest) → (creations rest ≡ []) ⊎ (creations rest ≡ made_files c)
        → AtEntries IsCreation (λ less. MayMake (Some c) (seen (front ++ less))) rest → AtReads Trace (λ less. IsDueAtRead (Some c) (seen (front ++ less))) rest
        → AtReads Trace (λ less. GoesOnAtRead (Some c) (seen (front ++ less))) rest → IsPartlyDue (Some c) (seen (front ++ rest)) → Shows (Some c) (front ++ rest)
    shows_tail rest only orderly opens makes may_make due goes_on partly = let along = all_whole_along rest only in record {
      opens = opens;
      makes = subst (λ (l : List (Channel × List ℕ)). Begins l (made_files c)) (sym (front_creations rest)) (makes_asked (creations rest) makes);
      makes_last = at_join IsCreation (λ before. IsAllWhole (Some c) (seen before) × MayMake (Some c) (seen before)) front rest (none_made_last (Some c) front f.unmade)
          (λ less entry. (at_fewer IsAny IsCreation (λ less. IsAllWhole (Some c) (seen (front ++ less))) rest (λ did is. tt) along less entry, may_make less entry));
      in_turn = orderly.in_turn;
      writes_last = λ to other. at_join (IsGift to) (λ before. IsAllWhole (Some c) (seen before)) front rest
          (at_not (IsGift to) (λ before. IsAllWhole (Some c) (seen before)) front (each_more (IsNoGift to) (λ did. IsGift to did → ⊥) (not_gift to) front (f.ungiven to)))
          (at_fewer IsAny (IsGift to) (λ less. IsAllWhole (Some c) (seen (front ++ less))) rest (λ did is. tt) along);
      ends = orderly.ends;
      limits = orderly.limits;
      pieces = orderly.pieces;
      stops = orderly.stops;
      due = at_join (IsRead Trace) (λ before. IsDueAtRead (Some c) (seen before)) front rest (at_no_read Trace _ front (f.unread Trace before_trace)) due;
      goes_on = at_join (IsRead Trace) (λ before. GoesOnAtRead (Some c) (seen before)) front rest (at_no_read Trace _ front (f.unread Trace before_trace)) goes_on;
      partly = partly;
      silent = orderly.silent;
    }

    -- the trace could not be opened
    pub shows_no_trace : IsJudged (Some c) Trace (seen front) → (name : List ℕ) → opened_at at_work c ≡ files ++ (Trace, name) ∷ [] → Shows (Some c) (front ++ NotOpened Trace name ∷ [])
    shows_no_trace judged name asked =
        let rest = NotOpened Trace name ∷ [] in
        shows_tail rest (λ at other. (tt, tt)) (then_slot Trace name before_trace [] asked judged rest (unopened_slot Trace name)) (opens_next Trace name before_trace [] asked rest (inr refl)) (inl refl)
        (at_not IsCreation _ rest ((λ (no : ⊥). no), tt)) (at_no_read Trace _ rest (tt, tt)) (at_no_read Trace _ rest (tt, tt))
        (λ to. inl (nothing_given (front ++ rest) to (Each-append (IsNoGift to) front rest (f.ungiven to) (tt, tt))))

-- the first file of a command, read whole
pub first_front : (c : Command) (at : Slot) (most : ℕ) → most_of at ≡ Some most → (name : List ℕ) (more : List (Slot × List ℕ)) → opened_at at_work c ≡ (at, name) ∷ more
    → IsJudged (Some c) at (seen []) → (reads : List Did) → ReadsFile at most reads → (bytes : List ℕ) → GivesFile at most bytes reads → Front c ((at, name) ∷ []) (Opened at name ∷ reads)
first_front c at most limit name more asked judged reads r bytes g = then_file c [] [] (front_none c) at name tt more asked judged most limit reads r bytes g

-- or as far as it comes
pub shows_first : (c : Command) (at : Slot) (most : ℕ) → most_of at ≡ Some most → same_slot at Trace ≡ false → (name : List ℕ) (more : List (Slot × List ℕ)) → opened_at at_work c ≡ (at, name) ∷ more
    → IsJudged (Some c) at (seen []) → (part : List Did) → ReadsName at most name part → Shows (Some c) part
shows_first c at most limit aside name more asked judged part reads = shows_reading c [] [] (front_none c) at name tt more asked judged most limit aside tt part reads
