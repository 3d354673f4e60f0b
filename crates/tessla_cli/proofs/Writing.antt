-- A text that goes where those of its form do.
use Rattle.std.proofs.Common.{◌≡◌, ◌⊎◌, inl, inr, ℕ, Bool, false, List, [], ◌∷◌, Result, Ok, Err, OnOk, refl, sym, ◌∙◌, ap, subst}
use Rattle.std.proofs.lemmas.List.{append-nil}
use Rattle.code_file.specs.declared.fault.CodeFault.{CodeFault}
use Rattle.code_file.specs.declared.fault.CodeFault.TheVariants.{TooLong}
use Rattle.command_words.specs.declared.command.Command.TheVariants as command
use Rattle.command_words.specs.declared.command.Form.{Form}
use Rattle.command_words.specs.declared.command.Form.TheVariants as form
use Rattle.flat_core.specs.System.{System}
use Rattle.trace_reader.specs.declared.limits.TheConstants.{MOST_PIECE_BYTES}
use Rattle.trace_run.specs.Effects.{Gives, Writes}
use Rattle.tsl_world.specs.Begins.{Begins}
use Rattle.tsl_world.specs.declared.outside.Did.{Did}
use Rattle.tsl_world.specs.declared.outside.Did.TheVariants.{Created, NotCreated}
use Rattle.tsl_world.specs.declared.outside.Slot.{Slot}
use Rattle.tsl_world.specs.declared.outside.Channel.{Channel}
use Rattle.tsl_world.specs.declared.outside.Channel.TheVariants.{Out, Err, Code}
use Rattle.tsl_world.specs.Journal.{given, openings, creations, same_channel, StopsAtFailure, IsCreation, IsDone, IsOpening, IsNoRead, IsNoGift, IsTransfer, IsWithin, Each}
use Rattle.tsl_world.specs.Runs.{Grows}
use Rattle.tsl_world.specs.Seen.{given_aside}
use Rattle.tsl_world.proofs.Journals.{each_more}
use Rattle.tsl_world.proofs.Places.{at_each_join, stops_one}
use Rattle.tsl_world.proofs.Untouched.{creations_none, gifts_elsewhere, gifts_read_none, gifts_transfer, gifts_within, openings_none, transfer_makes_none, transfer_opens_none}
use Rattle.tessla_cli.specs.Asked.{made_files}
use Rattle.tessla_cli.specs.Printed.{RefusesForm, channel_of}
use Rattle.tessla_cli.specs.declared.ending.Ending.{Ending}
use Rattle.tessla_cli.specs.declared.ending.Ending.TheVariants as ending
use Rattle.tessla_cli.specs.inner.RunPhases.{HasPut, has_put_file, has_put_out, HasPutFile, has_put_all, Puts, puts_file, puts_out, PutsFile, file_made, no_file_made}

-- Where a text goes, as far as it comes: nothing is opened and read, a file is made for a form that has one, and only its channel is given
-- anything.
pub record PutFacts (f : Form) (spec text : List ℕ) (part : List Did) : Type 0 where
  pub opens : openings part ≡ []
  pub makes : (creations part ≡ []) ⊎ (creations part ≡ made_files (command.Write spec f))
  pub made : Each (λ did. IsCreation did → ⊥) part ⊎ ((file : List ℕ) × (f ≡ form.File file))
  pub unopened : (from : Slot) → Each (λ did. IsOpening from did → ⊥) part
  pub unread : (from : Slot) → Each (IsNoRead from) part
  pub pieces : Each (IsWithin MOST_PIECE_BYTES) part
  pub stops : StopsAtFailure part
  pub elsewhere : (to : Channel) → same_channel (channel_of f) to ≡ false → Each (IsNoGift to) part
  pub some : Begins (given (channel_of f) part) text

out_facts : (f : Form) (spec text : List ℕ) (part : List Did) → channel_of f ≡ Out → Writes Out part → Begins (given Out part) text → PutFacts f spec text part
out_facts f spec text part is w some = let moves = gifts_transfer Out part w.gifts in record {
  opens = openings_none part moves;
  makes = inl (creations_none part moves);
  made = inl (each_more IsTransfer (λ did. IsCreation did → ⊥) transfer_makes_none part moves);
  unopened = λ from. each_more IsTransfer (λ did. IsOpening from did → ⊥) (transfer_opens_none from) part moves;
  unread = λ from. gifts_read_none Out from part w.gifts;
  pieces = gifts_within Out MOST_PIECE_BYTES part w.gifts;
  stops = w.stops;
  elsewhere = λ to other. gifts_elsewhere Out to (subst (λ (c : Channel). same_channel c to ≡ false) is other) part w.gifts;
  some = subst (λ (c : Channel). Begins (given c part) text) (sym is) some;
}

-- A file that is made for a text, as far as it comes.
pub record FileFacts (to : Channel) (name text : List ℕ) (part : List Did) : Type 0 where
  pub opens : openings part ≡ []
  pub makes : creations part ≡ (to, name) ∷ []
  pub unopened : (from : Slot) → Each (λ did. IsOpening from did → ⊥) part
  pub unread : (from : Slot) → Each (IsNoRead from) part
  pub pieces : Each (IsWithin MOST_PIECE_BYTES) part
  pub stops : StopsAtFailure part
  pub elsewhere : (other : Channel) → same_channel to other ≡ false → Each (IsNoGift other) part
  pub some : Begins (given to part) text

pub file_facts : (to : Channel) (name text : List ℕ) (part : List Did) → PutsFile to name text part → FileFacts to name text part
file_facts to name text _ no_file_made = record {
  opens = refl;
  makes = refl;
  unopened = λ from. ((λ (no : ⊥). no), tt);
  unread = λ from. (tt, tt);
  pieces = (tt, tt);
  stops = stops_one [] (NotCreated to name) tt;
  elsewhere = λ other apart. (tt, tt);
  some = record { rest = text; is = refl };
}
file_facts to name text _ (file_made part w some) = let moves = gifts_transfer to part w.gifts in record {
  opens = openings_none part moves;
  makes = ap (λ (l : List (Channel × List ℕ)). (to, name) ∷ l) (creations_none part moves);
  unopened = λ from. ((λ (no : ⊥). no), each_more IsTransfer (λ did. IsOpening from did → ⊥) (transfer_opens_none from) part moves);
  unread = λ from. (tt, gifts_read_none to from part w.gifts);
  pieces = (tt, gifts_within to MOST_PIECE_BYTES part w.gifts);
  stops = at_each_join IsDone (Created to name ∷ []) part (tt, tt) w.stops;
  elsewhere = λ other apart. (tt, gifts_elsewhere to other apart part w.gifts);
  some = some;
}

put_file_facts : (name spec text : List ℕ) (part : List Did) → FileFacts Code name text part → PutFacts (form.File name) spec text part
put_file_facts name spec text part f = record {
  opens = f.opens;
  makes = inr f.makes;
  made = inr (name, refl);
  unopened = f.unopened;
  unread = f.unread;
  pieces = f.pieces;
  stops = f.stops;
  elsewhere = f.elsewhere;
  some = f.some;
}

pub put_facts : (f : Form) (spec text : List ℕ) (part : List Did) → Puts text f part → PutFacts f spec text part
put_facts f spec text _ (puts_out part is w some) = out_facts f spec text part is w some
put_facts _ spec text _ (puts_file {name} part puts) = put_file_facts name spec text part (file_facts Code name text part puts)

-- all of a text
all_begins : (given text : List ℕ) → given ≡ text → Begins given text
all_begins given text whole = record { rest = []; is = sym whole ∙ sym (append-nil given) }

pub has_put_file_puts : (to : Channel) (name text : List ℕ) (part : List Did) → HasPutFile to name text part → PutsFile to name text part
has_put_file_puts to name text _ (has_put_all part w done whole) = file_made part w (all_begins (given to part) text whole)

pub put_file_whole : (to : Channel) (name text : List ℕ) (part : List Did) → HasPutFile to name text part → given to part ≡ text
put_file_whole to name text _ (has_put_all part w done whole) = whole

pub has_put_puts : (f : Form) (text : List ℕ) (part : List Did) → HasPut text f part → Puts text f part
has_put_puts f text _ (has_put_out part is w whole) = puts_out part is w (all_begins (given Out part) text whole)
has_put_puts _ text _ (has_put_file {name} part put) = puts_file part (has_put_file_puts Code name text part put)

pub put_whole : (f : Form) (text : List ℕ) (part : List Did) → HasPut text f part → given (channel_of f) part ≡ text
put_whole f text _ (has_put_out part is w whole) = ap (λ (c : Channel). given c part) is ∙ whole
put_whole _ text _ (has_put_file {name} part put) = put_file_whole Code name text part put

-- what goes to Out has no file
no_file_on_out : (f : Form) (spec : List ℕ) → channel_of f ≡ Out → made_files (command.Write spec f) ≡ []
no_file_on_out form.Check spec is = refl
no_file_on_out form.Flat spec is = refl
no_file_on_out form.Show spec is = refl
no_file_on_out form.Code spec is = refl
no_file_on_out (form.Slice name) spec is = refl
no_file_on_out (form.File name) spec is = absurd (let bad : Code ≡ Out = is in cc)

pub put_made : (f : Form) (spec text : List ℕ) (part : List Did) → HasPut text f part → creations part ≡ made_files (command.Write spec f)
put_made f spec text _ (has_put_out part is w whole) = creations_none part (gifts_transfer Out part w.gifts) ∙ sym (no_file_on_out f spec is)
put_made _ spec text _ (has_put_file {name} part put) = (file_facts Code name text part (has_put_file_puts Code name text part put)).makes

-- no text goes to Err
pub given_there : (f : Form) (journal : List Did) → given_aside (channel_of f) journal ≡ given (channel_of f) journal
given_there form.Check journal = refl
given_there form.Flat journal = refl
given_there form.Show journal = refl
given_there form.Code journal = refl
given_there (form.Slice name) journal = refl
given_there (form.File name) journal = refl

pub out_or_code : (f : Form) → (channel_of f ≡ Out) ⊎ (channel_of f ≡ Code)
out_or_code form.Check = inl refl
out_or_code form.Flat = inl refl
out_or_code form.Show = inl refl
out_or_code form.Code = inl refl
out_or_code (form.Slice name) = inl refl
out_or_code (form.File name) = inr refl

pub not_err : (f : Form) → same_channel (channel_of f) Err ≡ false
not_err form.Check = refl
not_err form.Flat = refl
not_err form.Show = refl
not_err form.Code = refl
not_err (form.Slice name) = refl
not_err (form.File name) = refl

-- what stands against a text of a form has one of these endings
pub refusals : (f : Form) (s : System) (by : Ending) → RefusesForm f s by → ((name : List ℕ) × (by ≡ ending.NoOutput name)) ⊎ ((fault : CodeFault) × (by ≡ ending.Code fault))
refusals form.Check s by none = absurd none
refusals form.Flat s by none = absurd none
refusals form.Show s by none = absurd none
refusals form.Code s by none = absurd none
refusals (form.Slice name) s by refuses = inl (name, refuses.0)
refusals (form.File name) s by refuses = inr (TooLong, refuses.0)

-- a form without a file is written to Out
pub out_unless_file : (f : Form) → ((name : List ℕ) → f ≡ form.File name → ⊥) → channel_of f ≡ Out
out_unless_file form.Check other = refl
out_unless_file form.Flat other = refl
out_unless_file form.Show other = refl
out_unless_file form.Code other = refl
out_unless_file (form.Slice name) other = refl
out_unless_file (form.File name) other = absurd (other name refl)

-- what is written whole
pub has_put_of : {E : Type 0} (to : Channel) (name text : List ℕ) (result : Result (Unit {0}) E) (part : List Did) → Gives to text result part → OnOk result (HasPutFile to name text (Created to name ∷ part))
has_put_of to name text (Ok done) part g = has_put_all part g.writes g.done g.whole
has_put_of to name text (Err failed) part g = tt

pub has_put_on_out : {E : Type 0} (f : Form) → channel_of f ≡ Out → (text : List ℕ) (result : Result (Unit {0}) E) (part : List Did) → Gives Out text result part → OnOk result (HasPut text f part)
has_put_on_out f is text (Ok done) part g = has_put_out part is g.writes g.whole
has_put_on_out f is text (Err failed) part g = tt

module _ {W : Type 0} (told : W → Bool) (journal : W → List Did) where
  pub grows_ok : {T E : Type 0} (result : Result T E) (old new : W) (P : List Did → Type 0) → Grows told journal old new (λ p. OnOk result (P p)) → OnOk result (Grows told journal old new P)
  grows_ok (Ok done) old new P calls = calls
  grows_ok (Err failed) old new P calls = tt
