-- What the journal shows of a text that is written, from its parts.
use Rattle.std.proofs.Common.{◌≡◌, ◌⊎◌, inl, inr, ℕ, false, List, [], ◌∷◌, ◌++◌, refl, sym, ◌∙◌, ap, subst, Some}
use Rattle.std.specs.Prelude.{⊤}
use Rattle.std.proofs.lemmas.List.{append-nil}
use Rattle.command_words.specs.declared.command.Command.{Command}
use Rattle.command_words.specs.declared.command.Command.TheVariants as command
use Rattle.command_words.specs.declared.command.Form.{Form}
use Rattle.command_words.specs.declared.command.Form.TheVariants as form
use Rattle.spec_lexer.specs.declared.limits.TheConstants.{MOST_SOURCE_BYTES}
use Rattle.trace_reader.specs.declared.limits.TheConstants.{MOST_PIECE_BYTES}
use Rattle.tsl_world.specs.Begins.{Begins}
use Rattle.tsl_world.specs.declared.outside.Did.{Did}
use Rattle.tsl_world.specs.declared.outside.Did.TheVariants.{Opened}
use Rattle.tsl_world.specs.declared.outside.Slot.{Slot}
use Rattle.tsl_world.specs.declared.outside.Slot.TheVariants.{Spec, Trace}
use Rattle.tsl_world.specs.declared.outside.Channel.{Channel}
use Rattle.tsl_world.specs.declared.outside.Channel.TheVariants as channel
use Rattle.tsl_world.specs.declared.outside.Channel.TheVariants.{Out, Err}
use Rattle.tsl_world.specs.Journal.{given, openings, same_channel, AtEntries, IsAny, IsCreation, IsNoGift, IsNoRead, IsTransfer, Each}
use Rattle.tsl_world.specs.Seen.{given_aside, seen}
use Rattle.tsl_world.proofs.Journals.{Each-append}
use Rattle.tsl_world.proofs.Untouched.{gifts_read_none, gifts_transfer, gifts_within, gifts_elsewhere, openings_none, creations_none, taken_before}
use Rattle.tsl_world.proofs.Places.{at_each, at_fewer, at_not, at_no_read, at_weaker}
use Rattle.tessla_cli.specs.Conduct.{BeginsOn, IsPartlyDue, MayMake, OpensAsAsked}
use Rattle.tessla_cli.specs.Printed.{IsTextOf, OfText, channel_of}
use Rattle.tessla_cli.specs.Stages.{at_work, opened_at, whole_at}
use Rattle.tessla_cli.specs.inner.RunPhases.{ReadsSpec, GivesSource, Prints, uncompiled, compiled, unread, whole, Does, PrintsText, RunsAlone, unmade, writes}
use Rattle.tessla_cli.proofs.Fronts.{Front, Shows, first_front, front_given, front_none, front_openings, no_creation_in, no_opening_in, on_code, on_out, shows_first, shows_front, shows_none, shows_tail, then_nothing, whole_more}
use Rattle.tessla_cli.proofs.Writing.{PutFacts, not_err, out_or_code, put_facts}

-- a specification that was read whole, before a text of it is written
pub spec_front : (name : List ℕ) (f : Form) (reads : List Did) → ReadsSpec reads → (source : List ℕ) → GivesSource source reads → Front (command.Write name f) ((Spec, name) ∷ []) (Opened Spec name ∷ reads)
spec_front name f reads r source g = first_front (command.Write name f) Spec MOST_SOURCE_BYTES refl name [] refl tt reads r source g

-- a text is written
module _ (name : List ℕ) (f : Form) (reads : List Did) (r : ReadsSpec reads) (source : List ℕ) (g : GivesSource source reads) where
  abbrev c : Command
  c = command.Write name f

  abbrev front : List Did
  front = Opened Spec name ∷ reads

  abbrev files : List (Slot × List ℕ)
  files = (Spec, name) ∷ []

  known : Front (command.Write name f) ((Spec, name) ∷ []) (Opened Spec name ∷ reads)
  known = spec_front name f reads r source g

  -- the text is that of what was taken
  pub of_text : (part : List Did) → Each (IsNoRead Spec) part → (text : List ℕ) → IsTextOf source f text → (P : List ℕ → Type 0) → P text → OfText f (seen (Opened Spec name ∷ (reads ++ part))) P
  of_text part none text is P holds = record {
    whole = whole_more Spec front part none known.whole.0;
    text = text;
    is = subst (λ (l : List ℕ). IsTextOf l f text) (sym (taken_before Spec front part none ∙ g.bytes_are)) is;
    holds = holds;
  }

  module _ (part : List Did) (p : Prints source f part) where
    facts : PutFacts f name p.text part
    facts = put_facts f name p.text part p.puts

    -- where a file is made, the specification has the text that it is for
    may_make_file : (file : List ℕ) → f ≡ form.File file → (less : List Did) → Each (IsNoRead Spec) less → MayMake (Some (command.Write name f)) (seen (Opened Spec name ∷ (reads ++ less)))
    may_make_file file is less none =
        let x = seen (Opened Spec name ∷ (reads ++ less)) in
        subst (λ (k : Form). MayMake (Some (command.Write name k)) x) (sym is) (subst (λ (k : Form). OfText k x (λ text. ⊤)) is (of_text less none p.text p.is (λ text. ⊤) tt))

    may_make_after : Each (λ did. IsCreation did → ⊥) part ⊎ ((file : List ℕ) × (f ≡ form.File file)) → AtEntries IsCreation (λ less. MayMake (Some (command.Write name f)) (seen (Opened Spec name ∷ (reads ++ less)))) part
    may_make_after (inl none) = at_not IsCreation _ part none
    may_make_after (inr (file, is)) =
        at_weaker IsCreation (Each (IsNoRead Spec)) _ part (may_make_file file is) (at_fewer IsAny IsCreation (Each (IsNoRead Spec)) part (λ did is. tt) (at_each (IsNoRead Spec) part (facts.unread Spec)))

    others_after : (to : Channel) → same_channel (channel_of f) to ≡ false → Each (IsNoGift to) (Opened Spec name ∷ (reads ++ part))
    others_after to other = Each-append (IsNoGift to) front part (known.ungiven to) (facts.elsewhere to other)

    begins_there : (on : Channel) → channel_of f ≡ on → given_aside on (Opened Spec name ∷ (reads ++ part)) ≡ given on (Opened Spec name ∷ (reads ++ part)) → BeginsOn (Some (command.Write name f)) (seen (Opened Spec name ∷ (reads ++ part))) on
    begins_there on is aside = (
      is,
      of_text part (facts.unread Spec) p.text p.is (λ text. Begins (given_aside on (Opened Spec name ∷ (reads ++ part))) text)
          (subst (λ (l : List ℕ). Begins l p.text) (sym (aside ∙ front_given c files front known on part))
          (subst (λ (c : Channel). Begins (given c part) p.text) is facts.some)),
    )

    put_partly : (channel_of f ≡ Out) ⊎ (channel_of f ≡ channel.Code) → IsPartlyDue (Some (command.Write name f)) (seen (Opened Spec name ∷ (reads ++ part)))
    put_partly (inl is) =
        on_out (Some (command.Write name f)) (Opened Spec name ∷ (reads ++ part)) (λ to other. others_after to (subst (λ (c : Channel). same_channel c to ≡ false) (sym is) other)) (inr (begins_there Out is refl))
    put_partly (inr is) =
        on_code (Some (command.Write name f)) (Opened Spec name ∷ (reads ++ part)) (λ to other. others_after to (subst (λ (c : Channel). same_channel c to ≡ false) (sym is) other)) (begins_there channel.Code is refl)

    opens_spec : OpensAsAsked (Some (command.Write name f)) (Opened Spec name ∷ (reads ++ part))
    opens_spec = record { rest = []; is = sym (append-nil (openings (front ++ part)) ∙ front_openings c files front known part ∙ ap (λ (l : List (Slot × List ℕ)). (Spec, name) ∷ l) facts.opens) }

    shows_put : Shows (Some (command.Write name f)) (Opened Spec name ∷ (reads ++ part))
    shows_put =
        shows_tail c files front known (refl, tt) refl part (λ at other. facts.unread at)
        (then_nothing c files front known part (record { unread = facts.unread; unopened = facts.unopened; pieces = facts.pieces; stops = facts.stops; silent = facts.elsewhere Err (not_err f) }))
        opens_spec facts.makes (may_make_after facts.made) (at_no_read Trace _ part (facts.unread Trace)) (at_no_read Trace _ part (facts.unread Trace)) (put_partly (out_or_code f))

  pub shows_spec : Shows (Some (command.Write name f)) (Opened Spec name ∷ reads)
  shows_spec = shows_front c files front known (refl, tt) refl

pub shows_write : (name : List ℕ) (f : Form) (part : List Did) → Does (command.Write name f) part → Shows (Some (command.Write name f)) part
shows_write name f _ (unread part reads) = shows_first (command.Write name f) Spec MOST_SOURCE_BYTES refl refl name [] refl tt part reads
shows_write name f _ (whole reads rest source r g (uncompiled none)) =
    subst (λ (l : List Did). Shows (Some (command.Write name f)) (Opened Spec name ∷ l)) (sym (ap (λ (l : List Did). reads ++ l) none ∙ append-nil reads)) (shows_spec name f reads r source g)
shows_write name f _ (whole reads rest source r g (compiled p)) = shows_put name f reads r source g rest p

-- what a command shows that writes a text without a file
shows_alone : (c : Command) → whole_at at_work c ≡ [] → (P : List ℕ → Type 0) (part : List Did) → ((text : List ℕ) → P text → Begins (given Out part) text → BeginsOn (Some c) (seen part) Out)
    → PrintsText P part → Shows (Some c) part
shows_alone c none_whole P part says p =
    shows_tail c [] [] (front_none c) tt (sym none_whole) part (λ at other. unread at)
    (then_nothing c [] [] (front_none c) part (record {
      unread = unread;
      unopened = λ from. no_opening_in from part moves;
      pieces = gifts_within Out MOST_PIECE_BYTES part p.writes.gifts;
      stops = p.writes.stops;
      silent = gifts_elsewhere Out Err refl part p.writes.gifts;
    }))
    (record { rest = opened_at at_work c; is = ap (λ (l : List (Slot × List ℕ)). l ++ opened_at at_work c) (sym (openings_none part moves)) }) (inl (creations_none part moves))
    (at_not IsCreation _ part (no_creation_in part moves)) (at_no_read Trace _ part (unread Trace)) (at_no_read Trace _ part (unread Trace))
    (on_out (Some c) part (λ to other. gifts_elsewhere Out to other part p.writes.gifts) (inr (says p.text p.is p.some)))
  where
    moves : Each IsTransfer part
    moves = gifts_transfer Out part p.writes.gifts

    unread : (at : Slot) → Each (IsNoRead at) part
    unread at = gifts_read_none Out at part p.writes.gifts

pub shows_text : (c : Command) → whole_at at_work c ≡ [] → (P : List ℕ → Type 0) (part : List Did) → ((text : List ℕ) → P text → Begins (given Out part) text → BeginsOn (Some c) (seen part) Out)
    → RunsAlone P part → Shows (Some c) part
shows_text c none_whole P part says (unmade none) = subst (λ (l : List Did). Shows (Some c) l) (sym none) (shows_none (Some c))
shows_text c none_whole P part says (writes p) = shows_alone c none_whole P part says p
