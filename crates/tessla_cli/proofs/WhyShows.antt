-- What the journal of a question shows, from its parts.
use Rattle.std.proofs.Common.{◌≡◌, inl, inr, ℕ, Bool, false, List, [], ◌∷◌, ◌++◌, refl, sym, ◌∙◌, ap, subst, Some}
use Rattle.std.specs.Prelude.{⊤}
use Rattle.std.proofs.lemmas.List.{append-nil}
use Rattle.command_words.specs.declared.command.Command.{Command}
use Rattle.command_words.specs.declared.command.Command.TheVariants as command
use Rattle.command_words.specs.declared.command.Why.{Why}
use Rattle.flat_core.specs.System.{System}
use Rattle.spec_lexer.specs.declared.limits.TheConstants.{MOST_SOURCE_BYTES}
use Rattle.trace_monitor.specs.declared.options.Options.{Options}
use Rattle.trace_reader.specs.declared.limits.TheConstants.{MOST_PIECE_BYTES}
use Rattle.trace_run.specs.Effects.{Writes}
use Rattle.trace_why.specs.Ending.{IsAwaited}
use Rattle.trace_why.specs.Meant.{IsAwaitedThere, MeansBy}
use Rattle.trace_why.specs.declared.ending.WhyEnding.{WhyEnding}
use Rattle.trace_why.specs.declared.question.Question.{Question}
use Rattle.trace_why.proofs.Meaning.{answers_as_meant, awaits_as_meant}
use Rattle.tsl_world.specs.Begins.{Begins}
use Rattle.tsl_world.specs.declared.outside.Channel.{Channel}
use Rattle.tsl_world.specs.declared.outside.Channel.TheVariants.{Err, Out}
use Rattle.tsl_world.specs.declared.outside.Did.{Did}
use Rattle.tsl_world.specs.declared.outside.Did.TheVariants.{NotTook, Opened, Took}
use Rattle.tsl_world.specs.declared.outside.Slot.{Slot}
use Rattle.tsl_world.specs.declared.outside.Slot.TheVariants.{Spec, Trace}
use Rattle.tsl_world.specs.Journal.{given, taken, ended, openings, creations, same_channel, AtReads, Each, IsAny, IsCreation, IsDone, IsGift, IsNoGift, IsNoRead, IsOpening, IsRead, IsTransfer, IsWithin, StopsAtFailure}
use Rattle.tsl_world.specs.Seen.{Seen, seen}
use Rattle.tsl_world.proofs.Journals.{Each-append, each_more}
use Rattle.tsl_world.proofs.Places.{at_after, at_each, at_each_join, at_fewer, at_more, at_not}
use Rattle.tsl_world.proofs.Untouched.{creations_none, ended_after, ended_before, gifts_elsewhere, gifts_read_none, gifts_transfer, gifts_within, given_after, openings_none, taken_after, taken_before}
use Rattle.why_run.specs.Effects.{AskEnds, Asks, AsksTrace, HasAsked, IsTraceRead, MayAsk, asks, has_asked, idle, no_trace}
use Rattle.tessla_cli.specs.Asked.{why_options}
use Rattle.tessla_cli.specs.Conduct.{GoesOnAtRead}
use Rattle.tessla_cli.specs.Explained.{OfAnswer, OfWhy, answer_text}
use Rattle.tessla_cli.specs.Headline.{IsDueAtRead}
use Rattle.tessla_cli.specs.Stages.{AreWhole, at_work, opened_at}
use Rattle.tessla_cli.specs.inner.RunPhases.{Does, Explains, GivesSource, IsAsked, IsTake, ReadsSpec, answering, asking, compiled, uncompiled, unread, whole}
use Rattle.tessla_cli.proofs.Fronts.{AreApart, Front, IsOn, ReadsOnly, ReadsSlot, Shows, each_take, first_front, front_creations, front_given, front_openings, no_creation_in, no_opening_in, nothing_given, on_out, opened_before, opens_next, shows_first, shows_front, shows_no_trace, shows_tail, then_slot, whole_now}
use Rattle.tessla_cli.proofs.Questions.{of_why}

-- a read of the trace is one of its slot
read_take : (did : Did) → IsTraceRead did → IsTake Trace did
read_take (Took at bytes) read = read
read_take (NotTook at) read = read
read_take did read = absurd read

pub takes_trace : (part : List Did) → Each IsTraceRead part → Each (IsTake Trace) part
takes_trace part reads = each_more IsTraceRead (IsTake Trace) read_take part reads

-- ---- the specification was read whole
module _ (w : Why) (reads : List Did) (r : ReadsSpec reads) (source : List ℕ) (g : GivesSource source reads) where
  abbrev c : Command
  c = command.Why w

  abbrev pub front : List Did
  front = Opened Spec w.spec ∷ reads

  abbrev pub files : List (Slot × List ℕ)
  files = (Spec, w.spec) ∷ []

  pub known : Front (command.Why w) ((Spec, w.spec) ∷ []) (Opened Spec w.spec ∷ reads)
  known = first_front c Spec MOST_SOURCE_BYTES refl w.spec ((Trace, w.trace) ∷ []) refl tt reads r source g

  pub before_trace : AreApart Trace ((Spec, w.spec) ∷ [])
  before_trace = (refl, tt)

  -- and then the trace
  module _ (s : System) (q : Question) (asked : IsAsked source w s q) where
    abbrev o : Options
    o = why_options w

    -- it is opened where the output is there that is asked for
    judged : OfWhy w (seen (Opened Spec w.spec ∷ reads)) (λ items s q. ⊤)
    judged = of_why source w s q asked (seen front) g.bytes_are (λ items s q. ⊤) tt

    -- so much of it
    module _ (less : List Did) (takes : Each (IsTake Trace) less) where
      abbrev x_before : Seen
      x_before = seen (front ++ Opened Trace w.trace ∷ less)

      source_before : taken Spec (front ++ Opened Trace w.trace ∷ less) ≡ source
      source_before = taken_before Spec front (Opened Trace w.trace ∷ less) (tt, each_take (IsNoRead Spec) Trace (λ bytes short. refl) refl less takes) ∙ g.bytes_are

      due_at : IsDueAtRead (Some c) x_before
      due_at =
          of_why source w s q asked x_before source_before (λ items s q. x_before.given Out ≡ [])
          (nothing_given (front ++ Opened Trace w.trace ∷ less) Out (Each-append (IsNoGift Out) front (Opened Trace w.trace ∷ less) (known.ungiven Out) (tt, each_take (IsNoGift Out) Trace (λ bytes short. tt) tt less takes)))

      goes_on_at : MayAsk s o q less → GoesOnAtRead (Some c) x_before
      goes_on_at may =
          of_why source w s q asked x_before source_before (λ items s q. IsAwaitedThere items s o q (x_before.taken Trace) false)
          (awaits_as_meant source asked.items s o q (x_before.taken Trace) false asked.compiles
          (subst (λ (l : List ℕ). IsAwaited s o q l false) (sym (taken_after Trace front (Opened Trace w.trace ∷ less) (known.unread Trace before_trace))) may))

    -- what comes of the question may be written then
    module _ (part : List Did) (a : Asks s (why_options w) q part) (more : List Did) (gifts : Each (IsGift Out) more) where
      abbrev rest : List Did
      rest = Opened Trace w.trace ∷ (part ++ more)

      abbrev pub all : List Did
      all = front ++ Opened Trace w.trace ∷ (part ++ more)

      takes_part : Each (IsTake Trace) part
      takes_part = takes_trace part a.work

      part_only : ReadsOnly Trace part
      part_only at other = each_take (IsNoRead at) Trace (λ bytes short. other) other part takes_part

      more_only : (at : Slot) → Each (IsNoRead at) more
      more_only at = gifts_read_none Out at more gifts

      trace_only : ReadsOnly Trace (Opened Trace w.trace ∷ (part ++ more))
      trace_only at other = (tt, Each-append (IsNoRead at) part more (part_only at other) (more_only at))

      moves : Each IsTransfer (part ++ more)
      moves = Each-append IsTransfer part more (each_take IsTransfer Trace (λ bytes short. tt) tt part takes_part) (gifts_transfer Out more gifts)

      silent_part : (to : Channel) → Each (IsNoGift to) part
      silent_part to = each_take (IsNoGift to) Trace (λ bytes short. tt) tt part takes_part

      silent_after : (to : Channel) → same_channel Out to ≡ false → Each (IsNoGift to) (part ++ more)
      silent_after to other = Each-append (IsNoGift to) part more (silent_part to) (gifts_elsewhere Out to other more gifts)

      pub no_other_gift : (to : Channel) → same_channel Out to ≡ false → Each (IsNoGift to) all
      no_other_gift to other = Each-append (IsNoGift to) front rest (known.ungiven to) (tt, silent_after to other)

      opened_after : openings rest ≡ (Trace, w.trace) ∷ []
      opened_after = ap (λ (l : List (Slot × List ℕ)). (Trace, w.trace) ∷ l) (openings_none (part ++ more) moves)

      pub opened_all : openings all ≡ opened_at at_work (command.Why w)
      opened_all = front_openings c files front known rest ∙ ap (λ (l : List (Slot × List ℕ)). files ++ l) opened_after

      pub whole_all : AreWhole ((Spec, w.spec) ∷ []) (seen all)
      whole_all = whole_now c files front known Trace before_trace rest trace_only

      pub made_all : creations all ≡ []
      made_all = front_creations c files front known rest ∙ creations_none (part ++ more) moves

      pub given_all : given Out all ≡ given Out more
      given_all = front_given c files front known Out rest ∙ given_after Out part more (silent_part Out)

      source_all : taken Spec all ≡ source
      source_all = taken_before Spec front rest (trace_only Spec refl) ∙ g.bytes_are

      taken_all : taken Trace all ≡ taken Trace part
      taken_all = taken_after Trace front rest (known.unread Trace before_trace) ∙ taken_before Trace part more (more_only Trace)

      ended_all : ended Trace all ≡ ended Trace part
      ended_all = ended_after Trace front rest (known.unread Trace before_trace) ∙ ended_before Trace part more (more_only Trace)

      -- ---- an answer
      means_all : (by : WhyEnding) → HasAsked s (why_options w) q by part → MeansBy asked.items s (why_options w) q (taken Trace all) (ended Trace all) by
      means_all by h =
          subst (λ (l : List ℕ). MeansBy asked.items s o q l (ended Trace all) by) (sym taken_all)
          (subst (λ (e : Bool). MeansBy asked.items s o q (taken Trace part) e by) (sym ended_all)
          (answers_as_meant source asked.items s o q (taken Trace part) (ended Trace part) by asked.compiles h.answers))

      pub of_answer : (by : WhyEnding) → HasAsked s (why_options w) q by part → (P : WhyEnding → Type 0) → P by → OfAnswer w (seen all) P
      of_answer by h P holds =
          of_why source w s q asked (seen all) source_all (λ items s q. (how : WhyEnding) × MeansBy items s o q (taken Trace all) (ended Trace all) how × P how) (by, means_all by h, holds)

      -- ---- what it shows
      module _ (stops : StopsAtFailure (part ++ more)) where
        trace_reads : ReadsSlot Trace (Opened Trace w.trace ∷ (part ++ more))
        trace_reads = opened_before Trace w.trace (part ++ more) record {
          only = λ at other. Each-append (IsNoRead at) part more (part_only at other) (more_only at);
          opens_only = λ at other. no_opening_in at (part ++ more) moves;
          opens_first = at_not (IsOpening Trace) _ (part ++ more) (no_opening_in Trace (part ++ more) moves);
          ends = at_more Trace (λ before. ended Trace before ≡ false) part more a.ends (more_only Trace);
          limits = λ before at. tt;
          pieces = Each-append (IsWithin MOST_PIECE_BYTES) part more (each_take (IsWithin MOST_PIECE_BYTES) Trace (λ bytes short. short) tt part takes_part) (gifts_within Out MOST_PIECE_BYTES more gifts);
          stops = stops;
          silent = silent_after Err refl;
        } (no_opening_in Trace (part ++ more) moves)

        -- before a read
        may_read : AtReads Trace (λ less. MayAsk s o q less × Each (IsTake Trace) less) part
        may_read less entry = (a.reads less entry, at_fewer IsAny (IsRead Trace) (Each (IsTake Trace)) part (λ did is. tt) (at_each (IsTake Trace) part takes_part) less entry)

        at_trace : (P : Seen → Type 0) → ((less : List Did) → MayAsk s o q less → Each (IsTake Trace) less → P (seen (front ++ Opened Trace w.trace ∷ less))) → AtReads Trace (λ less. P (seen (front ++ less))) rest
        at_trace P says =
            at_more Trace (λ less. P (seen (front ++ less))) (Opened Trace w.trace ∷ part) more
            (at_after Trace (λ less. MayAsk s o q less × Each (IsTake Trace) less) (λ less. P (seen (front ++ less))) (Opened Trace w.trace ∷ []) part (tt, tt)
            (λ less h. says less h.0 h.1) may_read) (more_only Trace)

        pub shows_asked_of : IsOn (Some (command.Why w)) all Out → Shows (Some (command.Why w)) all
        shows_asked_of out =
            shows_tail c files front known before_trace refl rest trace_only (then_slot c files front known Trace w.trace before_trace [] refl judged rest trace_reads)
            (opens_next c files front known Trace w.trace before_trace [] refl rest (inr opened_after)) (inl (creations_none (part ++ more) moves))
            (at_not IsCreation _ rest ((λ (no : ⊥). no), no_creation_in (part ++ more) moves)) (at_trace (IsDueAtRead (Some c)) (λ less may takes. due_at less takes))
            (at_trace (GoesOnAtRead (Some c)) (λ less may takes. goes_on_at less takes may)) (on_out (Some c) all no_other_gift out)

    -- ---- as far as it comes
    shows_asks : (part : List Did) → AsksTrace w.trace s (why_options w) q part → Shows (Some (command.Why w)) (front ++ part)
    shows_asks _ idle = subst (λ (l : List Did). Shows (Some c) l) (sym (append-nil front)) (shows_front c files front known before_trace refl)
    shows_asks _ no_trace = shows_no_trace c files front known before_trace refl judged w.trace refl
    shows_asks _ (asks part a) =
        let same = append-nil part in
        subst (λ (l : List Did). Shows (Some c) (front ++ Opened Trace w.trace ∷ l)) same
        (shows_asked_of part a [] tt (subst StopsAtFailure (sym same) a.stops) (inl (given_all part a [] tt)))

    shows_answers : (by : WhyEnding) (part more : List Did) → AskEnds w.trace s (why_options w) q by part → Writes Out more → Begins (given Out more) (answer_text by) → Shows (Some (command.Why w)) (front ++ (part ++ more))
    shows_answers by _ more (has_asked part a h) written begins =
        shows_asked_of part a more written.gifts (at_each_join IsDone part more h.done written.stops)
        (inr (of_answer part a more written.gifts by h (λ how. Begins (given Out (all part a more written.gifts)) (answer_text how))
        (subst (λ (l : List ℕ). Begins l (answer_text by)) (sym (given_all part a more written.gifts)) begins)))

  shows_explained : (part : List Did) → Explains source w part → Shows (Some (command.Why w)) (front ++ part)
  shows_explained part (asking s q asked does) = shows_asks s q asked part does
  shows_explained part (answering s q by before more asked ends written begins is) = subst (λ (l : List Did). Shows (Some c) (front ++ l)) (sym is) (shows_answers s q asked by before more ends written begins)

pub shows_why : (w : Why) (part : List Did) → Does (command.Why w) part → Shows (Some (command.Why w)) part
shows_why w _ (unread part reads) = shows_first (command.Why w) Spec MOST_SOURCE_BYTES refl refl w.spec ((Trace, w.trace) ∷ []) refl tt part reads
shows_why w _ (whole reads rest source r g (uncompiled none)) =
    subst (λ (l : List Did). Shows (Some (command.Why w)) (Opened Spec w.spec ∷ l)) (sym (ap (λ (l : List Did). reads ++ l) none ∙ append-nil reads))
    (shows_front (command.Why w) ((Spec, w.spec) ∷ []) (Opened Spec w.spec ∷ reads) (known w reads r source g) (before_trace w reads r source g) refl)
shows_why w _ (whole reads rest source r g (compiled does)) = shows_explained w reads r source g rest does
