-- What stands where a question is answered, and what is told before its line.
use Rattle.std.proofs.Common.{◌≡◌, ℕ, false, List, [], ◌∷◌, ◌++◌, refl, sym, ◌∙◌, ap, subst, Some, IsTrue}
use Rattle.command_words.specs.declared.command.Command.{Command}
use Rattle.command_words.specs.declared.command.Command.TheVariants as command
use Rattle.command_words.specs.declared.command.Why.{Why}
use Rattle.compiled_meaning.specs.Compiled.{Compiles, IsRefusedBy}
use Rattle.flat_core.specs.System.{System}
use Rattle.trace_run.specs.Effects.{Writes}
use Rattle.trace_why.specs.declared.ending.WhyEnding.{WhyEnding}
use Rattle.trace_why.specs.declared.ending.WhyEnding.TheVariants as answer
use Rattle.trace_why.specs.declared.question.Question.{Question}
use Rattle.tsl_world.specs.declared.outside.Channel.{Channel}
use Rattle.tsl_world.specs.declared.outside.Channel.TheVariants as channel
use Rattle.tsl_world.specs.declared.outside.Channel.TheVariants.{Out}
use Rattle.tsl_world.specs.declared.outside.Did.{Did}
use Rattle.tsl_world.specs.declared.outside.Did.TheVariants.{Opened}
use Rattle.tsl_world.specs.declared.outside.Slot.TheVariants.{Spec, Trace}
use Rattle.tsl_world.specs.Journal.{given, same_channel}
use Rattle.tsl_world.specs.Seen.{Seen, seen}
use Rattle.why_run.specs.Effects.{AskEnds, has_asked}
use Rattle.tessla_cli.specs.declared.ended.Ended.{Ended}
use Rattle.tessla_cli.specs.declared.ending.Ending.{Ending}
use Rattle.tessla_cli.specs.declared.ending.Ending.TheVariants as ending
use Rattle.tessla_cli.specs.Asked.{why_options}
use Rattle.tessla_cli.specs.Causes.{Cause, HoldsAt, Stands, WhyCause}
use Rattle.tessla_cli.specs.Explained.{answer_text, answered}
use Rattle.tessla_cli.specs.Stages.{AreWhole, Stage, at_program, at_work, is_silent, made_at, opened_at, stage_of, whole_at}
use Rattle.tessla_cli.specs.inner.RunPhases.{AsksNothing, GivesSource, HasExplained, IsAsked, IsExplained, ReadsSpec, SourceEnds, compiled_ends, has_answered, no_output, spec_refused}
use Rattle.tessla_cli.proofs.Fronts.{nothing_given}
use Rattle.tessla_cli.proofs.Refused.{IsToldBy, done_speaks, never, program_early, refused_stands, told_by_line}
use Rattle.tessla_cli.proofs.WhyShows.{given_all, known, made_all, no_other_gift, of_answer, opened_all, whole_all}

-- an answer ends the program in its work
answered_at_work : (w : Why) (how : WhyEnding) → stage_of (answered w how) ≡ at_work
answered_at_work w (answer.Text text) = refl
answered_at_work w answer.NoEvent = refl
answered_at_work w (answer.Refused fault) = refl
answered_at_work w (answer.Fault t k p) = refl
answered_at_work w (answer.Limit n t) = refl

-- no file is made for it
none_made : (w : Why) (how : WhyEnding) → [] ≡ made_at (answered w how) (command.Why w)
none_made w (answer.Text text) = refl
none_made w answer.NoEvent = refl
none_made w (answer.Refused fault) = refl
none_made w (answer.Fault t k p) = refl
none_made w (answer.Limit n t) = refl

-- what is not written is silent
answer_silent : (w : Why) (how : WhyEnding) (x : Seen) → ((to : Channel) → same_channel Out to ≡ false → x.given to ≡ []) → x.given Out ≡ answer_text how → (to : Channel) → IsTrue (is_silent (answered w how) to) → x.given to ≡ []
answer_silent w (answer.Text text) x others written to is = done_speaks to is
answer_silent w answer.NoEvent x others written channel.Out is = written
answer_silent w (answer.Refused fault) x others written channel.Out is = never is
answer_silent w (answer.Fault t k p) x others written channel.Out is = never is
answer_silent w (answer.Limit n t) x others written channel.Out is = never is
answer_silent w how x others written channel.Err is = others channel.Err refl
answer_silent w how x others written channel.State is = others channel.State refl
answer_silent w how x others written channel.Code is = others channel.Code refl

module _ (w : Why) (reads : List Did) (r : ReadsSpec reads) (source : List ℕ) (g : GivesSource source reads) where
  abbrev c : Command
  c = command.Why w

  abbrev front : List Did
  front = Opened Spec w.spec ∷ reads

  -- a question was answered, and the answer written
  answer_stands : (s : System) (q : Question) (asked : IsAsked source w s q) (how : WhyEnding) (part more : List Did) → AskEnds w.trace s (why_options w) q how part → Writes Out more → given Out more ≡ answer_text how
      → Stands (Some (command.Why w)) (answered w how) (seen (front ++ (part ++ more)))
  answer_stands s q asked how _ more (has_asked part a h) written whole =
      let at = answered_at_work w how in
      let x = seen (front ++ Opened Trace w.trace ∷ (part ++ more)) in
      let given_is : x.given Out ≡ answer_text how = given_all w reads r source g s q asked part a more written.gifts ∙ whole in
      record {
        holds = subst (λ (t : Stage). HoldsAt t (Some c) x (answered w how)) (sym at)
            (of_answer w reads r source g s q asked part a more written.gifts how h (λ by. (answered w how ≡ answered w by) × (x.given Out ≡ answer_text by)) (refl, given_is));
        opens = opened_all w reads r source g s q asked part a more written.gifts ∙ ap (λ (t : Stage). opened_at t c) (sym at);
        whole = subst (λ (t : Stage). AreWhole (whole_at t c) x) (sym at) (whole_all w reads r source g s q asked part a more written.gifts);
        makes = made_all w reads r source g s q asked part a more written.gifts ∙ none_made w how;
        silent = answer_silent w how x (λ to other. nothing_given (front ++ Opened Trace w.trace ∷ (part ++ more)) to (no_other_gift w reads r source g s q asked part a more written.gifts to other)) given_is;
      }

  -- before the trace: the specification is refused, or no output has the name
  early_stands : (by : Ending) → stage_of by ≡ at_program → Cause (Some (command.Why w)) (seen front) by → (rest : List Did) → rest ≡ [] → Stands (Some (command.Why w)) by (seen (front ++ rest))
  early_stands by early cause =
      refused_stands c ((Spec, w.spec) ∷ []) front (known w reads r source g) by (program_early by early) (ap (λ (t : Stage). whole_at t c) early) cause

  none_cause : AsksNothing source w → WhyCause w (seen front) (ending.NoOutput w.output)
  none_cause a = (
    refl,
    record { items = a.items; system = a.system; compiled = subst (λ (l : List ℕ). Compiles l a.items a.system) (sym g.bytes_are) a.compiles; holds = a.none },
  )

  explained_stands : (by : Ending) (rest : List Did) → IsExplained source w by rest → Stands (Some (command.Why w)) by (seen (front ++ rest))
  explained_stands by rest (no_output is a none) =
      subst (λ (b : Ending). Stands (Some c) b (seen (front ++ rest))) (sym is) (early_stands (ending.NoOutput w.output) refl (none_cause a) rest none)
  explained_stands by rest (has_answered s q how part more asked ends is written whole parts) =
      subst (λ (l : List Did). Stands (Some c) by (seen (front ++ l))) (sym parts)
      (subst (λ (b : Ending). Stands (Some c) b (seen (front ++ (part ++ more)))) (sym is) (answer_stands s q asked how part more ends written whole))

  pub why_stands : (by : Ended) (rest : List Did) → SourceEnds source (HasExplained source w by) by rest → Stands (Some (command.Why w)) by.ending (seen (front ++ rest))
  why_stands by rest (spec_refused {fault} same line refused none) =
      subst (λ (b : Ending). Stands (Some c) b (seen (front ++ rest))) (sym same)
      (early_stands (ending.Spec fault) refl (subst (λ (l : List ℕ). IsRefusedBy l fault) (sym g.bytes_are) refused) rest none)
  why_stands by rest (compiled_ends h) = explained_stands by.ending rest h.done

  pub why_before : (x : Seen) (by : Ended) (rest : List Did) → SourceEnds source (HasExplained source w by) by rest → IsToldBy (Some (command.Why w)) by x
  why_before x by rest (spec_refused same line refused none) = told_by_line (Some c) by x refl line
  why_before x by rest (compiled_ends h) = told_by_line (Some c) by x refl h.told
