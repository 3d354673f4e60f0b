-- What each command shows.
use Rattle.std.proofs.Common.{◌≡◌, ℕ, List, [], ◌∷◌, ◌++◌, refl, sym, ◌∙◌, ap, subst, Option, Some, None}
use Rattle.command_words.specs.declared.command.Command.TheVariants as command
use Rattle.command_words.specs.declared.command.Command.{Command}
use Rattle.sample_trace.specs.Trace.{trace_text}
use Rattle.tsl_world.specs.Begins.{Begins}
use Rattle.tsl_world.specs.declared.outside.Channel.{Channel}
use Rattle.tsl_world.specs.declared.outside.Channel.TheVariants.{Out}
use Rattle.tsl_world.specs.declared.outside.Did.{Did}
use Rattle.tsl_world.specs.declared.outside.Slot.TheVariants.{Spec}
use Rattle.tsl_world.specs.Journal.{given, creations, IsTransfer}
use Rattle.tsl_world.proofs.Journals.{creations-append}
use Rattle.tsl_world.proofs.Untouched.{creations_none}
use Rattle.spec_lexer.specs.declared.limits.TheConstants.{MOST_SOURCE_BYTES}
use Rattle.tessla_cli.specs.Asked.{made_files}
use Rattle.tessla_cli.specs.Conduct.{MakesNothing}
use Rattle.tessla_cli.specs.Alone.{IsTallyText}
use Rattle.tessla_cli.specs.inner.RunPhases.{Does, DoesAsked, GivesName, ReadsName, given_name, no_file, reading, unmade, unopened, unread}
use Rattle.tessla_cli.proofs.Facts.{shows_text, shows_write}
use Rattle.tessla_cli.proofs.Fronts.{Shows, each_take, shows_none}
use Rattle.tessla_cli.proofs.RunShows.{shows_trace}
use Rattle.tessla_cli.proofs.WhyShows.{shows_why}

pub shows_asked : (c : Option Command) (part : List Did) → DoesAsked c part → Shows c part
shows_asked None part none = subst (λ (l : List Did). Shows None l) (sym none) (shows_none None)
shows_asked (Some (command.Write name f)) part does = shows_write name f part does
shows_asked (Some (command.Run run)) part does = shows_trace run part does
shows_asked (Some (command.Why w)) part does = shows_why w part does
shows_asked (Some (command.Generate n)) part does =
    shows_text (command.Generate n) refl (λ text. text ≡ trace_text n) part (λ text is begins. subst (λ (l : List ℕ). Begins (given Out part) l) is begins) does
shows_asked (Some (command.Bench kind n)) part does = shows_text (command.Bench kind n) refl (IsTallyText kind n) part (λ text is begins. (text, is, begins)) does

-- where nothing was done
pub does_none : (c : Option Command) → DoesAsked c []
does_none None = refl
does_none (Some (command.Write name f)) = unread [] unopened
does_none (Some (command.Run run)) = unread [] unopened
does_none (Some (command.Why w)) = unread [] unopened
does_none (Some (command.Generate n)) = unmade refl
does_none (Some (command.Bench kind n)) = unmade refl

-- a command that has no file to make makes none
pub nothing_made : (c : Command) (part : List Did) → made_files c ≡ [] → Does c part → MakesNothing part
nothing_made c part none does = nothing_before (creations part) (subst (λ (l : List (Channel × List ℕ)). Begins (creations part) l) none (shows_asked (Some c) part does).makes)
  where
    nothing_before : (made : List (Channel × List ℕ)) → Begins made [] → made ≡ []
    nothing_before [] begins = refl
    nothing_before (file ∷ files) begins = absurd (let bad : [] ≡ file ∷ (files ++ begins.rest) = begins.is in cc)

-- nor does one that came no further than the file that it reads
pub front_makes_none : (name : List ℕ) (part : List Did) → ReadsName Spec MOST_SOURCE_BYTES name part → MakesNothing part
front_makes_none name _ unopened = refl
front_makes_none name _ no_file = refl
front_makes_none name _ (reading reads r) = creations_none reads (each_take IsTransfer Spec (λ bytes short. tt) tt reads r.only)

pub joins_unmade : (name source : List ℕ) (p q : List Did) → GivesName Spec MOST_SOURCE_BYTES name source p → MakesNothing q → MakesNothing (p ++ q)
joins_unmade name source _ q (given_name reads r g) none =
    creations-append reads q ∙ ap (λ (l : List (Channel × List ℕ)). l ++ creations q) (creations_none reads (each_take IsTransfer Spec (λ bytes short. tt) tt reads r.only)) ∙ none
