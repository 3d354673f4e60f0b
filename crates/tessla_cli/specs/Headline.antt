-- THE HEADLINE: before each read of the trace, the bytes given to Out are the text of the output events that the specification means for
-- the bytes of the trace that were taken before. It is due for the times that these bytes close, up to the first fault and within the limit
-- of instants. Of code that a file spells, whoever wrote it, the solutions of its system say what is due. A run that goes on from a saved
-- state leaves out what was due before it.
use Rattle.std.specs.Prelude.{◌≡◌, ℕ, false, List, [], ◌++◌, Option, Some, None}
use Rattle.command_words.specs.declared.command.Command.{Command}
use Rattle.command_words.specs.declared.command.Command.TheVariants as command
use Rattle.command_words.specs.declared.command.Origin.{Origin}
use Rattle.command_words.specs.declared.command.Origin.TheVariants as origin
use Rattle.command_words.specs.declared.command.Run.{Run}
use Rattle.type_rules.specs.Kinds.{Kinds}
use Rattle.source_rules.specs.Source.{Specifies}
use Rattle.syntax_tree.specs.Tree as tree
use Rattle.tsl_world.specs.Journal.{AtReads}
use Rattle.tsl_world.specs.declared.outside.Channel.TheVariants.{Out}
use Rattle.tsl_world.specs.declared.outside.Did.{Did}
use Rattle.tsl_world.specs.declared.outside.Slot.TheVariants.{Spec, Trace}
use Rattle.tsl_world.specs.Seen.{Seen, seen}
use Rattle.trace_monitor.specs.declared.options.Options.{Options}
use Rattle.trace_monitor.specs.Due.{IsDue}
use Rattle.trace_run.specs.Meant.{IsDueAsMeant}
use Rattle.trace_run.specs.Means.{IsDueAs, all_of}
use Rattle.tessla_cli.specs.Asked.{options_of}
use Rattle.tessla_cli.specs.Explained.{OfWhy}
use Rattle.tessla_cli.specs.Running.{OfCode, OfRunSince}

-- a fact about the items that the specification spells, as far as it was taken
pub record OfItems (x : Seen) (P : List tree.Item → Type 0) : Type 0 where
  pub items : List tree.Item
  pub kinds : Kinds
  pub specifies : Specifies (x.taken Spec) items kinds
  pub holds : P items

-- Of a specification nothing here speaks of a flat system. That the items can be run as well, `GoesOnAtReads` says at the same reads.
abbrev pub IsDueFrom : Origin → Options → Seen → Type 0
IsDueFrom (origin.Spec name) o x = OfItems x (λ items. IsDueAsMeant items o (x.taken Trace) false (x.given Out))
IsDueFrom (origin.Code name) o x = OfCode x (λ c. IsDue c.system o (x.taken Trace) false (x.given Out))

-- A run that goes on has given to Out what is due of all bytes from the first one of the first run on, without the text that was due
-- before.
abbrev pub IsDueInRun : Option (List ℕ) → Run → Seen → Type 0
IsDueInRun None r x = IsDueFrom r.origin (options_of r) x
IsDueInRun (Some file) r x = OfRunSince r x (λ p b. IsDueAs p b.options (all_of b x) false (b.text ++ x.given Out))

-- Of a question nothing was written: its answer is written once, after its trace was read. Nothing else reads a trace.
abbrev pub IsDueAtRead : Option Command → Seen → Type 0
IsDueAtRead (Some (command.Run r)) x = IsDueInRun r.resume r x
IsDueAtRead (Some (command.Why w)) x = OfWhy w x (λ items s q. x.given Out ≡ [])
IsDueAtRead c x = ⊥

abbrev pub IsDueAtReads : Option Command → List Did → Type 0
IsDueAtReads c part = AtReads Trace (λ before. IsDueAtRead c (seen before)) part
