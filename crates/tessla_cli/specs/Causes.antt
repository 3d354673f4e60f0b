-- Why the program ends so, and what stands where it does.
use Rattle.std.specs.Prelude.{◌≡◌, ◌≢◌, ◌⊎◌, ◌<◌, ◌≤◌, ℕ, List, [], IsTrue, length, Option, Some, None}
use Rattle.command_words.specs.declared.command.Command.{Command}
use Rattle.command_words.specs.declared.command.Command.TheVariants as command
use Rattle.command_words.specs.declared.command.Origin.{Origin}
use Rattle.command_words.specs.declared.command.Origin.TheVariants as origin
use Rattle.command_words.specs.declared.command.Form.{Form}
use Rattle.command_words.specs.declared.command.Run.{Run}
use Rattle.command_words.specs.declared.command.Why.{Why}
use Rattle.command_words.specs.declared.command.Workload.{Workload}
use Rattle.sample_trace.specs.Trace.{trace_text}
use Rattle.code_check.specs.Read.{IsReadFault}
use Rattle.code_file.specs.declared.fault.CodeFault.TheVariants as code
use Rattle.compiled_meaning.specs.Compiled.{IsRefusedBy}
use Rattle.register_code.specs.Code.{Code}
use Rattle.trace_monitor.specs.Saved.{SpellsState}
use Rattle.run_state.specs.Spelling.{IsOfOther}
use Rattle.slice_text.specs.Text.{HasOutput}
use Rattle.state_snapshot.specs.declared.fault.StateFault.{StateFault}
use Rattle.state_snapshot.specs.declared.fault.StateFault.TheVariants as state
use Rattle.trace_run.specs.Means.{EndsAt, all_of}
use Rattle.trace_run.specs.Program.{IsCodeOf, Program}
use Rattle.tsl_world.specs.declared.outside.Channel.{Channel}
use Rattle.tsl_world.specs.declared.outside.Channel.TheVariants.{Out}
use Rattle.tsl_world.specs.declared.outside.Slot.TheVariants.{Spec, State, Trace}
use Rattle.tsl_world.specs.Seen.{Seen}
use Rattle.tessla_cli.specs.Alone.{BenchStops, IsTallyText}
use Rattle.tessla_cli.specs.declared.limits.TheConstants.{MOST_STATE_BYTES}
use Rattle.tessla_cli.specs.Asked.{for_asked, origin_file, tells_end}
use Rattle.tessla_cli.specs.Endings.{OfEnding}
use Rattle.tessla_cli.specs.Explained.{OfAnswer, answer_text, answered}
use Rattle.tessla_cli.specs.Finished.{RunFinishes, SavesState}
use Rattle.tessla_cli.specs.Running.{InRun, OfProgram, OfSource}
use Rattle.tessla_cli.specs.Stages.{AreWhole, Stage, at_work, is_silent, opened_at, stage_of, whole_at, made_at}
use Rattle.tessla_cli.specs.Printed.{AllowsForm, OfText, RefusesForm, channel_of}
use Rattle.tessla_cli.specs.declared.ending.Ending.{Ending}
use Rattle.tessla_cli.specs.declared.ending.Ending.TheVariants as ending

-- WHY: the cause of an ending, by what is asked for. A text of a specification that is accepted is done where nothing stands against it.
abbrev pub WriteCause : Form → Seen → Ending → Type 0
WriteCause f x ending.Done = OfSource x (λ items s. AllowsForm f s)
WriteCause f x (ending.Spec fault) = IsRefusedBy (x.taken Spec) fault
WriteCause f x by = OfSource x (λ items s. RefusesForm f s by)

-- These bytes of the file of what runs are refused, so that nothing runs and the program ends so. Out of memory refuses none.
abbrev pub Refuses : Origin → List ℕ → Ending → Type 0
Refuses (origin.Spec name) bytes (ending.Spec fault) = IsRefusedBy bytes fault
Refuses (origin.Code name) bytes (ending.Code fault) = (fault ≢ code.Memory) × IsReadFault bytes fault
Refuses from bytes by = ⊥

-- These bytes are no state that the code can go on from: that of another program, or too many, or of a wrong form. Out of memory refuses
-- none.
abbrev pub IsStateFault : Code → List ℕ → StateFault → Type 0
IsStateFault c bytes state.OtherProgram = (length bytes ≤ MOST_STATE_BYTES) × IsOfOther c bytes
IsStateFault c bytes state.WrongForm = (MOST_STATE_BYTES < length bytes) ⊎ ((IsOfOther c bytes → ⊥) × (SpellsState c bytes → ⊥))
IsStateFault c bytes state.Memory = ⊥

-- the state that the words name is refused, by the code of the program
abbrev pub RefusesState : Option (List ℕ) → Program → Seen → StateFault → Type 0
RefusesState None p x fault = ⊥
RefusesState (Some file) p x fault = (c : Code) × IsCodeOf p c × IsStateFault c (x.taken State) fault

abbrev pub StateCause : Run → Seen → StateFault → Type 0
StateCause r x fault = OfProgram r.origin x (λ p. RefusesState r.resume p x fault)

-- A run ends where the file of what runs is refused, or the state, or by what the program means for what was taken of the trace, with
-- something that stands before the run.
abbrev pub OfTrace : Run → Seen → Ending → Type 0
OfTrace r x by = InRun r x (λ p b. OfEnding by (λ how. EndsAt p b.options (all_of b x) (tells_end r) (x.ended Trace) how))

abbrev pub RunCause : Run → Seen → Ending → Type 0
RunCause r x (ending.Spec fault) = Refuses r.origin (x.taken (origin_file r.origin).0) (ending.Spec fault)
RunCause r x (ending.Code fault) = Refuses r.origin (x.taken (origin_file r.origin).0) (ending.Code fault)
RunCause r x (ending.State fault) = StateCause r x fault
RunCause r x by = OfTrace r x by

-- A question ends by the answer that has its cause in what was taken of the trace. No output may have the name.
abbrev pub WhyCause : Why → Seen → Ending → Type 0
WhyCause w x (ending.Spec fault) = IsRefusedBy (x.taken Spec) fault
WhyCause w x (ending.NoOutput name) = (name ≡ w.output) × OfSource x (λ items s. HasOutput s name → ⊥)
WhyCause w x by = OfAnswer w x (λ how. by ≡ answered w how)

abbrev pub BenchCause : Workload → ℕ → Ending → Type 0
BenchCause kind n ending.Done = (text : List ℕ) × IsTallyText kind n text
BenchCause kind n by = BenchStops kind n by

abbrev pub Cause : Option Command → Seen → Ending → Type 0
Cause None x by = by ≡ ending.Words
Cause (Some (command.Write spec f)) x by = WriteCause f x by
Cause (Some (command.Run r)) x by = RunCause r x by
Cause (Some (command.Why w)) x by = WhyCause w x by
Cause (Some (command.Generate n)) x by = by ≡ ending.Done
Cause (Some (command.Bench kind n)) x by = BenchCause kind n by

-- WHAT STANDS where the work is over: the cause, and all of the text that is asked for or due where it goes.
abbrev pub BenchFinishes : Workload → ℕ → Seen → Ending → Type 0
BenchFinishes kind n x ending.Done = IsTallyText kind n (x.given Out)
BenchFinishes kind n x by = BenchStops kind n by × (x.given Out ≡ [])

abbrev pub Finishes : Option Command → Seen → Ending → Type 0
Finishes None x by = ⊥
Finishes (Some (command.Write spec f)) x by = (by ≡ ending.Done) × OfText f x (λ text. x.given (channel_of f) ≡ text)
Finishes (Some (command.Run r)) x by = RunFinishes r x by × SavesState r.save r x by
Finishes (Some (command.Why w)) x by = OfAnswer w x (λ how. (by ≡ answered w how) × (x.given Out ≡ answer_text how))
Finishes (Some (command.Generate n)) x by = (by ≡ ending.Done) × (x.given Out ≡ trace_text n)
Finishes (Some (command.Bench kind n)) x by = BenchFinishes kind n x by

-- a refusal before the work has its cause alone
abbrev pub HoldsAt : Stage → Option Command → Seen → Ending → Type 0
HoldsAt at_work c x by = Finishes c x by
HoldsAt stage c x by = Cause c x by

-- The program ends so: the cause, what was opened and read whole, what was made, and that nothing else was written.
pub record Stands (c : Option Command) (by : Ending) (x : Seen) : Type 0 where
  pub holds : HoldsAt (stage_of by) c x by
  pub opens : x.opened ≡ for_asked (opened_at (stage_of by)) c
  pub whole : AreWhole (for_asked (whole_at (stage_of by)) c) x
  pub makes : x.made ≡ for_asked (made_at by) c
  pub silent : (to : Channel) → IsTrue (is_silent by to) → x.given to ≡ []
