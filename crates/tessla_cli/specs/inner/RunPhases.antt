-- The phases of a run, by what each adds to the journal.
use Rattle.std.specs.Prelude.{◌≡◌, ◌⊎◌, ℕ, ◌<◌, ◌≤◌, true, false, List, [], ◌∷◌, ◌++◌, length, Option, Some, None, is_some}
use Rattle.command_words.specs.declared.command.Command.{Command}
use Rattle.command_words.specs.declared.command.Command.TheVariants as command
use Rattle.command_words.specs.declared.command.Form.{Form}
use Rattle.command_words.specs.declared.command.Origin.{Origin}
use Rattle.command_words.specs.declared.command.Origin.TheVariants as origin
use Rattle.command_words.specs.declared.command.Form.TheVariants as form
use Rattle.command_words.specs.declared.command.Run.{Run}
use Rattle.command_words.specs.declared.command.Why.{Why}
use Rattle.command_words.specs.declared.command.Workload.{Workload}
use Rattle.flat_core.specs.System.{System}
use Rattle.register_code.specs.Code.{Code}
use Rattle.sample_trace.specs.Trace.{trace_text}
use Rattle.code_file.specs.declared.limits.TheConstants.{MOST_CODE_BYTES}
use Rattle.compiled_meaning.specs.Compiled.{Compiles, IsRefusedBy}
use Rattle.compiled_meaning.specs.inner.Ready.{IsReady}
use Rattle.spec_lexer.specs.declared.limits.TheConstants.{MOST_SOURCE_BYTES}
use Rattle.slice_text.specs.Text.{HasOutput, IsOutputCalled}
use Rattle.source_rules.specs.declared.fault.SpecFault.{SpecFault}
use Rattle.syntax_tree.specs.Tree as tree
use Rattle.trace_reader.specs.declared.limits.TheConstants.{MOST_PIECE_BYTES}
use Rattle.trace_run.specs.declared.run.Ran.{Ran}
use Rattle.trace_run.specs.declared.start.Start.{Start}
use Rattle.trace_run.specs.declared.start.Start.TheVariants as start
use Rattle.run_state.specs.Fits.{FitsRun}
use Rattle.run_state.specs.Spelling.{spelling}
use Rattle.run_state.specs.declared.state.RunState.{RunState}
use Rattle.state_snapshot.specs.declared.fault.StateFault.{StateFault}
use Rattle.trace_run.specs.Effects.{CodeEnds, RunsCode, Writes}
use Rattle.trace_run.specs.Program.{IsCodeOf, Program, coded, specified}
use Rattle.trace_why.specs.declared.ending.WhyEnding.{WhyEnding}
use Rattle.trace_why.specs.declared.ending.WhyEnding.TheVariants as answer
use Rattle.trace_why.specs.declared.question.Question.{Question}
use Rattle.tsl_world.specs.Begins.{Begins}
use Rattle.tsl_world.specs.declared.outside.Channel.{Channel}
use Rattle.tsl_world.specs.declared.outside.Channel.TheVariants as channel
use Rattle.tsl_world.specs.declared.outside.Channel.TheVariants.{Out}
use Rattle.tsl_world.specs.declared.outside.Did.{Did}
use Rattle.tsl_world.specs.declared.outside.Did.TheVariants.{Created, NotCreated, Opened, NotOpened, NotTook, Took}
use Rattle.tsl_world.specs.declared.outside.Slot.{Slot}
use Rattle.tsl_world.specs.declared.outside.Slot.TheVariants.{Spec, State}
use Rattle.tsl_world.specs.Journal.{given, taken, ended, AtReads, IsDone, Each, StopsAtFailure}
use Rattle.tessla_cli.specs.declared.begun.Begun.{Begun}
use Rattle.tessla_cli.specs.declared.begun.Begun.TheVariants as begun
use Rattle.tessla_cli.specs.declared.ended.Ended.{Ended}
use Rattle.tessla_cli.specs.declared.ending.Ending.{Ending}
use Rattle.tessla_cli.specs.declared.ending.Ending.TheVariants as ending
use Rattle.tessla_cli.specs.declared.made.Made.{Made}
use Rattle.tessla_cli.specs.declared.made.Made.TheVariants as made
use Rattle.tessla_cli.specs.Alone.{BenchStops, IsTallyText}
use Rattle.tessla_cli.specs.declared.program.Loaded.{Loaded}
use Rattle.tessla_cli.specs.declared.program.Loaded.TheVariants as loaded
use Rattle.tessla_cli.specs.declared.limits.TheConstants.{MOST_STATE_BYTES}
use Rattle.tessla_cli.specs.Asked.{options_of, origin_file, why_options}
use Rattle.tessla_cli.specs.Causes.{IsStateFault, Refuses}
use Rattle.tessla_cli.specs.Endings.{ending_of}
use Rattle.tessla_cli.specs.Explained.{answer_text, answered, question_of}
use Rattle.tessla_cli.specs.Running.{IsReadAs}
use Rattle.tessla_cli.specs.Messages.{ending_line}
use Rattle.why_run.specs.Effects.{AskEnds, AsksTrace}
use Rattle.tessla_cli.specs.Printed.{HasText, IsTextOf, RefusesForm, channel_of}

-- how a run ends is told by this text and then the line of the ending
abbrev pub IsToldAfter : List ℕ → Ended → Type 0
IsToldAfter before by = by.text ≡ before ++ ending_line by.ending

-- a file that may have so many bytes may be read on after this much of the journal
pub record MayReadFile (from : Slot) (most : ℕ) (before : List Did) : Type 0 where
  pub unended : ended from before ≡ false
  pub within : length (taken from before) ≤ most

-- a read of a file that takes no more than one may
abbrev pub IsTake : Slot → Did → Type 0
IsTake from (Took at bytes) = (at ≡ from) × (length bytes ≤ MOST_PIECE_BYTES)
IsTake from (NotTook at) = at ≡ from
IsTake from did = ⊥

-- a file is read, and nothing else is done
pub record ReadsFile (from : Slot) (most : ℕ) (part : List Did) : Type 0 where
  pub only : Each (IsTake from) part
  pub reads : AtReads from (MayReadFile from most) part
  pub stops : StopsAtFailure part

-- these bytes were taken of it, and they are all, or more than it may have
pub record GivesFile (from : Slot) (most : ℕ) (bytes : List ℕ) (part : List Did) : Type 0 where
  pub bytes_are : taken from part ≡ bytes
  pub whole : (ended from part ≡ true) ⊎ (most < length (taken from part))
  pub done : Each IsDone part

-- a specification is read
abbrev pub MayReadSpec : List Did → Type 0
MayReadSpec = MayReadFile Spec MOST_SOURCE_BYTES

abbrev pub ReadsSpec : List Did → Type 0
ReadsSpec = ReadsFile Spec MOST_SOURCE_BYTES

abbrev pub GivesSource : List ℕ → List Did → Type 0
GivesSource = GivesFile Spec MOST_SOURCE_BYTES

-- a text of which this holds is given to Out, as far as it comes
pub record PrintsText (P : List ℕ → Type 0) (part : List Did) : Type 0 where
  pub text : List ℕ
  pub is : P text
  pub writes : Writes Out part
  pub some : Begins (given Out part) text

-- all of it
pub record HasPrintedText (P : List ℕ → Type 0) (part : List Did) : Type 0 where
  pub text : List ℕ
  pub is : P text
  pub writes : Writes Out part
  pub whole : given Out part ≡ text

-- a file is made and a text is given to it, as far as it comes
pub data PutsFile (to : Channel) (name text : List ℕ) : List Did → Type 0 where
  no_file_made : PutsFile to name text (NotCreated to name ∷ [])
  file_made : (part : List Did) → Writes to part → Begins (given to part) text → PutsFile to name text (Created to name ∷ part)

-- all of it
pub data HasPutFile (to : Channel) (name text : List ℕ) : List Did → Type 0 where
  has_put_all : (part : List Did) → Writes to part → Each IsDone part → given to part ≡ text
      → HasPutFile to name text (Created to name ∷ part)

-- a text of a form goes where those of the form do, as far as it comes: to Out, or to the file of the form, which is made for it
pub data Puts (text : List ℕ) : Form → List Did → Type 0 where
  puts_out : {f : Form} (part : List Did) → channel_of f ≡ Out → Writes Out part → Begins (given Out part) text → Puts text f part
  puts_file : {name : List ℕ} (part : List Did) → PutsFile channel.Code name text part → Puts text (form.File name) part

-- all of it
pub data HasPut (text : List ℕ) : Form → List Did → Type 0 where
  has_put_out : {f : Form} (part : List Did) → channel_of f ≡ Out → Writes Out part → given Out part ≡ text → HasPut text f part
  has_put_file : {name : List ℕ} (part : List Did) → HasPutFile channel.Code name text part → HasPut text (form.File name) part

-- the text that a source has in a form
pub record Prints (source : List ℕ) (f : Form) (part : List Did) : Type 0 where
  pub text : List ℕ
  pub is : IsTextOf source f text
  pub puts : Puts text f part

pub record HasPrinted (source : List ℕ) (f : Form) (part : List Did) : Type 0 where
  pub text : List ℕ
  pub is : IsTextOf source f text
  pub puts : HasPut text f part

-- what comes of code in a form: its text, or the ending that stands against it
abbrev pub IsMadeOf : Form → Code → Made → Type 0
IsMadeOf f c (made.Text text) = HasText f c text
IsMadeOf f c (made.Stops by) = RefusesForm f c.system by

-- what comes of a bench: its tally, or the ending without one
abbrev pub IsBenchedAs : Workload → ℕ → Made → Type 0
IsBenchedAs kind n (made.Text text) = IsTallyText kind n text
IsBenchedAs kind n (made.Stops by) = BenchStops kind n by

-- a text that needs no specification of the outside is written, as far as it comes
pub data RunsAlone (P : List ℕ → Type 0) (part : List Did) : Type 0 where
  unmade : part ≡ [] → RunsAlone P part
  writes : PrintsText P part → RunsAlone P part

-- all of it, or there is none and the program ends so
pub data AloneIsDone (P : List ℕ → Type 0) (S : Ending → Type 0) (by : Ending) (part : List Did) : Type 0 where
  written : by ≡ ending.Done → HasPrintedText P part → AloneIsDone P S by part
  stopped : S by → part ≡ [] → AloneIsDone P S by part

-- a source is compiled and something is done with it, as far as it comes
pub data RunsSource (W : List Did → Type 0) (part : List Did) : Type 0 where
  uncompiled : part ≡ [] → RunsSource W part
  compiled : W part → RunsSource W part

pub data SourceEnds (source : List ℕ) (W : List Did → Type 0) (by : Ended) (part : List Did) : Type 0 where
  spec_refused : {fault : SpecFault} → by.ending ≡ ending.Spec fault → IsToldAfter [] by → IsRefusedBy source fault → part ≡ []
      → SourceEnds source W by part
  compiled_ends : W part → SourceEnds source W by part

-- these bytes of the file of what runs are this program
abbrev pub IsProgram : Origin → List ℕ → Program → Type 0
IsProgram (origin.Spec name) bytes (specified items s) = Compiles bytes items s
IsProgram (origin.Code name) bytes (coded c) = IsReadAs bytes c
IsProgram from bytes p = ⊥

-- and this is its code
pub record IsLoadedCode (from : Origin) (bytes : List ℕ) (c : Code) : Type 0 where
  pub program : Program
  pub is : IsProgram from bytes program
  pub code : IsCodeOf program c
  pub ready : IsReady c.system

-- what comes of them: code that runs, or the ending where nothing does
abbrev pub IsLoadedAs : Origin → List ℕ → Loaded → Type 0
IsLoadedAs from bytes (loaded.Runs c) = IsLoadedCode from bytes c
IsLoadedAs from bytes (loaded.Stops by) = Refuses from bytes by

-- a file is opened by its name and read
pub data ReadsName (from : Slot) (most : ℕ) (name : List ℕ) : List Did → Type 0 where
  unopened : ReadsName from most name []
  no_file : ReadsName from most name (NotOpened from name ∷ [])
  reading : (reads : List Did) → ReadsFile from most reads → ReadsName from most name (Opened from name ∷ reads)

-- and gives these bytes
pub data GivesName (from : Slot) (most : ℕ) (name bytes : List ℕ) : List Did → Type 0 where
  given_name : (reads : List Did) → ReadsFile from most reads → GivesFile from most bytes reads
      → GivesName from most name bytes (Opened from name ∷ reads)

-- a file is read, and something is done with it, as far as it comes
pub data RunsFile (from : Slot) (most : ℕ) (name : List ℕ) (W : List ℕ → List Did → Type 0) : List Did → Type 0 where
  unread : (part : List Did) → ReadsName from most name part → RunsFile from most name W part
  whole : (reads rest : List Did) (bytes : List ℕ)
      → ReadsFile from most reads
      → GivesFile from most bytes reads
      → W bytes rest
      → RunsFile from most name W (Opened from name ∷ (reads ++ rest))

-- or all of it
pub data FileEnds (from : Slot) (most : ℕ) (name : List ℕ) (W : List ℕ → List Did → Type 0) : List Did → Type 0 where
  whole_ends : (reads rest : List Did) (bytes : List ℕ)
      → ReadsFile from most reads
      → GivesFile from most bytes reads
      → W bytes rest
      → FileEnds from most name W (Opened from name ∷ (reads ++ rest))

-- these bytes of the file of a state are one that the code can go on from, and a run begins so
pub record IsResumed (c : Code) (until : ℕ) (bytes : List ℕ) (begins : Start) : Type 0 where
  pub short : length bytes ≤ MOST_STATE_BYTES
  pub state : RunState
  pub fits : FitsRun c.system state
  pub is : bytes ≡ spelling c state
  pub begins_so : begins ≡ start.Resumed until state

-- what comes of them: how a run begins, or the ending where none does
abbrev pub IsBegunAs : Code → ℕ → List ℕ → Begun → Type 0
IsBegunAs c until bytes (begun.Starts begins) = IsResumed c until bytes begins
IsBegunAs c until bytes (begun.Stops by) = (fault : StateFault) × (by ≡ ending.State fault) × IsStateFault c bytes fault

-- The trace of a run that begins so is monitored, and the state that is left goes to its file, as far as it comes.
pub data RunsFrom (r : Run) (c : Code) (begins : Start) (part : List Did) : Type 0 where
  monitors : RunsCode r.trace c begins (is_some r.save) part → RunsFrom r c begins part
  saves : (ran : Ran) (file state : List ℕ) (front rest : List Did) → CodeEnds r.trace c begins (is_some r.save) r.stats ran front
      → r.save ≡ Some file → ran.state ≡ Some state → PutsFile channel.State file state rest → part ≡ front ++ rest
      → RunsFrom r c begins part

-- what is left of a run goes to its file, as far as it comes; where it has no file, or nothing is left, nothing is done
abbrev pub SavesTo : Option (List ℕ) → Option (List ℕ) → List Did → Type 0
SavesTo (Some file) (Some state) part = PutsFile channel.State file state part
SavesTo file left part = part ≡ []

-- all of it
pub data HasSavedTo : Option (List ℕ) → Option (List ℕ) → List Did → Type 0 where
  nothing_saved : {file : Option (List ℕ)} → HasSavedTo file None []
  has_saved : {file state : List ℕ} (part : List Did) → HasPutFile channel.State file state part → HasSavedTo (Some file) (Some state) part

-- and it has ended so
pub record HasRunFrom (r : Run) (c : Code) (begins : Start) (by : Ended) (part : List Did) : Type 0 where
  pub ran : Ran
  pub ending : by.ending ≡ ending_of ran.ending
  pub told : IsToldAfter ran.statistics by
  pub front : List Did
  pub rest : List Did
  pub ends : CodeEnds r.trace c begins (is_some r.save) r.stats ran front
  pub saved : HasSavedTo r.save ran.state rest
  pub is : part ≡ front ++ rest

-- a run goes on from the bytes of the file of its state
pub record RunsResumed (r : Run) (c : Code) (bytes : List ℕ) (part : List Did) : Type 0 where
  pub begins : Start
  pub resumed : IsResumed c r.until bytes begins
  pub runs : RunsFrom r c begins part

-- or it does not
pub data ResumedEnds (r : Run) (c : Code) (by : Ended) (bytes : List ℕ) (part : List Did) : Type 0 where
  state_refused : (fault : StateFault) → by.ending ≡ ending.State fault → IsStateFault c bytes fault → IsToldAfter [] by → part ≡ []
      → ResumedEnds r c by bytes part
  has_resumed : (begins : Start) → IsResumed c r.until bytes begins → HasRunFrom r c begins by part → ResumedEnds r c by bytes part

-- what a run does by its code: the state that it goes on from is read first, where the words name one
abbrev pub RunsSince : Option (List ℕ) → Run → Code → List Did → Type 0
RunsSince None r c part = RunsFrom r c (start.Anew (options_of r)) part
RunsSince (Some file) r c part = RunsFile State MOST_STATE_BYTES file (λ bytes. RunsSource (RunsResumed r c bytes)) part

abbrev pub EndsSince : Option (List ℕ) → Run → Code → Ended → List Did → Type 0
EndsSince None r c by part = HasRunFrom r c (start.Anew (options_of r)) by part
EndsSince (Some file) r c by part = FileEnds State MOST_STATE_BYTES file (ResumedEnds r c by) part

-- the trace of a run is monitored
pub record Monitors (bytes : List ℕ) (r : Run) (part : List Did) : Type 0 where
  pub code : Code
  pub loaded_so : IsLoadedCode r.origin bytes code
  pub runs : RunsSince r.resume r code part

pub record HasMonitored (bytes : List ℕ) (r : Run) (by : Ended) (part : List Did) : Type 0 where
  pub code : Code
  pub loaded_so : IsLoadedCode r.origin bytes code
  pub ends : EndsSince r.resume r code by part

-- or nothing runs
pub data RunEnds (bytes : List ℕ) (r : Run) (by : Ended) (part : List Did) : Type 0 where
  nothing_runs : Refuses r.origin bytes by.ending → IsToldAfter [] by → part ≡ [] → RunEnds bytes r by part
  has_run : HasMonitored bytes r by part → RunEnds bytes r by part

-- something stands against a text of a form
pub record IsAgainst (source : List ℕ) (f : Form) (by : Ending) : Type 0 where
  pub items : List tree.Item
  pub system : System
  pub compiles : Compiles source items system
  pub refuses : RefusesForm f system by

-- a text is written, or something stands against it and the program ends so
pub data IsWritten (source : List ℕ) (f : Form) (by : Ending) (part : List Did) : Type 0 where
  all_written : by ≡ ending.Done → HasPrinted source f part → IsWritten source f by part
  none_written : IsAgainst source f by → part ≡ [] → IsWritten source f by part

pub record HasWritten (source : List ℕ) (f : Form) (by : Ended) (part : List Did) : Type 0 where
  pub told : IsToldAfter [] by
  pub done : IsWritten source f by.ending part

-- the question that the words ask of a compiled specification
pub record IsAsked (source : List ℕ) (w : Why) (s : System) (q : Question) : Type 0 where
  pub items : List tree.Item
  pub compiles : Compiles source items s
  pub number : ℕ
  pub called : IsOutputCalled s w.output number
  pub question : q ≡ question_of w number

-- no output has the name
pub record AsksNothing (source : List ℕ) (w : Why) : Type 0 where
  pub items : List tree.Item
  pub system : System
  pub compiles : Compiles source items system
  pub none : HasOutput system w.output → ⊥

-- what comes of an answer: a text to be written, or how the program ends
abbrev pub IsAnsweredAs : Why → WhyEnding → Made → Type 0
IsAnsweredAs w (answer.Text text) (made.Text put) = put ≡ text
IsAnsweredAs w by (made.Stops how) = (how ≡ answered w by) × (answer_text by ≡ [])
IsAnsweredAs w by how = ⊥

-- what is made is put on Out, as far as it comes
abbrev pub PutsMade : Made → List Did → Type 0
PutsMade (made.Text text) part = Writes Out part × Begins (given Out part) text
PutsMade (made.Stops by) part = part ≡ []

-- all of it, and the program ends so
abbrev pub IsPutAs : Made → Ending → List Did → Type 0
IsPutAs (made.Text text) by part = (by ≡ ending.Done) × Writes Out part × (given Out part ≡ text)
IsPutAs (made.Stops how) by part = (by ≡ how) × (part ≡ [])

pub record HasPutMade (put : Made) (by : Ended) (part : List Did) : Type 0 where
  pub told : IsToldAfter [] by
  pub done : IsPutAs put by.ending part

-- a question is asked of a trace and answered, as far as it comes
pub data Explains (source : List ℕ) (w : Why) (part : List Did) : Type 0 where
  asking : (s : System) (q : Question) → IsAsked source w s q → AsksTrace w.trace s (why_options w) q part → Explains source w part
  answering : (s : System) (q : Question) (by : WhyEnding) (front rest : List Did)
      → IsAsked source w s q
      → AskEnds w.trace s (why_options w) q by front
      → Writes Out rest
      → Begins (given Out rest) (answer_text by)
      → part ≡ front ++ rest
      → Explains source w part

-- all of it
pub data IsExplained (source : List ℕ) (w : Why) (by : Ending) (part : List Did) : Type 0 where
  no_output : by ≡ ending.NoOutput w.output → AsksNothing source w → part ≡ [] → IsExplained source w by part
  has_answered : (s : System) (q : Question) (how : WhyEnding) (front rest : List Did)
      → IsAsked source w s q
      → AskEnds w.trace s (why_options w) q how front
      → by ≡ answered w how
      → Writes Out rest
      → given Out rest ≡ answer_text how
      → part ≡ front ++ rest
      → IsExplained source w by part

pub record HasExplained (source : List ℕ) (w : Why) (by : Ended) (part : List Did) : Type 0 where
  pub told : IsToldAfter [] by
  pub done : IsExplained source w by.ending part

-- so it is with a specification
abbrev pub RunsSpec : List ℕ → (List ℕ → List Did → Type 0) → List Did → Type 0
RunsSpec = RunsFile Spec MOST_SOURCE_BYTES

abbrev pub SpecEnds : List ℕ → (List ℕ → List Did → Type 0) → List Did → Type 0
SpecEnds = FileEnds Spec MOST_SOURCE_BYTES

-- and with the file of what runs
abbrev pub most_from : Origin → ℕ
most_from (origin.Spec name) = MOST_SOURCE_BYTES
most_from (origin.Code name) = MOST_CODE_BYTES

abbrev pub ReadsOrigin : Origin → List Did → Type 0
ReadsOrigin from = ReadsName (origin_file from).0 (most_from from) (origin_file from).1

abbrev pub GivesOrigin : Origin → List ℕ → List Did → Type 0
GivesOrigin from = GivesName (origin_file from).0 (most_from from) (origin_file from).1

abbrev pub RunsOrigin : Origin → (List ℕ → List Did → Type 0) → List Did → Type 0
RunsOrigin from = RunsFile (origin_file from).0 (most_from from) (origin_file from).1

abbrev pub OriginEnds : Origin → (List ℕ → List Did → Type 0) → List Did → Type 0
OriginEnds from = FileEnds (origin_file from).0 (most_from from) (origin_file from).1

-- what a command does, as far as it comes
abbrev pub Does : Command → List Did → Type 0
Does (command.Write spec f) = RunsSpec spec (λ source. RunsSource (Prints source f))
Does (command.Run r) = RunsOrigin r.origin (λ bytes. RunsSource (Monitors bytes r))
Does (command.Why w) = RunsSpec w.spec (λ source. RunsSource (Explains source w))
Does (command.Generate n) = RunsAlone (λ text. text ≡ trace_text n)
Does (command.Bench kind n) = RunsAlone (IsTallyText kind n)

-- and how it ends
pub record AloneEnds (P : List ℕ → Type 0) (S : Ending → Type 0) (by : Ended) (part : List Did) : Type 0 where
  pub told : IsToldAfter [] by
  pub done : AloneIsDone P S by.ending part

abbrev pub DoesAll : Command → Ended → List Did → Type 0
DoesAll (command.Write spec f) by = SpecEnds spec (λ source. SourceEnds source (HasWritten source f by) by)
DoesAll (command.Run r) by = OriginEnds r.origin (λ bytes. RunEnds bytes r by)
DoesAll (command.Why w) by = SpecEnds w.spec (λ source. SourceEnds source (HasExplained source w by) by)
DoesAll (command.Generate n) by = AloneEnds (λ text. text ≡ trace_text n) (λ by. ⊥) by
DoesAll (command.Bench kind n) by = AloneEnds (IsTallyText kind n) (BenchStops kind n) by

-- what the words ask for
abbrev pub DoesAsked : Option Command → List Did → Type 0
DoesAsked None part = part ≡ []
DoesAsked (Some c) part = Does c part

pub record WordsRefused (by : Ended) (part : List Did) : Type 0 where
  pub ending : by.ending ≡ ending.Words
  pub told : IsToldAfter [] by
  pub nothing : part ≡ []

abbrev pub DoesAllAsked : Option Command → Ended → List Did → Type 0
DoesAllAsked None by part = WordsRefused by part
DoesAllAsked (Some c) by part = DoesAll c by part
