-- What a question does to the outside that is asked of a trace.
use Rattle.std.specs.Prelude.{◌≡◌, ℕ, ◌≤◌, false, List, [], ◌∷◌, length}
use Rattle.flat_core.specs.System.{System}
use Rattle.trace_monitor.specs.declared.options.Options.{Options}
use Rattle.trace_reader.specs.declared.limits.TheConstants.{MOST_PIECE_BYTES}
use Rattle.trace_why.specs.Answer.{AnswersBy}
use Rattle.trace_why.specs.Ending.{IsAwaited}
use Rattle.trace_why.specs.declared.ending.WhyEnding.{WhyEnding}
use Rattle.trace_why.specs.declared.question.Question.{Question}
use Rattle.tsl_world.specs.declared.outside.Did.{Did}
use Rattle.tsl_world.specs.declared.outside.Did.TheVariants.{Opened, NotOpened, Took, NotTook}
use Rattle.tsl_world.specs.declared.outside.Slot.TheVariants.{Trace}
use Rattle.tsl_world.specs.Journal.{taken, ended, AtReads, IsDone, Each, StopsAtEnd, StopsAtFailure}

-- a read of the trace
abbrev pub IsTraceRead : Did → Type 0
IsTraceRead (Took at bytes) = (at ≡ Trace) × (length bytes ≤ MOST_PIECE_BYTES)
IsTraceRead (NotTook at) = at ≡ Trace
IsTraceRead did = ⊥

module _ (s : System) (o : Options) (q : Question) where
  -- the trace may be read after this much of the journal: the time is open yet, and nothing ends the question
  abbrev pub MayAsk : List Did → Type 0
  MayAsk before = IsAwaited s o q (taken Trace before) false

  -- what is done from the opening of the trace on
  pub record Asks (part : List Did) : Type 0 where
    pub work : Each IsTraceRead part
    pub ends : StopsAtEnd Trace part
    pub stops : StopsAtFailure part
    pub reads : AtReads Trace MayAsk part

  -- and how it ends
  pub record HasAsked (by : WhyEnding) (part : List Did) : Type 0 where
    pub done : Each IsDone part
    pub answers : AnswersBy s o q (taken Trace part) (ended Trace part) by

-- the trace of this name is opened and the question asked of it, as far as it comes
pub data AsksTrace (trace : List ℕ) (s : System) (o : Options) (q : Question) : List Did → Type 0 where
  idle : AsksTrace trace s o q []
  no_trace : AsksTrace trace s o q (NotOpened Trace trace ∷ [])
  asks : (part : List Did) → Asks s o q part → AsksTrace trace s o q (Opened Trace trace ∷ part)

-- and it ends so
pub data AskEnds (trace : List ℕ) (s : System) (o : Options) (q : Question) (by : WhyEnding) : List Did → Type 0 where
  has_asked : (part : List Did) → Asks s o q part → HasAsked s o q by part → AskEnds trace s o q by (Opened Trace trace ∷ part)
