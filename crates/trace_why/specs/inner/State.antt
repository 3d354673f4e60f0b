-- What a caller sees of the monitor of a question.
use Rattle.std.specs.Prelude.{List}
use Rattle.flat_core.specs.Line.{Line}
use Rattle.flat_core.specs.System.{System}
use Rattle.trace_monitor.specs.declared.options.Options.{Options}
use Rattle.trace_monitor.specs.inner.State as run
use Rattle.trace_reader.specs.inner.Reader.{Reader}
use Rattle.trace_why.specs.declared.question.Question.{Question}

pub record State : Type 0 where
  pub system : System
  pub options : Options
  pub question : Question
  -- the run over the same pieces
  pub run : run.State
  pub reader : Reader
  -- the lines that were read
  pub lines : List Line
