-- What stands before the bytes of a run.
use Rattle.std.specs.Prelude.{ℕ, List, []}
use Rattle.trace_monitor.specs.declared.options.Options.{Options}

-- How far a run goes, the bytes of the earlier runs that it goes on from, and the text that was due of them.
pub record Before : Type 0 where
  pub options : Options
  pub bytes : List ℕ
  pub text : List ℕ

-- nothing stands before a run that begins
abbrev pub nothing_before : Options → Before
nothing_before o = record { options = o; bytes = []; text = [] }
