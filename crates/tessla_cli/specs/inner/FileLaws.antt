-- What a run of the file that is written of a specification says, the specification itself says.
use Rattle.std.specs.Prelude.{ℕ, Bool, List}
use Rattle.code_file.specs.Form.{IsForm}
use Rattle.code_file.specs.Spelling.{spelling}
use Rattle.compiled_meaning.specs.Compiled.{Compiles}
use Rattle.register_code.specs.Code.{Code}
use Rattle.syntax_tree.specs.Tree as tree
use Rattle.trace_monitor.specs.declared.ending.RunEnding.{RunEnding}
use Rattle.trace_monitor.specs.declared.options.Options.{Options}
use Rattle.trace_run.specs.Means.{EndsAs, IsDueAs}
use Rattle.trace_run.specs.Program.{Program, coded, specified}
use Rattle.tessla_cli.specs.Running.{IsReadAs}

-- What one program is due and how it ends at these bytes of a trace, so another is due and ends.
pub record MeansTheSame (p q : Program) (o : Options) (bytes : List ℕ) (ended : Bool) : Type 0 where
  pub due : (text : List ℕ) → IsDueAs p o bytes ended text → IsDueAs q o bytes ended text
  pub ends : (how : RunEnding) → EndsAs p o bytes ended how → EndsAs q o bytes ended how

-- Code of a compiled system is spelled, and other code is read of that: whatever the trace and however far it was read, what is due by that
-- code is due by the specification, and where it ends this ends so.
abbrev pub FilesRunAsMeant : Type 0
FilesRunAsMeant =
    (source : List ℕ) (items : List tree.Item) (c d : Code) (o : Options) (bytes : List ℕ) (ended : Bool)
    → Compiles source items c.system
    → IsForm c
    → IsReadAs (spelling c) d
    → MeansTheSame (coded d) (specified items c.system) o bytes ended
