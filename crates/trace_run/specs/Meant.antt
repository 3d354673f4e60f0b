-- What is due and how a run stands, by the meaning of the specification itself.
use Rattle.std.specs.Prelude.{◌≡◌, ℕ, Bool, true, List, Option, Some, None}
use Rattle.flat_core.specs.Line.{Line}
use Rattle.flat_core.specs.System.{System}
use Rattle.spec_meaning.specs.Inputs.{inputs_alone}
use Rattle.compiled_meaning.specs.Meant.{FaultTimeIsMeant, QuietIsMeant, LimitIsMeant, IsFaultNamed}
use Rattle.spec_meaning.specs.Due.{IsDueText}
use Rattle.syntax_tree.specs.Tree as tree
use Rattle.trace_monitor.specs.declared.ending.RunEnding.{RunEnding}
use Rattle.trace_monitor.specs.declared.ending.RunEnding.TheVariants as run
use Rattle.trace_monitor.specs.declared.options.Options.{Options}
use Rattle.trace_monitor.specs.Due.{lines_in, refused_in, bound_in}
use Rattle.trace_reader.specs.declared.fault.TraceFault.{TraceFault}

-- By the items of a specification alone: the inputs that they declare are those by which the lines of the trace are read.
module _ (items : List tree.Item) (o : Options) where
  -- the lines that bytes of the trace have, the refusal after them, and the bound below which times are closed
  abbrev pub lines_meant : List ℕ → Bool → List Line
  lines_meant bytes ended = lines_in (inputs_alone items) o bytes ended

  abbrev pub refused_meant : List ℕ → Bool → Option TraceFault
  refused_meant bytes ended = refused_in (inputs_alone items) o bytes ended

  abbrev pub bound_meant : List ℕ → Bool → ℕ
  bound_meant bytes ended = bound_in (inputs_alone items) o bytes ended

  -- the text is due of these bytes
  abbrev pub IsDueAsMeant : List ℕ → Bool → List ℕ → Type 0
  IsDueAsMeant bytes ended text = IsDueText items (lines_meant bytes ended) (bound_meant bytes ended) o.instants text

  -- no fault is closed, and the limit of instants is not passed
  abbrev pub IsQuietAsMeant : List ℕ → Bool → Type 0
  IsQuietAsMeant bytes ended = QuietIsMeant items (lines_meant bytes ended) (bound_meant bytes ended) o.instants

-- With the flat system of the items once it is simplified. Of it the place and the kind of a fault are taken, and nothing else.
--
-- The time of a fault is that of the meaning, and its place and kind are those that the system names. These can differ. Take
-- `in i: Events[Int]`, `def c := 5 / m`, `def m := merge(i, b)`, `def b := 1 / i` and `out c`, and the line `1: i = 0`. In the meaning
-- `m` is a fault at 1, so `c` passes it on, and `1 / i` alone has a root fault. In the simplified system `m` gives way to `i`, so that
-- `5 / m` has one too, and it is named, since its number is less.
module _ (items : List tree.Item) (s : System) (o : Options) where
  -- the cause that the specification gives an ending there
  abbrev pub EndsAsMeant : List ℕ → Bool → RunEnding → Type 0
  EndsAsMeant bytes ended run.Done = (ended ≡ true) × (refused_meant items o bytes ended ≡ None) × IsQuietAsMeant items o bytes ended
  EndsAsMeant bytes ended (run.Trace fault) = (refused_meant items o bytes ended ≡ Some fault) × IsQuietAsMeant items o bytes ended
  EndsAsMeant bytes ended (run.Fault time kind place) =
      FaultTimeIsMeant items (lines_meant items o bytes ended) (bound_meant items o bytes ended) o.instants time
      × IsFaultNamed s (lines_meant items o bytes ended) (bound_meant items o bytes ended) time place kind
  EndsAsMeant bytes ended (run.Limit count time) =
      (count ≡ o.instants) × LimitIsMeant items (lines_meant items o bytes ended) (bound_meant items o bytes ended) o.instants time
