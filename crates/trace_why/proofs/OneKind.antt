-- By the meaning of a specification the causes of the endings of a question exclude each other.
use Rattle.std.proofs.Common.{◌≡◌, ℕ, Bool, List, refl}
use Rattle.compiled_meaning.specs.Meant.{FaultTimeIsMeant, LimitIsMeant}
use Rattle.compiled_meaning.proofs.Excluding.{both, long, loud}
use Rattle.flat_core.specs.Line.{Line}
use Rattle.flat_core.specs.System.{System}
use Rattle.syntax_tree.specs.Tree as tree
use Rattle.trace_monitor.specs.declared.options.Options.{Options}
use Rattle.trace_monitor.specs.Due.{lines_in}
use Rattle.trace_why.specs.declared.ending.WhyEnding.{WhyEnding}
use Rattle.trace_why.specs.declared.ending.WhyEnding.TheVariants as ending
use Rattle.trace_why.specs.declared.question.Question.{Question}
use Rattle.trace_why.specs.Ending.{counted_below}
use Rattle.trace_why.specs.inner.Laws.{OneKindIsMeant, kind_of}
use Rattle.trace_why.specs.Meant.{IsQuietThere, MeansBy}
use Rattle.trace_why.proofs.OneAnswer.{due_none, open_due, refused_read}

module _ (items : List tree.Item) (s : System) (o : Options) (q : Question) (bytes : List ℕ) (ended : Bool) where
  abbrev lines : List Line
  lines = lines_in s o bytes ended

  abbrev low : ℕ
  low = counted_below s o q bytes ended

  quiet_fault : (t : ℕ) → IsQuietThere items s o q bytes ended → FaultTimeIsMeant items lines low o.instants t → ⊥
  quiet_fault = loud items lines low o.instants

  quiet_limit : (t : ℕ) → IsQuietThere items s o q bytes ended → LimitIsMeant items lines low o.instants t → ⊥
  quiet_limit = long items lines low o.instants

  fault_limit : (t u : ℕ) → FaultTimeIsMeant items lines low o.instants t → LimitIsMeant items lines low o.instants u → ⊥
  fault_limit = both items lines low o.instants

  one : (a b : WhyEnding) → MeansBy items s o q bytes ended a → MeansBy items s o q bytes ended b → kind_of a ≡ kind_of b
  one (ending.Text x) (ending.Text y) a b = refl
  one (ending.Text x) ending.NoEvent (quiet, (v, told, has)) (read, still, none) = absurd (due_none s o q bytes ended v has none)
  one (ending.Text x) (ending.Refused g) (quiet, (v, told, has)) (early, refused, still) = absurd (open_due s o q bytes ended early v has)
  one (ending.Text x) (ending.Fault u other r) (quiet, (v, told, has)) (fault, named) = absurd (quiet_fault u quiet fault)
  one (ending.Text x) (ending.Limit number u) (quiet, (v, told, has)) (is, limit) = absurd (quiet_limit u quiet limit)
  one ending.NoEvent (ending.Text y) (read, quiet, none) (still, (v, told, has)) = absurd (due_none s o q bytes ended v has none)
  one ending.NoEvent ending.NoEvent a b = refl
  one ending.NoEvent (ending.Refused g) (read, quiet, none) (early, refused, still) = absurd (refused_read s o q bytes ended g early refused read)
  one ending.NoEvent (ending.Fault u other r) (read, quiet, none) (fault, named) = absurd (quiet_fault u quiet fault)
  one ending.NoEvent (ending.Limit number u) (read, quiet, none) (is, limit) = absurd (quiet_limit u quiet limit)
  one (ending.Refused f) (ending.Text y) (early, refused, quiet) (still, (v, told, has)) = absurd (open_due s o q bytes ended early v has)
  one (ending.Refused f) ending.NoEvent (early, refused, quiet) (read, still, none) = absurd (refused_read s o q bytes ended f early refused read)
  one (ending.Refused f) (ending.Refused g) a b = refl
  one (ending.Refused f) (ending.Fault u other r) (early, refused, quiet) (fault, named) = absurd (quiet_fault u quiet fault)
  one (ending.Refused f) (ending.Limit number u) (early, refused, quiet) (is, limit) = absurd (quiet_limit u quiet limit)
  one (ending.Fault t kind p) (ending.Text y) (fault, named) (quiet, (v, told, has)) = absurd (quiet_fault t quiet fault)
  one (ending.Fault t kind p) ending.NoEvent (fault, named) (read, quiet, none) = absurd (quiet_fault t quiet fault)
  one (ending.Fault t kind p) (ending.Refused g) (fault, named) (early, refused, quiet) = absurd (quiet_fault t quiet fault)
  one (ending.Fault t kind p) (ending.Fault u other r) a b = refl
  one (ending.Fault t kind p) (ending.Limit number u) (fault, named) (is, limit) = absurd (fault_limit t u fault limit)
  one (ending.Limit count t) (ending.Text y) (is, limit) (quiet, (v, told, has)) = absurd (quiet_limit t quiet limit)
  one (ending.Limit count t) ending.NoEvent (is, limit) (read, quiet, none) = absurd (quiet_limit t quiet limit)
  one (ending.Limit count t) (ending.Refused g) (is, limit) (early, refused, quiet) = absurd (quiet_limit t quiet limit)
  one (ending.Limit count t) (ending.Fault u other r) (is, limit) (fault, named) = absurd (fault_limit u t fault limit)
  one (ending.Limit count t) (ending.Limit number u) a b = refl

pub one_kind_is_meant : OneKindIsMeant
one_kind_is_meant = one
