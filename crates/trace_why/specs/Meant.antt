-- What the specification itself says of a question. How a run stands at the times that count is said by the meaning of its items. Of the
-- output's event the streams of the simplified system speak, since a derivation has the equations of that.
use Rattle.std.specs.Prelude.{◌≡◌, ℕ, ◌≤◌, Bool, List, None, Some}
use Rattle.compiled_meaning.specs.Meant.{FaultTimeIsMeant, IsFaultNamed, LimitIsMeant, QuietIsMeant}
use Rattle.flat_core.specs.System.{System}
use Rattle.syntax_tree.specs.Tree as tree
use Rattle.trace_monitor.specs.declared.options.Options.{Options}
use Rattle.trace_monitor.specs.Due.{bound_in, lines_in, refused_in}
use Rattle.trace_why.specs.declared.ending.WhyEnding.{WhyEnding}
use Rattle.trace_why.specs.declared.ending.WhyEnding.TheVariants as ending
use Rattle.trace_why.specs.declared.question.Question.{Question}
use Rattle.trace_why.specs.Ending.{HasDueEvent, InAllFor, IsAllRead, counted_below}
use Rattle.trace_why.specs.Text.{IsDerivationText}
use Rattle.tsl_value.specs.View.{View}

-- for items whose simplified system is s
module _ (items : List tree.Item) (s : System) (o : Options) (q : Question) (bytes : List ℕ) (ended : Bool) where
  -- no time that counts has a fault, and no instant beyond the limit counts
  abbrev pub IsQuietThere : Type 0
  IsQuietThere = QuietIsMeant items (lines_in s o bytes ended) (counted_below s o q bytes ended) o.instants

  -- the cause of an ending at these bytes of the trace
  abbrev pub MeansBy : WhyEnding → Type 0
  MeansBy (ending.Text text) =
      IsQuietThere
      × ((v : View) × IsDerivationText s (lines_in s o bytes ended) q v text
      × InAllFor s o q bytes ended (λ z. HasDueEvent s o q bytes ended z v))
  MeansBy ending.NoEvent =
      IsAllRead s o q bytes ended
      × IsQuietThere
      × InAllFor s o q bytes ended (λ z. (v : View) → ¬ HasDueEvent s o q bytes ended z v)
  MeansBy (ending.Refused fault) =
      (bound_in s o bytes ended ≤ q.time) × (refused_in s o bytes ended ≡ Some fault) × IsQuietThere
  MeansBy (ending.Fault time kind place) =
      FaultTimeIsMeant items (lines_in s o bytes ended) (counted_below s o q bytes ended) o.instants time
      × IsFaultNamed s (lines_in s o bytes ended) (counted_below s o q bytes ended) time place kind
  MeansBy (ending.Limit count time) =
      (count ≡ o.instants) × LimitIsMeant items (lines_in s o bytes ended) (counted_below s o q bytes ended) o.instants time

  -- the time is open yet, nothing is refused, and there is no fault and no instant too many: the trace may be read further
  pub record IsAwaitedThere : Type 0 where
    pub accepted : refused_in s o bytes ended ≡ None
    pub still_open : bound_in s o bytes ended ≤ q.time
    pub quiet : IsQuietThere
