-- The lines of what was read answer a question whose time is closed.
use Rattle.std.proofs.Common.{◌≡◌, ℕ, ◌<◌, ◌≤◌, Bool, List, None, Option, Some, inl, sym, ◌∙◌, ap, subst, arith}
use Rattle.std.specs.Prelude.{IsTrue}
use Rattle.tsl_value.specs.View.{Plain, View, is_of}
use Rattle.flat_core.specs.Complete.{IsFlat}
use Rattle.flat_core.specs.declared.equation.Equation.{Equation}
use Rattle.flat_core.specs.declared.equation.Output.{Output}
use Rattle.flat_core.specs.inner.TypedLines.{AreTypedLines, IsTypedLine}
use Rattle.flat_core.specs.Line.{IsSorted, Line}
use Rattle.flat_core.specs.Stream.{Outcome, event}
use Rattle.flat_core.specs.System.{System, runs}
use Rattle.flat_core.specs.WellFormed.{IsWellFormed}
use Rattle.flat_core.proofs.Uniqueness.{all_by}
use Rattle.trace_monitor.specs.declared.options.Options.{Options}
use Rattle.trace_monitor.specs.Due.{lines_in}
use Rattle.trace_reader.specs.inner.Laws.{IsProperLine}
use Rattle.trace_reader.proofs.LineLemmas.{reading_proper, reading_sorted}
use Rattle.tsl_value.proofs.Lists.{all_by_place}
use Rattle.trace_why.specs.declared.ending.WhyEnding.{WhyEnding}
use Rattle.trace_why.specs.declared.ending.WhyEnding.TheVariants as ending
use Rattle.trace_why.specs.declared.question.Question.{Question}
use Rattle.trace_why.specs.Answer.{AnswersBy}
use Rattle.trace_why.specs.Ending.{counted_below}
use Rattle.trace_why.specs.inner.Course.{IsClosedFor}
use Rattle.trace_why.specs.inner.Lines.{IsCalm, IsTold}
use Rattle.trace_why.proofs.Calm.{due_below, sound_below}

-- the lines that are read are sorted, and their events are of their inputs' types
proper_typed : (s : System) (l : Line) → IsProperLine s l → IsTypedLine s l
proper_typed s l proper = record {
  event = λ i v at e is.
      let known = proper.event i v at in
      let there = known.is in
      let same : known.at ≡ e = cc in
      subst (λ (f : Equation). IsTrue (is_of f.of (Plain v))) same known.fits;
}

pub typed_lines : (s : System) (o : Options) (bytes : List ℕ) (ended : Bool) (lines : List Line) → lines ≡ lines_in s o bytes ended → AreTypedLines s lines
typed_lines s o bytes ended lines is =
    subst (AreTypedLines s) (sym is) (all_by (IsProperLine s) (IsTypedLine s) (proper_typed s) (lines_in s o bytes ended) (reading_proper s o.strict o.bytes bytes ended))

pub sorted_lines : (s : System) (o : Options) (bytes : List ℕ) (ended : Bool) (lines : List Line) → lines ≡ lines_in s o bytes ended → IsSorted lines
sorted_lines s o bytes ended lines is = subst IsSorted (sym is) (reading_sorted s o.strict o.bytes bytes ended)

nothing : (v : View) → None ≡ Some v → ⊥
nothing v p = cc

no_outcome : (x : Option Outcome) (v : View) → event x ≡ Some v → x ≡ None → ⊥
no_outcome x v happens none = nothing v (sym (ap event none) ∙ happens)

module _ (s : System) (whole : IsFlat s) (formed : IsWellFormed s) (o : Options) (q : Question) (bytes : List ℕ) (ended : Bool) (closed : IsClosedFor s o q bytes ended) where
  abbrev low : ℕ
  low = counted_below s o q bytes ended

  below : q.time < low
  below = let early = closed.closed in omega arith

  pub calm : (lines : List Line) → lines ≡ lines_in s o bytes ended → IsCalm s lines q.time
  calm lines is = subst (λ (l : List Line). IsCalm s l q.time) (sym is) (let (z, zs) = closed.quiet.solved in record {
    bound = low;
    beyond = below;
    streams = z;
    solves = zs;
    sound = λ u le. sound_below s whole formed (lines_in s o bytes ended) z low o.instants zs (closed.quiet.each z zs) u (within u le);
  })
    where
      within : (u : ℕ) → u ≤ q.time → u < low
      within u le = let lt = below in omega arith

  -- what lines answer is the ending
  answered_here : (by : WhyEnding) → IsTold s (lines_in s o bytes ended) q by → AnswersBy s o q bytes ended by
  answered_here (ending.Text text) (v, derived, has) = (
    closed.quiet,
    (
      v,
      derived,
      record {
        solved = closed.quiet.solved;
        each = λ z zs.
            let happens = has.has.each low z below zs in
            record {
              output = has.output;
              is_output = has.is_output;
              happens = happens;
              due = due_below s whole formed (lines_in s o bytes ended) z low o.instants zs (closed.quiet.each z zs) has.output.equation q.time
                  (all_by_place (λ out. IsTrue (runs s out.equation)) s.outputs whole.outputs_run q.output has.output has.is_output) below
                  (no_outcome (z has.output.equation q.time) v happens);
            };
      },
    ),
  )
  answered_here ending.NoEvent has = (
    inl closed.closed,
    closed.quiet,
    record {
      solved = closed.quiet.solved;
      each = λ z zs v due.
          let none = has.has.each low z below zs in
          let here = due.is_output in
          let there = has.is_output in
          let same : due.output ≡ has.output = cc in
          let moved : event (z has.output.equation q.time) ≡ Some v = subst (λ (out : Output). event (z out.equation q.time) ≡ Some v) same due.happens in
          nothing v (sym none ∙ moved);
    },
  )
  answered_here (ending.Refused f) told = absurd told
  answered_here (ending.Fault t kind place) told = absurd told
  answered_here (ending.Limit count t) told = absurd told

  pub answered : (lines : List Line) → lines ≡ lines_in s o bytes ended → (by : WhyEnding) → IsTold s lines q by → AnswersBy s o q bytes ended by
  answered lines is by told = answered_here by (subst (λ (l : List Line). IsTold s l q by) is told)
