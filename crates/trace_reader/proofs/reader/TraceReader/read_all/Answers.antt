use Rattle.std.proofs.Common.{◌++◌, ◌∙◌, ap, Err, Ok}
use Rattle.std.proofs.lemmas.Result.{err_from_is_err_and}
use Rattle.trace_reader.specs.declared.next.Rest.TheVariants as rest
use Rattle.trace_reader.proofs.AnyLemmas.{set_on}
use Rattle.trace_reader.proofs.GatherLemmas.{one_gathered, gathers, gathers_fault, gathers_memory}
use Rattle.trace_reader.proofs.reader.TraceReader.read_all.Goals as goal

pub returns-in_err-reserve-clause-gathers : goal.returns-in_err-reserve-clause-gathers
returns-in_err-reserve-clause-gathers c =
    let p = err_from_is_err_and c.from_residual.result c.from_residual.ensures.1 in
    rw c.reserve.ensures.items (λ s strict limit fed given ended reads.
    gathers_memory s strict limit fed given ended c.args.lines.now.items c.loop-self.self c.loop-self.lines.items (c.loop-self.invariant.0 s strict limit fed given ended reads)
    c.from_residual.result (p.1 ∙ ap (λ f. Err f) p.2))

pub returns-in_err-line-clause-gathers : goal.returns-in_err-line-clause-gathers
returns-in_err-line-clause-gathers c =
    let p = err_from_is_err_and c.from_residual-in_err-line.result c.from_residual-in_err-line.ensures.1 in
    rw c.reserve.ensures.items (λ s strict limit fed given ended reads.
    let it = c.loop-self.invariant.0 s strict limit fed given ended reads in
    gathers_fault s strict limit fed given ended c.args.lines.now.items c.loop-self.self c.next_line.new.self c.loop-self.lines.items it
    (c.in_err-line.ensures.reads s strict limit fed (given ++ it.added) ended it.reads)
    c.in_err-line.field-0.0 c.from_residual-in_err-line.result (p.1 ∙ ap (λ f. Err f) p.2)
    (c.in_err-line.ensures.says s strict limit fed (given ++ it.added) ended it.reads))

pub loop-self-preserved : goal.loop-self-preserved
loop-self-preserved c = (
  rw (c.put.ensures, c.reserve.ensures.items) (λ s strict limit fed given ended reads.
      let it = c.loop-self.invariant.0 s strict limit fed given ended reads in
      one_gathered s strict limit fed given ended c.args.lines.now.items c.loop-self.self c.next_line.new.self c.loop-self.lines.items c.in-Line.line it
      (rw c.in-Line.is at (c.in_ok-line.ensures.reads s strict limit fed (given ++ it.added) ended it.reads))),
  set_on c.args.self.now c.loop-self.self c.next_line.new.self c.next_line.result c.loop-self.invariant.1 c.next_line.ensures.answered,
)

pub returns-in-More-clause-gathers : goal.returns-in-More-clause-gathers
returns-in-More-clause-gathers c =
    rw c.reserve.ensures.items (λ s strict limit fed given ended reads.
    let it = c.loop-self.invariant.0 s strict limit fed given ended reads in
    gathers s strict limit fed given ended c.args.lines.now.items c.loop-self.self c.next_line.new.self c.loop-self.lines.items it
    (rw c.in-More.is at (c.in_ok-line.ensures.reads s strict limit fed (given ++ it.added) ended it.reads))
    (Ok rest.More) (rw c.in-More.is at (c.in_ok-line.ensures.says s strict limit fed (given ++ it.added) ended it.reads)))

pub returns-in-End-clause-gathers : goal.returns-in-End-clause-gathers
returns-in-End-clause-gathers c =
    rw c.reserve.ensures.items (λ s strict limit fed given ended reads.
    let it = c.loop-self.invariant.0 s strict limit fed given ended reads in
    gathers s strict limit fed given ended c.args.lines.now.items c.loop-self.self c.next_line.new.self c.loop-self.lines.items it
    (rw c.in-End.is at (c.in_ok-line.ensures.reads s strict limit fed (given ++ it.added) ended it.reads))
    (Ok rest.End) (rw c.in-End.is at (c.in_ok-line.ensures.says s strict limit fed (given ++ it.added) ended it.reads)))

pub returns-in_err-line-clause-as_set : goal.returns-in_err-line-clause-as_set
returns-in_err-line-clause-as_set c = set_on c.args.self.now c.loop-self.self c.next_line.new.self c.next_line.result c.loop-self.invariant.1 c.next_line.ensures.answered

pub returns-in-More-clause-as_set : goal.returns-in-More-clause-as_set
returns-in-More-clause-as_set c = set_on c.args.self.now c.loop-self.self c.next_line.new.self c.next_line.result c.loop-self.invariant.1 c.next_line.ensures.answered

pub returns-in-End-clause-as_set : goal.returns-in-End-clause-as_set
returns-in-End-clause-as_set c = set_on c.args.self.now c.loop-self.self c.next_line.new.self c.next_line.result c.loop-self.invariant.1 c.next_line.ensures.answered
