use Rattle.std.proofs.Common.{rules, ◌≡◌, ◌++◌, ◌∙◌, ap, refl, subst, sym, Err, Ok, Result}
use Rattle.std.proofs.lemmas.Result.{err_from_is_err_and}
use Rattle.monitor_run.specs.declared.monitor.Stop.{Stop}
use Rattle.flat_core.specs.System.{System}
use Rattle.monitor_run.specs.inner.AnyMonitor.{NamesRunning}
use Rattle.trace_reader.proofs.AnyLemmas.{set_on}
use Rattle.trace_reader.specs.declared.fault.TraceFault.{TraceFault}
use Rattle.trace_reader.specs.declared.next.Next.{Next}
use Rattle.trace_reader.specs.declared.next.Next.TheVariants as next
use Rattle.trace_reader.specs.inner.Reads.{Reads, SaysNext, lines_in}
use Rattle.trace_monitor.specs.declared.halt.Halt.TheVariants as halt
use Rattle.trace_monitor.specs.inner.Reading.{Halts, reading_of}
use Rattle.trace_monitor.specs.inner.Waits.{HaltsAny}
use Rattle.trace_monitor.proofs.ReadOn as reading_on
use Rattle.trace_reader.specs.inner.AnyReader.{HasAnswered}
use Rattle.trace_monitor.proofs.Taking.{if_both, if_err, if_is_err, on_if_ok}
use Rattle.trace_monitor.proofs.Waiting.{at_end, at_more, at_refusal, may_come, memory_names, none_on, on_line}
use Rattle.trace_monitor.proofs.monitor.take_lines.Goals as goal

pub loop-line-init : goal.loop-line-init
loop-line-init c = (λ x lines text read. reading_on.none_taken c.args.reader.now c.args.engine.now c.args.last.now x lines text c.args.out.now read, refl, refl, refl, none_on c.args.reader.now c.args.engine.now c.args.last.now c.requires)

pub take_line-requires-clause-can_save : goal.take_line-requires-clause-can_save
take_line-requires-clause-can_save c = c.loop-line.invariant.4.step.can_save

pub take_line-requires-clause-may : goal.take_line-requires-clause-may
take_line-requires-clause-may c =
    let is : c.next_line.result ≡ Ok (next.Line c.in-Ok-Line.line) = search rules in
    may_come c.loop-line.reader c.next_line.new.self c.loop-line.engine c.loop-line.last c.in-Ok-Line.line c.loop-line.invariant.4.step
    (subst (HasAnswered c.loop-line.reader c.next_line.new.self) is c.next_line.ensures.answered)

pub loop-line-preserved : goal.loop-line-preserved
loop-line-preserved c = (
  λ x lines text read.
      let on = c.loop-line.invariant.0 x lines text read in
      let s = c.loop-line.engine.system in
      let taken = lines ++ on.more in
      let is : c.next_line.result ≡ Ok (next.Line c.in-Ok-Line.line) = search rules in
      let (rest, found) = subst (SaysNext (reading_of s x) taken x.ended) is (c.next_line.ensures.says s x.strict x.limit x.bytes taken x.ended on.read.reads) in
      let reads = subst (λ (r : Result Next TraceFault). Reads c.next_line.new.self s x.strict x.limit x.bytes (taken ++ lines_in r) x.ended) is (c.next_line.ensures.reads s x.strict x.limit x.bytes taken x.ended on.read.reads) in
      reading_on.on_line c.loop-line.reader c.args.engine.now c.loop-line.engine c.loop-line.last x lines text c.args.out.now c.loop-line.out on c.in-Ok-Line.line rest found c.next_line.new.self c.take_line.new.engine c.take_line.new.out reads
      (c.in_ok-take_line-in-Ok-Line.ensures.taken taken (text ++ on.added) on.read.has),
  c.take_line.ensures.system ∙ c.loop-line.invariant.1,
  c.take_line.ensures.set ∙ c.loop-line.invariant.2,
  c.take_line.ensures.order ∙ c.loop-line.invariant.3,
  let is : c.next_line.result ≡ Ok (next.Line c.in-Ok-Line.line) = search rules in
      on_line c.args.reader.now c.args.engine.now c.loop-line.reader c.loop-line.engine c.loop-line.last c.loop-line.invariant.4 c.next_line.new.self c.in-Ok-Line.line c.take_line.new.engine
      (subst (HasAnswered c.loop-line.reader c.next_line.new.self) is c.next_line.ensures.answered)
      c.take_line.ensures.system c.in_ok-take_line-in-Ok-Line.ensures.limit c.in_ok-take_line-in-Ok-Line.ensures.can_save c.in_ok-take_line-in-Ok-Line.ensures.bound c.in_ok-take_line-in-Ok-Line.ensures.still_open,
)

pub returns-in_err-take_line-in-Ok-Line-clause-stops : goal.returns-in_err-take_line-in-Ok-Line-clause-stops
returns-in_err-take_line-in-Ok-Line-clause-stops c =
    let p = err_from_is_err_and c.from_residual.result c.from_residual.ensures.1 in
    if_is_err c.from_residual.result c.in_err-take_line-in-Ok-Line.field-0.0 _ (p.1 ∙ ap (λ (stop : Stop). Err stop) p.2) (λ some x lines text until read.
    let on = c.loop-line.invariant.0 x lines text read in
    let s = c.loop-line.engine.system in
    let taken = lines ++ on.more in
    let is : c.next_line.result ≡ Ok (next.Line c.in-Ok-Line.line) = search rules in
    let (rest, found) = subst (SaysNext (reading_of s x) taken x.ended) is (c.next_line.ensures.says s x.strict x.limit x.bytes taken x.ended on.read.reads) in
    reading_on.stopped_there c.loop-line.reader c.args.engine.now c.loop-line.engine c.loop-line.last x lines text c.args.out.now c.loop-line.out on c.in-Ok-Line.line rest found c.take_line.new.engine until c.take_line.new.out c.in_err-take_line-in-Ok-Line.field-0.0 some
    (c.in_err-take_line-in-Ok-Line.ensures.stops taken (text ++ on.added) on.read.has))

pub returns-in-Ok-More-clause-read : goal.returns-in-Ok-More-clause-read
returns-in-Ok-More-clause-read c = λ x lines text read.
    let on = c.loop-line.invariant.0 x lines text read in
    let s = c.loop-line.engine.system in
    let taken = lines ++ on.more in
    let is : c.next_line.result ≡ Ok next.More = search rules in
    let says = subst (SaysNext (reading_of s x) taken x.ended) is (c.next_line.ensures.says s x.strict x.limit x.bytes taken x.ended on.read.reads) in
    let reads = subst (λ (r : Result Next TraceFault). Reads c.next_line.new.self s x.strict x.limit x.bytes (taken ++ lines_in r) x.ended) is (c.next_line.ensures.reads s x.strict x.limit x.bytes taken x.ended on.read.reads) in
    reading_on.all_taken c.loop-line.reader c.args.engine.now c.loop-line.engine c.loop-line.last x lines text c.args.out.now c.loop-line.out on c.next_line.new.self halt.More reads
    (reading_on.at_more c.loop-line.reader c.args.engine.now c.loop-line.engine c.loop-line.last x lines text c.args.out.now c.loop-line.out on says)

pub returns-in-Ok-End-clause-read : goal.returns-in-Ok-End-clause-read
returns-in-Ok-End-clause-read c = λ x lines text read.
    let on = c.loop-line.invariant.0 x lines text read in
    let s = c.loop-line.engine.system in
    let taken = lines ++ on.more in
    let is : c.next_line.result ≡ Ok next.End = search rules in
    let says = subst (SaysNext (reading_of s x) taken x.ended) is (c.next_line.ensures.says s x.strict x.limit x.bytes taken x.ended on.read.reads) in
    let reads = subst (λ (r : Result Next TraceFault). Reads c.next_line.new.self s x.strict x.limit x.bytes (taken ++ lines_in r) x.ended) is (c.next_line.ensures.reads s x.strict x.limit x.bytes taken x.ended on.read.reads) in
    reading_on.all_taken c.loop-line.reader c.args.engine.now c.loop-line.engine c.loop-line.last x lines text c.args.out.now c.loop-line.out on c.next_line.new.self halt.End reads
    (reading_on.at_end c.loop-line.reader c.args.engine.now c.loop-line.engine c.loop-line.last x lines text c.args.out.now c.loop-line.out on says)

pub returns-in-Err-clause-read : goal.returns-in-Err-clause-read
returns-in-Err-clause-read c = if_both c.halt_at.result _ _ _ (λ by by_is some x lines text read.
    let on = c.loop-line.invariant.0 x lines text read in
    let s = c.loop-line.engine.system in
    let taken = lines ++ on.more in
    let says = subst (SaysNext (reading_of s x) taken x.ended) c.in-Err.is (c.next_line.ensures.says s x.strict x.limit x.bytes taken x.ended on.read.reads) in
    let reads = subst (λ (r : Result Next TraceFault). Reads c.next_line.new.self s x.strict x.limit x.bytes (taken ++ lines_in r) x.ended) c.in-Err.is (c.next_line.ensures.reads s x.strict x.limit x.bytes taken x.ended on.read.reads) in
    reading_on.all_taken c.loop-line.reader c.args.engine.now c.loop-line.engine c.loop-line.last x lines text c.args.out.now c.loop-line.out on c.next_line.new.self by reads
    (subst (Halts (reading_of c.args.engine.now.system x) taken x.ended) (sym by_is)
    (reading_on.at_fault c.loop-line.reader c.args.engine.now c.loop-line.engine c.loop-line.last x lines text c.args.out.now c.loop-line.out on c.in-Err.fault some says))) c.halt_at.ensures.halt c.halt_at.ensures.refused

pub returns-in-Ok-More-clause-in_step : goal.returns-in-Ok-More-clause-in_step
returns-in-Ok-More-clause-in_step c =
    let is : c.next_line.result ≡ Ok next.More = search rules in
    (at_more c.args.reader.now c.args.engine.now c.loop-line.reader c.loop-line.engine c.loop-line.last c.loop-line.invariant.4 c.next_line.new.self
    (subst (HasAnswered c.loop-line.reader c.next_line.new.self) is c.next_line.ensures.answered)).0

pub returns-in-Ok-More-clause-halts : goal.returns-in-Ok-More-clause-halts
returns-in-Ok-More-clause-halts c =
    let is : c.next_line.result ≡ Ok next.More = search rules in
    (at_more c.args.reader.now c.args.engine.now c.loop-line.reader c.loop-line.engine c.loop-line.last c.loop-line.invariant.4 c.next_line.new.self
    (subst (HasAnswered c.loop-line.reader c.next_line.new.self) is c.next_line.ensures.answered)).1

pub returns-in-Ok-End-clause-in_step : goal.returns-in-Ok-End-clause-in_step
returns-in-Ok-End-clause-in_step c =
    let is : c.next_line.result ≡ Ok next.End = search rules in
    (at_end c.args.reader.now c.args.engine.now c.loop-line.reader c.loop-line.engine c.loop-line.last c.loop-line.invariant.4 c.next_line.new.self
    (subst (HasAnswered c.loop-line.reader c.next_line.new.self) is c.next_line.ensures.answered)).0

pub returns-in-Ok-End-clause-halts : goal.returns-in-Ok-End-clause-halts
returns-in-Ok-End-clause-halts c =
    let is : c.next_line.result ≡ Ok next.End = search rules in
    (at_end c.args.reader.now c.args.engine.now c.loop-line.reader c.loop-line.engine c.loop-line.last c.loop-line.invariant.4 c.next_line.new.self
    (subst (HasAnswered c.loop-line.reader c.next_line.new.self) is c.next_line.ensures.answered)).1

pub returns-in-Err-clause-in_step : goal.returns-in-Err-clause-in_step
returns-in-Err-clause-in_step c = on_if_ok c.halt_at.result _ _ (λ by some. (at_refusal c.args.reader.now c.args.engine.now c.loop-line.reader c.loop-line.engine c.loop-line.last c.loop-line.invariant.4 c.next_line.new.self c.in-Err.fault some
    (subst (HasAnswered c.loop-line.reader c.next_line.new.self) c.in-Err.is c.next_line.ensures.answered)).0) c.halt_at.ensures.refused

pub returns-in-Err-clause-halts : goal.returns-in-Err-clause-halts
returns-in-Err-clause-halts c = if_both c.halt_at.result _ _ _ (λ by by_is some. subst (HaltsAny c.args.reader.now c.next_line.new.self) (sym by_is)
    (at_refusal c.args.reader.now c.args.engine.now c.loop-line.reader c.loop-line.engine c.loop-line.last c.loop-line.invariant.4 c.next_line.new.self c.in-Err.fault some
    (subst (HasAnswered c.loop-line.reader c.next_line.new.self) c.in-Err.is c.next_line.ensures.answered)).1) c.halt_at.ensures.halt c.halt_at.ensures.refused

pub returns-in-Err-clause-named : goal.returns-in-Err-clause-named
returns-in-Err-clause-named c = if_err c.halt_at.result _ _ (memory_names c.args.engine.now.system) c.halt_at.ensures.memory

pub returns-in_err-take_line-in-Ok-Line-clause-named : goal.returns-in_err-take_line-in-Ok-Line-clause-named
returns-in_err-take_line-in-Ok-Line-clause-named c =
    let p = err_from_is_err_and c.from_residual.result c.from_residual.ensures.1 in
    if_is_err c.from_residual.result c.in_err-take_line-in-Ok-Line.field-0.0 _ (p.1 ∙ ap (λ (stop : Stop). Err stop) p.2)
    (subst (λ (s : System). NamesRunning s c.in_err-take_line-in-Ok-Line.field-0.0) c.loop-line.invariant.1 c.in_err-take_line-in-Ok-Line.ensures.named)

pub returns-in_err-take_line-in-Ok-Line-clause-as_set : goal.returns-in_err-take_line-in-Ok-Line-clause-as_set
returns-in_err-take_line-in-Ok-Line-clause-as_set c = set_on c.args.reader.now c.loop-line.reader c.next_line.new.self c.next_line.result c.loop-line.invariant.4.set c.next_line.ensures.answered

pub returns-in-Ok-More-clause-as_set : goal.returns-in-Ok-More-clause-as_set
returns-in-Ok-More-clause-as_set c = set_on c.args.reader.now c.loop-line.reader c.next_line.new.self c.next_line.result c.loop-line.invariant.4.set c.next_line.ensures.answered

pub returns-in-Ok-End-clause-as_set : goal.returns-in-Ok-End-clause-as_set
returns-in-Ok-End-clause-as_set c = set_on c.args.reader.now c.loop-line.reader c.next_line.new.self c.next_line.result c.loop-line.invariant.4.set c.next_line.ensures.answered

pub returns-in-Err-clause-as_set : goal.returns-in-Err-clause-as_set
returns-in-Err-clause-as_set c = set_on c.args.reader.now c.loop-line.reader c.next_line.new.self c.next_line.result c.loop-line.invariant.4.set c.next_line.ensures.answered
