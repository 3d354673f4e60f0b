use Rattle.std.proofs.Common.{List, [], false, sym, subst}
use Rattle.flat_core.specs.Line.{Line}
use Rattle.flat_core.specs.System.{System}
use Rattle.trace_reader.specs.inner.Reads.{Reads}
use Rattle.trace_why.proofs.monitor.WhyMonitor.new.Goals as goal

pub returns-clause-kept : goal.returns-clause-kept
returns-clause-kept c =
    let o = c.args.options in
    let r = c.in_ok-new-2.field-0 in
    let reads = subst (λ (s : System). Reads r s o.strict o.bytes [] [] false) c.flat.ensures.flat c.in_ok-new-2.ensures.reads in
    record {
      well_formed = c.requires.well_formed;
      there = c.requires.there;
      system_is = c.in_ok-new.ensures.system;
      options_are = c.in_ok-new.ensures.options;
      run = c.in_ok-new.ensures.kept;
      reads = subst (λ (l : List Line). Reads r c.args.code.now.system o.strict o.bytes [] l false) (sym c.new-3.ensures.items) reads;
      awaits = c.in_ok-new-2.ensures.awaits;
    }
