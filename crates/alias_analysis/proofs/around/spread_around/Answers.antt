use Rattle.std.proofs.Common.{refl}
use Rattle.flat_core.specs.declared.reach.Marks.{Marks}
use Rattle.alias_paths.specs.inner.Search.{marks_of}
use Rattle.alias_nears.specs.inner.Contents.{IsPairAround}
use Rattle.flat_core.proofs.Spreads.{spreading_more}
use Rattle.alias_analysis.proofs.around.spread_around.Goals as goal

pub loop-number-init : goal.loop-number-init
loop-number-init c = record { spreading = c.requires.goes_on; listed = λ h. h }

pub loop-number-preserved : goal.loop-number-preserved
loop-number-preserved c =
    let number = c.in-Some.number in
    let popped : Marks = record { marked = c.loop-number.search.marked; waiting = c.pop.new.self } in
    let more = c.in_ok-mark_around.ensures.marked in
    record {
      spreading =
          spreading_more (IsPairAround c.args.flat.now c.args.update c.args.carriers.now) (marks_of c.args.search.now) (marks_of c.loop-number.search) popped (marks_of c.mark_around.new.search) number more.numbers c.loop-number.invariant.spreading refl c.in-Some.ensures.items
          (λ a. (more.each a).0) (λ a. (more.each a).1) more.marked;
      listed = λ h. c.in_ok-mark_around.ensures.listed (c.loop-number.invariant.listed h);
    }
