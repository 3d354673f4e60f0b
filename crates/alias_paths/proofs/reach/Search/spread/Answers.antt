use Rattle.std.proofs.Common.{refl}
use Rattle.flat_core.specs.declared.reach.Marks.{Marks}
use Rattle.translation_order.specs.Order.{Before}
use Rattle.translation_order.specs.inner.Taking.{seconds_of}
use Rattle.alias_paths.specs.inner.Search.{marks_of}
use Rattle.flat_core.proofs.Spreads.{spreading_none, spreading_more}
use Rattle.alias_paths.proofs.Spreads.{in_second, second_in}
use Rattle.alias_paths.proofs.reach.Search.spread.Goals as goal

pub loop-number-init : goal.loop-number-init
loop-number-init c = record { spreading = spreading_none (Before c.args.links.now) (marks_of c.args.self.now) c.requires.all_wait; listed = λ h. h }

pub loop-number-preserved : goal.loop-number-preserved
loop-number-preserved c =
    let pairs = c.args.links.now in
    let number = c.in-Some.number in
    let popped : Marks = record { marked = c.loop-number.self.marked; waiting = c.pop.new.self } in
    record {
      spreading =
          spreading_more (Before pairs) (marks_of c.args.self.now) (marks_of c.loop-number.self) popped (marks_of c.mark_seconds.new.self) number (seconds_of pairs number) c.loop-number.invariant.spreading refl c.in-Some.ensures.items
          (in_second pairs number) (second_in pairs number) c.in_ok-mark_seconds.ensures.marked;
      listed = λ h. c.in_ok-mark_seconds.ensures.listed (c.loop-number.invariant.listed h);
    }
