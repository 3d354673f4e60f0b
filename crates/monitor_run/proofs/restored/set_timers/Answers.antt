use Rattle.std.proofs.Common.{◌<◌, sym, ◌∙◌}
use Rattle.std.proofs.lemmas.Slice.Zip.{either_empty_from_Zip}
use Rattle.std.specs.FinMap as finite_map
use Rattle.monitor_run.proofs.Placed.{placed_next, placed_over, rest_all, rest_once}
use Rattle.monitor_run.proofs.restored.set_timers.Goals as goal

pub loop-id-preserved : goal.loop-id-preserved
loop-id-preserved c =
    let was = c.loop-id.invariant in
    let rest = c.in-Some.ensures.steps.0 in
    record {
      capacity = c.set_timer.ensures.capacity ∙ was.capacity;
      once = rest_once _ c.in-Some.id.now c.next.new.self.a.rest.now rest was.once;
      known = rest_all _ c.in-Some.id.now c.next.new.self.a.rest.now rest (λ i. i < c.args.timers.now.capacity) was.known;
      set = λ d.
          placed_next _ c.in-Some.id.now c.next.new.self.a.rest.now rest _ c.in-Some.time.now c.next.new.self.b.rest.now c.in-Some.ensures.steps.1 was.once d
          (finite_map.get c.loop-id.timers.times d) (finite_map.get c.set_timer.new.timers.times d) _ (c.set_timer.ensures.times d) (was.set d);
    }

pub returns-clause-set : goal.returns-clause-set
returns-clause-set c = λ d.
    sym (placed_over _ _ d (finite_map.get c.loop-id.timers.times d) (either_empty_from_Zip c.loop-id.id-iterator c.next.new.self c.next.result c.in-None.is c.next.ensures.steps)) ∙ c.loop-id.invariant.set d
