use Rattle.std.proofs.Common.{arith, ◌<◌, length, map, ap, subst, sym, ◌∙◌}
use Rattle.std.proofs.lemmas.List.{length-set}
use Rattle.std.proofs.lemmas.Slice.Zip.{either_empty_from_Zip}
use Rattle.std.specs.Prelude.{slice_set}
use Rattle.std.specs.List.{AllByRecursion}
use Rattle.body_eval.specs.declared.register.Register.TheVariants.{Empty}
use Rattle.monitor_state.specs.Fits.{named_by}
use Rattle.monitor_run.specs.inner.Registers.{register_at}
use Rattle.monitor_run.specs.inner.Resuming.{register_with}
use Rattle.monitor_run.proofs.Placed.{first_all, mapped_over, placed_next, placed_over, rest_all, rest_once, value_set}
use Rattle.monitor_run.proofs.restored.set_registers.Goals as goal

pub loop-id-preserved : goal.loop-id-preserved
loop-id-preserved c =
    let was = c.loop-id.invariant in
    let rest = c.in-Some.ensures.steps.0 in
    let values = c.in-Some.ensures.steps.1 in
    let there = first_all _ c.in-Some.id.now c.next.new.self.a.rest.now rest (λ i. i < length c.args.last.now) was.known in
    record {
      size = ap length c.put.ensures ∙ length-set c.loop-id.last c.get.result c.in_ok-register_of.field-0 ∙ was.size;
      once = rest_once _ c.in-Some.id.now c.next.new.self.a.rest.now rest was.once;
      known = rest_all _ c.in-Some.id.now c.next.new.self.a.rest.now rest (λ i. i < length c.args.last.now) was.known;
      named = (subst (AllByRecursion (λ r. AllByRecursion (λ k. k < length c.args.handles.now) (named_by r))) values was.named).1;
      set = λ v.
          placed_next _ c.in-Some.id.now c.next.new.self.a.rest.now rest _ (register_with c.args.handles.now c.in-Some.register.now)
          (map (register_with c.args.handles.now) c.next.new.self.b.rest.now) (ap (map (register_with c.args.handles.now)) values) was.once v
          (register_at c.loop-id.last v) (register_at c.put.new.registers v) _
          (value_set c.loop-id.last c.put.new.registers c.in-Some.id.now c.get.result (register_with c.args.handles.now c.in-Some.register.now) Empty v
          (c.put.ensures ∙ ap (slice_set c.loop-id.last c.get.result) c.in_ok-register_of.ensures) c.get.ensures (omega (arith, there, was.size))) (was.set v);
    }

pub returns-clause-set : goal.returns-clause-set
returns-clause-set c = λ v.
    sym (placed_over _ _ v (register_at c.loop-id.last v) (mapped_over (register_with c.args.handles.now) _ _ (either_empty_from_Zip c.loop-id.id-iterator c.next.new.self c.next.result c.in-None.is c.next.ensures.steps)))
    ∙ c.loop-id.invariant.set v
