use Rattle.std.proofs.Common.{◌≡◌, length, ap, ◌∙◌, refl, arith}
use Rattle.std.proofs.lemmas.List.{with_items_is}
use Rattle.std.specs.FinMap as finite_map
use Rattle.std.specs.Vec.{with_items}
use Rattle.flat_core.specs.Line.{inputs_of}
use Rattle.monitor_run.specs.inner.Instant.{expired_at, with_event}
use Rattle.monitor_run.specs.inner.Registers.{register_at}
use Rattle.monitor_run.proofs.instant.begin.Goals as goal

pub returns-then-not-all-clause-begins : goal.returns-then-not-all-clause-begins
returns-then-not-all-clause-begins c =
    let t = c.args.time in
    let lines = c.args.given.now.items in
    let times = c.args.machine.now.timers.times in
    let v = c.args.machine.now.registers in
    let r1 = c.expire.new.registers in
    let r2 = c.give.new.registers in
    let ok = v.ok.0 in
    let e1 = c.deref_mut.ensures.value in
    let len1 : length r1 ≡ v.len = omega (arith, ap length e1) in
    let w1 = with_items_is v r1 len1 in
    let e2 = c.deref_mut-2.ensures.value ∙ w1 in
    let len2 : length r2 ≡ v.len = omega (arith, ap length e2) in
    let w2 = with_items_is (with_items v r1) r2 len2 in
    let size = c.requires.room.registers in
    record {
      registers = λ i run.
          ap (λ rs. register_at rs i) w2 ∙ c.in_ok-give.ensures.registers i
          ∙ ap (with_event (inputs_of lines i t)) (ap (λ rs. register_at rs i) e2 ∙ c.in_ok-expire.ensures.registers i
          ∙ ap (expired_at t (finite_map.get times i)) (ap (λ rs. register_at rs i) e1 ∙ c.requires.rest.registers i));
      faulted = c.requires.unmarked;
      timers = c.in_ok-expire.ensures.timers;
      capacity = c.expire.ensures.capacity;
      last = refl;
      store = refl;
      texts = refl;
      registers_each = ap length w2 ∙ omega arith;
      faulted_each = refl;
    }

pub returns-else-not-all-clause-begins : goal.returns-else-not-all-clause-begins
returns-else-not-all-clause-begins c =
    let t = c.args.time in
    let lines = c.args.given.now.items in
    let times = c.args.machine.now.timers.times in
    let v = c.args.machine.now.registers in
    let r1 = c.expire.new.registers in
    let r2 = c.give.new.registers in
    let ok = v.ok.0 in
    let e1 = c.deref_mut.ensures.value in
    let len1 : length r1 ≡ v.len = omega (arith, ap length e1) in
    let w1 = with_items_is v r1 len1 in
    let e2 = c.deref_mut-2.ensures.value ∙ w1 in
    let len2 : length r2 ≡ v.len = omega (arith, ap length e2) in
    let w2 = with_items_is (with_items v r1) r2 len2 in
    let size = c.requires.room.registers in
    record {
      registers = λ i run.
          ap (λ rs. register_at rs i) w2 ∙ c.in_ok-give.ensures.registers i
          ∙ ap (with_event (inputs_of lines i t)) (ap (λ rs. register_at rs i) e2 ∙ c.in_ok-expire.ensures.registers i
          ∙ ap (expired_at t (finite_map.get times i)) (ap (λ rs. register_at rs i) e1 ∙ c.requires.rest.registers i));
      faulted = c.requires.unmarked;
      timers = c.in_ok-expire.ensures.timers;
      capacity = c.expire.ensures.capacity;
      last = refl;
      store = refl;
      texts = refl;
      registers_each = ap length w2 ∙ omega arith;
      faulted_each = refl;
    }
