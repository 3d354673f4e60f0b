use Rattle.std.proofs.Common.{refl, length, replicate, ap, ◌∙◌}
use Rattle.body_eval.specs.declared.register.Register.TheVariants.{Empty}
use Rattle.flat_core.specs.System.{System}
use Rattle.monitor_run.specs.inner.Here.{is_marked}
use Rattle.monitor_run.proofs.MonitorLemmas.{ready_new, rest_new, room_new, stands_new, unmarked_new}
use Rattle.monitor_run.proofs.monitor.Monitor.new.Goals as goal

pub invariant_of-result : goal.invariant_of-result
invariant_of-result c =
    let size = c.count.ensures.count ∙ ap (λ (q : System). length q.equations) c.flat-2.ensures.flat in
    let made = c.in_ok-new-3.ensures in
    let outputs = ap length (c.outputs-2.ensures ∙ ap (λ (q : System). q.outputs) c.flat-3.ensures.flat) in (
      room_new c.args.code.now.system c.in_ok-new-3.field-0 c.count.result size made.registers made.faulted made.last made.store made.timers _ outputs made.texts,
      λ going. ready_new _ c.count.result size c.flat.ensures.is_code.is_flat c.flat.ensures.is_code.fine c.requires.limit refl refl refl c.new.ensures.items made.last (ap (λ ts. ts.times) made.timers) (ap (λ st. st.cells) made.store) (ap (λ st. st.ledger) made.store),
      c.in_ok-new.ensures,
      record {
        steps = c.in_ok-new-2.ensures.steps ∙ c.len.ensures ∙ ap length c.plan.ensures.order;
        texts = c.in_ok-new-2.ensures.texts ∙ ap length (c.outputs.ensures ∙ ap (λ (q : System). q.outputs) c.flat.ensures.flat);
      },
      λ going. (λ i run. ap (λ ms. is_marked ms i) made.faulted ∙ unmarked_new c.count.result i, rest_new _ _ _ made.registers made.texts),
    )

pub returns-clause-stands : goal.returns-clause-stands
returns-clause-stands c =
    let size = c.count.ensures.count ∙ ap (λ (q : System). length q.equations) c.flat-2.ensures.flat in
    let made = c.in_ok-new-3.ensures in
    stands_new _ refl c.new.ensures.items refl refl (made.last ∙ ap (λ n. replicate n Empty) size) (ap (λ st. st.ledger) made.store ∙ ap (λ n. replicate n 0) size) (ap (λ st. st.cells) made.store) (ap (λ ts. ts.times) made.timers)
