use Rattle.std.proofs.Common.{◌≡◌, not, sym, ap, ◌∙◌, arith}
use Rattle.std.proofs.lemmas.List.{get_or_default}
use Rattle.std.specs.Prelude.{if◌then◌else◌}
use Rattle.body_eval.specs.declared.register.Register.TheVariants as register
use Rattle.monitor_run.specs.inner.Instant.{kept_in}
use Rattle.monitor_run.specs.inner.Registers.{register_at}
use Rattle.monitor_run.proofs.EndLemmas.{kept_none, kept_some}
use Rattle.monitor_run.proofs.end.keep_one.Goals as goal

pub returns-then-not-is_empty-clause-kept : goal.returns-then-not-is_empty-clause-kept
returns-then-not-is_empty-clause-kept c =
    let r = c.replace-register.result in
    let there = c.requires.there in
    let e : r ≡ register_at c.args.registers.now c.args.place = c.replace-register.ensures.value ∙ get_or_default c.args.registers.now c.args.place c.index-registers-place-2.result register.Empty (omega arith) in
    c.put.ensures ∙ sym (kept_some r c.args.place c.args.last.now (λ cells. c.is_empty.ensures cells ∙ ap not c.if-not-is_empty.true))
    ∙ ap (λ q. kept_in q c.args.place c.args.last.now) e
    ∙ sym (λ k. if c.if-not-is_kept.false k then kept_in (register_at c.args.registers.now c.args.place) c.args.place c.args.last.now else c.args.last.now)

pub returns-else-not-is_empty-clause-kept : goal.returns-else-not-is_empty-clause-kept
returns-else-not-is_empty-clause-kept c =
    let r = c.replace-register.result in
    let last = c.args.last.now in
    let place = c.args.place in
    let there = c.requires.there in
    let e : r ≡ register_at c.args.registers.now place = c.replace-register.ensures.value ∙ get_or_default c.args.registers.now place c.index-registers-place-2.result register.Empty (omega arith) in
    sym ((λ k. if c.if-not-is_kept.false k then kept_in (register_at c.args.registers.now place) place last else last) ∙ ap (λ q. kept_in q place last) (sym e)
    ∙ kept_none r place last (λ cells. c.is_empty.ensures cells ∙ ap not c.if-not-is_empty.false))
