use Rattle.std.proofs.Common.{◌&&◌, ◌||◌, false, sym, ap, subst, ◌∙◌}
use Rattle.std.proofs.lemmas.Bool.{or_parts}
use Rattle.std.specs.Prelude.{if◌then◌else◌, IsTrue, slice_index_or}
use Rattle.body_eval.specs.declared.register.Register.TheVariants.{Empty}
use Rattle.flat_core.specs.Members.{is_in}
use Rattle.monitor_run.specs.inner.Instant.{kept_register}
use Rattle.monitor_run.specs.inner.Registers.{register_at}
use Rattle.monitor_run.proofs.EndLemmas.{all_blank, bare_either, kept_there}
use Rattle.monitor_run.proofs.end.keep_filled.Goals as goal

pub returns-then-not-all-clause-last : goal.returns-then-not-all-clause-last
returns-then-not-all-clause-last c = λ i.
    let kept = slice_index_or c.args.kept.now i false in
    let here = register_at c.args.registers.now i in
    let before = register_at c.args.last.now i in
    c.keep.ensures.last i
    ∙ sym (λ k. if (if c.if-not-all.true k then is_in c.args.keeps.now i else is_in c.args.filled.now i && kept) then kept_register here before else before)

pub returns-then-not-all-clause-registers : goal.returns-then-not-all-clause-registers
returns-then-not-all-clause-registers c = λ i.
    c.keep.ensures.registers i ∙ sym (λ k. if c.if-not-all.true k || is_in c.args.filled.now i then Empty else register_at c.args.registers.now i)

pub returns-clause-last : goal.returns-clause-last
returns-clause-last c = λ i.
    let kept = slice_index_or c.args.kept.now i false in
    let here = register_at c.args.registers.now i in
    let before = register_at c.args.last.now i in
    c.keep-moved.ensures.last i
    ∙ (λ k. if kept_there c.args.keeps.now c.args.kept.now i (c.requires.kept i) k then kept_register here before else before)
    ∙ sym (λ k. if (if c.if-not-all.false k then is_in c.args.keeps.now i else is_in c.args.filled.now i && kept) then kept_register here before else before)

pub returns-clause-registers : goal.returns-clause-registers
returns-clause-registers c = λ i.
    ap (λ rs. register_at rs i) c.empty_all-emptied.ensures.emptied ∙ all_blank c.keep-moved.new.registers i
    ∙ sym (λ k. if c.if-not-all.false k || is_in c.args.filled.now i then Empty else register_at c.args.registers.now i)

pub returns-then-not-all-clause-bare : goal.returns-then-not-all-clause-bare
returns-then-not-all-clause-bare c = λ fails i there. c.keep.ensures.bare fails i (subst (λ b. IsTrue (b || is_in c.args.filled.now i)) c.if-not-all.true there)

pub returns-clause-bare : goal.returns-clause-bare
returns-clause-bare c = λ fails i there.
    let both = or_parts c.keep-moved.result c.empty_all-emptied.result fails in
    bare_either c.args.keeps.now c.args.registers.now c.keep-moved.new.registers c.keep-moved.ensures.registers (c.keep-moved.ensures.bare both.0) (c.empty_all-emptied.ensures.bare both.1) i
