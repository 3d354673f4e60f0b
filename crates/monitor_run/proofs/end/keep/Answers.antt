use Rattle.std.proofs.Common.{◌≡◌, ℕ, Bool, ◌<◌, ◌+◌, ◌&&◌, false, length, set, sym, ap, subst, ◌∙◌, arith, length-set}
use Rattle.std.proofs.lemmas.Bool.{or_parts}
use Rattle.std.proofs.lemmas.List.{get_or_default}
use Rattle.std.specs.Prelude.{if◌then◌else◌, IsTrue, slice_index_or}
use Rattle.body_eval.specs.declared.register.Register.TheVariants as register
use Rattle.flat_core.specs.Members.{is_in}
use Rattle.monitor_run.specs.inner.Here.{IsBare}
use Rattle.monitor_run.specs.inner.Instant.{kept_in, kept_register}
use Rattle.monitor_run.specs.inner.Registers.{register_at}
use Rattle.monitor_run.proofs.DelayLemmas.{take_whole}
use Rattle.monitor_run.proofs.EndLemmas.{AreKeeping, bare-one, keeping-one, moved_length}
use Rattle.monitor_run.proofs.end.keep.Goals as goal

pub loop-id-preserved : goal.loop-id-preserved
loop-id-preserved c =
    let filled = c.args.filled.now in
    let is_kept : ℕ → Bool = λ i. slice_index_or c.args.kept.now i false in
    let k = c.loop-id.id-index in
    let d = c.id-item.result in
    let now = c.loop-id.registers in
    let after = c.loop-id.last in
    let lt : k < length filled = c.loop-id-test.true in
    let known : slice_index_or filled k d < length c.args.registers.now = c.requires.known k d lt in
    let same = c.id-item.is in
    let size = c.loop-id.auto.registers in
    let each = c.loop-id.invariant.one_each in
    let place = c.get-place.ensures in
    let kept_is : slice_index_or c.args.kept.now c.get-place.result false ≡ is_kept d = ap is_kept place in
    let read = c.id-item.is ∙ get_or_default filled k d 0 lt in
    let next = keeping-one is_kept filled k d lt read c.args.registers.now c.args.last.now now after c.loop-id.invariant.keeping (omega arith) (omega arith) in
    let last_is = c.keep_one-touched.ensures.kept ∙ (λ j. if kept_is j then kept_in (register_at now (place j)) (place j) after else after) in
    let now_is = c.keep_one-touched.ensures.moved ∙ (λ j. set now (place j) register.Empty) in
    record {
      keeping =
          subst (λ ns. AreKeeping is_kept filled (k + 1) c.args.registers.now c.args.last.now ns c.keep_one-touched.new.last) (sym now_is)
          (subst (λ ks. AreKeeping is_kept filled (k + 1) c.args.registers.now c.args.last.now (set now d register.Empty) ks) (sym last_is) next);
      one_each = ap length last_is ∙ moved_length (is_kept d) (register_at now d) d after ∙ each ∙ sym (ap length now_is ∙ length-set now d register.Empty);
      bare = λ fails.
          let both = or_parts c.loop-id.touched c.keep_one-touched.result fails in
          bare-one is_kept filled k d lt read c.args.registers.now c.args.last.now now after c.loop-id.invariant.keeping (c.loop-id.invariant.bare both.0) (subst (λ p. IsBare (register_at now p)) place (c.keep_one-touched.ensures.bare both.1));
    }

pub returns-clause-last : goal.returns-clause-last
returns-clause-last c = λ i.
    subst (λ xs. register_at c.loop-id.last i ≡ (if is_in xs i && slice_index_or c.args.kept.now i false then kept_register (register_at c.args.registers.now i) (register_at c.args.last.now i) else register_at c.args.last.now i))
    (take_whole c.args.filled.now c.loop-id.id-index c.loop-id-test.false) (c.loop-id.invariant.keeping.last_is i)

pub returns-clause-registers : goal.returns-clause-registers
returns-clause-registers c = λ i.
    subst (λ xs. register_at c.loop-id.registers i ≡ (if is_in xs i then register.Empty else register_at c.args.registers.now i))
    (take_whole c.args.filled.now c.loop-id.id-index c.loop-id-test.false) (c.loop-id.invariant.keeping.moved i)

pub returns-clause-bare : goal.returns-clause-bare
returns-clause-bare c = λ fails i there. c.loop-id.invariant.bare fails i (subst (λ xs. IsTrue (is_in xs i)) (sym (take_whole c.args.filled.now c.loop-id.id-index c.loop-id-test.false)) there)
