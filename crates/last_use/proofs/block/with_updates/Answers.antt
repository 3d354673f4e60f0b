use Rattle.std.proofs.Common.{◌+◌, sym, subst, arith}
use Rattle.std.specs.List.Sorted.{IsStrictlyIncreasing}
use Rattle.last_use.specs.inner.Blocks.{IsWithBlock}
use Rattle.last_use.proofs.Blocking.{block_none, block_then}
use Rattle.last_use.proofs.block.with_updates.Goals as goal

pub loop-number-init : goal.loop-number-init
loop-number-init c =
    let s = c.args.flat.now in
    let same = c.in_ok-more.ensures.same in
    subst (IsWithBlock s c.args.set.now c.args.from c.args.from) (sym same) (block_none s c.args.set.now c.args.from (subst IsStrictlyIncreasing same c.in_ok-more.ensures.ascending))

pub loop-number-preserved : goal.loop-number-preserved
loop-number-preserved c =
    let s = c.args.flat.now in
    let old = c.loop-number.more in
    let new = c.push_if_update.new.set in
    block_then s c.loop-number.number old c.args.set.now c.args.from new c.loop-number.auto.number c.loop-number.invariant
    (subst (λ n. IsWithBlock s old n (n + 1) new) c.new.ensures c.in_ok-push_if_update.ensures)

pub returns : goal.returns
returns c =
    let over = c.loop-number.auto.number-end c.requires.begun in
    subst (λ n. IsWithBlock c.args.flat.now c.args.set.now c.args.from n c.loop-number.more) (let end = c.loop-number-test.false in omega arith) c.loop-number.invariant
