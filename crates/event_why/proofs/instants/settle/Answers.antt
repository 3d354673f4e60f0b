use Rattle.std.proofs.Common.{rules, ◌≡◌, ◌+◌, ◌≤◌, suc, length, subst, sym, arith}
use Rattle.flat_core.specs.System.{runs}
use Rattle.event_why.specs.inner.Tale.{IsAt, always, passed, tale_of}
use Rattle.event_why.proofs.RunLemmas.{past_end}
use Rattle.event_why.proofs.instants.settle.Goals as goal

pub loop-n-preserved : goal.loop-n-preserved
loop-n-preserved c p z bound t story early run =
    let T = tale_of c.args.story.now p z bound in
    let at_n = c.new.ensures in
    let next : suc c.new.result ≡ c.loop-n.n + 1 = omega (arith, at_n) in
    let before = subst (λ k. IsAt T (passed k (suc t) t) (always t) t (runs T.system) c.loop-n.draft) (sym c.new.ensures) (c.loop-n.invariant p z bound t story early run) in
    subst (λ k. IsAt T (passed k (suc t) t) (always t) t (runs T.system) c.settle_kept.new.draft) next (c.in_ok-settle_kept.ensures p z bound t story early before)

pub returns : goal.returns
returns c p z bound t story early run =
    let end : length c.args.story.now.flat.now.equations ≤ c.loop-n.n = search rules in
    past_end (tale_of c.args.story.now p z bound) story (always t) (always t) t (runs c.args.story.now.flat.now) (suc t) t c.loop-n.draft c.loop-n.n end
    (c.loop-n.invariant p z bound t story early run)
