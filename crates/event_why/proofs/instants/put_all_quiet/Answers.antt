use Rattle.std.proofs.Common.{rules, ◌≡◌, ◌+◌, ◌≤◌, suc, false, length, subst, sym, arith}
use Rattle.event_why.specs.inner.Tale.{IsAt, passed, tale_of}
use Rattle.event_why.proofs.RunLemmas.{past_end}
use Rattle.event_why.proofs.instants.put_all_quiet.Goals as goal

pub loop-n-preserved : goal.loop-n-preserved
loop-n-preserved c p z bound due story le low calm gap at =
    let T = tale_of c.args.story.now p z bound in
    let after = suc c.args.to in
    let at_n = c.new.ensures in
    let next : suc c.new.result ≡ c.loop-n.n + 1 = omega (arith, at_n) in
    let so_far = c.loop-n.invariant p z bound due story le low calm gap at in
    let before = subst (λ k. IsAt T (passed k after c.args.from) due 0 (λ i. false) c.loop-n.draft) (sym c.new.ensures) so_far.1 in (
      c.in_ok-put_kept_quiet.ensures.still c.args.gap _ so_far.0,
      subst (λ k. IsAt T (passed k after c.args.from) due 0 (λ i. false) c.put_kept_quiet.new.draft) next (c.in_ok-put_kept_quiet.ensures.over p z bound due story le low calm so_far.0 before),
    )

pub returns : goal.returns
returns c p z bound due story le low calm gap at =
    let end : length c.args.story.now.flat.now.equations ≤ c.loop-n.n = search rules in
    past_end (tale_of c.args.story.now p z bound) story due due 0 (λ i. false) (suc c.args.to) c.args.from c.loop-n.draft c.loop-n.n end
    (c.loop-n.invariant p z bound due story le low calm gap at).1
