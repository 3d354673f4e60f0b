use Rattle.std.proofs.Common.{rules, ◌≡◌, ◌+◌, ◌≤◌, suc, false, length, subst, sym, arith}
use Rattle.flat_core.specs.System.{System}
use Rattle.event_why.specs.inner.Tale.{IsAt, always, passed}
use Rattle.event_why.proofs.RunLemmas.{due_end}
use Rattle.event_why.proofs.waits.put_all_over.Goals as goal

pub loop-n-preserved : goal.loop-n-preserved
loop-n-preserved c =
    let at_n = c.new.ensures in
    let next : suc c.new.result ≡ c.loop-n.n + 1 = omega (arith, at_n) in
    record {
      still = λ k f at. c.in_ok-put_pending_over.ensures.still k f (c.loop-n.invariant.still k f at);
      over = λ T past before flat_is story lt low calm gap at.
          let after = suc c.args.to in
          let there = subst (λ k. IsAt T past (passed k after (suc before)) 0 (λ i. false) c.loop-n.draft) (sym c.new.ensures) (c.loop-n.invariant.over T past before flat_is story lt low calm gap at) in
          subst (λ k. IsAt T past (passed k after (suc before)) 0 (λ i. false) c.put_pending_over.new.draft) next
          (c.in_ok-put_pending_over.ensures.over T past before story lt low calm (c.loop-n.invariant.still c.args.gap _ gap) there);
    }

pub returns-clause-over : goal.returns-clause-over
returns-clause-over c T past before flat_is story lt low calm gap at =
    let count : length c.args.flat.now.equations ≤ c.loop-n.n = search rules in
    let end = subst (λ (s : System). length s.equations ≤ c.loop-n.n) flat_is count in
    due_end T story past (always 0) 0 (λ i. false) (suc c.args.to) (suc before) c.loop-n.draft c.loop-n.n end (c.loop-n.invariant.over T past before flat_is story lt low calm gap at)
