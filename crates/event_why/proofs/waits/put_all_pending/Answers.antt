use Rattle.std.proofs.Common.{rules, ◌≡◌, ◌+◌, ◌≤◌, suc, length, subst, sym, arith}
use Rattle.flat_core.specs.System.{System, runs}
use Rattle.event_why.specs.inner.Tale.{IsAt, always, passed}
use Rattle.event_why.proofs.RunLemmas.{due_end}
use Rattle.event_why.proofs.waits.put_all_pending.Goals as goal

pub loop-n-preserved : goal.loop-n-preserved
loop-n-preserved c T past flat_is story early at =
    let t = c.args.t in
    let at_n = c.new.ensures in
    let next : suc c.new.result ≡ c.loop-n.n + 1 = omega (arith, at_n) in
    let before = subst (λ k. IsAt T past (passed k (suc t) t) t (runs T.system) c.loop-n.draft) (sym c.new.ensures) (c.loop-n.invariant T past flat_is story early at) in
    subst (λ k. IsAt T past (passed k (suc t) t) t (runs T.system) c.put_pending_of.new.draft) next (c.in_ok-put_pending_of.ensures T past flat_is story early before)

pub returns : goal.returns
returns c T past flat_is story early at =
    let t = c.args.t in
    let count : length c.args.flat.now.equations ≤ c.loop-n.n = search rules in
    let end = subst (λ (s : System). length s.equations ≤ c.loop-n.n) flat_is count in
    due_end T story past (always t) t (runs T.system) (suc t) t c.loop-n.draft c.loop-n.n end (c.loop-n.invariant T past flat_is story early at)
