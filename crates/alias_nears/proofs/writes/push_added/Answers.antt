use Rattle.std.proofs.Common.{◌≡◌, ◌&&◌, not, get_or, ap, subst, ◌∙◌, arith}
use Rattle.flat_core.specs.Members.{is_in}
use Rattle.alias_paths.specs.inner.Pairs.{Adds, IsWanted}
use Rattle.alias_paths.proofs.Adding.{given_more, read_again}
use Rattle.alias_nears.proofs.Widening.{GivesAdded, added_all}
use Rattle.alias_nears.proofs.writes.push_added.Goals as goal

pub loop-first-preserved : goal.loop-first-preserved
loop-first-preserved c =
    let more = c.args.more.now in
    let set = c.args.set.now in
    let smaller = c.args.smaller.now in
    let k = c.loop-first.first-index in
    let p = get_or more k (0, 0) in
    let inside : c.is_added-wanted.result ≡ (is_in set p.1 && not (is_in smaller p.1)) = c.is_added-wanted.ensures ∙ ap (λ i. is_in set i && not (is_in smaller i)) c.new.ensures in
    given_more more (GivesAdded set smaller) k p c.args.pairs.now c.loop-first.pairs c.push_if.new.pairs c.loop-first-test.true (read_again more k (0, 0) c.loop-first-test.true) c.loop-first.invariant
    (subst (λ w. Adds c.loop-first.pairs (IsWanted w p.0 p.1) c.push_if.new.pairs) inside c.in_ok-push_if.ensures)

pub returns : goal.returns
returns c = added_all c.args.set.now c.args.smaller.now c.args.more.now c.loop-first.first-index c.args.pairs.now c.loop-first.pairs (omega arith) c.loop-first.invariant
