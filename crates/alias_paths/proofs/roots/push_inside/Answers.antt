use Rattle.std.proofs.Common.{◌≡◌, get_or, ap, subst, ◌∙◌, arith}
use Rattle.flat_core.specs.Members.{is_in}
use Rattle.alias_paths.specs.inner.Pairs.{Adds, IsWanted}
use Rattle.alias_paths.proofs.Adding.{given_more, read_again}
use Rattle.alias_paths.proofs.Rooting.{GivesInside, inside_all}
use Rattle.alias_paths.proofs.roots.push_inside.Goals as goal

pub loop-first-preserved : goal.loop-first-preserved
loop-first-preserved c =
    let more = c.args.more.now in
    let set = c.args.set.now in
    let k = c.loop-first.first-index in
    let p = get_or more k (0, 0) in
    let inside : c.contains.result ≡ is_in set p.1 = c.contains.ensures ∙ ap (is_in set) c.new.ensures in
    given_more more (GivesInside set) k p c.args.pairs.now c.loop-first.pairs c.push_if.new.pairs c.loop-first-test.true (read_again more k (0, 0) c.loop-first-test.true) c.loop-first.invariant
    (subst (λ w. Adds c.loop-first.pairs (IsWanted w p.0 p.1) c.push_if.new.pairs) inside c.in_ok-push_if.ensures)

pub returns : goal.returns
returns c = inside_all c.args.more.now c.args.set.now c.loop-first.first-index c.args.pairs.now c.loop-first.pairs (omega arith) c.loop-first.invariant
