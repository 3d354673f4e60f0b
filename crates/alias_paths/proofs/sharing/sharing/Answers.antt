use Rattle.std.proofs.Common.{[], length, sym, subst, arith}
use Rattle.alias_rules.specs.Sharing.{Shares}
use Rattle.alias_paths.specs.inner.Marking.{AreJust}
use Rattle.alias_paths.proofs.Sharers.{shared_next, shared_all}
use Rattle.alias_paths.proofs.sharing.sharing.Goals as goal

pub loop-number-preserved : goal.loop-number-preserved
loop-number-preserved c =
    let s = c.args.flat.now in
    let set = c.args.set.now in
    let n = length s.equations in
    let k = c.loop-number.number in
    let marks = c.marks in
    let just = subst (AreJust n (Shares s set k)) (sym marks.ensures) c.in_ok-sharers.ensures in
    shared_next s set k n marks.result.now [] c.loop-number.pairs c.push_marked.new.pairs just c.loop-number.invariant c.in_ok-push_marked.ensures

pub returns : goal.returns
returns c = let all = c.count-number-end.ensures.count in shared_all c.args.flat.now c.args.set.now c.loop-number.number c.loop-number.pairs (omega arith) c.loop-number.invariant
