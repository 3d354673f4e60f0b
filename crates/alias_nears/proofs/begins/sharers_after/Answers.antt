use Rattle.std.proofs.Common.{◌≡◌, List, Bool, length, sym, subst}
use Rattle.std.proofs.lemmas.Result.{IfOk-weaker}
use Rattle.alias_paths.specs.inner.Marking.{AreJust}
use Rattle.alias_paths.specs.inner.Flows.{SharesWithOne}
use Rattle.alias_nears.proofs.begins.sharers_after.Goals as goal

pub returns-then-are_same : goal.returns-then-are_same
returns-then-are_same c =
    let s = c.args.flat.now in
    let set = c.args.set.now in
    let n = length s.equations in
    let earlier = c.args.earlier.now.sharers in
    let same : earlier.stored ≡ c.args.stored.now = c.are_same.ensures c.if-are_same.true in
    IfOk-weaker c.copy.result (λ m. m ≡ earlier.all) (AreJust n (SharesWithOne s set c.args.stored.now))
    (λ m is. subst (AreJust n (SharesWithOne s set c.args.stored.now)) (sym is) (subst (λ (l : List Bool). AreJust n (SharesWithOne s set l) earlier.all) same c.requires.earlier)) c.copy.ensures
