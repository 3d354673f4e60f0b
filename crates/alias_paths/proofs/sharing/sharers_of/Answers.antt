use Rattle.std.proofs.Common.{length}
use Rattle.std.proofs.lemmas.Result.{IfOk-weaker}
use Rattle.alias_rules.specs.Sharing.{Shares}
use Rattle.alias_paths.specs.inner.Marking.{AreJust}
use Rattle.alias_paths.specs.inner.Flows.{SharesWithOne}
use Rattle.alias_paths.proofs.Sharers.{one_stored, sharers_of_one}
use Rattle.alias_paths.proofs.sharing.sharers_of.Goals as goal

pub sharers-requires-clause-stored : goal.sharers-requires-clause-stored
sharers-requires-clause-stored c =
    one_stored c.args.flat.now c.count.result c.args.number c.has-wanted.result c.args.paths.now.stored c.in_ok-one.one c.has-wanted.ensures c.requires.paths.stored c.in_ok-one.ensures

pub returns : goal.returns
returns c =
    let s = c.args.flat.now in
    let set = c.args.set.now in
    let n = length s.equations in
    let number = c.args.number in
    let one = c.in_ok-one.one in
    IfOk-weaker c.sharers.result (AreJust n (SharesWithOne s set one)) (AreJust n (Shares s set number))
    (λ v h. sharers_of_one s set c.count.result number c.has-wanted.result c.args.paths.now.stored one v c.has-wanted.ensures c.requires.paths.stored c.in_ok-one.ensures h) c.sharers.ensures
