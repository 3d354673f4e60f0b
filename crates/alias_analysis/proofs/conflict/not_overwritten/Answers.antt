use Rattle.std.proofs.Common.{length}
use Rattle.std.proofs.lemmas.Result.{IfOk-weaker}
use Rattle.alias_rules.specs.Conflict.{IsNotOverwritten}
use Rattle.alias_paths.specs.inner.Marking.{AreJust}
use Rattle.alias_nears.specs.inner.Contents.{IsMarkedUnimplied}
use Rattle.alias_nears.proofs.Conflicts.{not_overwritten_are}
use Rattle.alias_analysis.proofs.conflict.not_overwritten.Goals as goal

pub returns : goal.returns
returns c =
    let s = c.args.flat.now in
    let set = c.args.set.now in
    let y = c.args.update in
    let n = length s.equations in
    let sharers = c.args.near.now.sharers.all in
    IfOk-weaker c.unimplied.result (AreJust n (IsMarkedUnimplied s y sharers)) (AreJust n (IsNotOverwritten s set y))
    (λ v h. not_overwritten_are s set y n sharers v c.requires.near.sharers.of_source h) c.unimplied.ensures
