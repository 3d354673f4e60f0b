use Rattle.std.proofs.Common.{length, sym, ◌∙◌}
use Rattle.std.proofs.lemmas.Result.{IfOk-weaker}
use Rattle.alias_rules.specs.Conflict.{IsKept}
use Rattle.alias_paths.specs.inner.Marking.{AreJust}
use Rattle.alias_nears.specs.inner.Contents.{AreMarkedInBoth}
use Rattle.alias_nears.proofs.Conflicts.{kept_are}
use Rattle.alias_nears.proofs.kept.kept.Goals as goal

pub both-requires : goal.both-requires
both-requires c = c.requires.near.bypassed.one_each ∙ sym c.requires.stored.one_each

pub returns : goal.returns
returns c =
    let s = c.args.flat.now in
    let set = c.args.set.now in
    let y = c.args.update in
    let n = length s.equations in
    let near = c.args.near.now.bypassed in
    let stored = c.args.stored.now in
    IfOk-weaker c.both.result (AreJust (length stored) (AreMarkedInBoth stored near)) (AreJust n (IsKept s set y))
    (λ m h. kept_are s set y near stored m c.requires.near.bypassed c.requires.stored h) c.both.ensures
