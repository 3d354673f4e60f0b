use Rattle.std.proofs.Common.{length}
use Rattle.std.proofs.lemmas.Result.{IfOk-weaker}
use Rattle.alias_paths.specs.inner.Marking.{AreJust}
use Rattle.alias_paths.specs.inner.Contents.{IsRootOfOne, IsRootOfSource}
use Rattle.alias_paths.proofs.Rooting.{source_roots_are}
use Rattle.alias_paths.proofs.roots.source_roots.Goals as goal

pub returns : goal.returns
returns c =
    let s = c.args.flat.now in
    let set = c.args.set.now in
    let y = c.args.update in
    let n = length s.equations in
    let sources = c.in_ok-sources.sources in
    IfOk-weaker c.roots_of.result (AreJust n (IsRootOfOne s set sources)) (AreJust n (IsRootOfSource s set y))
    (λ r found. source_roots_are s set y n sources r c.in_ok-sources.ensures found) c.roots_of.ensures
