use Rattle.std.proofs.Common.{◌++◌, ap, subst, ◌∙◌}
use Rattle.alias_paths.specs.inner.Pairs.{Adds}
use Rattle.alias_paths.specs.inner.Contents.{IsInside}
use Rattle.alias_paths.proofs.Rooting.{carriers_are}
use Rattle.alias_paths.proofs.roots.carriers.Goals as goal

pub returns : goal.returns
returns c =
    let mid = c.push_all.new.pairs in
    let new = c.push_inside.new.pairs in
    let is = c.in_ok-push_all.ensures ∙ ap (λ l. l ++ c.as_slice.result.now) c.new-carriers.ensures ∙ c.as_slice.ensures in
    carriers_are c.args.flat.now c.args.set.now c.args.uses.now mid new c.requires is (subst (λ l. Adds mid (IsInside l c.args.set.now) new) c.as_slice-2.ensures c.in_ok-push_inside.ensures)
