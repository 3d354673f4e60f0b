use Rattle.std.proofs.Common.{length, sym, subst, ◌∙◌}
use Rattle.std.proofs.lemmas.Result.{IfOk-weaker}
use Rattle.translation_order.specs.Order.{AreOfSteps}
use Rattle.alias_paths.specs.inner.Marking.{AreJust}
use Rattle.alias_paths.specs.inner.Contents.{IsReachedOrigin, IsRootOfOne}
use Rattle.alias_paths.proofs.Rooting.{carriers_of_steps, turned_of_steps, roots_are}
use Rattle.alias_paths.proofs.roots.roots_of.Goals as goal

pub reached-requires : goal.reached-requires
reached-requires c =
    let n = length c.args.flat.now.equations in
    let paths = c.args.paths.now in
    subst (λ m. AreOfSteps m paths.back) (sym c.requires.one_each) (turned_of_steps n paths.carriers paths.back c.requires.paths.back (carriers_of_steps c.args.flat.now c.args.set.now paths.carriers c.requires.paths.carriers))

pub origins-requires : goal.origins-requires
origins-requires c = c.in_ok-before.ensures.one_each ∙ c.requires.one_each

pub returns : goal.returns
returns c =
    let s = c.args.flat.now in
    let set = c.args.set.now in
    let n = length s.equations in
    let paths = c.args.paths.now in
    let marks = c.args.marked.now in
    let before = c.in_ok-before.before in
    IfOk-weaker c.origins.result (AreJust n (IsReachedOrigin s set before)) (AreJust n (IsRootOfOne s set marks))
    (λ r found. roots_are s set paths.carriers paths.back c.requires.paths.carriers c.requires.paths.back marks before r c.in_ok-before.ensures.exact found) c.origins.ensures
