use Rattle.std.proofs.Common.{◌≡◌, true, length, sym, subst, ◌∙◌}
use Rattle.std.proofs.lemmas.Result.{IfOk-weaker}
use Rattle.translation_order.specs.Order.{AreOfSteps}
use Rattle.alias_rules.specs.Uses.{written_of, IsWritten}
use Rattle.alias_paths.specs.inner.Marking.{AreJust, IsChosen, HasMarkedSecond}
use Rattle.alias_paths.proofs.Rooting.{sources_are}
use Rattle.alias_paths.proofs.Using.{uses_of_steps}
use Rattle.alias_paths.proofs.roots.sources.Goals as goal

pub firsts-requires : goal.firsts-requires
firsts-requires c =
    let s = c.args.flat.now in
    let size : length c.in_ok-one.one ≡ length s.equations = c.in_ok-one.ensures.one_each ∙ c.count.ensures.count in
    subst (λ m. AreOfSteps m c.as_slice.result.now) (sym size) (subst (AreOfSteps (length s.equations)) (sym c.as_slice.ensures) (uses_of_steps s written_of c.args.uses.now.written c.requires.uses.written))

pub returns : goal.returns
returns c =
    let s = c.args.flat.now in
    let y = c.args.update in
    let one = c.in_ok-one.one in
    let just = subst (λ n. AreJust n (IsChosen true y) one) c.count.ensures.count (subst (λ z. AreJust c.count.result (IsChosen true z) one) c.get.ensures c.in_ok-one.ensures) in
    IfOk-weaker c.firsts.result (AreJust (length one) (HasMarkedSecond c.as_slice.result.now one)) (AreJust (length s.equations) (λ x. IsWritten s x y))
    (λ m found. sources_are s c.args.uses.now (length s.equations) y one m c.requires.uses just (subst (λ l. AreJust (length one) (HasMarkedSecond l one) m) c.as_slice.ensures found)) c.firsts.ensures
