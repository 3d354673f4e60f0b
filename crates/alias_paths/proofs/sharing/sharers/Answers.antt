use Rattle.std.proofs.Common.{◌≡◌, ◌+◌, length, sym, subst, ◌∙◌, arith}
use Rattle.std.specs.Prelude.{IsTrue}
use Rattle.std.proofs.lemmas.Result.{IfOk-weaker}
use Rattle.flat_core.specs.inner.Marks.{has_mark}
use Rattle.translation_order.specs.Order.{AreOfSteps}
use Rattle.alias_paths.specs.inner.Marking.{AreJust}
use Rattle.alias_paths.specs.inner.Flows.{SharesWithOne}
use Rattle.alias_paths.proofs.Rooting.{turned_of_steps}
use Rattle.alias_paths.proofs.Sharers.{sharers_are, flows_of_steps, both_halves}
use Rattle.alias_paths.proofs.sharing.sharers.Goals as goal

pub stores_of-requires : goal.stores_of-requires
stores_of-requires c = let size = c.requires.one_each in let few = c.count-count.ensures.is_flat.few_equations in omega arith

pub reached-requires : goal.reached-requires
reached-requires c =
    let s = c.args.flat.now in
    let n = length s.equations in
    let paths = c.args.paths.now in
    let size : length c.in_ok-stores.stores ≡ n + n = c.in_ok-stores.ensures.one_each ∙ both_halves (length c.args.stored.now) n c.requires.one_each in
    subst (λ m. AreOfSteps m paths.flows_back) (sym size) (turned_of_steps (n + n) paths.flows paths.flows_back c.requires.paths.flows_back (flows_of_steps s c.args.set.now paths.flows c.requires.paths.flows))

pub sources-requires : goal.sources-requires
sources-requires c =
    c.in_ok-before.ensures.one_each ∙ c.in_ok-stores.ensures.one_each ∙ both_halves (length c.args.stored.now) (length c.args.flat.now.equations) c.requires.one_each

pub reached-requires-2 : goal.reached-requires-2
reached-requires-2 c =
    let s = c.args.flat.now in
    let n = length s.equations in
    let paths = c.args.paths.now in
    let size : length c.in_ok-sources.sources ≡ n + n =
    c.in_ok-sources.ensures.one_each ∙ c.in_ok-before.ensures.one_each ∙ c.in_ok-stores.ensures.one_each ∙ both_halves (length c.args.stored.now) n c.requires.one_each in
    subst (λ m. AreOfSteps m paths.flows) (sym size) (flows_of_steps s c.args.set.now paths.flows c.requires.paths.flows)

pub with_stores-requires : goal.with_stores-requires
with_stores-requires c =
    let n = length c.args.flat.now.equations in
    c.in_ok-after.ensures.one_each ∙ c.in_ok-sources.ensures.one_each ∙ c.in_ok-before.ensures.one_each ∙ c.in_ok-stores.ensures.one_each
    ∙ both_halves (length c.args.stored.now) n c.requires.one_each ∙ sym (both_halves c.count-count.result n c.count-count.ensures.count)

pub returns : goal.returns
returns c =
    let s = c.args.flat.now in
    let n = length s.equations in
    let set = c.args.set.now in
    let paths = c.args.paths.now in
    let stored = c.args.stored.now in
    let after = c.in_ok-after.after in
    IfOk-weaker c.with_stores.result (AreJust c.count-count.result (λ v. IsTrue (has_mark after (c.count-count.result + v)))) (AreJust n (SharesWithOne s set stored))
    (λ v found.
    sharers_are s c.count-count.ensures.is_flat set paths.flows paths.flows_back c.requires.paths.flows c.requires.paths.flows_back stored c.in_ok-stores.stores c.in_ok-before.before c.in_ok-sources.sources after
    c.requires.one_each c.requires.stored c.in_ok-stores.ensures c.in_ok-before.ensures.exact c.in_ok-sources.ensures.each c.in_ok-after.ensures.exact v
    (subst (λ m. AreJust m (λ x. IsTrue (has_mark after (m + x))) v) c.count-count.ensures.count found)) c.with_stores.ensures
