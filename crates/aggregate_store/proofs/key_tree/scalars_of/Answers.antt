use Rattle.std.proofs.Common.{rules, ◌≡◌, [], ◌∷◌, map, subst, ap}
use Rattle.std.specs.BTreeSet as sorted
use Rattle.std.specs.FinSet as set
use Rattle.std.specs.Prelude.{true}
use Rattle.tsl_value.specs.View.{scalar_cmp}
use Rattle.tsl_value.specs.declared.scalar.Scalar.TheVariants as scalar
use Rattle.tsl_value.specs.inner.ScalarOrder.{scalar_cmp_total}
use Rattle.tsl_value.proofs.ScalarOrder.{scalar_cmp-IsAntisymmetric}
use Rattle.aggregate_store.specs.inner.Keys.{set_of_scalars}
use Rattle.aggregate_store.proofs.FiniteMaps.{Lacks, lacks_all, lacks_less, lacks_none, set-insert}
use Rattle.aggregate_store.proofs.key_tree.scalars_of.Goals as goal

pub loop-number-init : goal.loop-number-init
loop-number-init c =
    let all : c.into_iter-number-iterator.result ≡ c.args.numbers.now.keys = search rules in
    lacks_all
    scalar_cmp_total (set_of_scalars c.new-scalars.result) (map scalar.Int c.into_iter-number-iterator.result) (map scalar.Int c.args.numbers.now.keys)
    (ap set.from_list c.new-scalars.ensures.empty) (ap (map scalar.Int) all)

pub loop-number-preserved : goal.loop-number-preserved
loop-number-preserved c =
    let s = c.loop-number.scalars in let n = c.insert.new.self in let k = c.in-Some.number.now in let all = map scalar.Int c.args.numbers.now.keys in
    let left : c.loop-number.number-iterator ≡ k ∷ c.next.new.self = search rules in
    let updates = subst (λ key. sorted.Updates scalar_cmp s n key true) c.key_of.ensures c.in_ok-insert.ensures.updates in
    lacks_less
    scalar_cmp_total (set_of_scalars s) (set_of_scalars n) (scalar.Int k) (map scalar.Int c.next.new.self) all
    (set-insert scalar_cmp_total scalar_cmp-IsAntisymmetric s.keys n.keys (scalar.Int k) updates.0)
    (subst (λ ns. Lacks scalar_cmp_total (set_of_scalars s) (map scalar.Int ns) all) left c.loop-number.invariant)

pub returns : goal.returns
returns c =
    let none : c.loop-number.number-iterator ≡ [] = search rules in
    lacks_none
    scalar_cmp_total scalar_cmp-IsAntisymmetric (set_of_scalars c.loop-number.scalars) (map scalar.Int c.loop-number.number-iterator) (map scalar.Int c.args.numbers.now.keys)
    (ap (map scalar.Int) none) c.loop-number.invariant
