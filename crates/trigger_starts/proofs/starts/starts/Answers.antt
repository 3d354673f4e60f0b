use Rattle.std.proofs.Common.{◌≡◌, ℕ, Bool, false, List, length, replicate, sym, subst, ◌∙◌, arith}
use mathlib.Core.Logic.Iff.{trans}
use Rattle.trigger_starts.specs.inner.AtomLists.{atoms_at}
use Rattle.trigger_starts.specs.inner.Kept.{AreFiring}
use Rattle.trigger_starts.specs.inner.Rules.{is_marked}
use Rattle.trigger_starts.specs.inner.Truth.{start_alone, Started}
use Rattle.trigger_starts.proofs.Starting.{none_started, starts_are, starts_by}
use Rattle.trigger_starts.proofs.starts.starts.Goals as goal

pub returns-clause-exact : goal.returns-clause-exact
returns-clause-exact c s are =
    let none : List Bool = c.deref.result.now in
    let none_is : none ≡ replicate (length c.args.rules.now) false = c.deref.ensures.value ∙ c.in_ok-none.ensures.items_if_clones_equal (λ y h. h) in
    let never = subst (λ (l : List Bool). (v : ℕ) → Started l v → ⊥) (sym none_is) (none_started (length c.args.rules.now)) in
    let fires = subst (λ (l : List Bool). AreFiring c.args.rules.now l c.args.order.now start_alone c.in_ok-firing.firing.items) (c.deref-2.ensures.value ∙ sym c.deref.ensures.value) c.in_ok-firing.ensures.exact in
    let each = c.loop-index.invariant.one_each in
    let done = c.loop-index-test.false in
    let upto = c.loop-index.auto.index-end in
    starts_are s c.args.rules.now are c.loop-index.starts.items (omega arith) (λ x low.
    trans (c.loop-index.invariant.by x (omega arith)) (starts_by s c.args.rules.now are none never x (is_marked c.in_ok-firing.firing.items x) (atoms_at c.in_ok-atoms.atoms.items x) (c.in_ok-atoms.ensures.atoms x (c.requires.ordered.all x low)) (fires x (c.requires.ordered.all x low))))
