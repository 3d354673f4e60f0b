use Rattle.std.proofs.Common.{ℕ, List, [], length, take_all, get_or, Contains, refl, sym, ap, subst, ◌∙◌, arith, length-set}
use Rattle.std.proofs.lemmas.Option.{slice_get_read}
use Rattle.trigger_rules.specs.declared.atom.Atom.{Atom}
use Rattle.trigger_rules.specs.Formula.{HasAtom, Of}
use Rattle.trigger_starts.specs.inner.AtomLists.{Adds, HasAtoms, StandsAs, atoms_at}
use Rattle.trigger_starts.specs.inner.Rules.{ArgumentsBelow, ruled}
use Rattle.trigger_starts.specs.inner.Truth.{Started}
use Rattle.trigger_starts.proofs.Gathered.{gather_step}
use Rattle.trigger_starts.proofs.Meaning.{ready_at}
use Rattle.trigger_starts.proofs.gather.gather.Goals as goal

pub bounds-rules-index : goal.bounds-rules-index
bounds-rules-index c = (ready_at c.args.rules.now c.args.order.now [] c.loop-step.step-index c.loop-step-test.true c.requires.ready).0

pub atoms_of-requires-clause-below : goal.atoms_of-requires-clause-below
atoms_of-requires-clause-below c =
    let step = get_or c.args.order.now c.loop-step.step-index 0 in
    let low = (ready_at c.args.rules.now c.args.order.now [] c.loop-step.step-index c.loop-step-test.true c.requires.ready).0 in
    let all = c.requires.closed step c.index-rules-index.result (slice_get_read c.args.rules.now (length c.args.rules.now) step c.index-rules-index.result refl low c.index-rules-index.is) in
    subst (λ n. ArgumentsBelow n c.index-rules-index.result) (sym (ap length c.deref.ensures.value ∙ c.loop-step.invariant.one_each)) all

pub index_mut-requires : goal.index_mut-requires
index_mut-requires c =
    let low = (ready_at c.args.rules.now c.args.order.now [] c.loop-step.step-index c.loop-step-test.true c.requires.ready).0 in
    let same = ap length c.deref.ensures.value ∙ c.loop-step.invariant.one_each in
    omega (arith, c.deref.ensures.len)

pub loop-step-preserved : goal.loop-step-preserved
loop-step-preserved c =
    let step = get_or c.args.order.now c.loop-step.step-index 0 in
    let low = (ready_at c.args.rules.now c.args.order.now [] c.loop-step.step-index c.loop-step-test.true c.requires.ready).0 in
    record {
      one_each = length-set c.loop-step.all.items step c.in_ok-all-2.field-0 ∙ c.loop-step.invariant.one_each;
      atoms =
          gather_step c.args.at_zero c.args.rules.now c.args.starts.now c.args.order.now c.requires.ready c.loop-step.step-index c.loop-step-test.true c.loop-step.all.items c.loop-step.invariant.one_each c.index-rules-index.result
          (slice_get_read c.args.rules.now (length c.args.rules.now) step c.index-rules-index.result refl low c.index-rules-index.is) c.new.result c.new.ensures c.in_ok-all-2.field-0
          (subst (λ (l : List (List Atom)). Adds [] (StandsAs c.args.at_zero c.index-rules-index.result c.new.result c.args.starts.now l) c.in_ok-all-2.field-0) c.deref.ensures.value c.in_ok-all-2.ensures) c.loop-step.invariant.atoms;
    }

pub returns-clause-atoms : goal.returns-clause-atoms
returns-clause-atoms c =
    subst (λ (l : List ℕ). (x : ℕ) → Contains l x → HasAtoms (λ a. HasAtom (ruled c.args.at_zero c.args.rules.now) (Started c.args.starts.now) a (Of x)) (atoms_at c.loop-step.all.items x)) (take_all c.loop-step.step-index c.args.order.now c.loop-step-test.false)
    c.loop-step.invariant.atoms
