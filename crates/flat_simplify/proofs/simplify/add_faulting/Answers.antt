use Rattle.std.proofs.Common.{◌+◌, ◌++◌, [], ◌∷◌, sym, ap, subst, ◌∙◌, arith}
use Rattle.std.proofs.lemmas.Bool.{false≢true}
use Rattle.flat_simplify.specs.CanFault.{CanFault}
use Rattle.flat_simplify.proofs.Making.{HasFaulting, faulting_more, faulting_skip, faulting_all, cannot_fault}
use Rattle.flat_simplify.proofs.simplify.add_faulting.Goals as goal
use Rattle.flat_simplify.proofs.simplify.add_faulting.Goals.{then-runs+then-can_fault+in_ok-push, else-runs, else-runs-via-then-runs+else-can_fault, else-runs-via-else-runs}

pub loop-number-preserved : goal.loop-number-preserved
loop-number-preserved c =
    let s = c.args.flat.now in
    let old = c.args.ids.now.items in
    let number = c.loop-number.number in
    let items = c.loop-number.ids.items in
    let is = c.new-id.ensures in
    elim c.if-runs.branch [
      | then-runs+then-can_fault+in_ok-push w ↦
          let faults : CanFault s c.new-id.result = record { at = w.equation.result.now; is = w.equation.ensures; running = sym c.runs.ensures ∙ w.if-runs.true; faults = sym w.can_fault.ensures ∙ w.if-can_fault.true } in
          let same = ap (λ v. v.items) w.ids-is ∙ w.in_ok-push.ensures.items ∙ ap (λ i. items ++ i ∷ []) is in
          subst (λ xs. HasFaulting s old xs (number + 1)) (sym same) (faulting_more s old items number c.loop-number.invariant (subst (CanFault s) is faults))
      | else-runs w ↦
          let same = ap (λ v. v.items) w.ids-is in
          elim w.else-runs.branch [
            | else-runs-via-then-runs+else-can_fault v ↦
                let none = cannot_fault s c.new-id.result v.equation.result.now v.equation.ensures c.runs.result v.can_fault.result (sym c.runs.ensures) (sym v.can_fault.ensures) (λ p q. false≢true (sym v.if-can_fault.false ∙ q)) in
                subst (λ xs. HasFaulting s old xs (number + 1)) (sym same) (faulting_skip s old items number c.loop-number.invariant (λ f. none (subst (CanFault s) (sym is) f)))
            | else-runs-via-else-runs v ↦
                subst (λ xs. HasFaulting s old xs (number + 1)) (sym same) (faulting_skip s old items number c.loop-number.invariant (λ f. false≢true (sym v.if-runs.false ∙ c.runs.ensures ∙ (subst (CanFault s) (sym is) f).running)))
          ]
    ]

pub returns : goal.returns
returns c =
    faulting_all c.args.flat.now c.args.ids.now.items c.loop-number.ids.items c.loop-number.number c.loop-number.invariant (let stop = c.loop-number-test.false in let end = c.loop-number.auto in let count = c.count-number-end.ensures.count in omega arith)
