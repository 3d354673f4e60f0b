use Rattle.std.proofs.Common.{refl, sym, ◌∙◌, arith}
use Rattle.std.proofs.lemmas.Bool.{false≢true}
use Rattle.plan_check.proofs.Placing.{all_below, stand_next}
use Rattle.plan_check.proofs.places.all_stand.Goals as goal

pub returns-then-is_unplaced : goal.returns-then-is_unplaced
returns-then-is_unplaced c =
    ((λ h. absurd (false≢true h)), (λ all. absurd (all c.loop-number.number (c.is_unplaced.ensures.0 c.if-is_unplaced.true))))

pub loop-number-preserved : goal.loop-number-preserved
loop-number-preserved c =
    stand_next c.args.flat.now c.args.places.now c.loop-number.number c.loop-number.invariant (λ one. false≢true (sym c.if-is_unplaced.false ∙ c.is_unplaced.ensures.1 one))

pub returns : goal.returns
returns c =
    ((λ h. all_below c.args.flat.now c.args.places.now c.loop-number.number (let end = c.loop-number-test.false in omega arith) c.loop-number.invariant), (λ all. refl))
