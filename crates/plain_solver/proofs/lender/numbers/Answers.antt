use Rattle.std.proofs.Common.{◌≡◌, ℕ, suc, ◌+◌, ◌-◌, ◌<◌, List, [], ◌∷◌, ◌++◌, ap, ◌∙◌, append_assoc, arith}
use Rattle.plain_solver.specs.inner.Lent.{numbers_from}
use Rattle.plain_solver.proofs.lender.numbers.Goals as goal

one_more : (done new : List ℕ) (n id count : ℕ) → n < count → id ≡ n → new ≡ done ++ id ∷ [] → done ++ numbers_from n (count - n) ≡ numbers_from 0 count → new ++ numbers_from (n + 1) (count - (n + 1)) ≡ numbers_from 0 count
one_more done new n id count lt same is all =
    let rest : suc (count - (n + 1)) ≡ count - n = omega arith in
    let one : n + 1 ≡ suc n = omega arith in
    ap (λ l. l ++ numbers_from (n + 1) (count - (n + 1))) (is ∙ ap (λ m. done ++ m ∷ []) same)
    ∙ append_assoc done (n ∷ []) (numbers_from (n + 1) (count - (n + 1)))
    ∙ ap (λ m. done ++ n ∷ numbers_from m (count - (n + 1))) one
    ∙ ap (λ m. done ++ numbers_from n m) rest
    ∙ all

pub loop-number-preserved : goal.loop-number-preserved
loop-number-preserved c = one_more c.loop-number.numbers.items c.push.new.self.items c.loop-number.number c.new-id.result c.args.count c.loop-number-test.true c.new-id.ensures c.in_ok-push.ensures.items c.loop-number.invariant
