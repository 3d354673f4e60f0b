use Rattle.std.proofs.Common.{rules, ◌≡◌, [], ◌∷◌, map, sym, ◌∙◌}
use Rattle.std.proofs.lemmas.Bool.{true≢false}
use Rattle.std.specs.Map.Iter.{deref}
use Rattle.tsl_value.specs.declared.scalar.Scalar.TheVariants as scalar
use Rattle.aggregate_store.proofs.Numbers.{numbers_rise}
use Rattle.aggregate_store.proofs.SameCells.{agree_all, agree_not, head_left, sets_same, some_left}
use Rattle.aggregate_store.proofs.same.is_same_mixed.Goals as goal

pub returns-then-not-is_number : goal.returns-then-not-is_number
returns-then-not-is_number c =
    let ns = c.args.numbers.now.keys in let ks = c.args.scalars.now.keys in let n = c.in-Some.number.now in let left = c.loop-number.left in
    let next : c.loop-number.number-iterator ≡ n ∷ c.next.new.self = search rules in
    let first = head_left left c.next-in-loop-number.new.self c.next-in-loop-number.result c.next-in-loop-number.ensures.steps in
    sets_same
    (map scalar.Int ns) ks _
    (agree_not scalar.Int ns ks n c.loop-number.number-iterator c.next.new.self left next
    (λ same. true≢false (sym (c.is_number.ensures.1 (first ∙ same)) ∙ c.if-not-is_number.true)) c.loop-number.invariant)
    (numbers_rise ns c.iter-rest.ensures.ordered) c.iter-left.ensures.ordered

pub returns : goal.returns
returns c =
    let ns = c.args.numbers.now.keys in let ks = c.args.scalars.now.keys in let left = c.loop-number.left in
    let none : c.loop-number.number-iterator ≡ [] = search rules in
    let ended = some_left deref left c.next-2.new.self c.next-2.result c.next-2.ensures.steps ∙ c.is_none.ensures in
    sets_same
    (map scalar.Int ns) ks _ (agree_all scalar.Int ns ks c.loop-number.number-iterator left _ none ended c.loop-number.invariant)
    (numbers_rise ns c.iter-rest.ensures.ordered) c.iter-left.ensures.ordered
