use Rattle.std.proofs.Common.{◌≡◌, [], map}
use Rattle.event_why.specs.Said.{said}
use Rattle.event_why.proofs.ListedFacts.{none_listed}
use Rattle.event_why.proofs.SilentLemmas.{past_test}
use Rattle.event_why.proofs.silent.is_past.Goals as goal

pub returns-then-is_empty : goal.returns-then-is_empty
returns-then-is_empty c p i e constant =
    let none : map said c.args.named.now ≡ [] = none_listed said c.args.named.now c.is_empty.result c.is_empty.ensures c.if-is_empty.true in
    past_test p i e c.args.t c.get.result (map said c.args.named.now) constant c.get.ensures.value none
