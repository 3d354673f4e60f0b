use Rattle.std.proofs.Common.{◌≡◌, [], map, sym}
use Rattle.tsl_value.specs.View.{Plain}
use Rattle.flat_core.specs.Line.{inputs_of}
use Rattle.event_why.specs.Said.{said}
use Rattle.event_why.proofs.Iff.{through}
use Rattle.event_why.proofs.ListedFacts.{none_listed}
use Rattle.event_why.proofs.EventLemmas.{given_test}
use Rattle.event_why.proofs.event.is_given.Goals as goal

pub returns-then-is_empty : goal.returns-then-is_empty
returns-then-is_empty c e op_is =
    let none : map said c.args.named.now ≡ [] = none_listed said c.args.named.now c.is_empty.result c.is_empty.ensures c.if-is_empty.true in
    through c.is_scalar.ensures
    (given_test (inputs_of c.args.lines.now) c.args.i e c.args.t c.args.value.now (Plain c.in-Some.scalar.now) (map said c.args.named.now) op_is none (sym c.in-Some.ensures))
