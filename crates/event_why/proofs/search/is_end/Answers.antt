use Rattle.std.proofs.Common.{map}
use Rattle.std.proofs.lemmas.Bool.{false≢true}
use Rattle.flat_core.specs.Line.{inputs_of}
use Rattle.event_why.specs.Said.{said}
use Rattle.event_why.specs.inner.Search.{FollowsSo}
use Rattle.std.proofs.lemmas.Result.{IfOk-weaker}
use Rattle.event_why.proofs.Iff.{through}
use Rattle.event_why.proofs.SearchLemmas.{all_among, end_test, not_ended}
use Rattle.event_why.proofs.search.is_end.Goals as goal

pub returns-then-count_lacking-gt0 : goal.returns-then-count_lacking-gt0
returns-then-count_lacking-gt0 c =
    let P = FollowsSo c.args.grounds.now.flat.now c.args.grounds.now.slice.now (inputs_of c.args.grounds.now.lines.now) (said c.args.fact.now) in
    let none = not_ended P (map said c.args.named.now) (map said c.args.chosen.now) c.count_lacking.result c.count_lacking.ensures c.if-count_lacking-gt0.true in
    (λ is. absurd (false≢true is), λ e. absurd (none e))

pub returns : goal.returns
returns c =
    let P = FollowsSo c.args.grounds.now.flat.now c.args.grounds.now.slice.now (inputs_of c.args.grounds.now.lines.now) (said c.args.fact.now) in
    let all = all_among (map said c.args.chosen.now) (map said c.args.named.now) c.count_lacking.result c.count_lacking.ensures c.if-count_lacking-gt0.false in
    IfOk-weaker c.follows.result _ _ (λ b is. through is (end_test P (map said c.args.named.now) (map said c.args.chosen.now) all)) c.follows.ensures
