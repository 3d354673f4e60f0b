use Rattle.std.proofs.Common.{map}
use Rattle.std.proofs.lemmas.Result.{IfOk-weaker}
use Rattle.event_why.specs.Said.{said}
use Rattle.event_why.proofs.Iff.{through}
use Rattle.event_why.proofs.SilentLemmas.{without_test}
use Rattle.event_why.proofs.silent.is_without.Goals as goal

pub returns : goal.returns
returns c =
    IfOk-weaker c.agrees.result _ _ (λ b is p i. through is (without_test p i c.args.e.now c.args.t (map said c.args.named.now) c.requires.joins)) c.agrees.ensures
