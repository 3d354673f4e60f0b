use Rattle.std.proofs.Common.{◌↔◌, map, subst}
use Rattle.std.specs.Prelude.{IsTrue}
use Rattle.event_why.specs.Said.{said}
use Rattle.event_why.specs.inner.Silence.{IsMissing}
use Rattle.event_why.proofs.Iff.{through}
use Rattle.event_why.proofs.SilentLemmas.{misses_test}
use Rattle.event_why.proofs.silent.is_missed.Goals as goal

pub returns : goal.returns
returns c p i =
    let fs = map said c.args.named.now in
    through (subst (λ xs. IsTrue c.is_missing.result ↔ IsMissing xs c.args.t fs) c.ids.ensures c.is_missing.ensures) (misses_test p i c.args.e.now c.args.t fs c.requires)
