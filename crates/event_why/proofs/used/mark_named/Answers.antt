use Rattle.std.proofs.Common.{rules}
use Rattle.event_why.proofs.UsedLemmas.{all_marked}
use Rattle.event_why.proofs.used.mark_named.Goals as goal

pub returns : goal.returns
returns c = record {
  as_long = search rules;
  each = λ k low. all_marked c.args.by.now c.loop-n.n-index k _ _ c.loop-n-test.false (c.loop-n.invariant k (search rules));
}
