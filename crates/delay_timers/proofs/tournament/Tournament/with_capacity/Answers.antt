use Rattle.std.proofs.Common.{ap, rules}
use Rattle.delay_timers.specs.inner.Pending.{Pending}
use Rattle.delay_timers.proofs.TimesLemmas.{empty_tree, empty_times}
use Rattle.delay_timers.proofs.tournament.Tournament.with_capacity.Goals as goal

pub invariant_of-result : goal.invariant_of-result
invariant_of-result c = empty_tree _ _ (c.in_ok-nodes.ensures.items_if_clones_equal (search rules))

pub returns : goal.returns
returns c = ap (λ times. let p : Pending = record { capacity = c.args.delays; times = times } in p) (empty_times _ _ (c.in_ok-nodes.ensures.items_if_clones_equal (search rules)))
