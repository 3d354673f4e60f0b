use Rattle.expr_types.specs.inner.Shown.{kinds_of}
use Rattle.macro_flatten.proofs.Foreseen.{IsForeseenTo}
use Rattle.macro_flatten.proofs.top.foresee.Given as goal

abbrev pub invariant-loop-number : goal.invariant-loop-number
invariant-loop-number l = IsForeseenTo l.items (kinds_of l.counter.kinds.now) l.made l.number l.count l.fn.streams.items l.streams.items
