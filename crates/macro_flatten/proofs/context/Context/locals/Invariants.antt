use Rattle.std.proofs.Common.{List, ◌++◌, drop, map}
use Rattle.syntax_tree.specs.inner.OneLevel.{definitions_of, item_of}
use Rattle.expr_types.specs.inner.Shown.{around_of, kinds_of}
use Rattle.stream_constructs.specs.declared.construct.Stream.{Stream}
use Rattle.equation_marks.specs.Marks.{macro_marks}
use Rattle.macro_flatten.specs.inner.Answers.{AreNumbered, to_enough}
use Rattle.macro_flatten.proofs.context.Context.locals.Given as goal

abbrev pub invariant-loop-number : goal.invariant-loop-number
invariant-loop-number l =
    (rest : List Stream) → AreNumbered to_enough (around_of l.around) (macro_marks (map item_of l.self.items.now) (kinds_of l.self.kinds.now) l.deep) l.number l.count (definitions_of (drop l.number l.definitions)) rest → AreNumbered to_enough (around_of l.around) (macro_marks (map item_of l.self.items.now) (kinds_of l.self.kinds.now) l.deep) 0 l.made (definitions_of l.definitions) (l.streams.items ++ rest)
