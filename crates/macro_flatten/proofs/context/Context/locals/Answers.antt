use Rattle.std.proofs.Common.{length, map, sym, ◌∙◌}
use Rattle.syntax_tree.specs.inner.OneLevel.{item_of}
use Rattle.name_check.specs.inner.Steps.{local_body}
use Rattle.expr_types.specs.inner.Shown.{around_of, kinds_of}
use Rattle.spec_meaning.specs.Occurrence.{result_of}
use Rattle.equation_marks.specs.inner.Counted.{counted}
use Rattle.equation_marks.specs.Marks.{body_marks, macro_marks}
use Rattle.macro_flatten.proofs.Locals.{foreseen_end, foreseen_more, never_none, the_stream}
use Rattle.macro_flatten.proofs.context.Context.locals.Goals as goal

pub unreachable-requires : goal.unreachable-requires
unreachable-requires c =
    never_none (kinds_of c.args.around.now.kinds.now) c.args.around.now.number c.loop-number.number (length c.args.definitions.now) c.in_ok-count.count c.requires.streams c.loop-number-test.true c.local.result c.local.ensures
    (sym c.in-None.is ∙ c.ending_at.ensures)

pub loop-number-preserved : goal.loop-number-preserved
loop-number-preserved c =
    let around = around_of c.args.around.now in
    let call = macro_marks (map item_of c.args.self.now.items.now) (kinds_of c.args.self.now.kinds.now) c.args.deep in
    let d = c.index-definitions-number.result in
    let ends =
    c.in_ok-count.ensures
    ∙ (λ j. counted c.loop-number.count (body_marks around (macro_marks (map item_of (c.counter-counter.ensures.items j).now) (kinds_of (c.counter-counter.ensures.kinds j).now) c.args.deep) (result_of (local_body d)))) in
    let stream =
    the_stream (kinds_of c.args.around.now.kinds.now) c.args.around.now.number c.loop-number.number (length c.args.definitions.now) c.in_ok-count.count c.requires.streams c.loop-number-test.true c.local.result c.local.ensures c.in-Some.stream
    (sym c.in-Some.is ∙ c.ending_at.ensures) in
    foreseen_more around call c.args.made c.args.definitions.now c.loop-number.number c.loop-number.count c.in_ok-count.count c.loop-number.streams.items c.push.new.self.items d c.in-Some.stream c.loop-number-test.true c.index-definitions-number.is ends stream c.in_ok-push-in-Some.ensures.items c.loop-number.invariant

pub returns-clause-numbered : goal.returns-clause-numbered
returns-clause-numbered c =
    foreseen_end (around_of c.args.around.now) (macro_marks (map item_of c.args.self.now.items.now) (kinds_of c.args.self.now.kinds.now) c.args.deep) c.args.made c.args.definitions.now c.loop-number.number c.loop-number.count c.loop-number.streams.items c.loop-number-test.false c.loop-number.invariant
