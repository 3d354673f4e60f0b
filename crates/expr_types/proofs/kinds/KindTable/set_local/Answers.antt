use Rattle.std.proofs.Common.{sym, ◌∙◌}
use Rattle.std.proofs.lemmas.Result.{on_err_weaker}
use Rattle.expr_types.proofs.KindLemmas.{row_kept, row_same}
use Rattle.expr_types.proofs.kinds.KindTable.set_local.Goals as goal

pub returns-clause-others : goal.returns-clause-others
returns-clause-others c = λ i k h. row_kept c.make_block_room.new.locals.items c.args.number c.args.local c.set_kind.new.kinds c.index_mut.result.now _ (sym c.index_mut.ensures.value) c.set_kind.ensures.others i k h ∙ c.make_block_room.ensures.same i k

pub returns-clause-err : goal.returns-clause-err
returns-clause-err c =
    on_err_weaker c.set_kind.result
    (λ h i k. row_same c.make_block_room.new.locals.items c.args.number c.set_kind.new.kinds c.index_mut.result.now _ (sym c.index_mut.ensures.value) h i k ∙ c.make_block_room.ensures.same i k)
    c.set_kind.ensures.err
