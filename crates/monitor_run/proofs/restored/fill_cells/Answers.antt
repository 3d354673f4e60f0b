use Rattle.std.proofs.Common.{[], refl, sym, subst}
use Rattle.std.specs.Prelude.{IsTrue}
use Rattle.aggregate_store.specs.Content.{AreInOrder, is_of_aggregate}
use Rattle.aggregate_store.specs.declared.content.Content.{Content}
use Rattle.aggregate_store.proofs.Gathered.{all_taken}
use Rattle.flat_core.proofs.Members.{all_at}
use Rattle.monitor_run.specs.inner.Resuming.{HasCells}
use Rattle.monitor_run.proofs.FilledLemmas.{cells_more, cells_none}
use Rattle.monitor_run.proofs.restored.fill_cells.Goals as goal

pub loop-content-init : goal.loop-content-init
loop-content-init c = (subst (λ hs. HasCells [] hs c.args.store.now.cells) (sym c.new-handles.ensures.items) (cells_none c.args.store.now.cells c.requires.none), refl)

pub filled-requires-clause-aggregate : goal.filled-requires-clause-aggregate
filled-requires-clause-aggregate c =
    (all_at (λ (x : Content). IsTrue (is_of_aggregate x) × AreInOrder x) c.args.contents.now c.requires.aggregates c.content-item.result
    (c.loop-content.content-index, c.loop-content-test.true, sym c.content-item.is)).0

pub filled-requires-clause-in_order : goal.filled-requires-clause-in_order
filled-requires-clause-in_order c =
    (all_at (λ (x : Content). IsTrue (is_of_aggregate x) × AreInOrder x) c.args.contents.now c.requires.aggregates c.content-item.result
    (c.loop-content.content-index, c.loop-content-test.true, sym c.content-item.is)).1

pub loop-content-preserved : goal.loop-content-preserved
loop-content-preserved c =
    cells_more c.args.contents.now c.loop-content.content-index c.content-item.result c.in_ok-handle.handle c.loop-content.store c.filled.new.self
    c.loop-content.handles.items c.push.new.self.items _ c.loop-content-test.true c.content-item.is c.in_ok-handle.ensures.fresh c.in_ok-handle.ensures.made
    c.in_ok-push.ensures.items c.loop-content.invariant

pub returns-clause-cells : goal.returns-clause-cells
returns-clause-cells c =
    subst (λ xs. HasCells xs c.loop-content.handles.items c.loop-content.store.cells) (all_taken c.args.contents.now c.loop-content.content-index c.loop-content-test.false)
    c.loop-content.invariant.0
