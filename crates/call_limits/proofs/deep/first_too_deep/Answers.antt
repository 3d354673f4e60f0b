use Rattle.std.proofs.Common.{refl, sym, subst}
use Rattle.translation_order.specs.OnCycle.{Edge}
use Rattle.call_limits.specs.inner.Depths.{AreAfter}
use Rattle.call_limits.proofs.DepthLemmas.{same_successors, same_depths, order_leads, order_swapped, first_too_deep}
use Rattle.call_limits.proofs.deep.first_too_deep.Goals as goal

pub depths-requires-clause-after : goal.depths-requires-clause-after
depths-requires-clause-after c =
    let macros = c.args.calls.now.macros.items in
    let functions = c.args.calls.now.functions.items in
    order_leads c.args.count macros functions c.deref-3.result.now c.deref-4.result.now
    (same_successors c.args.count macros c.deref.result.now c.deref-3.result.now c.in_ok-macros.macros.items c.deref.ensures.value c.deref-3.ensures.value c.in_ok-macros.ensures)
    (same_successors c.args.count functions c.deref-2.result.now c.deref-4.result.now c.in_ok-functions.functions.items c.deref-2.ensures.value c.deref-4.ensures.value c.in_ok-functions.ensures)
    c.as_slice.result.now (subst (AreAfter (Edge macros) (Edge functions) c.args.count) (sym c.as_slice.ensures) c.in_ok-order.ensures)

pub depths-requires-2-clause-after : goal.depths-requires-2-clause-after
depths-requires-2-clause-after c =
    let macros = c.args.calls.now.macros.items in
    let functions = c.args.calls.now.functions.items in
    order_swapped c.args.count macros functions c.deref-6.result.now c.deref-5.result.now
    (same_successors c.args.count macros c.deref.result.now c.deref-6.result.now c.in_ok-macros.macros.items c.deref.ensures.value c.deref-6.ensures.value c.in_ok-macros.ensures)
    (same_successors c.args.count functions c.deref-2.result.now c.deref-5.result.now c.in_ok-functions.functions.items c.deref-2.ensures.value c.deref-5.ensures.value c.in_ok-functions.ensures)
    c.as_slice-2.result.now (subst (AreAfter (Edge macros) (Edge functions) c.args.count) (sym c.as_slice-2.ensures) c.in_ok-order.ensures)

pub returns : goal.returns
returns c =
    let macros = c.args.calls.now.macros.items in
    let functions = c.args.calls.now.functions.items in
    let of_macros = same_successors c.args.count macros c.deref.result.now c.in_ok-macros.macros.items c.in_ok-macros.macros.items c.deref.ensures.value refl c.in_ok-macros.ensures in
    let of_functions = same_successors c.args.count functions c.deref-2.result.now c.in_ok-functions.functions.items c.in_ok-functions.functions.items c.deref-2.ensures.value refl c.in_ok-functions.ensures in
    first_too_deep c.args.count macros functions c.in_ok-macros.macros.items c.in_ok-functions.functions.items of_macros of_functions c.deref-7.result.now c.deref-8.result.now c.requires.macros_between c.requires.functions_between
    (same_depths c.args.count c.deref-3.result.now c.deref-4.result.now c.in_ok-macros.macros.items c.in_ok-functions.functions.items c.in_ok-of_macros.of_macros.items c.deref-7.result.now c.deref-3.ensures.value c.deref-4.ensures.value of_macros.one_each c.deref-7.ensures.value c.in_ok-of_macros.ensures)
    (same_depths c.args.count c.deref-5.result.now c.deref-6.result.now c.in_ok-functions.functions.items c.in_ok-macros.macros.items c.in_ok-of_functions.of_functions.items c.deref-8.result.now c.deref-5.ensures.value c.deref-6.ensures.value of_functions.one_each c.deref-8.ensures.value c.in_ok-of_functions.ensures)
    c.first_deep.result c.first_deep.ensures
