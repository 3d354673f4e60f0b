use Rattle.std.proofs.Common.{◌≡◌, get_or, refl, sym, ap, subst, ◌∙◌}
use Rattle.std.proofs.lemmas.List.{with_items_is}
use Rattle.std.proofs.lemmas.Result.{on_ok_weaker}
use Rattle.std.specs.Prelude.{slice_set}
use Rattle.body_eval.specs.inner.Registers.{HoldsLive}
use Rattle.flat_core.specs.Text.{event_line}
use Rattle.monitor_run.specs.inner.Registers.{register_at, value_at}
use Rattle.monitor_run.proofs.EventLemmas.{name_is, print_is}
use Rattle.monitor_run.proofs.run.print_later.Goals as goal

pub print_output-requires-clause-live : goal.print_output-requires-clause-live
print_output-requires-clause-live c =
    let s = c.args.flat.now in
    let m = c.args.machine.now in
    let o = c.index-outputs-place.result in
    let is : o ≡ get_or s.outputs c.args.place o = c.index-outputs-place.is ∙ ap (λ xs. get_or xs c.args.place o) c.outputs.ensures in
    subst (λ rs. HoldsLive m.store.cells (register_at rs o.equation)) (sym c.deref.ensures.value)
    (subst (λ j. HoldsLive m.store.cells (register_at m.registers.items j)) (print_is s c.args.place o c.requires.there is) c.requires.live)

pub returns-clause-printed : goal.returns-clause-printed
returns-clause-printed c =
    let s = c.args.flat.now in
    let m = c.args.machine.now in
    let k = c.args.place in
    let o = c.index-outputs-place.result in
    let is : o ≡ get_or s.outputs k o = c.index-outputs-place.is ∙ ap (λ xs. get_or xs k o) c.outputs.ensures in
    let name = name_is s k o c.requires.there is in
    let printed = print_is s k o c.requires.there is in
    on_ok_weaker c.print_output.result (λ text. record {
      registers = refl;
      faulted = refl;
      store = refl;
      text =
          with_items_is m.texts c.print_output.new.texts (c.print_output.ensures.length ∙ c.deref_mut.ensures.len) ∙ text
          ∙ (λ j. slice_set (c.deref_mut.ensures.value j) k (event_line c.args.time (sym name j) (value_at m.store.cells (c.deref.ensures.value j) (sym printed j))));
    }) c.print_output.ensures.text
