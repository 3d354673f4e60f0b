use Rattle.std.proofs.Common.{◌≡◌, not, get_or, sym, ap, ◌∙◌}
use Rattle.std.proofs.lemmas.Bool.{eqb-true}
use Rattle.monitor_run.specs.inner.Registers.{register_at}
use Rattle.monitor_run.proofs.EndLemmas.{blank_register}
use Rattle.monitor_run.proofs.EventLemmas.{blank_text, print_is}
use Rattle.monitor_run.proofs.run.is_blank.Goals as goal

pub returns-clause-empty : goal.returns-clause-empty
returns-clause-empty c = λ holds.
    let s = c.args.flat.now in
    let registers = c.args.machine.now.registers.items in
    let o = c.index-outputs-place.result in
    let o_is : o ≡ get_or s.outputs c.args.place o = c.index-outputs-place.is ∙ ap (λ xs. get_or xs c.args.place o) c.outputs.ensures in
    let is = blank_register c.index.result.now (λ cells. c.is_empty.ensures cells ∙ ap not c.if-not-is_empty.false) in
    ap (register_at registers) (print_is s c.args.place o c.requires.there o_is ∙ sym c.get.ensures)
    ∙ sym (sym is ∙ c.index.ensures ∙ ap (λ d. get_or registers c.get.result d) is)

pub returns-clause-unprinted : goal.returns-clause-unprinted
returns-clause-unprinted c = λ holds.
    let is = blank_text c.index-2.result.now (sym c.len.ensures ∙ eqb-true c.len.result 0 holds) in
    sym (sym is ∙ c.index-2.ensures ∙ ap (λ d. get_or c.args.machine.now.texts.items c.args.place d) is)
