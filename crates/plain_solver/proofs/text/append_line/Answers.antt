use Rattle.std.proofs.Common.{◌≡◌, ◌++◌, [], ◌∷◌, Option, Some, OnOk, ap, sym, subst, ◌∙◌}
use Rattle.tsl_value.specs.View.{View}
use Rattle.body_eval.specs.inner.Registers.{held}
use Rattle.flat_core.specs.Text.{event_line}
use Rattle.event_writer.specs.Text.{IsPrintable}
use Rattle.plain_solver.specs.inner.Lent.{cells_of}
use Rattle.plain_solver.proofs.LentLemmas.{lent_printable, lent_value}
use Rattle.plain_solver.proofs.text.append_line.Goals as goal

pub write_event-requires : goal.write_event-requires
write_event-requires c =
    let v = c.in_ok-copy.field-0 in
    subst (IsPrintable (cells_of (Some v ∷ []))) (sym c.in_ok-register.ensures) (lent_printable v)

pub returns-clause-ok : goal.returns-clause-ok
returns-clause-ok c =
    let v = c.in_ok-copy.field-0 in
    subst (λ (o : Option View). OnOk c.write_event.result (c.write_event.new.out ≡ c.args.out.now ++ event_line c.args.time c.args.name.now o))
    (ap (held (cells_of (Some v ∷ []))) c.in_ok-register.ensures ∙ lent_value v ∙ ap Some c.in_ok-copy.ensures) c.write_event.ensures.ok
