use Rattle.std.proofs.Common.{rules, Some, [], ◌∷◌, ap, refl, sym, ◌∙◌}
use Rattle.event_why.specs.declared.fact.Fact.TheVariants as fact
use Rattle.event_why.specs.inner.Drafted.{there}
use Rattle.event_why.proofs.CalmLemmas.{over_some, some_number}
use Rattle.event_why.proofs.waits.put_pending_over.Goals as goal

pub returns-clause-over : goal.returns-clause-over
returns-clause-over c T past before story lt low calm gap_is at =
    let old = c.args.draft.now in
    let mid = c.put_due.new.draft in
    let x = some_number c.get-before.result (search rules) in
    over_some T story before c.args.to lt low calm c.args.i c.args.gap past old at x.0 (sym c.get-before.ensures ∙ x.1) gap_is c.due-due.result c.due-due.ensures
    mid
    (record {
      steps = mid.steps;
      here = mid.here;
      latest = mid.latest;
      quiet = mid.quiet;
      pending = c.set.new.self;
      kept = mid.kept;
    })
    (record { fact = fact.Pending c.args.i c.args.to c.due-due.result; by = c.in_ok-by.by }) c.in_ok-number.number refl
    (c.in_ok-by.ensures ∙ ap (λ y. there (Some c.args.gap ∷ y ∷ [])) c.get-before.ensures)
    c.in_ok-number.ensures refl refl refl refl c.set.ensures
