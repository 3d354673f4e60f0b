use Rattle.std.proofs.Common.{ℕ, subst, sym, ◌∙◌}
use Rattle.std.proofs.lemmas.Bool.{false≢true}
use Rattle.tsl_value.specs.View.{View}
use Rattle.event_why.specs.Check.{EndsInEvent}
use Rattle.event_why.proofs.check.ended.Goals as goal

pub returns-then-ends_in_event : goal.returns-then-ends_in_event
returns-then-ends_in_event c output at =
    subst (λ e. (t : ℕ) × (v : View) × EndsInEvent c.args.steps.now e t v) (c.equation_of.ensures output at) (c.ends_in_event.ensures.0 c.if-ends_in_event.true)

pub returns-else-ends_in_event : goal.returns-else-ends_in_event
returns-else-ends_in_event c output at t v ends =
    false≢true (sym c.if-ends_in_event.false ∙ c.ends_in_event.ensures.1 (subst (λ e. (u : ℕ) × (w : View) × EndsInEvent c.args.steps.now e u w) (sym (c.equation_of.ensures output at)) (t, v, ends)))
