use Rattle.std.proofs.Common.{ℕ, List, [], sym, ap, subst, ◌∙◌}
use Rattle.std.specs.List.{filter}
use Rattle.alias_rules.specs.Fine.{IsFinePlan}
use Rattle.alias_rules.specs.Steps.{is_step}
use Rattle.register_code.proofs.copying.copying_plan.Goals as goal

pub returns-clause-fine : goal.returns-clause-fine
returns-clause-fine c =
    let s = c.args.flat.now in
    subst (λ (set : List ℕ). IsFinePlan s set c.in_ok-order.order) (sym c.new.ensures)
    (subst (IsFinePlan s []) (sym (c.in_ok-order.ensures ∙ ap (filter (is_step s)) c.as_slice.ensures)) c.in_ok-all.ensures.fine)
