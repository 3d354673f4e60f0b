-- The order of a plan has the least step that may stand at each place, and is the only one.
use Rattle.std.proofs.Common.{◌≡◌, ℕ, true, Contains, subst, sym, ap, ◌∙◌}
use Rattle.std.specs.List.{filter}
use Rattle.translation_order.proofs.Orders.{one_order}
use Rattle.alias_rules.specs.Steps.{step_count, is_step, MustPrecede}
use Rattle.alias_rules.proofs.Empty.{source_runs}
use Rattle.register_code.specs.inner.Laws.{LeastStepsFirst, OnePlanOrder}
use Rattle.tsl_value.proofs.Lists.{kept_in, in_kept, middle}
use Rattle.register_code.proofs.Filtered.{filter_split}
use Rattle.register_code.proofs.PairLemmas.{step_runs, step_low}

pub least_steps_first : LeastStepsFirst
least_steps_first s order front rest x flat least is =
    let parts = filter_split (is_step s) least.all front rest x (sym least.is ∙ is) in
    let before = parts.0 in
    let at = least.is_least.takes_least before parts.1 x parts.2 in
    let kept : (a : ℕ) → Contains before a → is_step s a ≡ true → Contains front a = λ a c h. subst (λ l. Contains l a) parts.3 (kept_in (is_step s) before a c h) in
    let whole : (a : ℕ) → Contains front a → Contains before a = λ a c. (in_kept (is_step s) before a (subst (λ l. Contains l a) (sym parts.3) c)).0 in
    record {
      holds = record {
        is_one = (in_kept (is_step s) least.all x (subst (λ l. Contains l x) (sym is ∙ least.is) (middle front rest x))).1;
        is_new = λ c. at.holds.is_new (whole x c);
        is_free = λ a must. kept a (at.holds.is_free a must) (step_runs s a (source_runs s flat.proper flat.outputs_run a x must));
      };
      least = λ y may. at.least y (record {
        is_step = step_low s flat y may.is_one;
        is_new = λ c. may.is_new (kept y c may.is_one);
        is_free = λ a must. whole a (may.is_free a must);
      });
    }

pub one_plan_order : OnePlanOrder
one_plan_order s xs ys u v = u.is ∙ ap (filter (is_step s)) (one_order (step_count s) (MustPrecede s) u.all v.all u.is_least v.is_least) ∙ sym v.is
