-- The least order of all equations and prints has the steps in an order for a plan.
use Rattle.std.proofs.Common.{◌≡◌, ℕ, List, [], subst}
use Rattle.std.specs.List.{filter}
use Rattle.translation_order.specs.Graph.{IsAcyclic}
use Rattle.flat_core.specs.Complete.{IsFlat}
use Rattle.flat_core.specs.System.{System}
use Rattle.flat_core.specs.WellFormed.{IsWellFormed}
use Rattle.translation_order.specs.Order.{Before, MayFollow, IsLeastOrder}
use Rattle.translation_order.proofs.Alike.{least_alike, path_alike}
use Rattle.translation_order.proofs.Lists.{split_at}
use Rattle.translation_order.proofs.Orders.{taken_once}
use Rattle.alias_rules.specs.Conflict.{StandsBefore, needed}
use Rattle.alias_rules.specs.Fine.{IsFine, IsFinePlan}
use Rattle.alias_rules.specs.Steps.{step_count, is_step, MustPrecede}
use Rattle.alias_rules.proofs.Empty.{empty_is_fine, empty_plan, source_runs}
use Rattle.register_code.specs.inner.Pairs.{all_pairs}
use Rattle.register_code.specs.inner.Plan.{IsPlanOrder}
use Rattle.tsl_value.proofs.Lists.{kept_in, in_kept, kept_once}
use Rattle.register_code.proofs.Filtered.{filter_precedes}
use Rattle.register_code.proofs.PairLemmas.{step_runs, second_step, step_low, to_precede, from_precede}

-- relations that hold alike have the same least order
module _ (steps : ℕ) (E F : ℕ → ℕ → Type 0) (more : (a b : ℕ) → E a b → F a b) (back : (a b : ℕ) → F a b → E a b) where
  may_more : (front : List ℕ) (x : ℕ) → MayFollow steps E front x → MayFollow steps F front x
  may_more front x may = record { is_step = may.is_step; is_new = may.is_new; is_free = λ a f. may.is_free a (back a x f) }

  may_back : (front : List ℕ) (x : ℕ) → MayFollow steps F front x → MayFollow steps E front x
  may_back front x may = record { is_step = may.is_step; is_new = may.is_new; is_free = λ a e. may.is_free a (more a x e) }

  pub order_alike : (order : List ℕ) → IsLeastOrder steps E order → IsLeastOrder steps F order
  order_alike order least = record {
    takes_least = λ front rest x is. least_alike (MayFollow steps E front) (MayFollow steps F front) (may_more front) (may_back front) x (least.takes_least front rest x is);
    all = least.all;
  }

module _ (s : System) (flat : IsFlat s) where
  empty_fine : IsWellFormed s → IsFine s []
  empty_fine good = empty_is_fine s flat.proper flat.outputs_run good

  -- the pairs of a well-formed system have no cycle
  pub no_cycle : IsWellFormed s → IsAcyclic (Before (all_pairs s))
  no_cycle good a p = (empty_fine good).acyclic a (path_alike (Before (all_pairs s)) (StandsBefore s []) (λ x y pair. needed (to_precede s flat x y pair)) a a p)

  pub least_of_all : (count : ℕ) → count ≡ step_count s → (pairs : List (ℕ × ℕ)) → pairs ≡ all_pairs s → (all : List ℕ) → IsLeastOrder count (Before pairs) all → IsLeastOrder (step_count s) (MustPrecede s) all
  least_of_all count counted pairs are all least =
      order_alike (step_count s) (Before (all_pairs s)) (MustPrecede s) (to_precede s flat) (from_precede s flat) all
      (subst (λ n. IsLeastOrder n (Before (all_pairs s)) all) counted (subst (λ p. IsLeastOrder count (Before p) all) are least))

  plan_order : (all : List ℕ) → IsLeastOrder (step_count s) (MustPrecede s) all → IsPlanOrder s (filter (is_step s) all)
  plan_order all least = record {
    once = kept_once (is_step s) all (taken_once (step_count s) (MustPrecede s) all least.takes_least);
    steps = λ x. ((λ c. (in_kept (is_step s) all x c).1), (λ h. kept_in (is_step s) all x (least.all x (step_low s flat x h)) h));
    agrees = λ a b must.
        let at = split_at all b (least.all b (step_low s flat b (second_step s a b must))) in
        filter_precedes (is_step s) all at.0 at.1 a b (step_runs s a (source_runs s flat.proper flat.outputs_run a b must)) (second_step s a b must) at.2
        ((least.takes_least at.0 at.1 b at.2).holds.is_free a must);
  }

  pub copying_fine : IsWellFormed s → (all : List ℕ) → IsLeastOrder (step_count s) (MustPrecede s) all → IsFinePlan s [] (filter (is_step s) all)
  copying_fine good all least = empty_plan s (empty_fine good) (filter (is_step s) all) (plan_order all least)
