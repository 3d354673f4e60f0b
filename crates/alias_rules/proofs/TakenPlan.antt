-- The least order of all numbers by the pairs of a set has the steps in an order that lets the set happen in place.
use Rattle.std.proofs.Common.{◌≡◌, ℕ, suc, ◌+◌, ◌<◌, cond, List, ◌∷◌, ◌++◌, length, Contains, Some, refl, sym, ap, subst, ◌∙◌, inl, inr, length-append, arith}
use Rattle.std.specs.Prelude.{IsTrue, nat_le, nat_lt}
use Rattle.std.specs.List.{filter}
use Rattle.std.proofs.lemmas.Bool.{and_from, and_parts, or_cases, or_left, or_right, le-leb, lt-ltb, ltb-true}
use Rattle.std.proofs.lemmas.List.{get_or_append_left}
use Rattle.std.proofs.lemmas.List.Elements.{filter-append}
use Rattle.std.proofs.lemmas.Option.{slice_get_within, slice_get-get_or}
use Rattle.std.proofs.Math.Seq.{get_or-append_seam}
use Rattle.flat_core.specs.Members.{is_in}
use Rattle.flat_core.specs.System.{System, runs, IsProper, OutputsRun}
use Rattle.flat_core.specs.WellFormed.{IsWellFormed}
use Rattle.flat_core.proofs.Depth.{runs_below}
use Rattle.translation_order.specs.Order.{IsLeastOrder}
use Rattle.translation_order.proofs.Lists.{split_at}
use Rattle.translation_order.proofs.Orders.{one_order, taken_once}
use Rattle.alias_rules.specs.Conflict.{StandsBefore, needed, bypasses, takes, TakesBefore, read, printed, passed, written}
use Rattle.alias_rules.specs.Fine.{IsFinePlan, IsTakenPlan}
use Rattle.alias_rules.specs.inner.Laws.{AreOnePlan}
use Rattle.alias_rules.specs.Steps.{print_step, step_count, is_print, is_step, MustPrecede, Precedes, IsOrderBy, IsLeastOrderBy}
use Rattle.alias_rules.specs.Steps as steps
use Rattle.alias_rules.specs.Uses.{AreUpdates}
use Rattle.alias_rules.proofs.Empty.{source_runs, empty_is_fine}
use Rattle.alias_rules.proofs.Listed.{listed_fits, one_listed}
use Rattle.alias_rules.proofs.Updates.{has_update}
use Rattle.tsl_value.proofs.Lists.{kept_in, in_kept, kept_once}

-- what stands in front of an item stands before it
stands_before : (front rest : List ℕ) (a b : ℕ) → Contains front a → Precedes (front ++ b ∷ rest) a b
stands_before front rest a b (k, lt, is) =
    let all = front ++ b ∷ rest in
    let both = length-append front (b ∷ rest) in
    let one : length (b ∷ rest) ≡ suc (length rest) = refl in
    let long : k < length all = omega arith in
    let whole : length front < length all = omega arith in
    record {
      first = k;
      second = length front;
      first_is = slice_get-get_or all k a long ∙ ap Some (get_or_append_left front (b ∷ rest) a k lt ∙ is);
      second_is = slice_get-get_or all (length front) b whole ∙ ap Some (get_or-append_seam front b rest b);
      is_before = lt;
    }

module _ (s : System) where
  runs_step : (x : ℕ) → IsTrue (runs s x) → IsTrue (is_step s x)
  runs_step x run = or_left (runs s x) (is_print s x) run

  print_is_step : (k x : ℕ) → k < length s.outputs → x ≡ print_step s k → IsTrue (is_step s x)
  print_is_step k x lt is =
      or_right (runs s x) (is_print s x)
      (and_from (nat_le (length s.equations) x) (nat_lt x (step_count s)) (le-leb (length s.equations) x (omega arith)) (lt-ltb x (step_count s) (omega arith)))

  step_low : IsProper s → OutputsRun s → (x : ℕ) → IsTrue (is_step s x) → x < step_count s
  step_low proper outputs_run x h = elim (or_cases (runs s x) (is_print s x) h) [
    | inl run ↦ let low = runs_below s proper x run in omega arith
    | inr print ↦ ltb-true x (step_count s) (and_parts (nat_le (length s.equations) x) (nat_lt x (step_count s)) print).1
  ]

  module _ (E : ℕ → ℕ → Type 0) (low : (x : ℕ) → IsTrue (is_step s x) → x < step_count s) (first_step : (a b : ℕ) → E a b → IsTrue (is_step s a)) (second_step : (a b : ℕ) → E a b → IsTrue (is_step s b)) where
    precedes : (all : List ℕ) → IsLeastOrder (step_count s) E all → (a b : ℕ) → E a b → Precedes (filter (is_step s) all) a b
    precedes all least a b e =
        let p = is_step s in
        let at = split_at all b (least.all b (low b (second_step a b e))) in
        let front = filter p at.0 in
        let cut : filter p all ≡ front ++ b ∷ filter p at.1 = ap (filter p) at.2 ∙ filter-append p at.0 (b ∷ at.1) ∙ ap (λ c. front ++ cond c (b ∷ filter p at.1) (filter p at.1)) (second_step a b e) in
        subst (λ l. Precedes l a b) (sym cut)
        (stands_before front (filter p at.1) a b (kept_in p at.0 a ((least.takes_least at.0 at.1 b at.2).holds.is_free a e) (first_step a b e)))

    pub ordered_by : (order : List ℕ) → IsLeastOrderBy s E order → IsOrderBy s E order
    ordered_by order least =
        let p = is_step s in
        let all = least.all in
        subst (IsOrderBy s E) (sym least.is)
        record {
          once = kept_once p all (taken_once (step_count s) E all least.is_least.takes_least);
          steps = λ x. ((λ c. (in_kept p all x c).1), (λ h. kept_in p all x (least.is_least.all x (low x h)) h));
          agrees = precedes all least.is_least;
        }

-- ---- the pairs of a set are of steps

module _ (s : System) (proper : IsProper s) (outputs_run : OutputsRun s) (set : List ℕ) (updates : AreUpdates s set) where
  update_runs : (y : ℕ) → IsTrue (is_in set y) → IsTrue (is_step s y)
  update_runs y inside = runs_step s y (has_update s y (updates y inside)).running

  takes_step : (y x u : ℕ) → TakesBefore s y x u → IsTrue (is_step s u)
  takes_step y x u (read use_of) = runs_step s u use_of.running
  takes_step y x u (printed k print is) = print_is_step s k u (slice_get_within s.outputs k print.output print.is) is
  takes_step y x u (passed use_of over) = runs_step s u use_of.running
  takes_step y x u (written use_of differs) = runs_step s u use_of.running

  first_is_step : (a b : ℕ) → StandsBefore s set a b → IsTrue (is_step s a)
  first_is_step a b (needed must) = runs_step s a (source_runs s proper outputs_run a b must)
  first_is_step a b (bypasses inside around) = runs_step s a around.variable.running
  first_is_step a b (takes x inside around use_of) = takes_step b x a use_of

  pub first_low : (a b : ℕ) → StandsBefore s set a b → a < step_count s
  first_low a b h = step_low s proper outputs_run a (first_is_step a b h)

  second_must : (a b : ℕ) → MustPrecede s a b → IsTrue (is_step s b)
  second_must a b (steps.argument run needs) = runs_step s b run
  second_must a b (steps.printed k o is of at) = print_is_step s k b (slice_get_within s.outputs k o is) at

  second_is_step : (a b : ℕ) → StandsBefore s set a b → IsTrue (is_step s b)
  second_is_step a b (needed must) = second_must a b must
  second_is_step a b (bypasses inside around) = update_runs b inside
  second_is_step a b (takes x inside around use_of) = update_runs b inside

  pub ordered : (order : List ℕ) → IsLeastOrderBy s (StandsBefore s set) order → IsOrderBy s (StandsBefore s set) order
  ordered = ordered_by s (StandsBefore s set) (step_low s proper outputs_run) first_is_step second_is_step

-- ---- the plan that is taken

pub one_order_by : (s : System) (E : ℕ → ℕ → Type 0) (xs ys : List ℕ) → IsLeastOrderBy s E xs → IsLeastOrderBy s E ys → xs ≡ ys
one_order_by s E xs ys u v = u.is ∙ ap (filter (is_step s)) (one_order (step_count s) E u.all v.all u.is_least v.is_least) ∙ sym v.is

pub taken_is_fine : (s : System) (set order : List ℕ) → IsProper s → OutputsRun s → IsWellFormed s → IsTakenPlan s set order → IsFinePlan s set order
taken_is_fine s set order proper outputs_run formed plan =
    let fit = listed_fits s set (empty_is_fine s proper outputs_run formed) plan.listed in
    record { updates = fit.updates; fine = fit.fine; ordered = ordered s proper outputs_run set fit.updates order plan.ordered }

pub one_plan : (s : System) (set order other others : List ℕ) → IsTakenPlan s set order → IsTakenPlan s other others → AreOnePlan set order other others
one_plan s set order other others a b =
    let same = one_listed s set other a.listed b.listed in
    record {
      set_is = same;
      order_is = one_order_by s (StandsBefore s other) order others (subst (λ l. IsLeastOrderBy s (StandsBefore s l) order) same a.ordered) b.ordered;
    }
