-- What conflicts and orders tell of a plan.
use Rattle.std.proofs.Common.{Option, ◌≡◌, ℕ, ◌+◌, ◌<◌, ◌≤◌, Bool, false, ◌&&◌, List, length, get_or, Some, None, sym, ap, subst, ◌∙◌, inl, inr, arith}
use Rattle.std.specs.Prelude.{◌↔◌, IsTrue, slice_index}
use Rattle.std.proofs.Math.Bool.{and-false}
use Rattle.std.proofs.lemmas.Bool.{cases_lt, false≢true}
use Rattle.std.proofs.lemmas.List.Elements.{Contains-get_or}
use Rattle.std.proofs.lemmas.Option.{get_or_from_slice_get, slice_get-get_or, slice_get_past}
use Rattle.flat_core.specs.System.{System, runs}
use Rattle.flat_core.specs.Updates.{is_running_update, is_update_at}
use Rattle.flat_core.proofs.Members.{Contains-in, in-Contains}
use Rattle.alias_rules.specs.Conflict.{StandsBefore}
use Rattle.alias_rules.specs.Fine.{IsFine, IsFinePlan}
use Rattle.alias_rules.specs.Steps.{IsOrderBy}
use Rattle.alias_rules.specs.Uses.{AreUpdates, IsUpdate}
use Rattle.alias_nears.specs.declared.reason.Reason.{Reason}
use Rattle.alias_nears.specs.declared.reason.Reason.TheVariants.{Kept, NotOverwritten, Cycle}
use Rattle.alias_nears.specs.inner.Answer.{IsFirstConflict}
use Rattle.plan_check.proofs.Ordering.{acyclic}

module _ (s : System) (set : List ℕ) where
  -- ---- sets of updates
  abbrev pub UpdatesBelow : ℕ → Type 0
  UpdatesBelow n = (k : ℕ) → k < n → IsUpdate s (slice_index set k)

  pub updates_next : (n : ℕ) → UpdatesBelow n → IsUpdate s (slice_index set n) → UpdatesBelow (n + 1)
  updates_next n before last k lt = elim (cases_lt k n) [
    | inl low ↦ before k low
    | inr high ↦ let same : k ≡ n = omega arith in subst (λ j. IsUpdate s (slice_index set j)) (sym same) last
  ]

  pub all_updates : (n : ℕ) → length set ≤ n → UpdatesBelow n → AreUpdates s set
  all_updates n all below y inside =
      let c = Contains-in set y inside in
      let low : c.0 < n = let lt = c.1 in omega arith in
      let read : slice_index set c.0 ≡ get_or set c.0 y = get_or_from_slice_get set c.0 (get_or set c.0 y) 0 (slice_get-get_or set c.0 y c.1) in
      subst (IsUpdate s) (read ∙ c.2) (below c.0 low)

  pub no_update_at : (n : ℕ) → n < length set → is_running_update s (slice_index set n) ≡ false → IsTrue false ↔ AreUpdates s set
  no_update_at n low is = (
    (λ h. absurd (false≢true h)),
    (λ are. absurd (false≢true (sym is ∙ are (slice_index set n) (in-Contains set (slice_index set n) (Contains-get_or set n 0 low))))),
  )

  -- ---- conflicts
  pub in_conflict : (r : Reason) → IsFirstConflict s set (Some r) → IsFine s set → ⊥
  in_conflict (Kept y x) first fine = fine.none_kept y first.update.holds
  in_conflict (NotOverwritten y v) first fine = fine.all_overwritten y first.first.update.holds
  in_conflict (Cycle steps) none fine = none

  -- without one, the order decides
  module _ (order : List ℕ) (updates : AreUpdates s set) where
    plan_from : IsFirstConflict s set None → IsOrderBy s (StandsBefore s set) order → IsFinePlan s set order
    plan_from none ordered = record {
      updates = updates;
      fine = record { none_kept = none.0; all_overwritten = none.1; acyclic = acyclic s (StandsBefore s set) order ordered };
      ordered = ordered;
    }

    pub fine_without : IsFirstConflict s set None → (answer : Bool) → IsTrue answer ↔ IsOrderBy s (StandsBefore s set) order → IsTrue answer ↔ IsFinePlan s set order
    fine_without none answer so = ((λ h. plan_from none (so.0 h)), (λ plan. so.1 plan.ordered))

    pub not_fine_if : (r : Option Reason) (x : Reason) → IsFirstConflict s set r → r ≡ Some x → IsTrue false ↔ IsFinePlan s set order
    not_fine_if None x none is = absurd (cc)
    not_fine_if (Some r) x first is = ((λ h. absurd (false≢true h)), (λ plan. absurd (in_conflict r first plan.fine)))

-- a plan of other numbers is none
pub not_of_updates : (s : System) (set order : List ℕ) (r : Bool) → r ≡ false → IsTrue r ↔ AreUpdates s set → IsTrue false ↔ IsFinePlan s set order
not_of_updates s set order r is so = ((λ h. absurd (false≢true h)), (λ plan. absurd (false≢true (sym is ∙ so.1 plan.updates))))

-- a number that no equation has is none of an update
pub not_there : (s : System) (x : ℕ) → length s.equations ≤ x → is_running_update s x ≡ false
not_there s x past = ap (λ e. runs s x && is_update_at e) (slice_get_past s.equations x past) ∙ and-false (runs s x)
