-- From instant to instant, in drafts that tell of streams.
use Rattle.std.proofs.Common.{◌≡◌, ℕ, suc, ◌<◌, ◌≤◌, ◌^◌, false, List, length, Option, Some, None, refl, sym, subst, inl, inr, arith}
use Rattle.std.proofs.lemmas.Bool.{cases_lt, true≢false}
use Rattle.std.specs.Prelude.{IsTrue}
use Rattle.lift_func.specs.declared.fault.FaultKind.{FaultKind}
use Rattle.flat_core.specs.Case.{Streams}
use Rattle.flat_core.specs.Events.{Inputs}
use Rattle.flat_core.specs.Line.{Line, inputs_of}
use Rattle.flat_core.specs.Solution.{Solves}
use Rattle.flat_core.specs.System.{System, runs}
use Rattle.flat_core.proofs.SmallerBound.{solves_less}
use Rattle.flat_core.proofs.TypedEvents.{inputs_typed}
use Rattle.flat_core.proofs.WellFormedOrder.{ranked_solution}
use Rattle.flat_core.proofs.WellFormedRank.{rank_of, well_formed_ranked}
use Rattle.plain_solver.specs.declared.events.Outcome as code
use Rattle.plain_solver.specs.inner.Instant.{IsFirstRoot}
use Rattle.plain_solver.specs.inner.Next.{IsFirst}
use Rattle.event_why.specs.declared.draft.Draft.{Draft}
use Rattle.event_why.specs.declared.instants.Story.{Story}
use Rattle.event_why.specs.inner.Coming.{IsPlaceFrom, is_next_by}
use Rattle.event_why.specs.inner.Course.{ComesNext, GoesOn, IsSetting, IsTold}
use Rattle.event_why.specs.inner.Drafted.{IsBlank}
use Rattle.event_why.specs.inner.Found.{IsClean}
use Rattle.event_why.specs.inner.Pruned.{IsPruned}
use Rattle.event_why.specs.inner.Row.{CanRun, IsRow}
use Rattle.event_why.specs.inner.Tale.{IsCalm, IsOver, IsStory, IsUpTo, Tale, always, tale_of}
use Rattle.event_why.proofs.ComingLemmas.{all_clean, all_quiet}
use Rattle.event_why.proofs.RunLemmas.{at_pruned, blank_at, draft_of, forget}
use Rattle.event_why.proofs.StoryLemmas.{at_bound, clean_more, first_named, none_faulty, story_of, typed_below}

-- ---- before an instant
pub pruned_up_to : (T : Tale) (n : ℕ) (old mid : Draft) → IsPruned old mid → IsUpTo T n old → IsUpTo T n mid
pruned_up_to T n old mid pruned at = at_pruned T (always n) (always n) old mid (pruned T.system T.system.running T.inputs (draft_of T (always n) (always n) 0 (λ i. false) old at)) at

pub past_gap : (T : Tale) (t : ℕ) → t ≤ T.bound → (n : ℕ) → (n ≡ 0 → t ≡ 0) → (from to : ℕ) → from ≡ n → suc to ≡ t → from ≤ to → IsCalm T n t → (mid next : Draft) → IsUpTo T n mid → (0 < from → from ≤ to → to < T.bound → IsCalm T from (suc to) → IsUpTo T from mid → IsUpTo T (suc to) next) → IsUpTo T t next
past_gap T t early n first from to from_is to_is le calm mid next at gap =
    let calm_here : IsCalm T from (suc to) = subst (λ m. IsCalm T m (suc to)) (sym from_is) (subst (IsCalm T n) (sym to_is) calm) in
    let positive : 0 < from = elim (cases_lt 0 from) [
      | inl more ↦ more
      | inr start ↦ let zero_is = first (omega (arith, from_is, start)) in absurd (omega (arith, zero_is, to_is))
    ] in
    subst (λ m. IsUpTo T m next) to_is
    (gap positive le (omega (arith, early, to_is)) calm_here (subst (λ m. IsUpTo T m mid) (sym from_is) at))

pub past_none : (T : Tale) (t n : ℕ) → t ≤ n → n ≤ t → (mid : Draft) → IsUpTo T n mid → IsUpTo T t mid
past_none T t n none late mid at = let same : n ≡ t = omega (arith, none, late) in subst (λ m. IsUpTo T m mid) same at

-- ---- instants of a setting
-- how far a draft has come
pub record IsReached (story : Story) (lines : List Line) (z : Streams) (bound n : ℕ) (draft : Draft) : Type 0 where
  pub sound : IsClean story.flat.now (inputs_of lines) z n
  pub early : n ≤ bound
  pub up_to : IsUpTo (tale_of story (inputs_of lines) z bound) n draft
  pub over : (t : ℕ) → n ≡ suc t → IsOver (tale_of story (inputs_of lines) z bound) t draft

-- in each solution, and where the first line is that may count
pub record IsGoing (story : Story) (lines : List Line) (bound n place : ℕ) (draft : Draft) : Type 0 where
  pub placed : IsPlaceFrom story.flat.now n lines place
  pub reached : (z : Streams) → Solves story.flat.now (inputs_of lines) bound z → IsReached story lines z bound n draft

module _ (story : Story) (lines : List Line) (setting : IsSetting story lines) (z : Streams) where
  abbrev f : System
  f = story.flat.now

  abbrev p : Inputs
  p = inputs_of lines

  abbrev tale : ℕ → Tale
  tale n = tale_of story p z n

  -- what is told below a time, without a fault, is a story
  pub a_story : (n : ℕ) → n ≤ 2 ^ 63 → Solves f p n z → IsClean f p z n → IsStory (tale n)
  a_story n small solves sound = story_of f p z n setting.whole setting.formed (inputs_typed f lines setting.typed) solves sound small story.order.now setting.ordered story.kept.now setting.kept

  pub story_before : (n t : ℕ) (old : Draft) → ComesNext story p z n t old → IsStory (tale t)
  story_before n t old next = let small = next.small in a_story t (omega (arith, small)) (solves_less f p t (suc t) z (omega arith) next.solves) next.sound

  -- all before an instant is told
  pub can_run : (n t : ℕ) (old new : Draft) → ComesNext story p z n t old → IsUpTo (tale t) t new → CanRun (tale t) f lines t new
  can_run n t old new next up_to = record {
    story = story_before n t old next;
    bound_is = refl;
    system_is = refl;
    solves = next.solves;
    typed = typed_below f p z (suc t) setting.whole setting.formed (inputs_typed f lines setting.typed) next.solves;
    given = λ i run. refl;
    up_to = up_to;
  }

  module _ (bound : ℕ) (small : bound ≤ 2 ^ 63) (solves : Solves f p bound z) where
    pub reached_start : (draft : Draft) → IsBlank (length f.equations) draft → IsReached story lines z bound 0 draft
    reached_start draft blank = record {
      sound = λ u lt. absurd (omega (arith, lt));
      early = omega arith;
      up_to = blank_at (tale bound) draft blank;
      over = λ t is. absurd (omega (arith, is));
    }

    module _ (low : ℕ) (draft : Draft) (r : IsReached story lines z bound low draft) where
      story_low : IsStory (tale low)
      story_low = let le = r.early in a_story low (omega (arith, le, small)) (solves_less f p low bound z le solves) r.sound

      module _ (high : ℕ) (le : high ≤ bound) (none : (u : ℕ) → low ≤ u → u < high → is_next_by f lines draft u ≡ false) where
        calm_until : (i u : ℕ) → IsTrue (runs f i) → low ≤ u → u < high → (z i u ≡ None) × (p i u ≡ None)
        calm_until = all_quiet (tale low) story_low lines setting.formed bound small solves draft low r.up_to.pends high le none

        clean_until : IsClean f p z high
        clean_until u lt = elim (cases_lt u low) [
          | inl before ↦ r.sound u before
          | inr from ↦ all_clean (tale low) story_low lines setting.formed bound small solves draft low r.up_to.pends high le none u from lt
        ]

      pub comes_next : (t : ℕ) → IsFirst (is_next_by f lines draft) low bound (Some t) → ComesNext story p z low t draft
      comes_next t first =
          let late = first.0 in
          let early = first.1 in
          let none = first.3 in
          record {
            solves = solves_less f p (suc t) bound z early solves;
            sound = clean_until t (omega (arith, early)) none;
            small = omega (arith, early, small);
            late = late;
            first = λ start. elim (cases_lt 0 t) [
              | inl positive ↦ absurd (true≢false (none 0 (omega (arith, start)) positive))
              | inr at_start ↦ omega (arith, at_start)
            ];
            calm = calm_until t (omega (arith, early)) none;
            up_to = at_bound (tale bound) t (always low) (always low) 0 (λ i. false) draft r.up_to;
          }

      pub told_all : IsFirst (is_next_by f lines draft) low bound None → IsTold story p z bound low draft
      told_all none = record {
        sound = clean_until bound (omega arith) none;
        early = r.early;
        up_to = r.up_to;
        over = r.over;
        calm = calm_until bound (omega arith) none;
      }

    pub reached_next : (old new : Draft) (n t : ℕ) → t < bound → ComesNext story p z n t old → GoesOn story p z t new None → IsReached story lines z bound (suc t) new
    reached_next old new n t early next goes =
        let over = at_bound (tale (suc t)) bound (always (suc t)) (always (suc t)) t (runs f) new goes.1 in
        record {
          sound = clean_more f p z t next.sound goes.0;
          early = early;
          up_to = forget (tale bound) (always (suc t)) (always (suc t)) t 0 (runs f) new over;
          over = λ u is. let same : t ≡ u = omega (arith, is) in subst (λ v. IsOver (tale bound) v new) same over;
        }

  -- ---- one instant
  module _ (n t : ℕ) (old : Draft) (next : ComesNext story p z n t old) where
    -- a row for one bound is one for another
    pub row_after : (row : List (Option code.Outcome)) → IsRow (tale t) t row → IsRow (tale (suc t)) t row
    row_after row is = record { one_each = is.one_each; here = is.here }

    -- its first root fault is the one that is named, and without one all goes on
    pub goes : (mid new : Draft) (root : Option (ℕ × FaultKind)) → IsFirstRoot f p z t root → IsUpTo (tale t) t mid → (root ≡ None → IsStory (tale (suc t)) → IsUpTo (tale (suc t)) t mid → IsOver (tale (suc t)) t new) → GoesOn story p z t new root
    goes mid new (Some root) first up_to puts = first_named f p z t next.sound root first
    goes mid new None first up_to puts =
        let here = none_faulty f p z t first in
        let a_next = a_story (suc t) next.small next.solves (clean_more f p z t next.sound here) in
        (here, puts refl a_next (at_bound (tale t) (suc t) (always t) (always t) 0 (λ i. false) mid up_to))

-- there is a solution
pub one_solution : (story : Story) (lines : List Line) → IsSetting story lines → (bound : ℕ) → (z : Streams) × Solves story.flat.now (inputs_of lines) bound z
one_solution story lines setting bound =
    let f = story.flat.now in
    ranked_solution f (rank_of f setting.formed) setting.whole.proper (well_formed_ranked f setting.formed) (inputs_of lines) bound
