-- What stands for an equation has its outcome, up to the fault time.
use Rattle.std.proofs.Common.{◌≡◌, ℕ, zero, suc, ◌+◌, ◌<◌, ◌≤◌, Bool, true, false, ◌||◌, List, [], ◌∷◌, map, Option, Some, None, Ok, refl, sym, ap, subst, ◌∙◌, inl, inr, arith}
use Rattle.std.specs.Prelude.{IsTrue, IsFalse, if◌then◌else◌}
use Rattle.std.specs.List.{AllByRecursion, list_any}
use Rattle.std.proofs.lemmas.Bool.{cases_lt, or_parts, false≢true, true≢false}
use Rattle.std.proofs.lemmas.Option.{same_Some}
use Rattle.flat_core.specs.declared.equation.Equation.{Equation}
use Rattle.flat_core.specs.Stream.{Outcome, Event, Fault, event, has_event, is_fault}
use Rattle.flat_core.specs.Case.{Streams, own, own_of, used_of, is_blocked}
use Rattle.flat_core.specs.Events.{Inputs, merged, outcome_of}
use Rattle.flat_core.specs.Fault.{is_faulty}
use Rattle.flat_core.specs.System.{System, runs, equation}
use Rattle.flat_core.proofs.Locality.{AgreeBefore, case_of-same}
use Rattle.flat_core.proofs.Uniqueness.{all_by, all_used, all_with, used_all}
use Rattle.flat_core.proofs.WellFormedRank.{rank_of, well_formed_ranked}
use Rattle.trigger_rules.specs.inner.Firing.{IsUpToFault}
use Rattle.trigger_rules.proofs.Times.{all_are_clear, implied}
use Rattle.flat_simplify.specs.Replaced.{StandsFor, itself, through}
use Rattle.flat_core.specs.Renumbered.{new_number, with_new_args}
use Rattle.flat_simplify.specs.inner.Solved.{AreSolved, IsSoundBefore}
use Rattle.flat_simplify.specs.inner.Laws.{IsFit, KeepsStreams}
use Rattle.flat_simplify.proofs.Fit.{new_equation, arguments_run, simplified_fit}
use Rattle.flat_simplify.proofs.Renumbered.{case_moved}
use Rattle.flat_simplify.proofs.Stands.{merged_run, replaced_falls, new_stands_at, new_is}

-- a merge with a second argument that has an event only where the first has one
merged_is : (p q o : Option Outcome) → o ≡ (if (is_fault p || (is_fault q || false)) then Some Fault else outcome_of (Ok (merged (event p) (event q)))) → is_fault o ≡ false → (is_fault p ≡ false → IsTrue (has_event q) → IsTrue (has_event p)) → (is_fault p ≡ false) × (o ≡ p)
merged_is None None o is clear implies = (refl, is)
merged_is None (Some (Event v)) o is clear implies = absurd (false≢true (implies refl refl))
merged_is None (Some Fault) o is clear implies = absurd (true≢false (sym (ap is_fault is) ∙ clear))
merged_is (Some (Event v)) None o is clear implies = (refl, is)
merged_is (Some (Event v)) (Some (Event x)) o is clear implies = (refl, is)
merged_is (Some (Event v)) (Some Fault) o is clear implies = absurd (true≢false (sym (ap is_fault is) ∙ clear))
merged_is (Some Fault) q o is clear implies = absurd (true≢false (sym (ap is_fault is) ∙ clear))

unblocked : (b : Bool) (o rest : Option Outcome) → o ≡ (if b then Some Fault else rest) → is_fault o ≡ false → b ≡ false
unblocked true o rest is clear = absurd (true≢false (sym (ap is_fault is) ∙ clear))
unblocked false o rest is clear = refl

-- where none of some equations is Fault, each is not
pub all_clear : (z : Streams) (t : ℕ) (args : List ℕ) → list_any (λ a. is_fault (z a t)) args ≡ false → AllByRecursion (λ a. is_fault (z a t) ≡ false) args
all_clear z t [] none = tt
all_clear z t (a ∷ args) none = let parts = or_parts (is_fault (z a t)) (list_any (λ b. is_fault (z b t)) args) none in (parts.0, all_clear z t args parts.1)

all_back : (f : ℕ → ℕ) (P : ℕ → Type 0) (xs : List ℕ) → AllByRecursion P (map f xs) → AllByRecursion (λ x. P (f x)) xs
all_back f P [] all = tt
all_back f P (x ∷ xs) all = (all.0, all_back f P xs all.1)

module _ (s u : System) (inputs : Inputs) (bound : ℕ) (z w : Streams) (both : AreSolved s u inputs bound z w) where
  abbrev pub new : ℕ → ℕ
  new = new_number both.simplified.replaced

  -- the streams of what stands for each
  abbrev pub v : Streams
  v x = w (new x)

  abbrev rank : ℕ → ℕ
  rank = rank_of s both.well_formed

  pub up_to : (t : ℕ) → t < bound → IsSoundBefore s inputs z t → IsUpToFault s inputs bound z t
  up_to t lt sound = record { proper = both.proper; typed = both.typed; rank = rank; ranked = well_formed_ranked s both.well_formed; solves = both.solves; typed_inputs = both.typed_inputs; below = lt; sound = sound }

  pub fit : IsFit s u
  fit = simplified_fit s u both.proper both.typed both.well_formed both.outputs_run both.simplified

  -- it ran, and what stands for it runs
  abbrev pub Keeps : ℕ → Type 0
  Keeps x = IsTrue (runs s x) × IsTrue (runs u (new x))

  pub new_for : (x : ℕ) → IsTrue (runs s x) → StandsFor s x (new x)
  new_for x run = let found = both.proper.runs_all x run in new_stands_at s both.simplified.replaced both.simplified.replacement x found.0 found.1

  pub new_equation_at : (x : ℕ) (e : Equation) → equation s x ≡ Some e → equation u x ≡ Some (with_new_args both.simplified.replaced e)
  new_equation_at = new_equation s u both.proper both.typed both.well_formed both.outputs_run both.simplified.replaced both.simplified.replacement both.simplified.renumbered

  -- so it is with the arguments of an equation that runs after
  pub arguments_keep : (x : ℕ) (e : Equation) → equation s x ≡ Some e → IsTrue (runs s x) → IsTrue (runs u x) → AllByRecursion Keeps e.args
  arguments_keep x e is run after =
      let found = both.proper.runs_all x run in
      let same : found.0 ≡ e = same_Some found.0 e (sym found.1 ∙ is) in
      let old = subst (λ f. AllByRecursion (λ a. IsTrue (runs s a)) f.args) same found.2 in
      let later = arguments_run s u both.proper both.typed both.well_formed both.outputs_run both.simplified.replaced both.simplified.replacement both.simplified.renumbered x (with_new_args both.simplified.replaced e) after (new_equation_at x e is) in
      all_with (λ a. IsTrue (runs s a)) (λ a. IsTrue (runs u (new a))) Keeps (λ a p q. (p, q)) e.args old (all_back new (λ a. IsTrue (runs u a)) e.args later)

  module _ (t : ℕ) (lt : t < bound) (sound : IsSoundBefore s inputs z t) (past : (x : ℕ) → Keeps x → AgreeBefore (v x) (z x) t) where
    abbrev IsClear : ℕ → Type 0
    IsClear a = is_fault (z a t) ≡ false

    kept_by_rank : (k x : ℕ) → rank x < k → (j : ℕ) → StandsFor s x j → IsTrue (runs s x) → IsTrue (runs u j) → IsClear x → w j t ≡ z x t
    kept_by_rank zero x low j stands run after clear = absurd (omega arith)
    kept_by_rank (suc k) x low j (itself none) run after clear =
        let found = both.proper.runs_all x run in
        let e = found.0 in
        let self : new x ≡ x = new_is s both.simplified.replaced both.simplified.replacement x x e found.1 (itself none) in
        let keep = arguments_keep x e found.1 run after in
        let here = both.solves.each x e run found.1 t lt in
        let used : List ℕ = used_of e.op e.args in
        let clear_args = all_clear z t used (unblocked (is_blocked z e t) (z x t) (outcome_of (own inputs z x e t)) here clear) in
        let falls = all_used (λ a. rank a < rank x) e.op e.args ((well_formed_ranked s both.well_formed).falls x e run found.1) in
        let gives = all_with (λ a. rank a < rank x) Keeps (λ a. IsClear a → v a t ≡ z a t) (λ a less keeps clear_a. kept_by_rank k a (omega arith) (new a) (new_for a keeps.0) keeps.0 keeps.1 clear_a) used falls (used_all Keeps e.op e.args keep) in
        let now = all_with IsClear (λ a. IsClear a → v a t ≡ z a t) (λ a. v a t ≡ z a t) (λ a clear_a given. given clear_a) used clear_args gives in
        let before = all_by Keeps (λ a. AgreeBefore (v a) (z a) t) past e.args keep in
        both.solves_simplified.each x (with_new_args both.simplified.replaced e) after (new_equation_at x e found.1) t lt
        ∙ case_moved new inputs w x t self e
        ∙ case_of-same inputs v z x t e (past x (run, subst (λ n. IsTrue (runs u n)) (sym self) after)) before now
        ∙ sym here
    kept_by_rank (suc k) x low j (through {a = a} r rest) run after clear =
        let running = merged_run s both.proper x a r in
        let here = both.solves.each x r.at r.running r.is t lt in
        let case : z x t ≡ (if (is_fault (z a t) || (is_fault (z r.other t) || false)) then Some Fault else outcome_of (Ok (merged (event (z a t)) (event (z r.other t))))) =
        here ∙ (λ i. if list_any (λ b. is_fault (z b t)) (used_of (r.merges i) (r.args_are i)) then Some Fault else outcome_of (own_of inputs z x (r.merges i) (r.args_are i) r.at.of t)) in
        let it = merged_is (z a t) (z r.other t) (z x t) case clear (λ clear_a has. implied s inputs bound z t (up_to t lt sound) r.other a running.1 running.0 r.implied clear_a has) in
        let less = replaced_falls s both.well_formed x a r in
        kept_by_rank k a (omega arith) j rest running.0 after it.0 ∙ sym it.1

  -- before each time up to the fault time
  pub kept_before : (t : ℕ) → t ≤ bound → IsSoundBefore s inputs z t → (x : ℕ) → Keeps x → AgreeBefore (v x) (z x) t
  kept_before zero le sound x keeps n lt = absurd (omega arith)
  kept_before (suc t) le sound x keeps n lt =
      let earlier : IsSoundBefore s inputs z t = λ m less. sound m (omega arith) in
      let past = kept_before t (omega arith) earlier in
      elim (cases_lt n t) [
        | inl before ↦ past x keeps n before
        | inr here ↦
            let same : t ≡ n = omega arith in
            let clear = all_are_clear s inputs bound z t (up_to t (omega arith) earlier) (sound t (omega arith)) x keeps.0 in
            subst (λ m. v x m ≡ z x m) same (kept_by_rank t (omega arith) earlier past (suc (rank x)) x (omega arith) (new x) (new_for x keeps.0) keeps.0 keeps.1 clear)
      ]

  -- at a time that has no root fault either
  pub sound_kept : (t : ℕ) → t < bound → IsSoundBefore s inputs z t → is_faulty s inputs z t ≡ false → (x : ℕ) → Keeps x → v x t ≡ z x t
  sound_kept t lt sound none x keeps = kept_by_rank t lt sound (kept_before t (omega arith) sound) (suc (rank x)) x (omega arith) (new x) (new_for x keeps.0) keeps.0 keeps.1 (all_are_clear s inputs bound z t (up_to t lt sound) none x keeps.0)

  pub kept : (t : ℕ) → t < bound → IsSoundBefore s inputs z t → (x j : ℕ) → IsTrue (runs s x) → StandsFor s x j → IsTrue (runs u j) → IsFalse (is_fault (z x t)) → w j t ≡ z x t
  kept t lt sound x j run stands after clear = kept_by_rank t lt sound (kept_before t (omega arith) sound) (suc (rank x)) x (omega arith) j stands run after clear

  below : (t : ℕ) → t < bound → IsSoundBefore s inputs z (t + 1) → (x j : ℕ) → IsTrue (runs s x) → StandsFor s x j → IsTrue (runs u j) → w j t ≡ z x t
  below t lt sound x j run stands after =
      let earlier : IsSoundBefore s inputs z t = λ m less. sound m (omega arith) in
      kept t lt earlier x j run stands after (all_are_clear s inputs bound z t (up_to t lt earlier) (sound t (omega arith)) x run)

  pub keeps_streams : KeepsStreams s u inputs bound z w
  keeps_streams = record { same = kept; same_below = below }
