-- Lines without an event say nothing to a system.
use Rattle.std.proofs.Common.{◌≡◌, ◌==◌, ℕ, zero, suc, Bool, true, false, ◌&&◌, ◌||◌, if◌then◌else◌, List, [], ◌∷◌, ◌++◌, refl, sym, ◌∙◌, ap, subst, inl, inr, is_some}
use Rattle.std.proofs.lemmas.Bool.{cases_Bool}
use Rattle.std.specs.List.{list_any}
use Rattle.std.specs.Option.{option_or}
use Rattle.std.proofs.Math.Bool.{and-false}
use Rattle.flat_core.specs.inner.BoundLaws.{HappensAlike}
use Rattle.flat_core.specs.Case.{Streams}
use Rattle.flat_core.specs.Fault.{root_at, is_faulty, is_over, IsNamed}
use Rattle.flat_core.specs.Instant.{is_delay, is_instant, instants}
use Rattle.flat_core.specs.Line.{Line, event_in, inputs_of, is_line_at, is_line_on}
use Rattle.flat_core.specs.Solution.{Solves}
use Rattle.flat_core.specs.Stream.{has_event}
use Rattle.flat_core.specs.System.{System, equation}
use Rattle.flat_core.proofs.StillLemmas.{no_event_on}
use Rattle.trace_monitor.specs.inner.Kept.{events_of}

not_on : (t : ℕ) (l : Line) → is_some l.event ≡ false → is_line_at t l ≡ false
not_on t l none = ap (λ b. (l.time == t) && b) none ∙ and-false (l.time == t)

pub events_inputs : (ls : List Line) (i t : ℕ) → inputs_of (events_of ls) i t ≡ inputs_of ls i t
events_inputs [] i t = refl
events_inputs (l ∷ ls) i t = elim (cases_Bool (is_some l.event)) [
  | inl some ↦ (λ k. inputs_of (if some k then l ∷ events_of ls else events_of ls) i t) ∙ ap (λ o. option_or (event_in i t l.time l.event) o) (events_inputs ls i t)
  | inr none ↦ (λ k. inputs_of (if none k then l ∷ events_of ls else events_of ls) i t) ∙ events_inputs ls i t ∙ sym (ap (λ o. option_or o (inputs_of ls i t)) (no_event_on i t l.time l.event (not_on t l none)))
]

pub events_on : (ls : List Line) (t : ℕ) → is_line_on t (events_of ls) ≡ is_line_on t ls
events_on [] t = refl
events_on (l ∷ ls) t = elim (cases_Bool (is_some l.event)) [
  | inl some ↦ (λ k. is_line_on t (if some k then l ∷ events_of ls else events_of ls)) ∙ ap (λ b. is_line_at t l || b) (events_on ls t)
  | inr none ↦ (λ k. is_line_on t (if none k then l ∷ events_of ls else events_of ls)) ∙ events_on ls t ∙ sym (ap (λ b. b || is_line_on t ls) (not_on t l none))
]

pub same_inputs : (ls : List Line) → inputs_of (events_of ls) ≡ inputs_of ls
same_inputs ls = λ k i t. events_inputs ls i t k

module _ (s : System) (ls : List Line) (z : Streams) where
  same_instant : (t : ℕ) → is_instant s (events_of ls) z t ≡ is_instant s ls z t
  same_instant t = ap (λ b. (t == 0) || b || list_any (λ i. is_delay (equation s i) && has_event (z i t)) s.running) (events_on ls t)

  same_instants : (n : ℕ) → instants s (events_of ls) z n ≡ instants s ls z n
  same_instants zero = refl
  same_instants (suc t) = λ k. same_instants t k ++ (if same_instant t k then t ∷ [] else [])

  pub events_alike : (bound : ℕ) → HappensAlike s bound (events_of ls) z ls z
  events_alike bound = record {
    instants_same = λ n le. same_instants n;
    root_same = λ t i lt run k. root_at s (same_inputs ls k) z t i;
    faulty_same = λ t lt k. is_faulty s (same_inputs ls k) z t;
    over_same = λ t lt k. is_over s (same_inputs ls k) z t;
    named_same = λ t i kind lt. (subst (λ f. IsNamed s f z t i kind) (same_inputs ls), subst (λ f. IsNamed s f z t i kind) (sym (same_inputs ls)));
  }

  pub events_solve : (bound : ℕ) → Solves s (inputs_of ls) bound z → Solves s (inputs_of (events_of ls)) bound z
  events_solve bound = subst (λ f. Solves s f bound z) (sym (same_inputs ls))
