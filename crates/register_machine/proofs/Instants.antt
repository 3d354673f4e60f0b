-- The instants of a solution are times one after another, with nothing between them.
use Rattle.std.proofs.Common.{◌≡◌, ℕ, zero, suc, ◌<◌, ◌≤◌, Bool, true, false, List, [], ◌∷◌, ◌++◌, None, refl, sym, subst, inl, inr, append-nil, arith}
use Rattle.std.specs.Prelude.{if◌then◌else◌}
use Rattle.std.proofs.lemmas.Bool.{cases_lt}
use Rattle.flat_core.specs.inner.BoundLaws.{HappensAtInstants}
use Rattle.flat_core.specs.Case.{Streams}
use Rattle.flat_core.specs.Fault.{is_faulty}
use Rattle.flat_core.specs.Instant.{is_instant, instants}
use Rattle.flat_core.specs.Line.{Line, inputs_of}
use Rattle.flat_core.specs.System.{System}
use Rattle.register_machine.specs.Run.{Plan}
use Rattle.register_machine.proofs.Safety.{Course, IsQuiet, IsSpaced, time_after}

module _ (s : System) (plan : Plan) (lines : List Line) (z : Streams) (bound : ℕ) (course : Course s plan (inputs_of lines) z bound) (silence : HappensAtInstants s lines bound z) where
  Spaced : ℕ → List ℕ → Type 0
  Spaced u times = IsSpaced s plan (inputs_of lines) z bound course u times

  After : ℕ → List ℕ → ℕ
  After u times = time_after s plan (inputs_of lines) z bound course u times

  spaced_append : (xs : List ℕ) (u t : ℕ) → Spaced u xs → After u xs ≤ t → t < bound → IsQuiet s (inputs_of lines) z (After u xs) t → Spaced u (xs ++ t ∷ [])
  unfolding Spaced After
  spaced_append [] u t spaced le lt quiet = (le, lt, quiet, tt)
  spaced_append (x ∷ xs) u t spaced le lt quiet = (spaced.0, spaced.1, spaced.2, spaced_append xs (suc x) t spaced.3 le lt quiet)

  after_append : (xs : List ℕ) (u t : ℕ) → After u (xs ++ t ∷ []) ≡ suc t
  unfolding After
  after_append [] u t = refl
  after_append (x ∷ xs) u t = after_append xs (suc x) t

  -- the instants below t, and nothing from the last of them on
  pub record SoFar (t : ℕ) (times : List ℕ) : Type 0 where
    pub spaced : IsSpaced s plan (inputs_of lines) z bound course 0 times
    pub low : time_after s plan (inputs_of lines) z bound course 0 times ≤ t
    pub quiet : IsQuiet s (inputs_of lines) z (time_after s plan (inputs_of lines) z bound course 0 times) t

  quiet_on : (u t : ℕ) → t < bound → is_instant s lines z t ≡ false → IsQuiet s (inputs_of lines) z u t → IsQuiet s (inputs_of lines) z u (suc t)
  quiet_on u t lt none before = record {
    silent = λ x run w above below. elim (cases_lt w t) [
      | inl earlier ↦ before.silent x run w above earlier
      | inr here ↦ let same : t ≡ w = omega arith in subst (λ n. z x n ≡ None) same (silence.silent t lt none x run)
    ];
    sound = λ w above below. elim (cases_lt w t) [
      | inl earlier ↦ before.sound w above earlier
      | inr here ↦ let same : t ≡ w = omega arith in subst (λ n. is_faulty s (inputs_of lines) z n ≡ false) same (silence.sound t lt none)
    ];
  }

  quiet_none : (u t : ℕ) → t ≤ u → IsQuiet s (inputs_of lines) z u t
  quiet_none u t le = record { silent = λ x run w above below. absurd (omega arith); sound = λ w above below. absurd (omega arith) }

  pub so_far : (t : ℕ) → t ≤ bound → SoFar t (instants s lines z t)
  unfolding Spaced After
  so_far zero le = record { spaced = tt; low = omega arith; quiet = quiet_none 0 0 (omega arith) }
  so_far (suc t) le = go (so_far t (omega arith)) (is_instant s lines z t) refl
    where
      go : SoFar t (instants s lines z t) → (b : Bool) → is_instant s lines z t ≡ b → SoFar (suc t) (instants s lines z t ++ (if is_instant s lines z t then t ∷ [] else []))
      go before true is = subst (λ b. SoFar (suc t) (instants s lines z t ++ (if b then t ∷ [] else []))) (sym is) (record {
        spaced = spaced_append (instants s lines z t) 0 t before.spaced before.low (omega arith) before.quiet;
        low = let e = after_append (instants s lines z t) 0 t in omega arith;
        quiet = subst (λ n. IsQuiet s (inputs_of lines) z n (suc t)) (sym (after_append (instants s lines z t) 0 t)) (quiet_none (suc t) (suc t) (omega arith));
      })
      go before false is = subst (λ b. SoFar (suc t) (instants s lines z t ++ (if b then t ∷ [] else []))) (sym is) (subst (SoFar (suc t)) (sym (append-nil (instants s lines z t))) (record {
        spaced = before.spaced;
        low = let low_before = before.low in omega arith;
        quiet = quiet_on (time_after s plan (inputs_of lines) z bound course 0 (instants s lines z t)) t (omega arith) is before.quiet;
      }))
