-- The lines that count for a system are those that it hears.
use Rattle.std.proofs.Common.{◌≡◌, ◌==◌, ℕ, true, false, ◌&&◌, List, [], ◌∷◌, Option, Some, None, refl, sym, ap, ◌∙◌, inl, inr}
use Rattle.std.proofs.lemmas.Bool.{and_left, and_right, cases_Bool, eqb-true}
use Rattle.std.proofs.Math.Bool.{true≢false}
use Rattle.std.specs.Prelude.{IsTrue, if◌then◌else◌}
use Rattle.std.specs.Option.{option_or}
use Rattle.tsl_value.specs.declared.scalar.Scalar.{Scalar}
use Rattle.tsl_value.specs.View.{Plain}
use Rattle.tsl_value.proofs.Lists.{with_first, without_first}
use Rattle.flat_core.specs.Line.{Line, event_in, inputs_of}
use Rattle.flat_core.specs.System.{System, runs}
use Rattle.event_why.specs.inner.Sliced.{is_of_running, is_heard, heard}

-- ---- what is heard
module _ (f : System) (i u : ℕ) (run : IsTrue (runs f i)) where
  -- an event of i is
  heard_event : (e : ℕ × Scalar) → (e.0 == i) ≡ true → is_of_running f (Some e) ≡ true
  heard_event e itself = ap (runs f) (eqb-true e.0 i itself) ∙ run

  no_event : (time : ℕ) (e : ℕ × Scalar) → ((time == u) && (e.0 == i)) ≡ false → event_in i u time (Some e) ≡ None
  no_event time e other = ap (λ b. if b then Some (Plain e.1) else None) other

  not_heard : (time : ℕ) (e : Option (ℕ × Scalar)) → is_of_running f e ≡ false → event_in i u time e ≡ None
  not_heard time None fails = refl
  not_heard time (Some e) fails = elim (cases_Bool (time == u)) [
    | inr other ↦ no_event time e (and_left (time == u) (e.0 == i) other)
    | inl now ↦ elim (cases_Bool (e.0 == i)) [
      | inr other ↦ no_event time e (and_right (time == u) (e.0 == i) other)
      | inl itself ↦ absurd (true≢false (sym (heard_event e itself) ∙ fails))
    ]
  ]

  pub heard_at : (lines : List Line) → inputs_of (heard f lines) i u ≡ inputs_of lines i u
  heard_at [] = refl
  heard_at (l ∷ ls) = elim (cases_Bool (is_heard f l)) [
    | inl passes ↦ ap (λ xs. inputs_of xs i u) (with_first (is_heard f) l ls passes) ∙ ap (option_or (event_in i u l.time l.event)) (heard_at ls)
    | inr fails ↦
        ap (λ xs. inputs_of xs i u) (without_first (is_heard f) l ls fails) ∙ heard_at ls
        ∙ sym (ap (λ x. option_or x (inputs_of ls i u)) (not_heard l.time l.event fails))
  ]
