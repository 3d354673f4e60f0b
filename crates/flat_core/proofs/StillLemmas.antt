-- Where nothing happens, what is looked back to stays.
use Rattle.std.proofs.Common.{◌≡◌, ◌==◌, ℕ, zero, suc, ◌<◌, ◌≤◌, true, false, ◌&&◌, ◌||◌, List, [], ◌∷◌, Option, Some, None, refl, sym, ap, ◌∙◌, inl, inr, arith}
use Rattle.std.specs.Prelude.{if◌then◌else◌, is_some}
use Rattle.std.specs.Option.{option_or}
use Rattle.std.proofs.lemmas.Bool.{cases_Bool, cases_lt, or_parts, true≢false}
use Rattle.tsl_value.specs.View.{Plain}
use Rattle.tsl_value.specs.declared.scalar.Scalar.{Scalar}
use Rattle.flat_core.specs.Stream.{History, event, has_event, latest}
use Rattle.flat_core.specs.Line.{Line, event_in, inputs_of, is_line_at, is_line_on}
use Rattle.flat_core.specs.Pending.{reached, pending}

-- where neither the reset nor the delay has an event, what is pending stays
pub pending_still : (amount reset delay : History) (n m : ℕ) → n ≤ m → ((u : ℕ) → n ≤ u → u < m → (reset u ≡ None) × (delay u ≡ None)) → pending amount reset delay m ≡ pending amount reset delay n
pending_still amount reset delay n zero le still = let same : zero ≡ n = omega arith in ap (pending amount reset delay) same
pending_still amount reset delay n (suc m) le still = elim (cases_lt m n) [
  | inl end ↦ let same : suc m ≡ n = omega arith in ap (pending amount reset delay) same
  | inr more ↦
      let here = still m more (omega arith) in
      (λ k. if has_event (here.0 k) || has_event (here.1 k) then reached m (event (amount m)) else pending amount reset delay m)
      ∙ pending_still amount reset delay n m more (λ u low lt. still u low (omega arith))
]

pub latest_still : (h : History) (n m : ℕ) → n ≤ m → ((u : ℕ) → n ≤ u → u < m → h u ≡ None) → latest h m ≡ latest h n
latest_still h n zero le still = let same : zero ≡ n = omega arith in ap (latest h) same
latest_still h n (suc m) le still = elim (cases_lt m n) [
  | inl end ↦ let same : suc m ≡ n = omega arith in ap (latest h) same
  | inr more ↦ (λ k. option_or (event (still m more (omega arith) k)) (latest h m)) ∙ latest_still h n m more (λ u low lt. still u low (omega arith))
]

-- a line without an event at a time gives no input one
pub no_event_on : (i u time : ℕ) (e : Option (ℕ × Scalar)) → ((time == u) && is_some e) ≡ false → event_in i u time e ≡ None
no_event_on i u time None h = refl
no_event_on i u time (Some e) h = elim (cases_Bool (time == u)) [
  | inl here ↦ absurd (true≢false (sym (λ k. here k && true) ∙ h))
  | inr past ↦ λ k. if past k && (e.0 == i) then Some (Plain e.1) else None
]

pub no_input : (lines : List Line) (i u : ℕ) → is_line_on u lines ≡ false → inputs_of lines i u ≡ None
no_input [] i u h = refl
no_input (l ∷ ls) i u h =
    let parts = or_parts (is_line_at u l) (is_line_on u ls) h in
    (λ k. option_or (no_event_on i u l.time l.event parts.0 k) (inputs_of ls i u)) ∙ no_input ls i u parts.1
