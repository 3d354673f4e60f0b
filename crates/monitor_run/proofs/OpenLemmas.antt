-- Lines that are kept from some time on, in whatever order, have the same events as all lines have from then on.
use Rattle.std.proofs.Common.{◌≡◌, ◌==◌, ℕ, ◌≤◌, Bool, true, false, ◌&&◌, List, [], ◌∷◌, Contains, Option, Some, None, is_some, refl, sym, ap, ◌∙◌, inl, inr, arith}
use Rattle.std.specs.Prelude.{if◌then◌else◌}
use Rattle.std.proofs.lemmas.Bool.{and_parts, eq-eqb, eqb-true, false≢true, or_cases, or_left, or_right}
use Rattle.std.specs.Option.{option_or}
use Rattle.tsl_value.specs.declared.scalar.Scalar.{Scalar}
use Rattle.tsl_value.specs.View.{View, Plain}
use Rattle.tsl_value.proofs.Lists.{cons_cases, later, none_in_nil}
use Rattle.flat_core.specs.Line.{Line, event_in, inputs_of, is_line_at, is_line_on}
use Rattle.monitor_run.specs.inner.Given.{AreOnce, line_of}

-- ---- an event that is found

event_some : (i u time : ℕ) (e : Option (ℕ × Scalar)) (v : View) → event_in i u time e ≡ Some v → (s : Scalar) × (time ≡ u) × (e ≡ Some (i, s)) × (v ≡ Plain s)
event_some i u time None v is = absurd (cc)
event_some i u time (Some (j, s)) v is = from (time == u) (j == i) refl refl is
  where
    from : (a b : Bool) → (time == u) ≡ a → (j == i) ≡ b → (if a && b then Some (Plain s) else None) ≡ Some v
        → (x : Scalar) × (time ≡ u) × (◌≡◌ {A = Option (ℕ × Scalar)} (Some (j, s)) (Some (i, x))) × (v ≡ Plain x)
    from true true at same found = (s, eqb-true time u at, ap (λ k. Some (k, s)) (eqb-true j i same), cc)
    from true false at other found = absurd (cc)
    from false b other same found = absurd (cc)

here_or_later : (i u : ℕ) (l : Line) (lines : List Line) (v : View) → inputs_of (l ∷ lines) i u ≡ Some v
    → ((a : Option View) → event_in i u l.time l.event ≡ a → option_or a (inputs_of lines i u) ≡ Some v → (s : Scalar) × Contains (l ∷ lines) (line_of u i s) × (v ≡ Plain s))
    → (s : Scalar) × Contains (l ∷ lines) (line_of u i s) × (v ≡ Plain s)
here_or_later i u l lines v is go = go (event_in i u l.time l.event) refl is

some_same : {A : Type 0} {a b : A} → Some a ≡ Some b → a ≡ b
some_same e = cc

pub input_in : (i u : ℕ) (lines : List Line) (v : View) → inputs_of lines i u ≡ Some v → (s : Scalar) × Contains lines (line_of u i s) × (v ≡ Plain s)
input_in i u [] v is = absurd (cc)
input_in i u (l ∷ lines) v is = here_or_later i u l lines v is (found (input_in i u lines v))
  where
    found : (inputs_of lines i u ≡ Some v → (s : Scalar) × Contains lines (line_of u i s) × (v ≡ Plain s))
        → (a : Option View) → event_in i u l.time l.event ≡ a → option_or a (inputs_of lines i u) ≡ Some v → (s : Scalar) × Contains (l ∷ lines) (line_of u i s) × (v ≡ Plain s)
    found rest None none there = let more = rest there in (more.0, later l (line_of u i more.0) lines more.1, more.2)
    found rest (Some w) here there =
        let parts = event_some i u l.time l.event w here in
        (parts.0, (0, omega arith, (λ k. record { time = parts.1 k; event = parts.2 k })), sym (some_same there) ∙ parts.3)

-- ---- an event that is there

event_here : (i u : ℕ) (s : Scalar) → event_in i u u (Some (i, s)) ≡ Some (Plain s)
event_here i u s = λ k. if eq-eqb u u refl k && eq-eqb i i refl k then Some (Plain s) else None

pub input_there : (i u : ℕ) (s : Scalar) (lines : List Line) → Contains lines (line_of u i s) → inputs_of lines i u ≡ None → ⊥
input_there i u s [] there none = none_in_nil (line_of u i s) there
input_there i u s (l ∷ lines) there none = elim (cons_cases l (line_of u i s) lines there) [
  | inl same ↦ no_some (sym (ap (λ (x : Line). option_or (event_in i u x.time x.event) (inputs_of lines i u)) same ∙ ap (λ v. option_or v (inputs_of lines i u)) (event_here i u s)) ∙ none)
  | inr after ↦ input_there i u s lines after (second_none (event_in i u l.time l.event) (inputs_of lines i u) none)
]
  where
    no_some : {P : Type 0} {v : View} → Some v ≡ None → P
    no_some e = absurd (cc)

    second_none : (a b : Option View) → option_or a b ≡ None → b ≡ None
    second_none None b h = h
    second_none (Some v) b h = absurd (cc)

-- where no input has two events at a time
pub input_once : (i u : ℕ) (s : Scalar) (lines : List Line) → AreOnce lines → Contains lines (line_of u i s) → inputs_of lines i u ≡ Some (Plain s)
input_once i u s [] once there = absurd (none_in_nil (line_of u i s) there)
input_once i u s (l ∷ lines) once there = elim (cons_cases l (line_of u i s) lines there) [
  | inl same ↦ ap (λ (x : Line). option_or (event_in i u x.time x.event) (inputs_of lines i u)) same ∙ ap (λ v. option_or v (inputs_of lines i u)) (event_here i u s)
  | inr after ↦
      let rest = input_once i u s lines once.1 after in
      or_rest (event_in i u l.time l.event) refl (input_there i u s lines after) rest
]
  where
    or_rest : (a : Option View) → event_in i u l.time l.event ≡ a → (inputs_of lines i u ≡ None → ⊥) → inputs_of lines i u ≡ Some (Plain s) → option_or (event_in i u l.time l.event) (inputs_of lines i u) ≡ Some (Plain s)
    or_rest None none some rest = ap (λ v. option_or v (inputs_of lines i u)) none ∙ rest
    or_rest (Some w) here some rest =
        let parts = event_some i u l.time l.event w here in
        absurd (some (ap (inputs_of lines i) (sym parts.1) ∙ once.0 i parts.0 parts.2))

module _ (lines given : List Line) (n : ℕ) (once : AreOnce lines) (kept : (l : Line) → Contains given l → Contains lines l) (all : (l : Line) → Contains lines l → n ≤ l.time → Contains given l) where
  pub still_open : (i u : ℕ) → n ≤ u → inputs_of lines i u ≡ inputs_of given i u
  still_open i u low = from (inputs_of given i u) refl
    where
      none_of : (a : Option View) → inputs_of lines i u ≡ a → inputs_of given i u ≡ None → inputs_of lines i u ≡ None
      none_of None is none = is
      none_of (Some v) is none =
          let found = input_in i u lines v is in
          absurd (input_there i u found.0 given (all (line_of u i found.0) found.1 low) none)

      from : (a : Option View) → inputs_of given i u ≡ a → inputs_of lines i u ≡ inputs_of given i u
      from None none = none_of (inputs_of lines i u) refl none ∙ sym none
      from (Some v) is =
          let found = input_in i u given v is in
          input_once i u found.0 lines once (kept (line_of u i found.0) found.1) ∙ ap Some (sym found.2) ∙ sym is

-- ---- lines at a time

pub line_on : (u : ℕ) (lines : List Line) (l : Line) → Contains lines l → is_line_at u l ≡ true → is_line_on u lines ≡ true
line_on u [] l there at = absurd (none_in_nil l there)
line_on u (m ∷ lines) l there at = elim (cons_cases m l lines there) [
  | inl same ↦ or_left (is_line_at u m) (is_line_on u lines) (ap (is_line_at u) same ∙ at)
  | inr after ↦ or_right (is_line_at u m) (is_line_on u lines) (line_on u lines l after at)
]

pub line_in : (u : ℕ) (lines : List Line) → is_line_on u lines ≡ true → (l : Line) × Contains lines l × (l.time ≡ u)
line_in u [] on = absurd (false≢true on)
line_in u (m ∷ lines) on = elim (or_cases (is_line_at u m) (is_line_on u lines) on) [
  | inl here ↦ (m, (0, omega arith, refl), eqb-true m.time u (and_parts (m.time == u) (is_some m.event) here).0)
  | inr after ↦ let rest = line_in u lines after in (rest.0, later m rest.0 lines rest.1, rest.2)
]
