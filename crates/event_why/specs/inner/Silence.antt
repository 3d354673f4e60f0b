-- Facts from which it follows that there is no event, beside those of an equation's own case.
use Rattle.std.specs.Prelude.{◌≡◌, ℕ, suc, ◌-◌, ◌<◌, ◌≤◌, Bool, true, false, List, [], ◌∷◌, None}
use Rattle.std.specs.List.{Contains}
use Rattle.tsl_value.specs.View.{View, Plain}
use Rattle.tsl_value.specs.declared.scalar.Scalar.TheVariants as scalar
use Rattle.flat_core.specs.declared.equation.Op.{Op}
use Rattle.flat_core.specs.declared.equation.Op.TheVariants as op
use Rattle.flat_core.specs.Updates.{is_update}
use Rattle.why_rules.specs.Facts.{Fact, Happens, Silent, Gap}
use Rattle.why_rules.specs.Rules.{Tells}

-- an argument without an event is enough that there is none, and nothing else is
abbrev pub misses_only : Op → Bool
misses_only op.Time = true
misses_only op.Pick = true
misses_only (op.Lift body strict) = strict
misses_only o = is_update o

-- one of these equations has no event at t
pub record IsMissing (args : List ℕ) (t : ℕ) (fs : List Fact) : Type 0 where
  pub argument : ℕ
  pub fact : Fact
  pub among : Contains args argument
  pub silent : Tells argument t None fact
  pub is : fs ≡ fact ∷ []

-- the fact is that one of these equations has no event from one time to another, of which t is one
pub record IsSilenceOfOne (args : List ℕ) (t : ℕ) (f : Fact) : Type 0 where
  pub argument : ℕ
  pub from : ℕ
  pub to : ℕ
  pub among : Contains args argument
  pub early : from ≤ t
  pub late : t ≤ to
  pub is : f ≡ Silent argument from to

-- the fact is that a has no event at any time before t, where there is one
abbrev pub IsSilentBefore : ℕ → ℕ → Fact → Type 0
IsSilentBefore a t f = (0 < t) × (f ≡ Silent a 0 (t - 1))

-- the condition is false at t
abbrev pub IsNotTrue : ℕ → ℕ → List Fact → Type 0
IsNotTrue c t fs = fs ≡ Happens c t (Plain (scalar.Bool false)) ∷ []

-- a gap has the times from one to another
pub record IsInGap (from to : ℕ) (fs : List Fact) : Type 0 where
  pub low : ℕ
  pub high : ℕ
  pub early : low ≤ from
  pub times : from ≤ to
  pub late : to ≤ high
  pub is : fs ≡ Gap low high ∷ []

-- two intervals without an event of i make this one
pub record IsJoined (i from to : ℕ) (fs : List Fact) : Type 0 where
  pub middle : ℕ
  pub low : from ≤ middle
  pub high : middle < to
  pub is : fs ≡ Silent i from middle ∷ Silent i (suc middle) to ∷ []

-- the fact is an event of one of these equations at t
pub record IsEventOfOne (args : List ℕ) (t : ℕ) (f : Fact) : Type 0 where
  pub argument : ℕ
  pub value : View
  pub among : Contains args argument
  pub is : f ≡ Happens argument t value

-- the fact is no event of i before t with this value
abbrev pub NoEarlier : ℕ → ℕ → View → Fact → Type 0
NoEarlier i t v f = (u : ℕ) → u < t → ¬ (f ≡ Happens i u v)
