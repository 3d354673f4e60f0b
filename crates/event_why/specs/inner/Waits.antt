-- Facts from which it follows when a delay is due, one record for each rule.
use Rattle.std.specs.Prelude.{◌≡◌, ◌⊎◌, ℕ, suc, ◌+◌, ◌-◌, ◌<◌, ◌≤◌, ◌^◌, Bool, true, false, List, [], ◌∷◌, ◌++◌, pos, Option, Some, None, SomeIff, slice_get}
use Rattle.std.specs.List.{AllByRecursion, Contains}
use Rattle.tsl_value.specs.View.{View, Plain}
use Rattle.tsl_value.specs.declared.scalar.Scalar.TheVariants as scalar
use Rattle.flat_core.specs.Instant.{is_delay}
use Rattle.flat_core.specs.System.{System, equation}
use Rattle.why_rules.specs.Facts.{Fact, Happens, Gap, Pending}
use Rattle.why_rules.specs.Rules.{Tells, IsAfter, AllWait}
use Rattle.event_why.specs.declared.pending.Delay.{Delay}

-- the fact is an event of the second argument or of the delay itself
abbrev pub MaySet : Delay → ℕ → Fact → Type 0
MaySet delay t f = (v : View) × ((f ≡ Happens delay.reset t v) ⊎ (f ≡ Happens delay.itself t v))

-- the facts say that neither of them has one
pub record IsNotSet (delay : Delay) (t : ℕ) (reset itself : Fact) : Type 0 where
  pub first : Tells delay.reset t None reset
  pub second : Tells delay.itself t None itself

module _ (delay : Delay) (t : ℕ) (due : Option ℕ) (fs : List Fact) where
  -- it is due the amount later, or at no time above 2^63 - 1
  pub record IsSetTo : Type 0 where
    pub amount : ℕ
    pub by : Fact
    pub positive : 0 < amount
    pub due_is : SomeIff due (t + amount < 2 ^ 63) (t + amount)
    pub sets : MaySet delay t by
    pub is : fs ≡ Happens delay.amount t (Plain (scalar.Int (pos amount))) ∷ by ∷ []

  -- it is set without an amount
  pub record IsCancelled : Type 0 where
    pub without : Fact
    pub by : Fact
    pub none : due ≡ None
    pub silent : Tells delay.amount t None without
    pub sets : MaySet delay t by
    pub is : fs ≡ without ∷ by ∷ []

  -- it is not set at time 0
  pub record IsNeverSet : Type 0 where
    pub reset : Fact
    pub itself : Fact
    pub start : t ≡ 0
    pub none : due ≡ None
    pub not_set : IsNotSet delay t reset itself
    pub is : fs ≡ reset ∷ itself ∷ []

  -- it is not set at t, and was due so before
  pub record IsKeptOn : Type 0 where
    pub reset : Fact
    pub itself : Fact
    pub before : ℕ
    pub next : t ≡ suc before
    pub not_set : IsNotSet delay t reset itself
    pub is : fs ≡ reset ∷ itself ∷ Pending delay.itself before due ∷ []

  -- nothing happens from the time after one up to t
  pub record IsOverGap : Type 0 where
    pub before : ℕ
    pub earlier : before < t
    pub is : fs ≡ Gap (suc before) t ∷ Pending delay.itself before due ∷ []

-- a gap from one time to another ends at t, and the fact is when the delay was due before it
abbrev pub IsOver : Delay → ℕ → Option ℕ → ℕ → ℕ → Fact → Type 0
IsOver delay t due from to f = (to ≡ t) × (0 < from) × (from ≤ t) × (f ≡ Pending delay.itself (from - 1) due)

-- a delay is due at none of the times after one up to another
pub record IsWaiting (i before to : ℕ) (f : Fact) : Type 0 where
  pub due : Option ℕ
  pub after : IsAfter to due
  pub is : f ≡ Pending i before due

-- of these delays each has a fact among these that says so: one for each in order, or there is none for one of them
abbrev pub IsWaitingOf : ℕ → ℕ → List ℕ → List Fact → Option (List Fact) → Type 0
IsWaitingOf before to delays facts (Some uses) = AllWait before to delays uses × AllByRecursion (Contains facts) uses
IsWaitingOf before to delays facts None = (uses : List Fact) → AllWait before to delays uses → ¬ AllByRecursion (Contains facts) uses

-- The equation at a place of the slice is no delay, and nothing is put; or a fact says so of it, and that is put; or there is none.
pub data PutsWaiting (before to : ℕ) (s : System) (slice : List ℕ) (place : ℕ) (facts old : List Fact) : Bool → List Fact → Type 0 where
  other :
      {i : ℕ} →
      slice_get slice place ≡ Some i →
      is_delay (equation s i) ≡ false →
      PutsWaiting before to s slice place facts old true old
  put :
      {i : ℕ} (f : Fact) →
      slice_get slice place ≡ Some i →
      is_delay (equation s i) ≡ true →
      Contains facts f →
      IsWaiting i before to f →
      PutsWaiting before to s slice place facts old true (old ++ f ∷ [])
  none :
      {i : ℕ} {new : List Fact} →
      slice_get slice place ≡ Some i →
      is_delay (equation s i) ≡ true →
      ((f : Fact) → Contains facts f → ¬ IsWaiting i before to f) →
      PutsWaiting before to s slice place facts old false new
