-- Facts about a solution, and what each says.
use Rattle.std.specs.Prelude.{◌≡◌, ℕ, suc, ◌<◌, ◌≤◌, ◌^◌, List, [], ◌∷◌, Option, Some, None, IsTrue}
use Rattle.tsl_value.specs.View.{View}
use Rattle.flat_core.specs.declared.equation.Equation.{Equation}
use Rattle.flat_core.specs.Members.{is_in}
use Rattle.flat_core.specs.System.{System, equation}
use Rattle.flat_core.specs.Stream.{event}
use Rattle.flat_core.specs.Case.{Streams}
use Rattle.flat_core.specs.Pending.{option_is, pending}

pub data Fact : Type 0 where
  -- an equation has this event at a time
  Happens : (i t : ℕ) → View → Fact
  -- it has none from one time to another, both included
  Silent : (i from to : ℕ) → Fact
  -- no equation of the slice has one from one time to another
  Gap : (from to : ℕ) → Fact
  -- a delay is due at this time, or at none, by what happened up to a time
  Pending : (i t : ℕ) → Option ℕ → Fact

-- no event from one time to another, as far as the bound
abbrev pub IsSilent : Streams → ℕ → ℕ → ℕ → ℕ → Type 0
IsSilent z bound i from to = (u : ℕ) → from ≤ u → u ≤ to → u < bound → event (z i u) ≡ None

-- times are below 2^63
abbrev pub IsDue : Streams → ℕ → ℕ → List ℕ → Option ℕ → Type 0
IsDue z i t (d ∷ r ∷ []) due = (u : ℕ) → t < u → u < 2 ^ 63 → option_is u (pending (z d) (z r) (z i) (suc t)) ≡ option_is u due
IsDue z i t args due = ⊥

module _ (s : System) (slice : List ℕ) (z : Streams) (bound : ℕ) where
  -- what a fact says of the times below a bound
  abbrev pub Says : Fact → Type 0
  Says (Happens i t v) = t < bound → event (z i t) ≡ Some v
  Says (Silent i from to) = IsSilent z bound i from to
  Says (Gap from to) = (i : ℕ) → IsTrue (is_in slice i) → IsSilent z bound i from to
  Says (Pending i t due) = t < bound → (e : Equation) → equation s i ≡ Some e → IsDue z i t e.args due
