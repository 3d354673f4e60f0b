-- What an update that runs has: its equation is there, runs, and is an update.
use Rattle.std.proofs.Common.{◌≡◌, ℕ, ◌<◌, length, Option, Some, None, refl}
use Rattle.std.specs.Prelude.{IsTrue}
use Rattle.std.proofs.lemmas.Bool.{and_parts, false≢true}
use Rattle.std.proofs.lemmas.Option.{slice_get_within}
use Rattle.flat_core.specs.declared.equation.Equation.{Equation}
use Rattle.flat_core.specs.System.{System, equation, runs}
use Rattle.flat_core.specs.Updates.{is_update, is_update_at}
use Rattle.alias_rules.specs.Uses.{IsUpdate}

pub record HasUpdate (s : System) (y : ℕ) : Type 0 where
  pub at : Equation
  pub is : equation s y ≡ Some at
  pub running : IsTrue (runs s y)
  pub updates : IsTrue (is_update at.op)

pub has_update : (s : System) (y : ℕ) → IsUpdate s y → HasUpdate s y
has_update s y update = let both = and_parts (runs s y) (is_update_at (equation s y)) update in by (equation s y) refl both.0 both.1
  where
    by : (o : Option Equation) → equation s y ≡ o → IsTrue (runs s y) → IsTrue (is_update_at o) → HasUpdate s y
    by (Some e) is running updates = record { at = e; is = is; running = running; updates = updates }
    by None is running updates = absurd (false≢true updates)

pub update_low : (s : System) (y : ℕ) → IsUpdate s y → y < length s.equations
update_low s y update = let there = has_update s y update in slice_get_within s.equations y there.at there.is
