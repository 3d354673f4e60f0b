-- Events of short lines are short.
use Rattle.std.proofs.Common.{◌≡◌, ◌==◌, ℕ, Bool, true, false, ◌&&◌, List, [], ◌∷◌, Option, Some, None, refl}
use Rattle.std.specs.Prelude.{if◌then◌else◌}
use Rattle.std.specs.List.{AllByRecursion}
use Rattle.std.specs.Option.{option_or}
use Rattle.tsl_value.specs.declared.scalar.Scalar.{Scalar}
use Rattle.tsl_value.specs.View.{View, Plain}
use Rattle.flat_core.specs.Complete.{IsShort}
use Rattle.flat_core.specs.Line.{Line, event_in, inputs_of}
use Rattle.register_machine.specs.Short.{IsShortValue}
use Rattle.monitor_run.specs.inner.Given.{IsShortLine}

event_short : (i t time : ℕ) (e : Option (ℕ × Scalar)) → ((j : ℕ) (value : Scalar) → e ≡ Some (j, value) → IsShort value) → IsShortValue (event_in i t time e)
event_short i t time None short = tt
event_short i t time (Some p) short = from ((time == t) && (p.0 == i))
  where
    from : (b : Bool) → IsShortValue (if b then Some (Plain p.1) else None)
    from true = short p.0 p.1 refl
    from false = tt

either_short : (a b : Option View) → IsShortValue a → IsShortValue b → IsShortValue (option_or a b)
either_short None b first second = second
either_short (Some v) b first second = first

pub inputs_short : (lines : List Line) → AllByRecursion IsShortLine lines → (i t : ℕ) → IsShortValue (inputs_of lines i t)
inputs_short [] all i t = tt
inputs_short (l ∷ lines) all i t = either_short (event_in i t l.time l.event) (inputs_of lines i t) (event_short i t l.time l.event all.0) (inputs_short lines all.1 i t)
