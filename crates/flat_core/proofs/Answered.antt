-- The outcome of what an operation answers, and which operation is a delay.
use Rattle.std.proofs.Common.{◌≡◌, true, false, Option, Some, None, Ok, refl}
use Rattle.std.proofs.lemmas.Bool.{false≢true}
use Rattle.tsl_value.specs.View.{View}
use Rattle.flat_core.specs.declared.equation.Op.{Op}
use Rattle.flat_core.specs.declared.equation.Op.TheVariants as op
use Rattle.flat_core.specs.Stream.{event, is_fault}
use Rattle.flat_core.specs.Events.{outcome_of}
use Rattle.flat_core.specs.Instant.{is_delay_op}

pub event_of_value : (v : Option View) → event (outcome_of (Ok v)) ≡ v
event_of_value None = refl
event_of_value (Some v) = refl

pub value_is_no_fault : (v : Option View) → is_fault (outcome_of (Ok v)) ≡ false
value_is_no_fault None = refl
value_is_no_fault (Some v) = refl

pub delay_op : (o : Op) → is_delay_op o ≡ true → o ≡ op.Delay
delay_op op.Delay is = refl
delay_op _ is = absurd (false≢true is)
