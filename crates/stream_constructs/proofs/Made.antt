-- Each construct is made by its equations.
use Rattle.std.proofs.Common.{ℕ, List, [], ◌∷◌, refl}
use Rattle.tsl_value.specs.declared.place.Place.{Place}
use Rattle.tsl_value.specs.declared.scalar.ValueType.{ValueType}
use Rattle.lift_func.specs.Typing.{Value}
use Rattle.flat_core.specs.Case.{Streams}
use Rattle.flat_core.specs.Events.{Inputs}
use Rattle.stream_constructs.specs.declared.construct.Stream.{Stream}
use Rattle.stream_constructs.specs.Construct as construct
use Rattle.stream_constructs.specs.Construct.{Construct, Operand}
use Rattle.stream_constructs.specs.Equations.{own_equations}
use Rattle.stream_constructs.specs.Agree.{Fits, IsItself, MakesStream, AreOperands}
use Rattle.lift_func.proofs.Updates.{updates_aggregate}
use Rattle.stream_constructs.proofs.Numbered.{At}
use Rattle.stream_constructs.proofs.LiftedOutcomes.{HasCase}
use Rattle.stream_constructs.proofs.Simple.{nil_made, unit_made, literal_made, empty_made, time_made, last_made, delay_made, merge_made, const_made, filter_made, filter_by_made, lift_made}
use Rattle.stream_constructs.proofs.SignalsMade.{signal_made, signal_alone_made}
use Rattle.stream_constructs.proofs.Operands.{after_aggregate}
use Rattle.stream_constructs.proofs.Updates.{update_made}

module _ (p : Place) (of : ValueType) (n : ℕ) (inputs : Inputs) (z : Streams) (t : ℕ) where
  abbrev Has : Construct → List Stream → Type 0
  Has c parts = At (HasCase inputs z t) n (own_equations p of n c parts) → MakesStream c (own_equations p of n c parts) n parts inputs z t

  pub construct_made : (c : Construct) (parts : List Stream) → Fits c parts of → IsItself c n parts → Has c parts
  construct_made construct.Nil [] fits itself = nil_made p of n inputs z t
  construct_made construct.Unit [] fits itself = unit_made p of n inputs z t
  construct_made (construct.Literal s) [] fits itself = literal_made p of n inputs z t s
  construct_made (construct.Empty e) [] fits itself = empty_made p of n inputs z t e
  construct_made construct.Time (a ∷ []) fits itself = time_made p of n inputs z t a
  construct_made construct.Last (v ∷ r ∷ []) fits itself = last_made p of n inputs z t v r
  construct_made construct.Delay (d ∷ r ∷ x ∷ []) fits itself = delay_made p of n inputs z t d r x itself
  construct_made construct.Merge (a ∷ b ∷ []) fits itself = merge_made p of n inputs z t a b
  construct_made (construct.Const s) (a ∷ []) fits itself = const_made p of n inputs z t s a
  construct_made construct.Filter (e ∷ c ∷ []) fits itself = filter_made p of n inputs z t e c
  construct_made (construct.FilterBy b) (e ∷ []) fits itself = filter_by_made p of n inputs z t b e
  construct_made (construct.Lift f) parts fits itself = lift_made p of n inputs z t f parts
  construct_made (construct.Signal f) [] fits itself = signal_alone_made inputs z t p of n f (Value of) fits.2
  construct_made (construct.Signal f) (a ∷ parts) fits itself = signal_made inputs z t p of n f a parts
  construct_made (construct.Update o os) parts fits itself = update_made p of n inputs z t o fits.0 (after_aggregate os parts of fits.0 (updates_aggregate fits.2) (λ os parts h. h) fits.1)
  construct_made c parts fits itself = absurd fits
