-- What operations hand on.
use Rattle.std.proofs.Common.{◌≡◌, ℕ, Bool, true, false, List, [], ◌∷◌, Option, None, Ok, refl, sym, ap, subst, ◌∙◌}
use Rattle.std.proofs.lemmas.Bool.{false≢true}
use Rattle.std.specs.Prelude.{if◌then◌else◌, is_some}
use Rattle.std.specs.Option.{option_or}
use Rattle.tsl_value.specs.declared.scalar.ValueType.{ValueType}
use Rattle.body_eval.specs.declared.register.Register.{Register}
use Rattle.aggregate_store.specs.inner.Stored.{Stored}
use Rattle.flat_core.specs.declared.equation.Op.{Op}
use Rattle.flat_core.specs.declared.equation.Op.TheVariants as op
use Rattle.register_machine.specs.Machine.{Held, Blank, held, slot_of, where_either, where_true, Fill, effect_of}
use Rattle.flat_core.specs.inner.Arity.{HasArity}
use Rattle.monitor_run.specs.inner.Here.{HasEffect, handed_of, hands_on}
use Rattle.monitor_run.specs.inner.Shown.{config_of, held_at, held_by}
use Rattle.monitor_run.proofs.CellLemmas.{held_slot}

module _ (registers last : List Register) (store : Stored) (i t : ℕ) where
  slot_if : (b : Bool) (h : Option Held) → ◌≡◌ (if b then slot_of h else Blank) (slot_of (if b then h else None))
  slot_if true h = refl
  slot_if false h = refl

  here : (a : ℕ) → held (slot_of (held_at registers a)) ≡ held_at registers a
  here a = held_slot (held_at registers a)

  -- the effect of such an operation
  pub handed_effect : (o : Op) (args : List ℕ) (of : ValueType) → hands_on o ≡ true → HasArity o args → effect_of (λ j u. None) t (config_of registers last store) i o args of ≡ Fill (slot_of (handed_of registers last o args))
  handed_effect op.Last [] of is shape = absurd shape
  handed_effect op.Last (v ∷ []) of is shape = absurd shape
  handed_effect op.Last (v ∷ r ∷ x ∷ args) of is shape = absurd shape
  handed_effect op.Last (v ∷ r ∷ []) of is shape =
      (λ k. Fill (if is_some (here r k) then slot_of (held_at last v) else Blank)) ∙ ap Fill (slot_if (is_some (held_at registers r)) (held_at last v))
  handed_effect op.Merge [] of is shape = absurd shape
  handed_effect op.Merge (a ∷ []) of is shape = absurd shape
  handed_effect op.Merge (a ∷ b ∷ x ∷ args) of is shape = absurd shape
  handed_effect op.Merge (a ∷ b ∷ []) of is shape = λ k. Fill (slot_of (option_or (here a k) (here b k)))
  handed_effect op.Filter [] of is shape = absurd shape
  handed_effect op.Filter (a ∷ []) of is shape = absurd shape
  handed_effect op.Filter (a ∷ b ∷ x ∷ args) of is shape = absurd shape
  handed_effect op.Filter (a ∷ b ∷ []) of is shape = λ k. Fill (slot_of (where_true (here b k) (here a k)))
  handed_effect op.Pick [] of is shape = absurd shape
  handed_effect op.Pick (a ∷ []) of is shape = absurd shape
  handed_effect op.Pick (a ∷ b ∷ []) of is shape = absurd shape
  handed_effect op.Pick (a ∷ b ∷ x ∷ y ∷ args) of is shape = absurd shape
  handed_effect op.Pick (a ∷ b ∷ x ∷ []) of is shape = λ k. Fill (slot_of (where_either (here a k) (here b k) (here x k)))
  handed_effect _ args of is shape = absurd (false≢true is)

  pub hands_effect : (in_place : Bool) (o : Op) (args : List ℕ) (of : ValueType) (source : Register) (r : Register) → hands_on o ≡ true → HasArity o args → held_by r ≡ handed_of registers last o args
      → HasEffect in_place i o source store store (Ok r) (effect_of (λ j u. None) t (config_of registers last store) i o args of)
  hands_effect in_place o args of source r is shape same =
      subst (HasEffect in_place i o source store store (Ok r)) (sym (handed_effect o args of is shape)) (ap slot_of (sym same), refl)
