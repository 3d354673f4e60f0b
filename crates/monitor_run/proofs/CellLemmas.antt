-- Cells, where one was made or changed.
use Rattle.std.proofs.Common.{◌≡◌, ℕ, List, Option, Some, None, true, refl, sym, ap, subst, ◌∙◌, inl, inr}
use Rattle.std.proofs.lemmas.Bool.{cases_eq, false≢true}
use Rattle.std.specs.Prelude.{IsTrue, is_some, unwrap_or}
use Rattle.std.specs.Option.{option_and_then}
use Rattle.std.specs.FinMap as finite_map
use Rattle.tsl_value.specs.declared.scalar.ValueType.{ValueType}
use Rattle.tsl_value.specs.View.{View, Plain, is_of}
use Rattle.body_eval.specs.inner.Registers as cell_registers
use Rattle.cell_reader.specs.inner.Cells.{Cells, IsLive, view_at}
use Rattle.body_eval.specs.inner.Registers.{HoldsLive}
use Rattle.tsl_value.specs.declared.scalar.Scalar.TheVariants as scalar
use Rattle.lift_func.specs.Typing.{fits}
use Rattle.body_eval.specs.declared.register.Register.{Register}
use Rattle.body_eval.specs.declared.register.Register.TheVariants as register
use Rattle.aggregate_store.proofs.Live.{has_view, still_live, still_view}
use Rattle.flat_core.specs.System.{System}
use Rattle.register_machine.specs.Machine.{Held, Bare, Cell, Slot, slot_of, view_of, with}
use Rattle.register_machine.specs.Machine as machine
use Rattle.register_machine.proofs.Cells.{get-there, with-there}
use Rattle.tsl_value.specs.Aggregate.{is_aggregate, has_elements}
use Rattle.tsl_value.proofs.Aggregates.{elements_of}
use Rattle.monitor_run.specs.inner.Here.{StayTyped}
use Rattle.monitor_run.specs.inner.Shown.{held_by}
use Rattle.monitor_run.specs.inner.Registers.{AreHeld, IsHeldOf, register_at}

-- a view of a type of aggregates
pub aggregate_of : (of : ValueType) (v : View) → is_aggregate of ≡ true → IsTrue (is_of of v) → IsTrue (has_elements v)
aggregate_of of v is typed = elements_of of v typed ∙ is

-- ---- cells stay of their types

pub stay-new : (types : ℕ → ValueType) (old new : Cells) (handle : ℕ) (view : View) → ¬ (IsLive old handle) → new ≡ finite_map.insert old handle view → StayTyped types old new
stay-new types old new handle view fresh is = record {
  live = still_live old new handle view is;
  typed = λ h live fit. subst (λ v. IsTrue (is_of (types h) v)) (sym (still_view old new handle view is fresh h live)) fit;
}

pub stay-changed : (types : ℕ → ValueType) (old new : Cells) (handle : ℕ) (view : View) → IsTrue (is_of (types handle) view) → new ≡ finite_map.insert old handle view → StayTyped types old new
stay-changed types old new handle view fits is = record {
  live = still_live old new handle view is;
  typed = λ h live fit. elim (cases_eq h handle) [
    | inl same ↦ subst (λ n. IsTrue (is_of (types n) (view_at new n))) (sym same) (subst (λ v. IsTrue (is_of (types handle) v)) (sym (has_view old new handle view is)) fits)
    | inr other ↦ subst (λ v. IsTrue (is_of (types h) v)) (sym (ap (λ (c : Cells). view_at c h) is ∙ ap (λ o. unwrap_or o (Plain scalar.Unit)) (get-there old handle view h other))) fit
  ];
}

-- views of one type are aggregates together
aggregate_like : (of : ValueType) (v w : View) → IsTrue (is_of of v) → IsTrue (is_of of w) → IsTrue (has_elements v) → IsTrue (has_elements w)
aggregate_like of v w p q a = elements_of of w q ∙ sym (elements_of of v p) ∙ a

-- what a register holds stays of its type
pub held_of-stays : (types : ℕ → ValueType) (old new : Cells) → StayTyped types old new → (of : ValueType) (r : Register) → ((h : ℕ) → r ≡ register.Aggregate h → types h ≡ of) → IsHeldOf old of r → IsHeldOf new of r
held_of-stays types old new stays of register.Empty one is = record { typed = is.typed; live = tt }
held_of-stays types old new stays of (register.Scalar s) one is = record { typed = is.typed; live = tt }
held_of-stays types old new stays of (register.Aggregate h) one is =
    let same = one h refl in
    let fit : IsTrue (is_of of (view_at new h)) = subst (λ u. IsTrue (is_of u (view_at new h))) same (stays.typed h is.live.0 (subst (λ u. IsTrue (is_of u (view_at old h))) (sym same) is.typed)) in
    record { typed = fit; live = (stays.live h is.live.0, aggregate_like of (view_at old h) (view_at new h) is.typed fit is.live.1) }

pub held-stays : (s : System) (types : ℕ → ValueType) (old new : Cells) (registers : List Register) → StayTyped types old new → AreHeld s types old registers → AreHeld s types new registers
held-stays s types old new registers stays held = record {
  one_each = held.one_each;
  each = λ i e run is. held_of-stays types old new stays e.of (register_at registers i) (λ h r. held.one_type i h e run is r) (held.each i e run is);
  one_type = held.one_type;
}

-- the type of a cell that is not live says nothing
live_at : (c : Cells) (of : ValueType) (r : Register) (h : ℕ) → r ≡ register.Aggregate h → IsHeldOf c of r → IsLive c h
live_at c of r h is held = let here : IsHeldOf c of (register.Aggregate h) = subst (IsHeldOf c of) is held in here.live.0

pub held-retyped : (s : System) (types : ℕ → ValueType) (c : Cells) (registers : List Register) (handle : ℕ) (of : ValueType) → ¬ (IsLive c handle) → AreHeld s types c registers → AreHeld s (with types handle of) c registers
held-retyped s types c registers handle of fresh held = record {
  one_each = held.one_each;
  each = held.each;
  one_type = λ i h e run is r.
      with-there types handle of h (λ same. fresh (subst (IsLive c) same (live_at c e.of (register_at registers i) h r (held.each i e run is))))
      ∙ held.one_type i h e run is r;
}

-- ---- registers and what the machine has

-- what the machine sees in a live register
pub seen_is : (c : Cells) (r : Register) → HoldsLive c r → option_and_then (view_of c) (held_by r) ≡ cell_registers.held c r
seen_is c register.Empty live = refl
seen_is c (register.Scalar s) live = refl
seen_is c (register.Aggregate h) live = there (finite_map.get c h) refl live.0
  where
    there : (o : Option View) → finite_map.get c h ≡ o → IsLive c h → finite_map.get c h ≡ Some (view_at c h)
    there (Some v) is live = is ∙ ap Some (sym (ap (λ q. unwrap_or q (Plain scalar.Unit)) is))
    there None is live = absurd (false≢true (sym (ap is_some is) ∙ live))

pub held_slot : (o : Option Held) → machine.held (slot_of o) ≡ o
held_slot None = refl
held_slot (Some h) = refl
