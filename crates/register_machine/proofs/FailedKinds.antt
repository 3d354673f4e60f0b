-- An equation that fails as it runs fails with the solution's kind of fault.
use Rattle.std.proofs.Common.{◌≡◌, ℕ, Bool, true, false, List, [], ◌∷◌, Option, Some, None, Ok, Err, is_some, sym, ap, ◌∙◌, Contains, IsTrue, option_map, map, pos}
use Rattle.std.specs.Prelude.{if◌then◌else◌}
use Rattle.std.specs.Option.{option_or}
use Rattle.std.specs.List.{list_any}
use Rattle.tsl_value.specs.View.{View, Plain}
use Rattle.tsl_value.specs.declared.scalar.Scalar.TheVariants as scalar
use Rattle.tsl_value.specs.declared.scalar.ValueType.{ValueType}
use Rattle.lift_func.specs.declared.fault.FaultKind.{FaultKind}
use Rattle.lift_func.specs.Apply.{Answer}
use Rattle.lift_func.specs.Update.{update_answer}
use Rattle.tsl_value.specs.declared.operation.Update.{Update}
use Rattle.flat_core.specs.declared.equation.Op.{Op}
use Rattle.flat_core.specs.declared.equation.Op.TheVariants as op
use Rattle.flat_core.specs.declared.equation.Equation.{Equation}
use Rattle.flat_core.specs.Case.{Streams, own, own_of, used_of, is_blocked}
use Rattle.flat_core.specs.Events.{Inputs, at_once, unit, at_zero, fault_of}
use Rattle.tsl_value.specs.Aggregate.{empty_of}
use Rattle.flat_core.specs.Pending.{option_is}
use Rattle.flat_core.specs.Stream.{event}
use Rattle.flat_core.specs.System.{System, runs}
use Rattle.register_machine.specs.Machine.{Held, Bare, Slot, Blank, Holds, Failed, Cells, Config, held, value_in, slot_of, slot_of_answer, fires, where_true, where_either, Fill, made, effect_of}
use Rattle.register_machine.proofs.Running.{Running}
use Rattle.register_machine.proofs.Middle.{Mid, IsNext}
use Rattle.register_machine.proofs.Moves.{Between}
use Rattle.flat_core.specs.Updates.{update_in, is_update}
use Rattle.flat_core.proofs.UpdateOps.{own_update}
use Rattle.register_machine.proofs.UpdateEffects.{effect_update}
use Rattle.register_machine.proofs.Setting.{Fit, FitIf, FitsUpdate, by_fit, Setting}
use Rattle.register_machine.proofs.Effects.{read_values, update_values}

-- the kind of the fault of an equation's own case, where no fault of an argument is passed on
abbrev pub own_kind : Inputs → Streams → ℕ → ℕ → Equation → Option FaultKind
own_kind inputs z t i e = if is_blocked z e t then None else fault_of (own inputs z i e t)

pub fill_same : {x y : Slot} → Fill x ≡ Fill y → x ≡ y
fill_same e = cc

held_kind : (k : Option Held) (kind : Option FaultKind) {P : Type 0} → Fill (slot_of k) ≡ Fill (Failed kind) → P
held_kind None kind e = absurd (cc)
held_kind (Some k) kind e = absurd (cc)

value_kind : (v : Option View) (kind : Option FaultKind) {P : Type 0} → Fill (slot_of_answer (Ok v)) ≡ Fill (Failed kind) → P
value_kind None kind e = absurd (cc)
value_kind (Some (Plain v)) kind e = absurd (cc)
value_kind (Some v) kind e = absurd (cc)

view_kind : (v : Option View) (kind : Option FaultKind) {P : Type 0} → made (Ok v) ≡ Fill (Failed kind) → P
view_kind None kind e = absurd (cc)
view_kind (Some v) kind e = absurd (cc)

made_kind : (answer : Answer) (kind : Option FaultKind) → made answer ≡ Fill (Failed kind) → kind ≡ fault_of answer
made_kind (Ok v) kind e = view_kind v kind e
made_kind (Err k) kind e = cc

answer_kind : (answer : Answer) (kind : Option FaultKind) → Fill (slot_of_answer answer) ≡ Fill (Failed kind) → kind ≡ fault_of answer
answer_kind (Ok v) kind e = value_kind v kind e
answer_kind (Err k) kind e = cc

last_kind : (b : Bool) (k : Option Held) (kind : Option FaultKind) {P : Type 0} → Fill (if b then slot_of k else Blank) ≡ Fill (Failed kind) → P
last_kind true k kind e = held_kind k kind e
last_kind false k kind e = absurd (cc)

delay_kind : (b : Bool) (kind : Option FaultKind) {P : Type 0} → Fill (if b then Holds (Bare scalar.Unit) else Blank) ≡ Fill (Failed kind) → P
delay_kind true kind e = absurd (cc)
delay_kind false kind e = absurd (cc)

module _ (s : System) (set : List ℕ) (inputs : Inputs) (z : Streams) (t : ℕ) (last : ℕ → Option Held) (pend : ℕ → Option ℕ) (old : Cells) (given : Setting s inputs z t last pend) (between : Between s set z t last old) (steps rest : List ℕ) (all_steps : (x : ℕ) → IsTrue (runs s x) → Contains steps x) (c : Config) (same_lasts : c.lasts ≡ last) (same_pending : c.pending ≡ pend) (m : Mid s set z t last old steps rest c.slots c.cells) (i : ℕ) (next : IsNext s set z t last old steps rest i) (e0 : Equation) where
  update_kind : (o : Op) (u : Update) → update_in o ≡ Some u → (x : ℕ) (ks : List ℕ) (of : ValueType) → FitsUpdate s x ks of → Running s i (record e0 { op = o; args = x ∷ ks; of = of }) → ((a : ℕ) → Contains (used_of o (x ∷ ks)) a → IsTrue (runs s a) × (Contains rest a → ⊥)) → (kind : Option FaultKind)
      → effect_of inputs t c i o (x ∷ ks) of ≡ Fill (Failed kind) → kind ≡ fault_of (own_of inputs z i o (x ∷ ks) of t)
  update_kind o u h x ks of fit running done kind e =
      let values = update_values s set inputs z t last pend old given between steps rest all_steps c same_lasts same_pending m i next e0 o u h x ks of running fit done in
      let own = own_update inputs z i o u h (x ∷ ks) of t in
      made_kind (update_answer u (map (λ a. event (z a t)) (x ∷ ks))) kind (sym (effect_update inputs t c i o u h (x ∷ ks) of ∙ ap (λ vs. made (update_answer u vs)) values) ∙ e) ∙ sym (ap fault_of own)

  others_kind : (o : Op) (args : List ℕ) (of : ValueType) → Running s i (record e0 { op = o; args = args; of = of }) → FitIf s (is_update o) args of → ((a : ℕ) → Contains (used_of o args) a → IsTrue (runs s a) × (Contains rest a → ⊥)) → (kind : Option FaultKind)
      → effect_of inputs t c i o args of ≡ Fill (Failed kind) → kind ≡ fault_of (own_of inputs z i o args of t)
  others_kind o args of running fit =
      by_fit s o of (λ args. Running s i (record e0 { op = o; args = args; of = of }) → ((a : ℕ) → Contains (used_of o args) a → IsTrue (runs s a) × (Contains rest a → ⊥)) → (kind : Option FaultKind) → effect_of inputs t c i o args of ≡ Fill (Failed kind) → kind ≡ fault_of (own_of inputs z i o args of t)) (λ u h x ks fits. update_kind o u h x ks of fits) args fit running

  pub kind_of_own : (o : Op) (args : List ℕ) (of : ValueType) → Running s i (record e0 { op = o; args = args; of = of }) → Fit s o args of → ((a : ℕ) → Contains (used_of o args) a → IsTrue (runs s a) × (Contains rest a → ⊥)) → (kind : Option FaultKind)
      → effect_of inputs t c i o args of ≡ Fill (Failed kind) → kind ≡ fault_of (own_of inputs z i o args of t)
  kind_of_own op.Input [] of running fit done kind e = value_kind (inputs i t) kind e
  kind_of_own op.Nil [] of running fit done kind e = value_kind None kind e
  kind_of_own op.Unit [] of running fit done kind e = value_kind (at_zero t unit) kind e
  kind_of_own op.Empty [] of running fit done kind e = view_kind (at_zero t (empty_of of)) kind e
  kind_of_own (op.Lift body strict) args of running fit done kind e =
      let values = read_values s set inputs z t last pend old given between steps rest all_steps c same_lasts same_pending m i next e0 args done (λ a found variable. record { at = record e0 { op = op.Lift body strict; args = args; of = of }; is = running.is; running = running.runs_too; variable = variable; argument = found }) in
      answer_kind (at_once (op.Lift body strict) of (map (λ a. event (z a t)) args) t) kind (sym (λ k. Fill (slot_of_answer (at_once (op.Lift body strict) of (values k) t))) ∙ e)
  kind_of_own op.Any args of running fit done kind e = value_kind (if list_any is_some (map (value_in c) args) then Some unit else None) kind e
  kind_of_own op.Time (a ∷ []) of running fit done kind e = value_kind (option_map (λ _. Plain (scalar.Int (pos t))) (value_in c a)) kind e
  kind_of_own op.Last (v ∷ r ∷ []) of running fit done kind e = last_kind (fires c r) (c.lasts v) kind e
  kind_of_own op.Delay (d ∷ r ∷ []) of running fit done kind e = delay_kind (option_is t (c.pending i)) kind e
  kind_of_own op.Merge (a ∷ b ∷ []) of running fit done kind e = held_kind (option_or (held (c.slots a)) (held (c.slots b))) kind e
  kind_of_own op.Filter (x ∷ d ∷ []) of running fit done kind e = held_kind (where_true (held (c.slots d)) (held (c.slots x))) kind e
  kind_of_own op.Pick (d ∷ a ∷ b ∷ []) of running fit done kind e = held_kind (where_either (held (c.slots d)) (held (c.slots a)) (held (c.slots b))) kind e
  kind_of_own o args of running fit done kind e = others_kind o args of running fit done kind e
