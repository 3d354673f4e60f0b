-- What configurations do not show of their handles.
use Rattle.std.proofs.Common.{◌≡◌, ◌==◌, ℕ, Bool, true, false, List, [], ◌∷◌, Option, Some, None, Ok, Err, refl, ap, ◌∙◌, map}
use Rattle.std.specs.Prelude.{if◌then◌else◌, is_some, min, ◌+◌, ◌-◌, ◌^◌, ◌||◌}
use Rattle.std.specs.Option.{option_map, option_or, option_and_then}
use Rattle.std.specs.List.{list_any}
use Rattle.std.specs.FinMap as finite_map
use Rattle.tsl_value.specs.declared.scalar.Scalar.TheVariants as scalar
use Rattle.tsl_value.specs.declared.scalar.ValueType.{ValueType}
use Rattle.tsl_value.specs.View.{View, Plain, Keyed, Mapped, Listed}
use Rattle.lift_func.specs.Apply.{Answer}
use Rattle.flat_core.specs.declared.equation.Op.{Op}
use Rattle.flat_core.specs.declared.equation.Op.TheVariants as op
use Rattle.flat_core.specs.declared.equation.Equation.{Equation}
use Rattle.flat_core.specs.Case.{used_of}
use Rattle.flat_core.specs.Events.{Inputs, at_once, refused}
use Rattle.flat_core.specs.Pending.{option_is}
use Rattle.flat_core.specs.System.{System, equation}
use Rattle.flat_core.specs.Updates.{is_update}
use Rattle.register_machine.specs.Copied.{size_at}
use Rattle.register_machine.specs.Machine.{Held, Bare, Cell, Slot, Blank, Holds, Failed, Config, Effect, Fill, Make, held, is_failed, view_of, value_in, fires, slot_of}
use Rattle.register_machine.specs.Machine.{slot_of_answer, where_true, where_either, made, effect_by, is_barred, source_size, counted, source_slot, expiry, timed, with, effect_of, effect}
use Rattle.register_machine.specs.Renamed.{Renaming, renamed}
use Rattle.register_machine.specs.Run.{root_in, root_seen, has_root, failed_by}

abbrev pub renamed_slot : (ℕ → ℕ) → Slot → Slot
renamed_slot to Blank = Blank
renamed_slot to (Holds h) = Holds (renamed to h)
renamed_slot to (Failed kind) = Failed kind

abbrev pub renamed_effect : (ℕ → ℕ) → Effect → Effect
renamed_effect to (Fill slot) = Fill (renamed_slot to slot)
renamed_effect to (Make v) = Make v

-- one configuration is the other with other handles
pub record Alike (r : Renaming) (c d : Config) : Type 0 where
  pub slots : (i : ℕ) → d.slots i ≡ renamed_slot r.to (c.slots i)
  pub lasts : (v : ℕ) → d.lasts v ≡ option_map (renamed r.to) (c.lasts v)
  pub cells : (h : ℕ) → finite_map.get d.cells (r.to h) ≡ finite_map.get c.cells h
  pub ledger : (u : ℕ) → d.ledger u ≡ c.ledger u
  pub pending : (i : ℕ) → d.pending i ≡ c.pending i

-- ---- tests over lists

pub any_same : (f g : ℕ → Bool) → ((a : ℕ) → f a ≡ g a) → (xs : List ℕ) → list_any f xs ≡ list_any g xs
any_same f g same xs = ap (λ (test : ℕ → Bool). list_any test xs) (λ k a. same a k)

-- ---- what is renamed at once

held_renamed : (to : ℕ → ℕ) (slot : Slot) → held (renamed_slot to slot) ≡ option_map (renamed to) (held slot)
held_renamed to Blank = refl
held_renamed to (Holds h) = refl
held_renamed to (Failed kind) = refl

failed_renamed : (to : ℕ → ℕ) (slot : Slot) → is_failed (renamed_slot to slot) ≡ is_failed slot
failed_renamed to Blank = refl
failed_renamed to (Holds h) = refl
failed_renamed to (Failed kind) = refl

kind_renamed : (to : ℕ → ℕ) (slot : Slot) → failed_by (renamed_slot to slot) ≡ failed_by slot
kind_renamed to Blank = refl
kind_renamed to (Holds h) = refl
kind_renamed to (Failed kind) = refl

some_renamed : (to : ℕ → ℕ) (o : Option Held) → is_some (option_map (renamed to) o) ≡ is_some o
some_renamed to None = refl
some_renamed to (Some h) = refl

pub or_renamed : (to : ℕ → ℕ) (a b : Option Held) → option_or (option_map (renamed to) a) (option_map (renamed to) b) ≡ option_map (renamed to) (option_or a b)
or_renamed to None b = refl
or_renamed to (Some h) b = refl

slot_renamed : (to : ℕ → ℕ) (o : Option Held) → slot_of (option_map (renamed to) o) ≡ renamed_slot to (slot_of o)
slot_renamed to None = refl
slot_renamed to (Some h) = refl

if_renamed : (to : ℕ → ℕ) (b : Bool) (o : Option Held) → (if b then slot_of (option_map (renamed to) o) else Blank) ≡ renamed_slot to (if b then slot_of o else Blank)
if_renamed to true o = slot_renamed to o
if_renamed to false o = refl

unit_renamed : (to : ℕ → ℕ) (b : Bool) → (if b then Holds (Bare scalar.Unit) else Blank) ≡ renamed_slot to (if b then Holds (Bare scalar.Unit) else Blank)
unit_renamed to true = refl
unit_renamed to false = refl

true_renamed : (to : ℕ → ℕ) (d e : Option Held) → where_true (option_map (renamed to) d) (option_map (renamed to) e) ≡ option_map (renamed to) (where_true d e)
true_renamed to None e = refl
true_renamed to (Some (Cell h)) e = refl
true_renamed to (Some (Bare scalar.Unit)) e = refl
true_renamed to (Some (Bare (scalar.Int z))) e = refl
true_renamed to (Some (Bare (scalar.Bool true))) e = refl
true_renamed to (Some (Bare (scalar.Bool false))) e = refl
true_renamed to (Some (Bare (scalar.Text bytes))) e = refl

either_renamed : (to : ℕ → ℕ) (d a b : Option Held)
    → where_either (option_map (renamed to) d) (option_map (renamed to) a) (option_map (renamed to) b) ≡ option_map (renamed to) (where_either d a b)
either_renamed to None a b = refl
either_renamed to (Some (Cell h)) a b = refl
either_renamed to (Some (Bare scalar.Unit)) a b = refl
either_renamed to (Some (Bare (scalar.Int z))) a b = refl
either_renamed to (Some (Bare (scalar.Text bytes))) a b = refl
either_renamed to (Some (Bare (scalar.Bool true))) None b = refl
either_renamed to (Some (Bare (scalar.Bool true))) (Some a) None = refl
either_renamed to (Some (Bare (scalar.Bool true))) (Some a) (Some b) = refl
either_renamed to (Some (Bare (scalar.Bool false))) None b = refl
either_renamed to (Some (Bare (scalar.Bool false))) (Some a) None = refl
either_renamed to (Some (Bare (scalar.Bool false))) (Some a) (Some b) = refl

bare_answer : (to : ℕ → ℕ) (a : Answer) → slot_of_answer a ≡ renamed_slot to (slot_of_answer a)
bare_answer to (Ok None) = refl
bare_answer to (Ok (Some (Plain s))) = refl
bare_answer to (Ok (Some (Keyed s))) = refl
bare_answer to (Ok (Some (Mapped m))) = refl
bare_answer to (Ok (Some (Listed l))) = refl
bare_answer to (Err kind) = refl

made_renamed : (to : ℕ → ℕ) (a : Answer) → made a ≡ renamed_effect to (made a)
made_renamed to (Ok None) = refl
made_renamed to (Ok (Some v)) = refl
made_renamed to (Err kind) = refl

by_renamed : (to : ℕ → ℕ) (b : Bool) (a : Answer) → effect_by b a ≡ renamed_effect to (effect_by b a)
by_renamed to true a = made_renamed to a
by_renamed to false a = ap Fill (bare_answer to a)

barred_renamed : (to : ℕ → ℕ) (b : Bool) (x : Effect) → (if b then Fill (Failed None) else renamed_effect to x) ≡ renamed_effect to (if b then Fill (Failed None) else x)
barred_renamed to true x = refl
barred_renamed to false x = refl

-- ---- what two configurations that are alike show

module _ (r : Renaming) (c d : Config) (alike : Alike r c d) where
  pub held_alike : (a : ℕ) → held (d.slots a) ≡ option_map (renamed r.to) (held (c.slots a))
  held_alike a = ap held (alike.slots a) ∙ held_renamed r.to (c.slots a)

  view_alike : (o : Option Held) → option_and_then (view_of d.cells) (option_map (renamed r.to) o) ≡ option_and_then (view_of c.cells) o
  view_alike None = refl
  view_alike (Some (Bare s)) = refl
  view_alike (Some (Cell h)) = alike.cells h

  pub value_alike : (a : ℕ) → value_in d a ≡ value_in c a
  value_alike a = ap (option_and_then (view_of d.cells)) (held_alike a) ∙ view_alike (held (c.slots a))

  values_alike : (args : List ℕ) → map (value_in d) args ≡ map (value_in c) args
  values_alike args = ap (λ (f : ℕ → Option View). map f args) (λ k a. value_alike a k)

  pub fires_alike : (a : ℕ) → fires d a ≡ fires c a
  fires_alike a = ap is_some (held_alike a) ∙ some_renamed r.to (held (c.slots a))

  barred_alike : (e : Equation) → is_barred d e ≡ is_barred c e
  barred_alike e =
      any_same (λ a. is_failed (d.slots a)) (λ a. is_failed (c.slots a)) (λ a. ap is_failed (alike.slots a) ∙ failed_renamed r.to (c.slots a)) (used_of e.op e.args)

  pub source_alike : (args : List ℕ) → source_slot d args ≡ renamed_slot r.to (source_slot c args)
  source_alike [] = refl
  source_alike (m ∷ args) = alike.slots m

  size_alike : (args : List ℕ) → source_size d args ≡ source_size c args
  size_alike [] = refl
  size_alike (m ∷ args) = ap size_at (value_alike m)

  more_alike : (i : ℕ) (args : List ℕ) (b : Bool) (u : ℕ)
      → (if b then with d.ledger i (min (d.ledger i + source_size d args) (2 ^ 64 - 1)) else d.ledger) u
      ≡ (if b then with c.ledger i (min (c.ledger i + source_size c args) (2 ^ 64 - 1)) else c.ledger) u
  more_alike i args true u =
      ap (λ n. if u == i then min (n + source_size d args) (2 ^ 64 - 1) else d.ledger u) (alike.ledger i)
      ∙ ap (λ n. if u == i then min (c.ledger i + n) (2 ^ 64 - 1) else d.ledger u) (size_alike args)
      ∙ ap (λ n. if u == i then min (c.ledger i + source_size c args) (2 ^ 64 - 1) else n) (alike.ledger u)
  more_alike i args false u = alike.ledger u

  pub counted_alike : (i : ℕ) (e : Equation) (u : ℕ) → counted d i e u ≡ counted c i e u
  counted_alike i e u = more_alike i e.args (is_update e.op) u

  pub timed_alike : (t i : ℕ) (args : List ℕ) (j : ℕ) → timed t d i args j ≡ timed t c i args j
  timed_alike t i [] j = alike.pending j
  timed_alike t i (a ∷ []) j = alike.pending j
  timed_alike t i (a ∷ b ∷ x ∷ more) j = alike.pending j
  timed_alike t i (a ∷ b ∷ []) j =
      ap (λ x. (if x || fires d b then with d.pending i (expiry t (value_in d a)) else d.pending) j) (fires_alike i)
      ∙ ap (λ x. (if fires c i || x then with d.pending i (expiry t (value_in d a)) else d.pending) j) (fires_alike b)
      ∙ ap (λ x. (if fires c i || fires c b then with d.pending i (expiry t x) else d.pending) j) (value_alike a)
      ∙ ap (λ (f : ℕ → Option ℕ). (if fires c i || fires c b then with f i (expiry t (value_in c a)) else f) j) (λ k q. alike.pending q k)

  -- ---- what an equation does

  module _ (inputs : Inputs) (t : ℕ) where
    general : (o : Op) (args : List ℕ) (of : ValueType)
        → effect_by (is_update o) (at_once o of (map (value_in d) args) t) ≡ renamed_effect r.to (effect_by (is_update o) (at_once o of (map (value_in c) args) t))
    general o args of =
        ap (λ vs. effect_by (is_update o) (at_once o of vs t)) (values_alike args)
        ∙ by_renamed r.to (is_update o) (at_once o of (map (value_in c) args) t)

    own_alike : (i : ℕ) (o : Op) (args : List ℕ) (of : ValueType) → effect_of inputs t d i o args of ≡ renamed_effect r.to (effect_of inputs t c i o args of)
    own_alike i op.Input args of = ap Fill (bare_answer r.to (Ok (inputs i t)))
    own_alike i op.Last (v ∷ a ∷ []) of =
        ap (λ b. Fill (if b then slot_of (d.lasts v) else Blank)) (fires_alike a)
        ∙ ap (λ l. Fill (if fires c a then slot_of l else Blank)) (alike.lasts v)
        ∙ ap Fill (if_renamed r.to (fires c a) (c.lasts v))
    own_alike i op.Delay args of =
        ap (λ o. Fill (if option_is t o then Holds (Bare scalar.Unit) else Blank)) (alike.pending i) ∙ ap Fill (unit_renamed r.to (option_is t (c.pending i)))
    own_alike i op.Merge (a ∷ b ∷ []) of =
        ap (λ h. Fill (slot_of (option_or h (held (d.slots b))))) (held_alike a)
        ∙ ap (λ h. Fill (slot_of (option_or (option_map (renamed r.to) (held (c.slots a))) h))) (held_alike b)
        ∙ ap (λ h. Fill (slot_of h)) (or_renamed r.to (held (c.slots a)) (held (c.slots b)))
        ∙ ap Fill (slot_renamed r.to (option_or (held (c.slots a)) (held (c.slots b))))
    own_alike i op.Filter (e ∷ q ∷ []) of =
        ap (λ h. Fill (slot_of (where_true h (held (d.slots e))))) (held_alike q)
        ∙ ap (λ h. Fill (slot_of (where_true (option_map (renamed r.to) (held (c.slots q))) h))) (held_alike e)
        ∙ ap (λ h. Fill (slot_of h)) (true_renamed r.to (held (c.slots q)) (held (c.slots e)))
        ∙ ap Fill (slot_renamed r.to (where_true (held (c.slots q)) (held (c.slots e))))
    own_alike i op.Pick (q ∷ a ∷ b ∷ []) of =
        ap (λ h. Fill (slot_of (where_either h (held (d.slots a)) (held (d.slots b))))) (held_alike q)
        ∙ ap (λ h. Fill (slot_of (where_either (option_map (renamed r.to) (held (c.slots q))) h (held (d.slots b))))) (held_alike a)
        ∙ ap (λ h. Fill (slot_of (where_either (option_map (renamed r.to) (held (c.slots q))) (option_map (renamed r.to) (held (c.slots a))) h))) (held_alike b)
        ∙ ap (λ h. Fill (slot_of h)) (either_renamed r.to (held (c.slots q)) (held (c.slots a)) (held (c.slots b)))
        ∙ ap Fill (slot_renamed r.to (where_either (held (c.slots q)) (held (c.slots a)) (held (c.slots b))))
    own_alike i op.Empty args of =
        ap (λ vs. made (at_once op.Empty of vs t)) (values_alike args) ∙ made_renamed r.to (at_once op.Empty of (map (value_in c) args) t)
    own_alike i op.Last [] of = general op.Last [] of
    own_alike i op.Last (v ∷ []) of = general op.Last (v ∷ []) of
    own_alike i op.Last (v ∷ a ∷ x ∷ more) of = general op.Last (v ∷ a ∷ x ∷ more) of
    own_alike i op.Merge [] of = general op.Merge [] of
    own_alike i op.Merge (a ∷ []) of = general op.Merge (a ∷ []) of
    own_alike i op.Merge (a ∷ b ∷ x ∷ more) of = general op.Merge (a ∷ b ∷ x ∷ more) of
    own_alike i op.Filter [] of = general op.Filter [] of
    own_alike i op.Filter (e ∷ []) of = general op.Filter (e ∷ []) of
    own_alike i op.Filter (e ∷ q ∷ x ∷ more) of = general op.Filter (e ∷ q ∷ x ∷ more) of
    own_alike i op.Pick [] of = general op.Pick [] of
    own_alike i op.Pick (q ∷ []) of = general op.Pick (q ∷ []) of
    own_alike i op.Pick (q ∷ a ∷ []) of = general op.Pick (q ∷ a ∷ []) of
    own_alike i op.Pick (q ∷ a ∷ b ∷ x ∷ more) of = general op.Pick (q ∷ a ∷ b ∷ x ∷ more) of
    own_alike i o args of = general o args of

    pub effect_alike : (i : ℕ) (e : Equation) → effect inputs t d i e ≡ renamed_effect r.to (effect inputs t c i e)
    effect_alike i e =
        ap (λ b. if b then Fill (Failed None) else effect_of inputs t d i e.op e.args e.of) (barred_alike e)
        ∙ ap (λ x. if is_barred c e then Fill (Failed None) else x) (own_alike i e.op e.args e.of)
        ∙ barred_renamed r.to (is_barred c e) (effect_of inputs t c i e.op e.args e.of)

  -- ---- root faults

  root_alike : (i : ℕ) (o : Op) (args : List ℕ) → root_in d i o args ≡ root_in c i o args
  root_alike i op.Delay [] = refl
  root_alike i op.Delay (a ∷ []) = refl
  root_alike i op.Delay (a ∷ b ∷ []) = ap refused (value_alike a)
  root_alike i op.Delay (a ∷ b ∷ x ∷ more) = refl
  root_alike i o args = ap failed_by (alike.slots i) ∙ kind_renamed r.to (c.slots i)

  seen_alike : (q : Option Equation) (i : ℕ) → is_some (option_and_then (λ e. root_in d i e.op e.args) q) ≡ is_some (option_and_then (λ e. root_in c i e.op e.args) q)
  seen_alike None i = refl
  seen_alike (Some e) i = ap is_some (root_alike i e.op e.args)

  pub roots_alike : (s : System) → has_root s d ≡ has_root s c
  roots_alike s = any_same (λ i. is_some (root_seen s d i)) (λ i. is_some (root_seen s c i)) (λ i. seen_alike (equation s i) i) s.running
