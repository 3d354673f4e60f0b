-- One equation: it runs in the code as it does in the register machine.
use Rattle.std.proofs.Common.{◌≡◌, ◌==◌, ℕ, ◌+◌, ◌<◌, ◌^◌, ◌-◌, Bool, true, false, ◌||◌, List, [], ◌∷◌, length, map, Option, Some, None, Ok, Err, refl, sym, ap, subst, ◌∙◌, inl, inr}
use Rattle.std.proofs.lemmas.Bool.{cases_eq, or_parts, false≢true, true≢false}
use Rattle.std.proofs.lemmas.List.{get_or-set_same, get_or-set_other}
use Rattle.std.specs.Prelude.{◌≢◌, if◌then◌else◌, is_some, min, slice_index, slice_set}
use Rattle.std.specs.Option.{option_and_then, option_map, option_or}
use Rattle.std.specs.List.{AllByRecursion, list_any}
use Rattle.std.specs.FinMap as finite_map
use Rattle.tsl_value.specs.View.{View, Plain}
use Rattle.tsl_value.specs.declared.scalar.Scalar.TheVariants as scalar
use Rattle.tsl_value.specs.declared.scalar.ValueType.{ValueType}
use Rattle.body_eval.specs.declared.eval.EvalFault.TheVariants as eval_fault
use Rattle.lift_func.specs.declared.fault.FaultKind.{FaultKind}
use Rattle.body_eval.specs.declared.register.Register.{Register}
use Rattle.body_eval.specs.declared.register.Register.TheVariants as register
use Rattle.body_eval.specs.inner.Registers as cell_registers
use Rattle.cell_reader.specs.inner.Cells.{IsLive}
use Rattle.body_eval.specs.inner.Registers.{HoldsLive}
use Rattle.aggregate_store.specs.inner.Stored.{Stored, counted}
use Rattle.flat_core.specs.declared.equation.Equation.{Equation}
use Rattle.flat_core.specs.declared.equation.Op.{Op}
use Rattle.flat_core.specs.declared.equation.Op.TheVariants as op
use Rattle.flat_core.specs.Case.{used_of}
use Rattle.flat_core.specs.Events.{Inputs, at_once}
use Rattle.flat_core.specs.Pending.{option_is}
use Rattle.flat_core.specs.Updates.{is_update}
use Rattle.flat_core.proofs.UpdateOps.{used_update}
use Rattle.register_machine.specs.Copied.{size_at}
use Rattle.register_machine.specs.Machine.{Held, Bare, Cell, Slot, Blank, Holds, Failed, held, is_failed, slot_of, slot_of_answer, Config, value_in, view_of, with, Effect, Fill, Make, effect_of, effect, is_barred, Ran, RanInPlace}
use Rattle.register_machine.specs.Machine as machine
use Rattle.register_machine.specs.Run.{failed_by}
use Rattle.register_machine.proofs.Cells.{with-here, with-there}
use Rattle.monitor_run.specs.declared.machine.Machine.{Machine}
use Rattle.monitor_run.specs.declared.run.Root.{Root}
use Rattle.flat_core.specs.inner.Arity.{HasArity}
use Rattle.monitor_run.specs.inner.Here.{HasEffect, HasMade, IsBare, effect_here, is_blocked_here, is_given_op, is_marked, source_of}
use Rattle.monitor_run.specs.inner.Instant.{AreBare, HasRunOne, was_given, was_barred, was_filled, has_failed, IsGivenEvent, IsShownAt, ShowsBeside}
use Rattle.monitor_run.specs.inner.Machine.{IsFresh}
use Rattle.monitor_run.specs.inner.Registers.{register_at}
use Rattle.monitor_run.specs.inner.Shown.{IsShown, config_of, held_at, held_by}
use Rattle.monitor_run.proofs.CaseLemmas.{value_seen}

-- ---- registers that stand for one another

-- a register that stands for one that is no fault
sound_slot : (r : Register) (slot : Slot) → IsShown false r slot → slot ≡ slot_of (held_by r)
sound_slot r Blank shown = ap slot_of (sym shown.holds)
sound_slot r (Holds h) shown = ap slot_of (sym shown.holds)
sound_slot r (Failed kind) shown = absurd (false≢true shown.fails)

shown_holds : (r : Register) → IsShown false r (slot_of (held_by r))
shown_holds register.Empty = record { holds = refl; fails = refl }
shown_holds (register.Scalar s) = record { holds = refl; fails = refl }
shown_holds (register.Aggregate h) = record { holds = refl; fails = refl }

answer_sound : (v : Option View) → is_failed (slot_of_answer (Ok v)) ≡ false
answer_sound None = refl
answer_sound (Some (Plain s)) = refl
answer_sound (Some v) = refl

answer_no_root : (v : Option View) → failed_by (slot_of_answer (Ok v)) ≡ None
answer_no_root None = refl
answer_no_root (Some (Plain s)) = refl
answer_no_root (Some v) = refl

no_root : (r : Register) → failed_by (slot_of (held_by r)) ≡ None
no_root register.Empty = refl
no_root (register.Scalar s) = refl
no_root (register.Aggregate h) = refl

-- a failed equation by itself has this root fault
abbrev pub root_of_slot : ℕ → Slot → Option Root
root_of_slot i slot = option_map (λ kind. record { equation = i; kind = kind }) (failed_by slot)

-- ---- what can run, and what has

-- Equation i can run: the arguments that it uses at the same time, and all that it uses besides, stand for a configuration.
pub record CanRunOn (inputs : Inputs) (t i : ℕ) (e : Equation) (m : Machine) (c : Config) : Type 0 where
  pub used : AllByRecursion (IsShownAt m c) (used_of e.op e.args)
  pub beside : ShowsBeside m c
  pub given : IsGivenEvent inputs t i e.op m c.pending

-- the step of an equation
abbrev pub RanOne : Bool → ℕ → Equation → Config → Effect → Config → Type 0
RanOne true i e c does d = RanInPlace i e c does d
RanOne false i e c does d = Ran i e c does d

-- An equation has run as the machine runs it.
pub record HasRunOn (inputs : Inputs) (in_place : Bool) (t i : ℕ) (e : Equation) (c : Config) (new : Machine) (root : Option Root) : Type 0 where
  pub next : Config
  pub ran : RanOne in_place i e c (effect inputs t c i e) next
  pub shown : IsShownAt new next i
  pub beside : ShowsBeside new next
  pub others : (j : ℕ) → j ≢ i → next.slots j ≡ c.slots j
  pub pending : (j : ℕ) → next.pending j ≡ c.pending j
  pub root_is : root ≡ root_of_slot i (next.slots i)

-- ---- effects depend on what is used

module _ (inputs : Inputs) (t i : ℕ) (c d : Config) (cells : c.cells ≡ d.cells) (lasts : (v : ℕ) → c.lasts v ≡ d.lasts v) where
  value_same : (a : ℕ) → c.slots a ≡ d.slots a → value_in c a ≡ value_in d a
  value_same a slot = λ k. option_and_then (view_of (cells k)) (held (slot k))

  values_same : (args : List ℕ) → AllByRecursion (λ a. c.slots a ≡ d.slots a) args → map (value_in c) args ≡ map (value_in d) args
  values_same [] all = refl
  values_same (a ∷ args) all = let here = value_same a all.0 in let rest = values_same args all.1 in λ k. here k ∷ rest k

  pub effect_same : (o : Op) (args : List ℕ) (of : ValueType) → is_given_op o ≡ false → HasArity o args → AllByRecursion (λ a. c.slots a ≡ d.slots a) (used_of o args) → effect_of inputs t c i o args of ≡ effect_of (λ j u. None) t d i o args of
  effect_same op.Input args of other shape used = absurd (true≢false other)
  effect_same op.Delay args of other shape used = absurd (true≢false other)
  effect_same op.Last [] of other shape used = absurd shape
  effect_same op.Last (v ∷ []) of other shape used = absurd shape
  effect_same op.Last (v ∷ r ∷ x ∷ args) of other shape used = absurd shape
  effect_same op.Last (v ∷ r ∷ []) of other shape used = λ k. Fill (if is_some (held (used.0 k)) then slot_of (lasts v k) else Blank)
  effect_same op.Merge [] of other shape used = absurd shape
  effect_same op.Merge (a ∷ []) of other shape used = absurd shape
  effect_same op.Merge (a ∷ b ∷ x ∷ args) of other shape used = absurd shape
  effect_same op.Merge (a ∷ b ∷ []) of other shape used = λ k. Fill (slot_of (option_or (held (used.0 k)) (held (used.1.0 k))))
  effect_same op.Filter [] of other shape used = absurd shape
  effect_same op.Filter (a ∷ []) of other shape used = absurd shape
  effect_same op.Filter (a ∷ b ∷ x ∷ args) of other shape used = absurd shape
  effect_same op.Filter (a ∷ b ∷ []) of other shape used = λ k. Fill (slot_of (machine.where_true (held (used.1.0 k)) (held (used.0 k))))
  effect_same op.Pick [] of other shape used = absurd shape
  effect_same op.Pick (a ∷ []) of other shape used = absurd shape
  effect_same op.Pick (a ∷ b ∷ []) of other shape used = absurd shape
  effect_same op.Pick (a ∷ b ∷ x ∷ y ∷ args) of other shape used = absurd shape
  effect_same op.Pick (a ∷ b ∷ x ∷ []) of other shape used = λ k. Fill (slot_of (machine.where_either (held (used.0 k)) (held (used.1.0 k)) (held (used.1.1.0 k))))
  effect_same op.Empty args of other shape used = ap (λ vs. machine.made (at_once op.Empty of vs t)) (values_same args used)
  effect_same o args of other shape used = ap (λ vs. machine.effect_by (is_update o) (at_once o of vs t)) (values_same args used)

-- the first argument of an update is used
pub source_used : (P : ℕ → Type 0) (o : Op) (m : ℕ) (args : List ℕ) → is_update o ≡ true → AllByRecursion P (used_of o (m ∷ args)) → P m
source_used P o m args is all = let used = subst (AllByRecursion P) (used_update o is (m ∷ args)) all in used.0

-- ---- numbers of the ledger
ledger_here : (ledger : List ℕ) (i x u : ℕ) → i < length ledger → slice_index (slice_set ledger i x) u ≡ with (slice_index ledger) i x u
ledger_here ledger i x u there = elim (cases_eq u i) [
  | inl same ↦ subst (λ n. slice_index (slice_set ledger i x) n ≡ with (slice_index ledger) i x n) (sym same) (get_or-set_same ledger i x 0 there ∙ sym (with-here (slice_index ledger) i x))
  | inr other ↦ get_or-set_other ledger i u x 0 other ∙ sym (with-there (slice_index ledger) i x u other)
]

with_same : (f g : ℕ → ℕ) (i x y u : ℕ) → ((n : ℕ) → f n ≡ g n) → x ≡ y → with f i x u ≡ with g i y u
with_same f g i x y u same is = λ k. if u == i then is k else same u k

-- ---- one equation
module _ (inputs : Inputs) (in_place : Bool) (t i : ℕ) (e : Equation) (old new : Machine) (c : Config) (can : CanRunOn inputs t i e old c) (shape : HasArity e.op e.args) (last : new.last.items ≡ old.last.items) where
  barred_is : is_barred c e ≡ is_blocked_here old.faulted.items e.op e.args
  barred_is = go (used_of e.op e.args) can.used
    where
      go : (xs : List ℕ) → AllByRecursion (IsShownAt old c) xs → list_any (λ a. is_failed (c.slots a)) xs ≡ list_any (is_marked old.faulted.items) xs
      go [] all = refl
      go (a ∷ xs) all = let here = sym all.0.fails in let rest = go xs all.1 in λ k. here k || rest k

  effect_is : (b : Bool) → is_blocked_here old.faulted.items e.op e.args ≡ b → effect inputs t c i e ≡ (if b then Fill (Failed None) else effect_of inputs t c i e.op e.args e.of)
  effect_is b is = let same = barred_is ∙ is in λ k. if same k then Fill (Failed None) else effect_of inputs t c i e.op e.args e.of

  -- no argument that is used is a fault: the effect is that of the code's registers
  module _ (sound : is_blocked_here old.faulted.items e.op e.args ≡ false) (other : is_given_op e.op ≡ false) where
    slots_are : AllByRecursion (λ a. c.slots a ≡ slot_of (held_at old.registers.items a)) (used_of e.op e.args)
    slots_are = go (used_of e.op e.args) can.used sound
      where
        go : (xs : List ℕ) → AllByRecursion (IsShownAt old c) xs → list_any (is_marked old.faulted.items) xs ≡ false → AllByRecursion (λ a. c.slots a ≡ slot_of (held_at old.registers.items a)) xs
        go [] all none = tt
        go (a ∷ xs) all none =
            let two = or_parts (is_marked old.faulted.items a) (list_any (is_marked old.faulted.items) xs) none in
            (sound_slot (register_at old.registers.items a) (c.slots a) (subst (λ b. IsShown b (register_at old.registers.items a) (c.slots a)) two.0 all.0), go xs all.1 two.1)

    own_effect : effect inputs t c i e ≡ effect_here old.registers.items old.last.items old.store i t e
    own_effect =
        effect_is false sound
        ∙ effect_same inputs t i c (config_of old.registers.items old.last.items old.store) (sym can.beside.cells) (λ v. sym (can.beside.lasts v)) e.op e.args e.of other shape slots_are

  -- a register is filled
  ran_fill : (b : Bool) (slot : Slot) (does : Effect) → does ≡ Fill slot → RanOne b i e c does (record c { slots = with c.slots i slot })
  ran_fill true slot does is = subst (λ x. RanOne true i e c x (record c { slots = with c.slots i slot })) (sym is) refl
  ran_fill false slot does is = subst (λ x. RanOne false i e c x (record c { slots = with c.slots i slot })) (sym is) refl

  fill_step : (slot : Slot) → effect inputs t c i e ≡ Fill slot → new.store ≡ old.store → IsShown (is_marked new.faulted.items i) (register_at new.registers.items i) slot → (root : Option Root) → root ≡ root_of_slot i slot → HasRunOn inputs in_place t i e c new root
  fill_step slot is store shown root root_is = record {
    next = record c { slots = with c.slots i slot };
    ran = ran_fill in_place slot (effect inputs t c i e) is;
    shown = subst (IsShown (is_marked new.faulted.items i) (register_at new.registers.items i)) (sym (with-here c.slots i slot)) shown;
    beside = record {
      lasts = λ v. ap (λ l. held_at l v) last ∙ can.beside.lasts v;
      cells = ap (λ (s : Stored). s.cells) store ∙ can.beside.cells;
      ledger = λ u. ap (λ (s : Stored). slice_index s.ledger u) store ∙ can.beside.ledger u;
    };
    others = λ j ne. with-there c.slots i slot j ne;
    pending = λ j. refl;
    root_is = root_is ∙ sym (ap (root_of_slot i) (with-here c.slots i slot));
  }

  -- inputs and delays
  given_step : is_given_op e.op ≡ true → new ≡ old → IsFresh old i e.op → HasRunOn inputs in_place t i e c new None
  given_step is same fresh = go e.op refl is
    where
      mark : is_marked new.faulted.items i ≡ false
      mark = ap (λ (m : Machine). is_marked m.faulted.items i) same ∙ fresh.unmarked

      holds : (h : Option Held) → held_at old.registers.items i ≡ h → held_at new.registers.items i ≡ h
      holds h at = ap (λ (m : Machine). held_at m.registers.items i) same ∙ at

      store : new.store ≡ old.store
      store = ap (λ (m : Machine). m.store) same

      due_slot : (b : Bool) → (if b then Some (Bare scalar.Unit) else None) ≡ held (if b then Holds (Bare scalar.Unit) else Blank)
      due_slot true = refl
      due_slot false = refl

      due_sound : (b : Bool) → is_failed (if b then Holds (Bare scalar.Unit) else Blank) ≡ false
      due_sound true = refl
      due_sound false = refl

      due_root : (b : Bool) → failed_by (if b then Holds (Bare scalar.Unit) else Blank) ≡ None
      due_root true = refl
      due_root false = refl

      no_args : (args : List ℕ) → HasArity op.Input args → args ≡ []
      no_args [] s = refl
      no_args (a ∷ args) s = absurd s

      go : (o : Op) → e.op ≡ o → is_given_op o ≡ true → HasRunOn inputs in_place t i e c new None
      go op.Input at so =
          let none = no_args e.args (subst (λ p. HasArity p e.args) at shape) in
          fill_step (slot_of_answer (Ok (inputs i t)))
          ((λ k. if list_any (λ a. is_failed (c.slots a)) (used_of (at k) (none k)) then Fill (Failed None) else effect_of inputs t c i (at k) (none k) e.of))
          store
          (record { holds = holds (held (slot_of_answer (Ok (inputs i t)))) (can.given.input at); fails = mark ∙ sym (answer_sound (inputs i t)) })
          None (sym (ap (option_map (λ kind. record { equation = i; kind = kind })) (answer_no_root (inputs i t))))
      go op.Delay at so =
          let b = option_is t (c.pending i) in
          fill_step (if option_is t (c.pending i) then Holds (Bare scalar.Unit) else Blank)
          (λ k. if list_any (λ a. is_failed (c.slots a)) (used_of (at k) e.args) then Fill (Failed None) else effect_of inputs t c i (at k) e.args e.of)
          store
          (record { holds = holds (if option_is t (c.pending i) then Some (Bare scalar.Unit) else None) (can.given.delay at) ∙ due_slot (option_is t (c.pending i)); fails = mark ∙ sym (due_sound (option_is t (c.pending i))) })
          None (sym (ap (option_map (λ kind. record { equation = i; kind = kind })) (due_root (option_is t (c.pending i)))))
      go o at so = absurd (false≢true so)

  -- a mark is set
  marked_now : i < length old.faulted.items → new.faulted.items ≡ slice_set old.faulted.items i true → is_marked new.faulted.items i ≡ true
  marked_now there is = ap (λ ms. is_marked ms i) is ∙ get_or-set_same old.faulted.items i true false there

  blank_now : i < length old.registers.items → new.registers.items ≡ slice_set old.registers.items i register.Empty → held_at new.registers.items i ≡ None
  blank_now placed is = ap held_by (ap (λ rs. register_at rs i) is ∙ get_or-set_same old.registers.items i register.Empty register.Empty placed)

  barred_step : is_blocked_here old.faulted.items e.op e.args ≡ true → i < length old.faulted.items → i < length old.registers.items → new.registers.items ≡ slice_set old.registers.items i register.Empty → new.faulted.items ≡ slice_set old.faulted.items i true → new.store ≡ old.store → HasRunOn inputs in_place t i e c new None
  barred_step blocked there placed registers marks store =
      fill_step (Failed None) (effect_is true blocked) store (record { holds = blank_now placed registers; fails = marked_now there marks }) None refl

  -- the register is filled by the own case
  module _ (other : is_given_op e.op ≡ false) (sound : is_blocked_here old.faulted.items e.op e.args ≡ false) (fresh : IsFresh old i e.op) where
    failed_step : (kind : FaultKind) → HasEffect in_place i e.op (source_of old.registers.items e.args) old.store new.store (Err (eval_fault.Fault kind)) (effect_here old.registers.items old.last.items old.store i t e)
        → i < length old.faulted.items → i < length old.registers.items → new.registers.items ≡ slice_set old.registers.items i register.Empty → new.faulted.items ≡ slice_set old.faulted.items i true → HasRunOn inputs in_place t i e c new (Some (record { equation = i; kind = kind }))
    failed_step kind has there placed registers marks = go (effect_here old.registers.items old.last.items old.store i t e) (own_effect sound other) has
      where
        go : (does : Effect) → effect inputs t c i e ≡ does → HasEffect in_place i e.op (source_of old.registers.items e.args) old.store new.store (Err (eval_fault.Fault kind)) does → HasRunOn inputs in_place t i e c new (Some (record { equation = i; kind = kind }))
        go (Fill slot) is has =
            fill_step (Failed (Some kind)) (is ∙ ap Fill has.0) has.1 (record { holds = blank_now placed registers; fails = marked_now there marks }) (Some (record { equation = i; kind = kind })) refl
        go (Make v) is has = absurd has

    module _ (r : Register) (there : i < length old.registers.items) (numbered : i < length old.store.ledger) (update : in_place ≡ true → is_update e.op ≡ true) (registers : new.registers.items ≡ slice_set old.registers.items i r) (marks : new.faulted ≡ old.faulted)
        (live : AllByRecursion (λ a. HoldsLive old.store.cells (register_at old.registers.items a)) e.args) where
      here : register_at new.registers.items i ≡ r
      here = ap (λ rs. register_at rs i) registers ∙ get_or-set_same old.registers.items i r register.Empty there

      unmarked : is_marked new.faulted.items i ≡ false
      unmarked = ap (λ v. is_marked v.items i) marks ∙ fresh.unmarked

      shown_now : IsShown (is_marked new.faulted.items i) (register_at new.registers.items i) (slot_of (held_by r))
      shown_now = subst (λ b. IsShown b (register_at new.registers.items i) (slot_of (held_by r))) (sym unmarked) (subst (λ x. IsShown false x (slot_of (held_by r))) (sym here) (shown_holds r))

      -- a cell
      cell_shown : (h : ℕ) → r ≡ register.Aggregate h → IsShown (is_marked new.faulted.items i) (register_at new.registers.items i) (with c.slots i (Holds (Cell h)) i)
      cell_shown h is = subst (IsShown (is_marked new.faulted.items i) (register_at new.registers.items i)) (ap (λ x. slot_of (held_by x)) is ∙ sym (with-here c.slots i (Holds (Cell h)))) shown_now

      new_lasts : (v : ℕ) → held_at new.last.items v ≡ c.lasts v
      new_lasts v = ap (λ l. held_at l v) last ∙ can.beside.lasts v

      free : (h : ℕ) → ¬ (IsLive old.store.cells h) → finite_map.get c.cells h ≡ None
      free h fresh = subst (λ m. finite_map.get m h ≡ None) can.beside.cells (none_of (finite_map.get old.store.cells h) refl)
        where
          none_of : (o : Option View) → finite_map.get old.store.cells h ≡ o → o ≡ None
          none_of None is = refl
          none_of (Some v) is = absurd (fresh (ap is_some is))

      new_cells : (h : ℕ) (v : View) → new.store.cells ≡ finite_map.insert old.store.cells h v → new.store.cells ≡ finite_map.insert c.cells h v
      new_cells h v is = is ∙ ap (λ m. finite_map.insert m h v) can.beside.cells

      -- made: no update, or an update that copies
      make_step : (b : Bool) → in_place ≡ b → (v : View) → effect inputs t c i e ≡ Make v → HasMade (is_update e.op) b i (source_of old.registers.items e.args) old.store new.store r v → HasRunOn inputs b t i e c new None
      make_step b place v is has = go (is_update e.op) refl b place has
        where
          counted_here : (n : ℕ) → n ≡ machine.source_size c e.args → is_update e.op ≡ true → (u : ℕ) → slice_index (counted old.store.ledger i n) u ≡ machine.counted c i e u
          counted_here n size so u =
              ledger_here old.store.ledger i (min (slice_index old.store.ledger i + n) (2 ^ 64 - 1)) u numbered
              ∙ with_same (slice_index old.store.ledger) c.ledger i (min (slice_index old.store.ledger i + n) (2 ^ 64 - 1)) (min (c.ledger i + machine.source_size c e.args) (2 ^ 64 - 1)) u can.beside.ledger (λ k. min (can.beside.ledger i k + size k) (2 ^ 64 - 1))
              ∙ sym (λ k. (if so k then with c.ledger i (min (c.ledger i + machine.source_size c e.args) (2 ^ 64 - 1)) else c.ledger) u)

          not_counted : is_update e.op ≡ false → (u : ℕ) → c.ledger u ≡ machine.counted c i e u
          not_counted fails u = sym (λ k. (if fails k then with c.ledger i (min (c.ledger i + machine.source_size c e.args) (2 ^ 64 - 1)) else c.ledger) u)

          used_slots : (args : List ℕ) → e.args ≡ args → AllByRecursion (λ a. c.slots a ≡ slot_of (held_at old.registers.items a)) (used_of e.op args)
          used_slots args at = subst (λ xs. AllByRecursion (λ a. c.slots a ≡ slot_of (held_at old.registers.items a)) (used_of e.op xs)) at (slots_are sound other)

          live_args : (args : List ℕ) → e.args ≡ args → AllByRecursion (λ a. HoldsLive old.store.cells (register_at old.registers.items a)) args
          live_args args at = subst (AllByRecursion (λ a. HoldsLive old.store.cells (register_at old.registers.items a))) at live

          source_is : (args : List ℕ) → e.args ≡ args → is_update e.op ≡ true → size_at (cell_registers.held old.store.cells (source_of old.registers.items args)) ≡ machine.source_size c args
          source_is [] at so = refl
          source_is (m ∷ args) at so =
              let slot = source_used (λ a. c.slots a ≡ slot_of (held_at old.registers.items a)) e.op m args so (used_slots (m ∷ args) at) in
              ap size_at (sym ((λ k. option_and_then (view_of (sym can.beside.cells k)) (held (slot k))) ∙ value_seen old.registers.items old.last.items old.store m (live_args (m ∷ args) at).0))

          source_slot_is : (h : ℕ) (args : List ℕ) → e.args ≡ args → is_update e.op ≡ true → source_of old.registers.items args ≡ register.Aggregate h → machine.source_slot c args ≡ Holds (Cell h)
          source_slot_is h [] at so is = absurd (cc)
          source_slot_is h (m ∷ args) at so is = source_used (λ a. c.slots a ≡ slot_of (held_at old.registers.items a)) e.op m args so (used_slots (m ∷ args) at) ∙ ap (λ x. slot_of (held_by x)) is

          go : (q : Bool) → is_update e.op ≡ q → (b : Bool) → in_place ≡ b → HasMade q b i (source_of old.registers.items e.args) old.store new.store r v → HasRunOn inputs b t i e c new None
          go false fails true so has = absurd (false≢true (sym fails ∙ update so))
          go false fails false place has = record {
            next = record c { slots = with c.slots i (Holds (Cell has.0.handle)); cells = finite_map.insert c.cells has.0.handle v; ledger = machine.counted c i e };
            ran = subst (λ x. RanOne false i e c x (record c { slots = with c.slots i (Holds (Cell has.0.handle)); cells = finite_map.insert c.cells has.0.handle v; ledger = machine.counted c i e })) (sym is) (has.0.handle, free has.0.handle has.0.fresh, refl);
            shown = cell_shown has.0.handle has.0.is;
            beside = record { lasts = new_lasts; cells = new_cells has.0.handle v has.0.cells; ledger = λ u. ap (λ l. slice_index l u) has.1 ∙ can.beside.ledger u ∙ not_counted fails u };
            others = λ j ne. with-there c.slots i (Holds (Cell has.0.handle)) j ne;
            pending = λ j. refl;
            root_is = sym (ap (root_of_slot i) (with-here c.slots i (Holds (Cell has.0.handle))));
          }
          go true so false place has = record {
            next = record c { slots = with c.slots i (Holds (Cell has.0.handle)); cells = finite_map.insert c.cells has.0.handle v; ledger = machine.counted c i e };
            ran = subst (λ x. RanOne false i e c x (record c { slots = with c.slots i (Holds (Cell has.0.handle)); cells = finite_map.insert c.cells has.0.handle v; ledger = machine.counted c i e })) (sym is) (has.0.handle, free has.0.handle has.0.fresh, refl);
            shown = cell_shown has.0.handle has.0.is;
            beside = record { lasts = new_lasts; cells = new_cells has.0.handle v has.0.cells; ledger = λ u. ap (λ l. slice_index l u) has.1 ∙ counted_here _ (source_is e.args refl so) so u };
            others = λ j ne. with-there c.slots i (Holds (Cell has.0.handle)) j ne;
            pending = λ j. refl;
            root_is = sym (ap (root_of_slot i) (with-here c.slots i (Holds (Cell has.0.handle))));
          }
          go true so true place has = record {
            next = record c { slots = with c.slots i (Holds (Cell has.0)); cells = finite_map.insert c.cells has.0 v };
            ran = subst (λ x. RanOne true i e c x (record c { slots = with c.slots i (Holds (Cell has.0)); cells = finite_map.insert c.cells has.0 v })) (sym is) (has.0, source_slot_is has.0 e.args refl so has.1, refl);
            shown = cell_shown has.0 has.2;
            beside = record { lasts = new_lasts; cells = new_cells has.0 v (ap (λ (s : Stored). s.cells) has.3); ledger = λ u. ap (λ (s : Stored). slice_index s.ledger u) has.3 ∙ can.beside.ledger u };
            others = λ j ne. with-there c.slots i (Holds (Cell has.0)) j ne;
            pending = λ j. refl;
            root_is = sym (ap (root_of_slot i) (with-here c.slots i (Holds (Cell has.0))));
          }

      filled_step : HasEffect in_place i e.op (source_of old.registers.items e.args) old.store new.store (Ok r) (effect_here old.registers.items old.last.items old.store i t e) → HasRunOn inputs in_place t i e c new None
      filled_step has = go (effect_here old.registers.items old.last.items old.store i t e) (own_effect sound other) has
        where
          go : (does : Effect) → effect inputs t c i e ≡ does → HasEffect in_place i e.op (source_of old.registers.items e.args) old.store new.store (Ok r) does → HasRunOn inputs in_place t i e c new None
          go (Fill slot) is has = fill_step (slot_of (held_by r)) (is ∙ ap Fill has.0) has.1 shown_now None (sym (ap (option_map (λ kind. record { equation = i; kind = kind })) (no_root r)))
          go (Make v) is has = make_step in_place refl v is has

-- an equation has run in one of its ways
pub run_on : (inputs : Inputs) (in_place : Bool) (t i : ℕ) (e : Equation) (old new : Machine) (root : Option Root) → HasRunOne in_place t i e old new root → (c : Config) → CanRunOn inputs t i e old c → HasArity e.op e.args → new.last.items ≡ old.last.items → IsFresh old i e.op
    → i < length old.faulted.items → i < length old.registers.items → i < length old.store.ledger → (in_place ≡ true → is_update e.op ≡ true) → AllByRecursion (λ a. HoldsLive old.store.cells (register_at old.registers.items a)) e.args → HasRunOn inputs in_place t i e c new root
run_on inputs in_place t i e old new root (was_given is same) c can shape last fresh marked there numbered update live = given_step inputs in_place t i e old new c can shape last is same fresh
run_on inputs in_place t i e old new root (was_barred other blocked registers marks store) c can shape last fresh marked there numbered update live = barred_step inputs in_place t i e old new c can shape last blocked marked there registers marks store
run_on inputs in_place t i e old new root (was_filled r other sound has registers marks) c can shape last fresh marked there numbered update live = filled_step inputs in_place t i e old new c can shape last other sound fresh r there numbered update registers marks live has
run_on inputs in_place t i e old new root (has_failed kind other sound has registers marks) c can shape last fresh marked there numbered update live = failed_step inputs in_place t i e old new c can shape last other sound fresh kind has marked there registers marks

-- ---- what is left as it was
module _ (in_place : Bool) (t n : ℕ) (e : Equation) (old new : Machine) where
  pub others_same : (root : Option Root) → HasRunOne in_place t n e old new root → (j : ℕ) → j ≢ n → register_at new.registers.items j ≡ register_at old.registers.items j
  others_same root (was_given is same) j ne = ap (λ (m : Machine). register_at m.registers.items j) same
  others_same root (was_barred other blocked registers marks store) j ne = ap (λ rs. register_at rs j) registers ∙ get_or-set_other old.registers.items n j register.Empty register.Empty ne
  others_same root (was_filled r other sound has registers marks) j ne = ap (λ rs. register_at rs j) registers ∙ get_or-set_other old.registers.items n j r register.Empty ne
  others_same root (has_failed kind other sound has registers marks) j ne = ap (λ rs. register_at rs j) registers ∙ get_or-set_other old.registers.items n j register.Empty register.Empty ne

  pub marks_same : (root : Option Root) → HasRunOne in_place t n e old new root → (j : ℕ) → j ≢ n → is_marked new.faulted.items j ≡ is_marked old.faulted.items j
  marks_same root (was_given is same) j ne = ap (λ (m : Machine). is_marked m.faulted.items j) same
  marks_same root (was_barred other blocked registers marks store) j ne = ap (λ ms. is_marked ms j) marks ∙ get_or-set_other old.faulted.items n j true false ne
  marks_same root (was_filled r other sound has registers marks) j ne = ap (λ v. is_marked v.items j) marks
  marks_same root (has_failed kind other sound has registers marks) j ne = ap (λ ms. is_marked ms j) marks ∙ get_or-set_other old.faulted.items n j true false ne

  -- an equation without a fault in its arguments is marked where it is a root fault
  pub mark_none : (root : Option Root) → HasRunOne in_place t n e old new root → is_blocked_here old.faulted.items e.op e.args ≡ false → root ≡ None → is_marked new.faulted.items n ≡ is_marked old.faulted.items n
  mark_none root (was_given is same) sound none = ap (λ (m : Machine). is_marked m.faulted.items n) same
  mark_none root (was_barred other blocked registers marks store) sound none = absurd (false≢true (sym sound ∙ blocked))
  mark_none root (was_filled r other unblocked has registers marks) sound none = ap (λ v. is_marked v.items n) marks
  mark_none root (has_failed kind other unblocked has registers marks) sound none = absurd (cc)

  -- a delay answers no root fault here
  pub delay_none : (root : Option Root) → HasRunOne in_place t n e old new root → is_given_op e.op ≡ true → root ≡ None
  delay_none root (was_given is same) so = refl
  delay_none root (was_barred other blocked registers marks store) so = absurd (true≢false (sym so ∙ other))
  delay_none root (was_filled r other sound has registers marks) so = absurd (true≢false (sym so ∙ other))
  delay_none root (has_failed kind other sound has registers marks) so = absurd (true≢false (sym so ∙ other))

  -- inputs and delays keep their registers
  pub given_same : (root : Option Root) → HasRunOne in_place t n e old new root → is_given_op e.op ≡ true → register_at new.registers.items n ≡ register_at old.registers.items n
  given_same root (was_given is same) so = ap (λ (m : Machine). register_at m.registers.items n) same
  given_same root (was_barred other blocked registers marks store) so = absurd (true≢false (sym so ∙ other))
  given_same root (was_filled r other sound has registers marks) so = absurd (true≢false (sym so ∙ other))
  given_same root (has_failed kind other sound has registers marks) so = absurd (true≢false (sym so ∙ other))

  -- where no register holds a cell then, none did before, and no cell was made or changed
  module _ (root : Option Root) (ran : HasRunOne in_place t n e old new root) (there : n < length old.registers.items) (fresh : is_given_op e.op ≡ false → register_at old.registers.items n ≡ register.Empty) (bare : AreBare new.registers.items) where
    pub bare_before : AreBare old.registers.items
    bare_before i = elim (cases_eq i n) [
      | inl same ↦ subst (λ j. IsBare (register_at old.registers.items j)) (sym same) (here (is_given_op e.op) refl)
      | inr other ↦ subst IsBare (others_same root ran i other) (bare i)
    ]
      where
        here : (b : Bool) → is_given_op e.op ≡ b → IsBare (register_at old.registers.items n)
        here true given = subst IsBare (given_same root ran given) (bare n)
        here false other = subst IsBare (sym (fresh other)) tt

    made_cell : (update by : Bool) (source r : Register) (v : View) → HasMade update by n source old.store new.store r v → (h : ℕ) × (r ≡ register.Aggregate h)
    made_cell false by source r v has = (has.0.handle, has.0.is)
    made_cell true false source r v has = (has.0.handle, has.0.is)
    made_cell true true source r v has = (has.0, has.2)

    pub cells_before : new.store.cells ≡ old.store.cells
    cells_before = by root ran
      where
        filled : (r : Register) (does : Effect) → new.registers.items ≡ slice_set old.registers.items n r → HasEffect in_place n e.op (source_of old.registers.items e.args) old.store new.store (Ok r) does → new.store.cells ≡ old.store.cells
        filled r (Fill slot) registers has = ap (λ (s : Stored). s.cells) has.1
        filled r (Make v) registers has =
            let made = made_cell (is_update e.op) in_place (source_of old.registers.items e.args) r v has in
            absurd (subst IsBare (ap (λ rs. register_at rs n) registers ∙ get_or-set_same old.registers.items n r register.Empty there ∙ made.1) (bare n))

        failed : (kind : FaultKind) (does : Effect) → HasEffect in_place n e.op (source_of old.registers.items e.args) old.store new.store (Err (eval_fault.Fault kind)) does → new.store.cells ≡ old.store.cells
        failed kind (Fill slot) has = ap (λ (s : Stored). s.cells) has.1
        failed kind (Make v) has = absurd has

        by : (found : Option Root) → HasRunOne in_place t n e old new found → new.store.cells ≡ old.store.cells
        by found (was_given is same) = ap (λ (m : Machine). m.store.cells) same
        by found (was_barred other blocked registers marks store) = ap (λ (s : Stored). s.cells) store
        by found (was_filled r other sound has registers marks) = filled r (effect_here old.registers.items old.last.items old.store n t e) registers has
        by found (has_failed kind other sound has registers marks) = failed kind (effect_here old.registers.items old.last.items old.store n t e) has
