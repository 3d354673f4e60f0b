-- A step that nothing reaches does nothing.
use Rattle.std.proofs.Common.{◌≡◌, ℕ, zero, suc, Bool, true, false, ◌||◌, List, [], ◌∷◌, map, set, get_or, Option, None, Ok, refl, sym, ap, subst, ◌∙◌}
use Rattle.std.proofs.lemmas.Bool.{false≢true, true≢false}
use Rattle.std.specs.Prelude.{◌≢◌, if◌then◌else◌, is_some, slice_get, slice_set}
use Rattle.std.specs.Option.{option_and_then, option_or}
use Rattle.std.specs.List.{AllByRecursion, list_any}
use Rattle.tsl_value.specs.declared.scalar.ValueType.{ValueType}
use Rattle.body_eval.specs.declared.register.Register.TheVariants as register
use Rattle.body_eval.specs.inner.Registers.{held}
use Rattle.flat_core.specs.declared.equation.Equation.{Equation}
use Rattle.flat_core.specs.declared.equation.Op.{Op}
use Rattle.flat_core.specs.declared.equation.Op.TheVariants as op
use Rattle.flat_core.specs.Stream.{Outcome}
use Rattle.flat_core.specs.Case.{own_of, used_of}
use Rattle.flat_core.specs.Events.{Inputs, at_once}
use Rattle.flat_core.specs.Instant.{is_delay_op}
use Rattle.flat_core.specs.System.{System}
use Rattle.flat_core.specs.Text.{event_line}
use Rattle.flat_core.specs.inner.Arity.{HasArity}
use Rattle.flat_core.proofs.Quiet.{HasArguments, own-quiet}
use Rattle.flat_core.specs.Updates.{is_update}
use Rattle.register_machine.specs.Content.{print_of}
use Rattle.register_machine.specs.Machine.{Blank, Config, Fill, effect_of, slot_of, slot_of_answer, value_in, view_of}
use Rattle.register_machine.specs.Machine as machine
use Rattle.monitor_run.specs.declared.machine.Machine.{Machine}
use Rattle.monitor_run.specs.inner.Here.{HasEffect, effect_here, is_given_op, is_marked, source_of}
use Rattle.monitor_run.specs.inner.Instant.{HasPrinted, HasRunOne, was_given, was_filled, name_of}
use Rattle.monitor_run.specs.inner.Registers.{register_at}
use Rattle.monitor_run.specs.inner.Shown.{config_of, held_by}

-- nothing has come of equation a
pub record IsBlankAt (m : Machine) (a : ℕ) : Type 0 where
  pub empty : register_at m.registers.items a ≡ register.Empty
  pub unmarked : is_marked m.faulted.items a ≡ false

-- ---- the effect where nothing is there

none_always : (args : List ℕ) → AllByRecursion (λ a. ◌≡◌ {A = Option Outcome} None None) args
none_always [] = tt
none_always (a ∷ args) = (refl, none_always args)

nothing_by : (b : Bool) → machine.effect_by b (Ok None) ≡ Fill Blank
nothing_by true = refl
nothing_by false = refl

-- without a value at any argument an operation has none after time 0
own_none : (o : Op) (args : List ℕ) (of : ValueType) (t : ℕ) → HasArguments o args → is_delay_op o ≡ false → own_of (λ j u. None) (λ a u. None) 0 o args of (suc t) ≡ Ok None
own_none o args of t has other = own-quiet (λ j u. None) (λ a u. None) 0 t refl o args of has (λ is. absurd (false≢true (sym other ∙ is))) (none_always (used_of o args))

module _ (c : Config) where
  value_none : (a : ℕ) → c.slots a ≡ Blank → value_in c a ≡ None
  value_none a slot = λ k. option_and_then (view_of c.cells) (machine.held (slot k))

  values_none : (args : List ℕ) → AllByRecursion (λ a. c.slots a ≡ Blank) args → map (value_in c) args ≡ map (λ a. None) args
  values_none [] all = refl
  values_none (a ∷ args) all = let here = value_none a all.0 in let rest = values_none args all.1 in λ k. here k ∷ rest k

  module _ (inputs : Inputs) (t i : ℕ) where
    pub effect_blank : (o : Op) (args : List ℕ) (of : ValueType) → is_given_op o ≡ false → HasArity o args → AllByRecursion (λ a. c.slots a ≡ Blank) (used_of o args) → effect_of inputs (suc t) c i o args of ≡ Fill Blank
    effect_blank op.Input args of other shape used = absurd (true≢false other)
    effect_blank op.Delay args of other shape used = absurd (true≢false other)
    effect_blank op.Last [] of other shape used = absurd shape
    effect_blank op.Last (v ∷ []) of other shape used = absurd shape
    effect_blank op.Last (v ∷ r ∷ x ∷ args) of other shape used = absurd shape
    effect_blank op.Last (v ∷ r ∷ []) of other shape used = λ k. Fill (if is_some (machine.held (used.0 k)) then slot_of (c.lasts v) else Blank)
    effect_blank op.Merge [] of other shape used = absurd shape
    effect_blank op.Merge (a ∷ []) of other shape used = absurd shape
    effect_blank op.Merge (a ∷ b ∷ x ∷ args) of other shape used = absurd shape
    effect_blank op.Merge (a ∷ b ∷ []) of other shape used = λ k. Fill (slot_of (option_or (machine.held (used.0 k)) (machine.held (used.1.0 k))))
    effect_blank op.Filter [] of other shape used = absurd shape
    effect_blank op.Filter (a ∷ []) of other shape used = absurd shape
    effect_blank op.Filter (a ∷ b ∷ x ∷ args) of other shape used = absurd shape
    effect_blank op.Filter (a ∷ b ∷ []) of other shape used = λ k. Fill (slot_of (machine.where_true (machine.held (used.1.0 k)) (machine.held (used.0 k))))
    effect_blank op.Pick [] of other shape used = absurd shape
    effect_blank op.Pick (a ∷ []) of other shape used = absurd shape
    effect_blank op.Pick (a ∷ b ∷ []) of other shape used = absurd shape
    effect_blank op.Pick (a ∷ b ∷ x ∷ y ∷ args) of other shape used = absurd shape
    effect_blank op.Pick (a ∷ b ∷ x ∷ []) of other shape used = λ k. Fill (slot_of (machine.where_either (machine.held (used.0 k)) (machine.held (used.1.0 k)) (machine.held (used.1.1.0 k))))
    effect_blank op.Empty args of other shape used = ap (λ vs. machine.made (at_once op.Empty of vs (suc t))) (values_none args used) ∙ ap machine.made (own_none op.Empty args of t tt refl)
    effect_blank (op.Lift body strict) [] of other shape used = absurd shape
    effect_blank (op.Lift body strict) (a ∷ args) of other shape used =
        ap (λ vs. Fill (slot_of_answer (at_once (op.Lift body strict) of vs (suc t)))) (values_none (a ∷ args) used) ∙ ap (λ v. Fill (slot_of_answer v)) (own_none (op.Lift body strict) (a ∷ args) of t tt refl)
    effect_blank o args of other shape used =
        ap (λ vs. machine.effect_by (is_update o) (at_once o of vs (suc t))) (values_none args used) ∙ ap (machine.effect_by (is_update o)) (own_none o args of t tt refl) ∙ nothing_by (is_update o)

-- ---- an equation that is skipped

-- what is there already is put there
pub set_there : {A : Type 0} (xs : List A) (i : ℕ) (x : A) → get_or xs i x ≡ x → xs ≡ set xs i x
set_there [] i x is = refl
set_there (y ∷ xs) zero x is = ap (λ z. z ∷ xs) is
set_there (y ∷ xs) (suc i) x is = ap (λ zs. y ∷ zs) (set_there xs i x is)

pub run_skipped : (b : Bool) (t n : ℕ) (e : Equation) (m : Machine) → t ≢ 0 → HasArity e.op e.args → AllByRecursion (IsBlankAt m) (used_of e.op e.args) → (is_given_op e.op ≡ false → register_at m.registers.items n ≡ register.Empty) → HasRunOne b t n e m m None
run_skipped b zero n e m late shape blank empty = absurd (late refl)
run_skipped b (suc t) n e m late shape blank empty = split (is_given_op e.op) refl
  where
    slots : (xs : List ℕ) → AllByRecursion (IsBlankAt m) xs → AllByRecursion (λ a. (config_of m.registers.items m.last.items m.store).slots a ≡ Blank) xs
    slots [] all = tt
    slots (a ∷ xs) all = (ap (λ r. slot_of (held_by r)) all.0.empty, slots xs all.1)

    marks : (xs : List ℕ) → AllByRecursion (IsBlankAt m) xs → list_any (is_marked m.faulted.items) xs ≡ false
    marks [] all = refl
    marks (a ∷ xs) all = let here = all.0.unmarked in let rest = marks xs all.1 in λ k. here k || rest k

    split : (q : Bool) → is_given_op e.op ≡ q → HasRunOne b (suc t) n e m m None
    split true is = was_given is refl
    split false other =
        let effect : effect_here m.registers.items m.last.items m.store n (suc t) e ≡ Fill Blank = effect_blank (config_of m.registers.items m.last.items m.store) (λ j u. None) t n e.op e.args e.of other shape (slots (used_of e.op e.args) blank) in
        was_filled register.Empty other (marks (used_of e.op e.args) blank)
        (subst (HasEffect b n e.op (source_of m.registers.items e.args) m.store m.store (Ok register.Empty)) (sym effect) (refl, refl))
        (set_there m.registers.items n register.Empty (empty other)) refl

-- ---- a print that is skipped
pub print_skipped : (s : System) (t k : ℕ) (m : Machine) → register_at m.registers.items (print_of s k) ≡ register.Empty → get_or m.texts.items k [] ≡ [] → HasPrinted s t k m m
print_skipped s t k m blank unprinted = record {
  registers = refl;
  faulted = refl;
  store = refl;
  text = set_there m.texts.items k [] unprinted ∙ sym (λ j. slice_set m.texts.items k (event_line t (name_of (slice_get s.outputs k)) (held m.store.cells (blank j))));
}
