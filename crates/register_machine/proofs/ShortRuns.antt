-- Instants keep texts short.
use Rattle.std.proofs.Common.{◌≡◌, ◌==◌, ℕ, Bool, true, false, ◌||◌, List, [], ◌∷◌, ◌++◌, Option, Some, None, Result, Ok, Err, refl, sym, ap, subst, ◌∙◌, cond, inl, inr, map}
use Rattle.std.specs.Prelude.{if◌then◌else◌}
use Rattle.std.specs.List.{AllByRecursion, list_any}
use Rattle.std.specs.Option.{option_or, option_and_then}
use Rattle.std.specs.FinMap as finite_map
use Rattle.std.proofs.lemmas.Bool.{cases_eq, cases_Bool}
use Rattle.tsl_value.specs.declared.scalar.Scalar.{Scalar}
use Rattle.tsl_value.specs.declared.scalar.Scalar.TheVariants as scalar
use Rattle.tsl_value.specs.declared.scalar.ValueType.{ValueType}
use Rattle.tsl_value.specs.View.{View, Plain, Keyed, Mapped, Listed}
use Rattle.lift_func.specs.Apply.{Answer}
use Rattle.flat_core.specs.declared.equation.Equation.{Equation}
use Rattle.flat_core.specs.declared.equation.Op.{Op}
use Rattle.flat_core.specs.declared.equation.Op.TheVariants as op
use Rattle.flat_core.specs.Complete.{HasShortBody, IsFlat, IsShort}
use Rattle.flat_core.specs.Events.{Inputs, at_once}
use Rattle.flat_core.specs.Kept.{keeps_of}
use Rattle.flat_core.specs.Pending.{option_is}
use Rattle.flat_core.specs.System.{System, equation}
use Rattle.flat_core.specs.Updates.{is_update}
use Rattle.tsl_value.proofs.Lists.{all_by_place}
use Rattle.register_machine.specs.Machine.{Instr, Run, RunInPlace, Print, Keep, Timer, Held, Bare, Cell, Slot, Blank, Holds, Failed, Cells, Config, Effect, Fill, Make, held, view_of, value_in, fires}
use Rattle.register_machine.specs.Machine.{slot_of, slot_of_answer, where_true, where_either, with, made, effect_by, is_barred, timed, effect_of, effect, Ran, RanInPlace, OfEquation, Step, Steps}
use Rattle.register_machine.specs.Run.{Plan, State, Instant, body, ending, started, is_cell, ended}
use Rattle.register_machine.specs.Short.{IsShortView, IsShortValue, IsShortAnswer, IsShortState}
use Rattle.register_machine.proofs.Cells.{get-here, get-there}
use Rattle.register_machine.proofs.End.{get-kept}
use Rattle.register_machine.proofs.ShortValues.{at_once_short}

-- what is held bare is short; cells are judged by themselves
abbrev IsShortHeld : Option Held → Type 0
IsShortHeld None = Unit {0}
IsShortHeld (Some (Bare s)) = IsShort s
IsShortHeld (Some (Cell h)) = Unit {0}

abbrev AreShortCells : Cells → Type 0
AreShortCells cells = (h : ℕ) (v : View) → finite_map.get cells h ≡ Some v → IsShortView v

record IsShortConfig (c : Config) : Type 0 where
  pub slots : (i : ℕ) → IsShortHeld (held (c.slots i))
  pub lasts : (v : ℕ) → IsShortHeld (c.lasts v)
  pub cells : AreShortCells c.cells

abbrev IsShortEffect : Effect → Type 0
IsShortEffect (Fill slot) = IsShortHeld (held slot)
IsShortEffect (Make v) = IsShortView v

some_same : {A : Type 0} {a b : A} → Some a ≡ Some b → a ≡ b
some_same e = cc

-- ---- what is held

at_cell : (o : Option View) → ((v : View) → o ≡ Some v → IsShortView v) → IsShortValue o
at_cell None all = tt
at_cell (Some v) all = all v refl

seen_short : (cells : Cells) → AreShortCells cells → (o : Option Held) → IsShortHeld o → IsShortValue (option_and_then (view_of cells) o)
seen_short cells all None short = tt
seen_short cells all (Some (Bare s)) short = short
seen_short cells all (Some (Cell h)) short = at_cell (finite_map.get cells h) (all h)

slot_short : (o : Option Held) → IsShortHeld o → IsShortHeld (held (slot_of o))
slot_short None short = tt
slot_short (Some h) short = short

or_short : (a b : Option Held) → IsShortHeld a → IsShortHeld b → IsShortHeld (option_or a b)
or_short None b p q = q
or_short (Some h) b p q = p

true_short : (d e : Option Held) → IsShortHeld e → IsShortHeld (where_true d e)
true_short (Some (Bare (scalar.Bool true))) e p = p
true_short d e p = tt

either_short : (d a b : Option Held) → IsShortHeld a → IsShortHeld b → IsShortHeld (where_either d a b)
either_short (Some (Bare (scalar.Bool true))) (Some a) (Some b) p q = p
either_short (Some (Bare (scalar.Bool false))) (Some a) (Some b) p q = q
either_short d a b p q = tt

answer_short : (a : Answer) → IsShortAnswer a → IsShortHeld (held (slot_of_answer a))
answer_short (Ok (Some (Plain s))) short = short
answer_short a short = tt

made_short : (a : Answer) → IsShortAnswer a → IsShortEffect (made a)
made_short (Ok (Some v)) short = short
made_short (Ok None) short = tt
made_short (Err kind) short = tt

by_short : (b : Bool) (a : Answer) → IsShortAnswer a → IsShortEffect (effect_by b a)
by_short true a short = made_short a short
by_short false a short = answer_short a short

if_short : (b : Bool) (o : Option Held) → IsShortHeld o → IsShortHeld (held (if b then slot_of o else Blank))
if_short true o short = slot_short o short
if_short false o short = tt

unit_short : (b : Bool) → IsShortHeld (held (if b then Holds (Bare scalar.Unit) else Blank))
unit_short true = tt
unit_short false = tt

barred_short : (b : Bool) (x : Effect) → IsShortEffect x → IsShortEffect (if b then Fill (Failed None) else x)
barred_short true x short = tt
barred_short false x short = short

-- ---- an equation

module _ (inputs : Inputs) (t : ℕ) (given : (i : ℕ) → IsShortValue (inputs i t)) (c : Config) (short : IsShortConfig c) where
  values_short : (args : List ℕ) → AllByRecursion IsShortValue (map (value_in c) args)
  values_short [] = tt
  values_short (a ∷ args) = (seen_short c.cells short.cells (held (c.slots a)) (short.slots a), values_short args)

  general : (o : Op) (args : List ℕ) (of : ValueType) → HasShortBody o → IsShortEffect (effect_by (is_update o) (at_once o of (map (value_in c) args) t))
  general o args of body = by_short (is_update o) _ (at_once_short o of (map (value_in c) args) t body (values_short args))

  own_short : (i : ℕ) (o : Op) (args : List ℕ) (of : ValueType) → HasShortBody o → IsShortEffect (effect_of inputs t c i o args of)
  own_short i op.Input args of body = answer_short (Ok (inputs i t)) (given i)
  own_short i op.Last (v ∷ r ∷ []) of body = if_short (fires c r) (c.lasts v) (short.lasts v)
  own_short i op.Delay args of body = unit_short (option_is t (c.pending i))
  own_short i op.Merge (a ∷ b ∷ []) of body = slot_short _ (or_short (held (c.slots a)) (held (c.slots b)) (short.slots a) (short.slots b))
  own_short i op.Filter (e ∷ d ∷ []) of body = slot_short _ (true_short (held (c.slots d)) (held (c.slots e)) (short.slots e))
  own_short i op.Pick (d ∷ a ∷ b ∷ []) of body = slot_short _ (either_short (held (c.slots d)) (held (c.slots a)) (held (c.slots b)) (short.slots a) (short.slots b))
  own_short i op.Empty args of body = made_short _ (at_once_short op.Empty of (map (value_in c) args) t tt (values_short args))
  own_short i op.Last [] of body = general op.Last [] of body
  own_short i op.Last (v ∷ []) of body = general op.Last (v ∷ []) of body
  own_short i op.Last (v ∷ a ∷ x ∷ more) of body = general op.Last (v ∷ a ∷ x ∷ more) of body
  own_short i op.Merge [] of body = general op.Merge [] of body
  own_short i op.Merge (a ∷ []) of body = general op.Merge (a ∷ []) of body
  own_short i op.Merge (a ∷ b ∷ x ∷ more) of body = general op.Merge (a ∷ b ∷ x ∷ more) of body
  own_short i op.Filter [] of body = general op.Filter [] of body
  own_short i op.Filter (e ∷ []) of body = general op.Filter (e ∷ []) of body
  own_short i op.Filter (e ∷ q ∷ x ∷ more) of body = general op.Filter (e ∷ q ∷ x ∷ more) of body
  own_short i op.Pick [] of body = general op.Pick [] of body
  own_short i op.Pick (q ∷ []) of body = general op.Pick (q ∷ []) of body
  own_short i op.Pick (q ∷ a ∷ []) of body = general op.Pick (q ∷ a ∷ []) of body
  own_short i op.Pick (q ∷ a ∷ b ∷ x ∷ more) of body = general op.Pick (q ∷ a ∷ b ∷ x ∷ more) of body
  own_short i o args of body = general o args of body

  effect_short : (i : ℕ) (e : Equation) → HasShortBody e.op → IsShortEffect (effect inputs t c i e)
  effect_short i e body = barred_short (is_barred c e) _ (own_short i e.op e.args e.of body)

  slots_with : (i : ℕ) (slot : Slot) → IsShortHeld (held slot) → (j : ℕ) → IsShortHeld (held (with c.slots i slot j))
  slots_with i slot here j = from (j == i)
    where
      from : (b : Bool) → IsShortHeld (held (if b then slot else c.slots j))
      from true = here
      from false = short.slots j

  cells_with : (h : ℕ) (v : View) → IsShortView v → AreShortCells (finite_map.insert c.cells h v)
  cells_with h v here = λ k w is. elim (cases_eq k h) [
    | inl same ↦ subst IsShortView (some_same (sym (get-here c.cells h v) ∙ ap (finite_map.get (finite_map.insert c.cells h v)) (sym same) ∙ is)) here
    | inr other ↦ short.cells k w (sym (get-there c.cells h v k other) ∙ is)
  ]

  ran_short : (i : ℕ) (e : Equation) (x : Effect) (d : Config) → IsShortEffect x → Ran i e c x d → IsShortConfig d
  ran_short i e (Fill slot) d here ran = subst IsShortConfig (sym ran) (record { slots = slots_with i slot here; lasts = short.lasts; cells = short.cells })
  ran_short i e (Make v) d here ran =
      subst IsShortConfig (sym ran.2) (record { slots = slots_with i (Holds (Cell ran.0)) tt; lasts = short.lasts; cells = cells_with ran.0 v here })

  placed_short : (i : ℕ) (e : Equation) (x : Effect) (d : Config) → IsShortEffect x → RanInPlace i e c x d → IsShortConfig d
  placed_short i e (Fill slot) d here ran = subst IsShortConfig (sym ran) (record { slots = slots_with i slot here; lasts = short.lasts; cells = short.cells })
  placed_short i e (Make v) d here ran =
      subst IsShortConfig (sym ran.2) (record { slots = slots_with i (Holds (Cell ran.0)) tt; lasts = short.lasts; cells = cells_with ran.0 v here })

  kept_short : (v : ℕ) (u : ℕ) → IsShortHeld (with c.lasts v (option_or (held (c.slots v)) (c.lasts v)) u)
  kept_short v u = from (u == v)
    where
      from : (b : Bool) → IsShortHeld (if b then option_or (held (c.slots v)) (c.lasts v) else c.lasts u)
      from true = or_short (held (c.slots v)) (c.lasts v) (short.slots v) (short.lasts v)
      from false = short.lasts u

  module _ (s : System) (whole : IsFlat s) where
    body_at : (i : ℕ) (e : Equation) → equation s i ≡ Some e → HasShortBody e.op
    body_at i e is = all_by_place (λ (q : Equation). HasShortBody q.op) s.equations whole.complete.short_texts i e is

    step_short : (instr : Instr) (d : Config) → Step inputs t s instr c d → IsShortConfig d
    step_short (Run i) d st = from (equation s i) refl st
      where
        from : (q : Option Equation) → equation s i ≡ q → OfEquation q (λ e. Ran i e c (effect inputs t c i e) d) → IsShortConfig d
        from None is ran = absurd ran
        from (Some e) is ran = ran_short i e (effect inputs t c i e) d (effect_short i e (body_at i e is)) ran
    step_short (RunInPlace i) d st = from (equation s i) refl st
      where
        from : (q : Option Equation) → equation s i ≡ q → OfEquation q (λ e. RanInPlace i e c (effect inputs t c i e) d) → IsShortConfig d
        from None is ran = absurd ran
        from (Some e) is ran = placed_short i e (effect inputs t c i e) d (effect_short i e (body_at i e is)) ran
    step_short (Print k) d st = subst IsShortConfig (sym st) short
    step_short (Keep v) d st = subst IsShortConfig (sym st) (record { slots = short.slots; lasts = kept_short v; cells = short.cells })
    step_short (Timer i) d st = from (equation s i) st
      where
        from : (q : Option Equation) → OfEquation q (λ e. d ≡ record c { pending = timed t c i e.args }) → IsShortConfig d
        from None ran = absurd ran
        from (Some e) ran = subst IsShortConfig (sym ran) (record { slots = short.slots; lasts = short.lasts; cells = short.cells })

-- ---- whole instants

module _ (s : System) (whole : IsFlat s) (inputs : Inputs) (t : ℕ) (given : (i : ℕ) → IsShortValue (inputs i t)) where
  steps_short : (code : List Instr) (c d : Config) → IsShortConfig c → Steps inputs t s code c d → IsShortConfig d
  steps_short [] c d short st = subst IsShortConfig (sym st) short
  steps_short (instr ∷ more) c d short st = steps_short more st.0 d (step_short inputs t given c short s whole instr st.0 st.1) st.2

bare_short : (o : Option Held) → IsShortHeld o → (value : Scalar) → o ≡ Some (Bare value) → IsShort value
bare_short o short value is = subst IsShortHeld is short

held_short : (o : Option Held) → ((value : Scalar) → o ≡ Some (Bare value) → IsShort value) → IsShortHeld o
held_short None all = tt
held_short (Some (Bare s)) all = all s refl
held_short (Some (Cell h)) all = tt

some_of_none : {A P : Type 0} {a : A} → None ≡ Some a → P
some_of_none e = absurd (cc)

ended_short : (s : System) (c : Config) → IsShortConfig c → IsShortState (ended s c)
ended_short s c short = record {
  lasts = λ v value is. bare_short (c.lasts v) (short.lasts v) value is;
  cells = λ h v is. from (list_any (λ u. is_cell h (c.lasts u)) (keeps_of s)) h v (sym (get-kept c.cells (λ k. list_any (λ u. is_cell k (c.lasts u)) (keeps_of s)) h) ∙ is);
}
  where
    from : (b : Bool) (h : ℕ) (v : View) → cond b (finite_map.get c.cells h) None ≡ Some v → IsShortView v
    from true h v is = short.cells h v is
    from false h v is = some_of_none is

pub instants_keep : (s : System) (plan : Plan) (inputs : Inputs) (t : ℕ) (a b : State) → IsFlat s → ((i : ℕ) → IsShortValue (inputs i t)) → IsShortState a → Instant s plan inputs t a b → IsShortState b
instants_keep s plan inputs t a b whole given short ran =
    let begun : IsShortConfig (started a) = record { slots = λ i. tt; lasts = λ v. held_short (a.lasts v) (short.lasts v); cells = short.cells } in
    let reached = steps_short s whole inputs t given (body s plan) (started a) ran.reached begun ran.ran in
    subst IsShortState (sym ran.is) (ended_short s ran.last (steps_short s whole inputs t given (ending s) ran.reached ran.last reached ran.kept_on))
