-- Two runs over the same instants differ in their handles alone.
use Rattle.std.proofs.Common.{◌≡◌, ◌==◌, ℕ, Bool, true, false, List, [], ◌∷◌, ◌++◌, Option, Some, None, Ok, Err, refl, sym, ap, subst, ◌∙◌, map, inl, inr, ◌⊎◌, Contains, arith}
use Rattle.std.specs.Prelude.{if◌then◌else◌, nat_lt, ◌-◌, length}
use Rattle.std.specs.Option.{option_map, option_or}
use Rattle.std.specs.FinMap as finite_map
use Rattle.std.specs.List.{list_any, AllByRecursion}
use Rattle.std.proofs.lemmas.Bool.{cases_eq, eq-eqb, ne_eqb}
use Rattle.tsl_value.specs.declared.scalar.Scalar.TheVariants as scalar
use Rattle.tsl_value.specs.declared.scalar.ValueType.{ValueType}
use Rattle.tsl_value.specs.View.{View, Plain, Keyed, Mapped, Listed}
use Rattle.lift_func.specs.Apply.{Answer}
use Rattle.flat_core.specs.declared.equation.Equation.{Equation}
use Rattle.flat_core.specs.declared.equation.Op.{Op}
use Rattle.flat_core.specs.declared.equation.Op.TheVariants as op
use Rattle.flat_core.specs.Events.{Inputs, at_once}
use Rattle.flat_core.specs.Instant.{instants}
use Rattle.flat_core.specs.Kept.{keeps_of, timers_of}
use Rattle.flat_core.specs.Line.{inputs_of}
use Rattle.flat_core.specs.Members.{is_in}
use Rattle.flat_core.specs.Pending.{option_is}
use Rattle.flat_core.specs.System.{System, equation}
use Rattle.flat_core.specs.Updates.{is_update}
use Rattle.tsl_value.proofs.Lists.{later}
use Rattle.flat_core.proofs.Members.{in-Contains, some_from}
use Rattle.register_machine.specs.Machine.{Instr, Run, RunInPlace, Print, Keep, Timer, Held, Bare, Cell, Slot, Blank, Holds, Failed, Config, Cells, Effect, Fill, Make, held, slot_of, slot_of_answer}
use Rattle.register_machine.specs.Machine.{where_true, where_either, made, effect_by, is_barred, value_in, fires, with, counted, timed, effect_of, effect, Ran, RanInPlace, OfEquation, Step, Steps}
use Rattle.register_machine.specs.Renamed.{Renaming, renamed, AreRenamed, RunsAreOne}
use Rattle.register_machine.specs.Run.{Plan, State, Instant, Runs, body, step_instr, ending, started, is_cell, kept_cells, ended, nothing_yet}
use Rattle.register_machine.proofs.Alike.{Alike, renamed_slot, renamed_effect, effect_alike, source_alike, counted_alike}
use Rattle.register_machine.proofs.Cells.{get-here, get-there, cell_same}
use Rattle.register_machine.proofs.End.{get-held}
use Rattle.register_machine.proofs.Renamings.{one_to_one, alike_filled, alike_made, alike_kept, alike_timed, alike_started, alike_ended, nothing_renamed}

-- ---- two numbers change places

pub swap : ℕ → ℕ → ℕ → ℕ
swap p q n = if n == p then q else if n == q then p else n

pub swap_first : (p q : ℕ) → swap p q p ≡ q
unfolding swap
swap_first p q = ap (λ b. if b then q else if p == q then p else p) (eq-eqb p p refl)

swap_second : (p q : ℕ) → swap p q q ≡ p
unfolding swap
swap_second p q = elim (cases_eq q p) [
  | inl same ↦ ap (λ b. if b then q else if q == q then p else q) (eq-eqb q p same) ∙ same
  | inr other ↦ ap (λ b. if b then q else if q == q then p else q) (ne_eqb q p other) ∙ ap (λ b. if b then p else q) (eq-eqb q q refl)
]

pub swap_other : (p q n : ℕ) → (n ≡ p → ⊥) → (n ≡ q → ⊥) → swap p q n ≡ n
unfolding swap
swap_other p q n first second = ap (λ b. if b then q else if n == q then p else n) (ne_eqb n p first) ∙ ap (λ b. if b then p else n) (ne_eqb n q second)

pub swap_back : (p q n : ℕ) → swap p q (swap p q n) ≡ n
swap_back p q n = elim (cases_eq n p) [
  | inl first ↦ ap (λ k. swap p q (swap p q k)) first ∙ ap (swap p q) (swap_first p q) ∙ swap_second p q ∙ sym first
  | inr other ↦ elim (cases_eq n q) [
    | inl second ↦ ap (λ k. swap p q (swap p q k)) second ∙ ap (swap p q) (swap_second p q) ∙ swap_first p q ∙ sym second
    | inr none ↦ ap (swap p q) (swap_other p q n other none) ∙ swap_other p q n other none
  ]
]

-- the same renaming, but h gets the handle q
abbrev pub naming : Renaming → ℕ → ℕ → Renaming
naming r h q = record {
  to = λ n. swap (r.to h) q (r.to n);
  back = λ n. r.back (swap (r.to h) q n);
  there = λ n. ap r.back (swap_back (r.to h) q (r.to n)) ∙ r.there n;
  here = λ n. ap (swap (r.to h) q) (r.here (swap (r.to h) q n)) ∙ swap_back (r.to h) q n;
}

-- ---- what is held is there

abbrev pub IsThere : Cells → Held → Type 0
IsThere cells (Bare s) = Unit {0}
IsThere cells (Cell h) = finite_map.get cells h ≡ None → ⊥

abbrev pub IsSlotThere : Cells → Slot → Type 0
IsSlotThere cells Blank = Unit {0}
IsSlotThere cells (Holds h) = IsThere cells h
IsSlotThere cells (Failed kind) = Unit {0}

abbrev pub IsOptionThere : Cells → Option Held → Type 0
IsOptionThere cells None = Unit {0}
IsOptionThere cells (Some h) = IsThere cells h

abbrev IsEffectThere : Cells → Effect → Type 0
IsEffectThere cells (Fill slot) = IsSlotThere cells slot
IsEffectThere cells (Make v) = Unit {0}

pub record AreThere (c : Config) : Type 0 where
  pub slots : (i : ℕ) → IsSlotThere c.cells (c.slots i)
  pub lasts : (v : ℕ) → IsOptionThere c.cells (c.lasts v)

held_there : (cells : Cells) (slot : Slot) → IsSlotThere cells slot → IsOptionThere cells (held slot)
held_there cells Blank there = tt
held_there cells (Holds h) there = there
held_there cells (Failed kind) there = tt

slot_there : (cells : Cells) (o : Option Held) → IsOptionThere cells o → IsSlotThere cells (slot_of o)
slot_there cells None there = tt
slot_there cells (Some h) there = there

or_there : (cells : Cells) (a b : Option Held) → IsOptionThere cells a → IsOptionThere cells b → IsOptionThere cells (option_or a b)
or_there cells None b first second = second
or_there cells (Some h) b first second = first

if_there : (cells : Cells) (b : Bool) (o : Option Held) → IsOptionThere cells o → IsSlotThere cells (if b then slot_of o else Blank)
if_there cells true o there = slot_there cells o there
if_there cells false o there = tt

unit_there : (cells : Cells) (b : Bool) → IsSlotThere cells (if b then Holds (Bare scalar.Unit) else Blank)
unit_there cells true = tt
unit_there cells false = tt

true_there : (cells : Cells) (d e : Option Held) → IsOptionThere cells e → IsOptionThere cells (where_true d e)
true_there cells None e there = tt
true_there cells (Some (Cell h)) e there = tt
true_there cells (Some (Bare scalar.Unit)) e there = tt
true_there cells (Some (Bare (scalar.Int z))) e there = tt
true_there cells (Some (Bare (scalar.Bool true))) e there = there
true_there cells (Some (Bare (scalar.Bool false))) e there = tt
true_there cells (Some (Bare (scalar.Text bytes))) e there = tt

either_there : (cells : Cells) (d a b : Option Held) → IsOptionThere cells a → IsOptionThere cells b → IsOptionThere cells (where_either d a b)
either_there cells None a b first second = tt
either_there cells (Some (Cell h)) a b first second = tt
either_there cells (Some (Bare scalar.Unit)) a b first second = tt
either_there cells (Some (Bare (scalar.Int z))) a b first second = tt
either_there cells (Some (Bare (scalar.Text bytes))) a b first second = tt
either_there cells (Some (Bare (scalar.Bool true))) None b first second = tt
either_there cells (Some (Bare (scalar.Bool true))) (Some a) None first second = tt
either_there cells (Some (Bare (scalar.Bool true))) (Some a) (Some b) first second = first
either_there cells (Some (Bare (scalar.Bool false))) None b first second = tt
either_there cells (Some (Bare (scalar.Bool false))) (Some a) None first second = tt
either_there cells (Some (Bare (scalar.Bool false))) (Some a) (Some b) first second = second

answer_there : (cells : Cells) (a : Answer) → IsSlotThere cells (slot_of_answer a)
answer_there cells (Ok None) = tt
answer_there cells (Ok (Some (Plain s))) = tt
answer_there cells (Ok (Some (Keyed s))) = tt
answer_there cells (Ok (Some (Mapped m))) = tt
answer_there cells (Ok (Some (Listed l))) = tt
answer_there cells (Err kind) = tt

made_there : (cells : Cells) (a : Answer) → IsEffectThere cells (made a)
made_there cells (Ok None) = tt
made_there cells (Ok (Some v)) = tt
made_there cells (Err kind) = tt

by_there : (cells : Cells) (b : Bool) (a : Answer) → IsEffectThere cells (effect_by b a)
by_there cells true a = made_there cells a
by_there cells false a = answer_there cells a

barred_there : (cells : Cells) (b : Bool) (x : Effect) → IsEffectThere cells x → IsEffectThere cells (if b then Fill (Failed None) else x)
barred_there cells true x there = tt
barred_there cells false x there = there

module _ (inputs : Inputs) (t : ℕ) (c : Config) (are : AreThere c) where
  at_there : (a : ℕ) → IsOptionThere c.cells (held (c.slots a))
  at_there a = held_there c.cells (c.slots a) (are.slots a)

  own_there : (i : ℕ) (o : Op) (args : List ℕ) (of : ValueType) → IsEffectThere c.cells (effect_of inputs t c i o args of)
  own_there i op.Input args of = answer_there c.cells (Ok (inputs i t))
  own_there i op.Last (v ∷ a ∷ []) of = if_there c.cells (fires c a) (c.lasts v) (are.lasts v)
  own_there i op.Delay args of = unit_there c.cells (option_is t (c.pending i))
  own_there i op.Merge (a ∷ b ∷ []) of = slot_there c.cells _ (or_there c.cells (held (c.slots a)) (held (c.slots b)) (at_there a) (at_there b))
  own_there i op.Filter (e ∷ q ∷ []) of = slot_there c.cells _ (true_there c.cells (held (c.slots q)) (held (c.slots e)) (at_there e))
  own_there i op.Pick (q ∷ a ∷ b ∷ []) of =
      slot_there c.cells _ (either_there c.cells (held (c.slots q)) (held (c.slots a)) (held (c.slots b)) (at_there a) (at_there b))
  own_there i op.Empty args of = made_there c.cells (at_once op.Empty of (map (value_in c) args) t)
  own_there i op.Last [] of = by_there c.cells (is_update op.Last) (at_once op.Last of (map (value_in c) []) t)
  own_there i op.Last (v ∷ []) of = by_there c.cells (is_update op.Last) (at_once op.Last of (map (value_in c) (v ∷ [])) t)
  own_there i op.Last (v ∷ a ∷ x ∷ more) of = by_there c.cells (is_update op.Last) (at_once op.Last of (map (value_in c) (v ∷ a ∷ x ∷ more)) t)
  own_there i op.Merge [] of = by_there c.cells (is_update op.Merge) (at_once op.Merge of (map (value_in c) []) t)
  own_there i op.Merge (a ∷ []) of = by_there c.cells (is_update op.Merge) (at_once op.Merge of (map (value_in c) (a ∷ [])) t)
  own_there i op.Merge (a ∷ b ∷ x ∷ more) of = by_there c.cells (is_update op.Merge) (at_once op.Merge of (map (value_in c) (a ∷ b ∷ x ∷ more)) t)
  own_there i op.Filter [] of = by_there c.cells (is_update op.Filter) (at_once op.Filter of (map (value_in c) []) t)
  own_there i op.Filter (e ∷ []) of = by_there c.cells (is_update op.Filter) (at_once op.Filter of (map (value_in c) (e ∷ [])) t)
  own_there i op.Filter (e ∷ q ∷ x ∷ more) of = by_there c.cells (is_update op.Filter) (at_once op.Filter of (map (value_in c) (e ∷ q ∷ x ∷ more)) t)
  own_there i op.Pick [] of = by_there c.cells (is_update op.Pick) (at_once op.Pick of (map (value_in c) []) t)
  own_there i op.Pick (q ∷ []) of = by_there c.cells (is_update op.Pick) (at_once op.Pick of (map (value_in c) (q ∷ [])) t)
  own_there i op.Pick (q ∷ a ∷ []) of = by_there c.cells (is_update op.Pick) (at_once op.Pick of (map (value_in c) (q ∷ a ∷ [])) t)
  own_there i op.Pick (q ∷ a ∷ b ∷ x ∷ more) of = by_there c.cells (is_update op.Pick) (at_once op.Pick of (map (value_in c) (q ∷ a ∷ b ∷ x ∷ more)) t)
  own_there i o args of = by_there c.cells (is_update o) (at_once o of (map (value_in c) args) t)

  effect_there : (i : ℕ) (e : Equation) → IsEffectThere c.cells (effect inputs t c i e)
  effect_there i e = barred_there c.cells (is_barred c e) (effect_of inputs t c i e.op e.args e.of) (own_there i e.op e.args e.of)

-- ---- what is there stays there

changed_there : (cells : Cells) (b : Bool) (new old : Slot) → IsSlotThere cells new → IsSlotThere cells old → IsSlotThere cells (if b then new else old)
changed_there cells true new old first second = first
changed_there cells false new old first second = second

last_there : (cells : Cells) (b : Bool) (new old : Option Held) → IsOptionThere cells new → IsOptionThere cells old → IsOptionThere cells (if b then new else old)
last_there cells true new old first second = first
last_there cells false new old first second = second

some_none : {v : View} → Some v ≡ None → ⊥
some_none e = absurd (cc)

module _ (cells : Cells) (h : ℕ) (v : View) where
  new_there : IsThere (finite_map.insert cells h v) (Cell h)
  new_there gone = some_none (sym (get-here cells h v) ∙ gone)

  more_there : (x : Held) → IsThere cells x → IsThere (finite_map.insert cells h v) x
  more_there (Bare s) there = tt
  more_there (Cell k) there = elim (cases_eq k h) [
    | inl same ↦ λ gone. some_none (sym (get-here cells h v) ∙ ap (finite_map.get (finite_map.insert cells h v)) (sym same) ∙ gone)
    | inr other ↦ λ gone. there (sym (get-there cells h v k other) ∙ gone)
  ]

  more_slot : (slot : Slot) → IsSlotThere cells slot → IsSlotThere (finite_map.insert cells h v) slot
  more_slot Blank there = tt
  more_slot (Holds x) there = more_there x there
  more_slot (Failed kind) there = tt

  more_option : (o : Option Held) → IsOptionThere cells o → IsOptionThere (finite_map.insert cells h v) o
  more_option None there = tt
  more_option (Some x) there = more_there x there

filled_there : (c : Config) (i : ℕ) (slot : Slot) → AreThere c → IsSlotThere c.cells slot → AreThere (record c { slots = with c.slots i slot })
filled_there c i slot are there = record { slots = λ j. changed_there c.cells (j == i) slot (c.slots j) there (are.slots j); lasts = are.lasts }

put_there : (c : Config) (i h : ℕ) (v : View) (ledger : ℕ → ℕ) → AreThere c
    → AreThere (record c { slots = with c.slots i (Holds (Cell h)); cells = finite_map.insert c.cells h v; ledger = ledger })
put_there c i h v ledger are = record {
  slots = λ j. changed_there (finite_map.insert c.cells h v) (j == i) (Holds (Cell h)) (c.slots j) (new_there c.cells h v) (more_slot c.cells h v (c.slots j) (are.slots j));
  lasts = λ w. more_option c.cells h v (c.lasts w) (are.lasts w);
}

-- ---- one step of both

-- what stands where a configuration and its likeness have each gone on
abbrev AreOn : Config → Config → Type 0
AreOn c d = AreThere c × (r : Renaming) × Alike r c d

module _ (r : Renaming) (c d : Config) (alike : Alike r c d) (are : AreThere c) (h q : ℕ) (fresh : finite_map.get c.cells h ≡ None) (free : finite_map.get d.cells q ≡ None) where
  there_differs : (k : ℕ) → IsThere c.cells (Cell k) → swap (r.to h) q (r.to k) ≡ r.to k
  there_differs k there =
      swap_other (r.to h) q (r.to k)
      (λ is. there (ap (finite_map.get c.cells) (one_to_one r k h is) ∙ fresh))
      (λ is. there (sym (alike.cells k) ∙ ap (finite_map.get d.cells) is ∙ free))

  same_held : (x : Held) → IsThere c.cells x → renamed r.to x ≡ renamed (naming r h q).to x
  same_held (Bare s) there = refl
  same_held (Cell k) there = ap Cell (sym (there_differs k there))

  same_slot : (slot : Slot) → IsSlotThere c.cells slot → renamed_slot r.to slot ≡ renamed_slot (naming r h q).to slot
  same_slot Blank there = refl
  same_slot (Holds x) there = ap Holds (same_held x there)
  same_slot (Failed kind) there = refl

  same_option : (o : Option Held) → IsOptionThere c.cells o → option_map (renamed r.to) o ≡ option_map (renamed (naming r h q).to) o
  same_option None there = refl
  same_option (Some x) there = ap Some (same_held x there)

  cells_before : (k : ℕ) → (k ≡ h → ⊥) → (swap (r.to h) q (r.to k) ≡ q → ⊥) × (finite_map.get d.cells (swap (r.to h) q (r.to k)) ≡ finite_map.get c.cells k)
  cells_before k other = elim (cases_eq (r.to k) q) [
    | inl is ↦
        let there : swap (r.to h) q (r.to k) ≡ r.to h = ap (swap (r.to h) q) is ∙ swap_second (r.to h) q in (
          λ to. other (one_to_one r k h (is ∙ sym to ∙ there)),
          ap (finite_map.get d.cells) there ∙ alike.cells h ∙ fresh ∙ sym free ∙ sym (ap (finite_map.get d.cells) is) ∙ alike.cells k,
        )
    | inr none ↦
        let there : swap (r.to h) q (r.to k) ≡ r.to k = swap_other (r.to h) q (r.to k) (λ is. other (one_to_one r k h is)) none in
        (λ to. none (sym there ∙ to), ap (finite_map.get d.cells) there ∙ alike.cells k)
  ]

  cells_named : (v : View) (k : ℕ) → finite_map.get (finite_map.insert d.cells q v) (swap (r.to h) q (r.to k)) ≡ finite_map.get (finite_map.insert c.cells h v) k
  cells_named v k = elim (cases_eq k h) [
    | inl same ↦
        ap (λ n. finite_map.get (finite_map.insert d.cells q v) (swap (r.to h) q (r.to n))) same
        ∙ ap (finite_map.get (finite_map.insert d.cells q v)) (swap_first (r.to h) q)
        ∙ get-here d.cells q v ∙ sym (get-here c.cells h v)
        ∙ sym (ap (finite_map.get (finite_map.insert c.cells h v)) same)
    | inr other ↦
        let before = cells_before k other in
        get-there d.cells q v (swap (r.to h) q (r.to k)) before.0 ∙ before.1 ∙ sym (get-there c.cells h v k other)
  ]

  slot_named : (b : Bool) (old other : Slot) → IsSlotThere c.cells old → other ≡ renamed_slot r.to old
      → (if b then Holds (Cell q) else other) ≡ renamed_slot (naming r h q).to (if b then Holds (Cell h) else old)
  slot_named true old other there is = ap (λ n. Holds (Cell n)) (sym (swap_first (r.to h) q))
  slot_named false old other there is = is ∙ same_slot old there

  alike_named : (i : ℕ) (v : View) (first second : ℕ → ℕ)
      → ((u : ℕ) → second u ≡ first u)
      → Alike (naming r h q)
      (record c { slots = with c.slots i (Holds (Cell h)); cells = finite_map.insert c.cells h v; ledger = first })
      (record d { slots = with d.slots i (Holds (Cell q)); cells = finite_map.insert d.cells q v; ledger = second })
  alike_named i v first second same = record {
    slots = λ j. slot_named (j == i) (c.slots j) (d.slots j) (are.slots j) (alike.slots j);
    lasts = λ w. alike.lasts w ∙ same_option (c.lasts w) (are.lasts w);
    cells = cells_named v;
    ledger = same;
    pending = alike.pending;
  }

-- both configurations are these
on_these : (c d a b : Config) → a ≡ c → b ≡ d → AreOn c d → AreOn a b
on_these c d a b is_a is_b on = subst (λ x. AreOn x b) (sym is_a) (subst (AreOn c) (sym is_b) on)

module _ (inputs : Inputs) (t : ℕ) (s : System) where
  both_ran : (i : ℕ) (at : Equation) (x : Effect) (r : Renaming) (c d next other : Config)
      → AreThere c → Alike r c d → IsEffectThere c.cells x
      → Ran i at c x next → Ran i at d (renamed_effect r.to x) other → AreOn next other
  both_ran i at (Fill slot) r c d next other are alike there ran ran_too =
      on_these _ _ next other ran ran_too (filled_there c i slot are there, r, alike_filled r inputs t s c d i slot alike)
  both_ran i at (Make v) r c d next other are alike there ran ran_too =
      on_these _ _ next other ran.2 ran_too.2 (
        put_there c i ran.0 v (counted c i at) are,
        naming r ran.0 ran_too.0,
        alike_named r c d alike are ran.0 ran_too.0 ran.1 ran_too.1 i v (counted c i at) (counted d i at) (counted_alike r c d alike i at),
      )

  both_in_place : (i : ℕ) (at : Equation) (x : Effect) (r : Renaming) (c d next other : Config)
      → AreThere c → Alike r c d → IsEffectThere c.cells x
      → RanInPlace i at c x next → RanInPlace i at d (renamed_effect r.to x) other → AreOn next other
  both_in_place i at (Fill slot) r c d next other are alike there ran ran_too =
      on_these _ _ next other ran ran_too (filled_there c i slot are there, r, alike_filled r inputs t s c d i slot alike)
  both_in_place i at (Make v) r c d next other are alike there ran ran_too =
      let same : ran_too.0 ≡ r.to ran.0 = cell_same (sym ran_too.1 ∙ source_alike r c d alike at.args ∙ ap (renamed_slot r.to) ran.1) in
      let other_is : other ≡ record d { slots = with d.slots i (Holds (Cell (r.to ran.0))); cells = finite_map.insert d.cells (r.to ran.0) v } =
      ran_too.2 ∙ ap (λ (n : ℕ). record d { slots = with d.slots i (Holds (Cell n)); cells = finite_map.insert d.cells n v }) same in
      on_these _ _ next other ran.2 other_is (
        put_there c i ran.0 v c.ledger are,
        r,
        alike_made r inputs t s c d i ran.0 v c.ledger d.ledger alike.ledger alike,
      )

  both_run : (i : ℕ) (q : Option Equation) (r : Renaming) (c d next other : Config) → AreThere c → Alike r c d
      → OfEquation q (λ e. Ran i e c (effect inputs t c i e) next)
      → OfEquation q (λ e. Ran i e d (effect inputs t d i e) other)
      → AreOn next other
  both_run i None r c d next other are alike ran ran_too = absurd ran
  both_run i (Some at) r c d next other are alike ran ran_too =
      both_ran i at (effect inputs t c i at) r c d next other are alike (effect_there inputs t c are i at) ran
      (subst (λ x. Ran i at d x other) (effect_alike r c d alike inputs t i at) ran_too)

  both_run_in_place : (i : ℕ) (q : Option Equation) (r : Renaming) (c d next other : Config) → AreThere c → Alike r c d
      → OfEquation q (λ e. RanInPlace i e c (effect inputs t c i e) next)
      → OfEquation q (λ e. RanInPlace i e d (effect inputs t d i e) other)
      → AreOn next other
  both_run_in_place i None r c d next other are alike ran ran_too = absurd ran
  both_run_in_place i (Some at) r c d next other are alike ran ran_too =
      both_in_place i at (effect inputs t c i at) r c d next other are alike (effect_there inputs t c are i at) ran
      (subst (λ x. RanInPlace i at d x other) (effect_alike r c d alike inputs t i at) ran_too)

  both_time : (i : ℕ) (q : Option Equation) (r : Renaming) (c d next other : Config) → AreThere c → Alike r c d
      → OfEquation q (λ e. next ≡ record c { pending = timed t c i e.args })
      → OfEquation q (λ e. other ≡ record d { pending = timed t d i e.args })
      → AreOn next other
  both_time i None r c d next other are alike is is_too = absurd is
  both_time i (Some at) r c d next other are alike is is_too =
      on_these _ _ next other is is_too (record { slots = are.slots; lasts = are.lasts }, r, alike_timed r inputs t s c d i at.args alike)

  both_step : (instr : Instr) (r : Renaming) (c d next other : Config) → AreThere c → Alike r c d → Step inputs t s instr c next → Step inputs t s instr d other → AreOn next other
  both_step (Run i) r c d next other are alike st st_too = both_run i (equation s i) r c d next other are alike st st_too
  both_step (RunInPlace i) r c d next other are alike st st_too = both_run_in_place i (equation s i) r c d next other are alike st st_too
  both_step (Print k) r c d next other are alike st st_too = on_these c d next other st st_too (are, r, alike)
  both_step (Keep v) r c d next other are alike st st_too =
      on_these _ _ next other st st_too (
        record {
          slots = are.slots;
          lasts = λ w. last_there c.cells (w == v) (option_or (held (c.slots v)) (c.lasts v)) (c.lasts w)
              (or_there c.cells (held (c.slots v)) (c.lasts v) (held_there c.cells (c.slots v) (are.slots v)) (are.lasts v)) (are.lasts w);
        },
        r,
        alike_kept r inputs t s c d v alike,
      )
  both_step (Timer i) r c d next other are alike st st_too = both_time i (equation s i) r c d next other are alike st st_too

  both_steps : (code : List Instr) (r : Renaming) (c d next other : Config) → AreThere c → Alike r c d → Steps inputs t s code c next → Steps inputs t s code d other → AreOn next other
  both_steps [] r c d next other are alike st st_too = on_these c d next other st st_too (are, r, alike)
  both_steps (instr ∷ code) r c d next other are alike st st_too =
      let on = both_step instr r c d st.0 st_too.0 are alike st.1 st_too.1 in
      both_steps code on.1 st.0 st_too.0 next other on.0 on.2 st.2 st_too.2

-- ---- last registers of what is kept alone

-- a last register that holds something is one of those that are kept
abbrev AreKeptAlone : System → (ℕ → Option Held) → Type 0
AreKeptAlone s lasts = (v : ℕ) → (lasts v ≡ None) ⊎ Contains (keeps_of s) v

-- an instruction keeps a register only if it is one of these
abbrev KeepsOf : System → Instr → Type 0
KeepsOf s (Keep v) = Contains (keeps_of s) v
KeepsOf s _ = Unit {0}

module _ (inputs : Inputs) (t : ℕ) (s : System) where
  alone_ran : (i : ℕ) (at : Equation) (x : Effect) (c next : Config) → Ran i at c x next → next.lasts ≡ c.lasts
  alone_ran i at (Fill slot) c next ran = ap (λ (n : Config). n.lasts) ran
  alone_ran i at (Make v) c next ran = ap (λ (n : Config). n.lasts) ran.2

  alone_in_place : (i : ℕ) (at : Equation) (x : Effect) (c next : Config) → RanInPlace i at c x next → next.lasts ≡ c.lasts
  alone_in_place i at (Fill slot) c next ran = ap (λ (n : Config). n.lasts) ran
  alone_in_place i at (Make v) c next ran = ap (λ (n : Config). n.lasts) ran.2

  alone_run : (i : ℕ) (q : Option Equation) (c next : Config) → OfEquation q (λ e. Ran i e c (effect inputs t c i e) next) → next.lasts ≡ c.lasts
  alone_run i None c next ran = absurd ran
  alone_run i (Some at) c next ran = alone_ran i at (effect inputs t c i at) c next ran

  alone_run_in_place : (i : ℕ) (q : Option Equation) (c next : Config) → OfEquation q (λ e. RanInPlace i e c (effect inputs t c i e) next) → next.lasts ≡ c.lasts
  alone_run_in_place i None c next ran = absurd ran
  alone_run_in_place i (Some at) c next ran = alone_in_place i at (effect inputs t c i at) c next ran

  alone_time : (i : ℕ) (q : Option Equation) (c next : Config) → OfEquation q (λ e. next ≡ record c { pending = timed t c i e.args }) → next.lasts ≡ c.lasts
  alone_time i None c next is = absurd is
  alone_time i (Some at) c next is = ap (λ (n : Config). n.lasts) is

  alone_one : (v w : ℕ) (new old : Option Held) → Contains (keeps_of s) v → (old ≡ None) ⊎ Contains (keeps_of s) w → ((if w == v then new else old) ≡ None) ⊎ Contains (keeps_of s) w
  alone_one v w new old kept before = elim (cases_eq w v) [
    | inl same ↦ inr (subst (Contains (keeps_of s)) (sym same) kept)
    | inr other ↦ subst (λ b. ((if b then new else old) ≡ None) ⊎ Contains (keeps_of s) w) (sym (ne_eqb w v other)) before
  ]

  alone_step : (instr : Instr) (c next : Config) → KeepsOf s instr → AreKeptAlone s c.lasts → Step inputs t s instr c next → AreKeptAlone s next.lasts
  alone_step (Run i) c next of alone st = subst (AreKeptAlone s) (sym (alone_run i (equation s i) c next st)) alone
  alone_step (RunInPlace i) c next of alone st = subst (AreKeptAlone s) (sym (alone_run_in_place i (equation s i) c next st)) alone
  alone_step (Print k) c next of alone st = subst (λ (n : Config). AreKeptAlone s n.lasts) (sym st) alone
  alone_step (Keep v) c next of alone st =
      subst (λ (n : Config). AreKeptAlone s n.lasts) (sym st) (λ w. alone_one v w (option_or (held (c.slots v)) (c.lasts v)) (c.lasts w) of (alone w))
  alone_step (Timer i) c next of alone st = subst (AreKeptAlone s) (sym (alone_time i (equation s i) c next st)) alone

  alone_steps : (code : List Instr) (c next : Config) → AllByRecursion (KeepsOf s) code → AreKeptAlone s c.lasts → Steps inputs t s code c next → AreKeptAlone s next.lasts
  alone_steps [] c next of alone st = subst (λ (n : Config). AreKeptAlone s n.lasts) (sym st) alone
  alone_steps (instr ∷ code) c next of alone st = alone_steps code st.0 next of.1 (alone_step instr c st.0 of.0 alone st.1) st.2

module _ (s : System) (plan : Plan) where
  no_keep : (b in_place : Bool) (n k : ℕ) → KeepsOf s (if b then (if in_place then RunInPlace n else Run n) else Print k)
  no_keep true true n k = tt
  no_keep true false n k = tt
  no_keep false in_place n k = tt

  all_body : (order : List ℕ) → AllByRecursion (KeepsOf s) (map (step_instr s plan) order)
  all_body [] = tt
  all_body (n ∷ order) = (no_keep (nat_lt n (length s.equations)) (is_in plan.in_place n) n (n - length s.equations), all_body order)

  all_timers : (ts : List ℕ) → AllByRecursion (KeepsOf s) (map Timer ts)
  all_timers [] = tt
  all_timers (i ∷ ts) = (tt, all_timers ts)

  all_ending : (vs ts : List ℕ) → ((v : ℕ) → Contains vs v → Contains (keeps_of s) v) → AllByRecursion (KeepsOf s) (map Keep vs ++ map Timer ts)
  all_ending [] ts within = all_timers ts
  all_ending (v ∷ vs) ts within = (within v (0, omega arith, refl), all_ending vs ts (λ w found. within w (later v w vs found)))

-- ---- instants and runs

pub record AreHeld (s : System) (a : State) : Type 0 where
  pub lasts : (v : ℕ) → IsOptionThere a.cells (a.lasts v)
  pub alone : AreKeptAlone s a.lasts

module _ (s : System) (c : Config) where
  held_on : (v : ℕ) → Contains (keeps_of s) v → (o : Option Held) → c.lasts v ≡ o → IsOptionThere c.cells o → IsOptionThere (kept_cells s c) o
  held_on v kept None is there = tt
  held_on v kept (Some (Bare b)) is there = tt
  held_on v kept (Some (Cell h)) is there =
      let is_held = some_from (λ w. is_cell h (c.lasts w)) (keeps_of s) v (in-Contains (keeps_of s) v kept) (ap (is_cell h) is ∙ eq-eqb h h refl) in
      λ gone. there (sym (get-held c.cells (λ k. list_any (λ w. is_cell k (c.lasts w)) (keeps_of s)) h is_held) ∙ gone)

  ended_held : AreThere c → AreKeptAlone s c.lasts → AreHeld s (ended s c)
  ended_held are alone = record {
    lasts = λ v. elim (alone v) [
      | inl none ↦ subst (IsOptionThere (kept_cells s c)) (sym none) tt
      | inr kept ↦ held_on v kept (c.lasts v) refl (are.lasts v)
    ];
    alone = alone;
  }

pub both_instants : (s : System) (plan : Plan) (inputs : Inputs) (t : ℕ) (r : Renaming) (a b c d : State)
    → AreHeld s a → AreRenamed r a c → Instant s plan inputs t a b → Instant s plan inputs t c d
    → AreHeld s b × (q : Renaming) × AreRenamed q b d
both_instants s plan inputs t r a b c d are renamed_too one other =
    let first =
    both_steps inputs t s (body s plan) r (started a) (started c) one.reached other.reached (record { slots = λ i. tt; lasts = are.lasts }) (alike_started r a c renamed_too) one.ran other.ran in
    let alone = alone_steps inputs t s (body s plan) (started a) one.reached (all_body s plan plan.order) are.alone one.ran in
    let second = both_steps inputs t s (ending s) first.1 one.reached other.reached one.last other.last first.0 first.2 one.kept_on other.kept_on in
    let alone_on = alone_steps inputs t s (ending s) one.reached one.last (all_ending s plan (keeps_of s) (timers_of s) (λ v found. found)) alone one.kept_on in (
      subst (AreHeld s) (sym one.is) (ended_held s one.last second.0 alone_on),
      second.1,
      subst (λ x. AreRenamed second.1 x d) (sym one.is) (subst (AreRenamed second.1 (ended s one.last)) (sym other.is) (alike_ended second.1 s one.last other.last second.2)),
    )

both_runs : (s : System) (plan : Plan) (inputs : Inputs) (times : List ℕ) (r : Renaming) (a b c d : State)
    → AreHeld s a → AreRenamed r a c → Runs s plan inputs times a b → Runs s plan inputs times c d
    → (q : Renaming) × AreRenamed q b d
both_runs s plan inputs [] r a b c d are renamed_too one other =
    (r, subst (λ x. AreRenamed r x d) (sym one) (subst (AreRenamed r a) (sym other) renamed_too))
both_runs s plan inputs (t ∷ times) r a b c d are renamed_too one other =
    let first = both_instants s plan inputs t r a one.0 c other.0 are renamed_too one.1 other.1 in
    both_runs s plan inputs times first.1 one.0 b other.0 d first.0 first.2 one.2 other.2

abbrev pub no_change : Renaming
no_change = record { to = λ h. h; back = λ h. h; there = λ h. refl; here = λ h. refl }

pub one_run : RunsAreOne
one_run s plan lines z t a b one other =
    both_runs s plan (inputs_of lines) (instants s lines z t) no_change nothing_yet a nothing_yet b
    (record { lasts = λ v. tt; alone = λ v. inl refl }) (nothing_renamed no_change) one other
