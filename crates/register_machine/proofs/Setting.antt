-- What a proof within an instant is given of the system and its solution.
use Rattle.std.proofs.Common.{◌≡◌, ℕ, Bool, true, false, List, [], ◌∷◌, Option, Some, None, Ok, is_some, refl, sym, ap, subst, ◌∙◌, Contains, option_and_then, map, ◌||◌, arith}
use Rattle.std.specs.List.{AllByRecursion, list_any, list_all}
use Rattle.std.proofs.Math.Bool.{true≢false}
use Rattle.std.specs.FinMap as finite_map
use Rattle.tsl_value.specs.View.{View, Plain}
use Rattle.tsl_value.specs.declared.scalar.ValueType.{ValueType}
use Rattle.flat_core.specs.declared.equation.Op.{Op}
use Rattle.flat_core.specs.declared.equation.Equation.{Equation}
use Rattle.flat_core.specs.Stream.{Outcome, Event, Fault, event, has_event, is_fault, latest}
use Rattle.flat_core.specs.Case.{Streams, case_of, used_of}
use Rattle.flat_core.specs.Events.{Inputs, outcome_of, expires}
use Rattle.flat_core.specs.System.{System, equation, IsProper}
use Rattle.flat_core.specs.WellFormed.{unguarded_of}
use Rattle.tsl_value.specs.Aggregate.{is_aggregate, has_elements}
use Rattle.flat_core.specs.Pending.{option_is}
use Rattle.flat_core.specs.declared.equation.Op.TheVariants as op
use Rattle.tsl_value.proofs.Lists.{later, none_in_nil}
use Rattle.flat_core.specs.Updates.{operation_of, update_in, is_update}
use Rattle.flat_core.proofs.UpdateOps.{is_operation, update_there}
use Rattle.tsl_value.specs.declared.operation.Update.{Update}
use Rattle.tsl_value.specs.declared.operation.Update.TheVariants as update
use Rattle.alias_rules.specs.Uses.{last_of, IsVariable}
use Rattle.register_machine.proofs.Running.{Running}
use Rattle.register_machine.specs.Machine.{Held, Cell, Slot, Blank, Holds, Failed, Cells, held, is_failed, view_of, slot_of}
use Rattle.register_machine.proofs.Cells.{blank_holds}
use Rattle.register_machine.proofs.Reach.{TriggerLaw}
use Rattle.register_machine.proofs.Middle.{SlotOf}
use Rattle.register_machine.specs.Stands.{is_aggregate_at}

abbrev pub aggregate : System → ℕ → Bool
aggregate s a = is_aggregate_at (equation s a)

-- an update has an aggregate and what is none beside it
pub record FitsUpdate (s : System) (m : ℕ) (ks : List ℕ) (of : ValueType) : Type 0 where
  pub made : is_aggregate of ≡ true
  pub source : aggregate s m ≡ true
  pub others : AllByRecursion (λ k. aggregate s k ≡ false) ks

abbrev pub FitIf : System → Bool → List ℕ → ValueType → Type 0
FitIf s true (m ∷ ks) of = FitsUpdate s m ks of
FitIf s _ _ of = ⊥

-- arity, and which arguments and results are aggregates
abbrev pub Fit : System → Op → List ℕ → ValueType → Type 0
Fit s op.Input [] of = is_aggregate of ≡ false
Fit s op.Nil [] of = Unit {0}
Fit s op.Unit [] of = is_aggregate of ≡ false
Fit s op.Empty [] of = is_aggregate of ≡ true
Fit s (op.Lift body strict) args of = is_aggregate of ≡ false
Fit s op.Any args of = is_aggregate of ≡ false
Fit s op.Time (a ∷ []) of = is_aggregate of ≡ false
Fit s op.Last (v ∷ r ∷ []) of = aggregate s v ≡ is_aggregate of
Fit s op.Delay (d ∷ r ∷ []) of = (is_aggregate of ≡ false) × (aggregate s d ≡ false)
Fit s op.Merge (a ∷ b ∷ []) of = (aggregate s a ≡ is_aggregate of) × (aggregate s b ≡ is_aggregate of)
Fit s op.Filter (e ∷ c ∷ []) of = (aggregate s e ≡ is_aggregate of) × (aggregate s c ≡ false)
Fit s op.Pick (c ∷ a ∷ b ∷ []) of = (aggregate s c ≡ false) × (aggregate s a ≡ is_aggregate of) × (aggregate s b ≡ is_aggregate of)
Fit s o args of = FitIf s (is_update o) args of

-- what an update asks, and what holds of each update
own_fit : (s : System) (u : Update) (args : List ℕ) (of : ValueType) → Fit s (operation_of u) args of → FitIf s true args of
own_fit s update.SetAdd args of fit = fit
own_fit s u args of fit = fit

fit_own : (s : System) (u : Update) (args : List ℕ) (of : ValueType) → FitIf s true args of → Fit s (operation_of u) args of
fit_own s update.SetAdd args of fit = fit
fit_own s u args of fit = fit

pub fit_update : (s : System) (o : Op) (u : Update) → update_in o ≡ Some u → (m : ℕ) (ks : List ℕ) (of : ValueType) → FitsUpdate s m ks of → Fit s o (m ∷ ks) of
fit_update s o u is m ks of fit = subst (λ p. Fit s p (m ∷ ks) of) (sym (is_operation o u is)) (fit_own s u (m ∷ ks) of fit)

pub each_update : (s : System) (P : Op → List ℕ → ValueType → Type 0)
    → ((o : Op) (u : Update) → update_in o ≡ Some u → (m : ℕ) (ks : List ℕ) (of : ValueType) → FitsUpdate s m ks of → P o (m ∷ ks) of)
    → (o : Op) (args : List ℕ) (of : ValueType) → is_update o ≡ true → Fit s o args of → P o args of
each_update s P each o args of is fit =
    let found = update_there o is in
    at args (own_fit s found.0 args of (subst (λ p. Fit s p args of) (is_operation o found.0 found.1) fit))
  where
    at : (args : List ℕ) → FitIf s true args of → P o args of
    at [] fits = absurd fits
    at (m ∷ ks) fits = let found = update_there o is in each o found.0 found.1 m ks of fits

-- what an update asks is asked of an update
pub by_fit : (s : System) (o : Op) (of : ValueType) (P : List ℕ → Type 0)
    → ((u : Update) → update_in o ≡ Some u → (m : ℕ) (ks : List ℕ) → FitsUpdate s m ks of → P (m ∷ ks))
    → (args : List ℕ) → FitIf s (is_update o) args of → P args
by_fit s o of P each args fit = at (is_update o) refl args fit
  where
    at : (b : Bool) → is_update o ≡ b → (args : List ℕ) → FitIf s b args of → P args
    at true is [] fits = absurd fits
    at true is (m ∷ ks) fits = let found = update_there o is in each found.0 found.1 m ks fits
    at false is args fits = absurd fits

-- an instant at t: the system is proper and typed, z solves it at t, and the state before agrees with z before t
pub record Setting (s : System) (inputs : Inputs) (z : Streams) (t : ℕ) (last : ℕ → Option Held) (pend : ℕ → Option ℕ) : Type 0 where
  pub proper : IsProper s
  pub fitting : (i : ℕ) (e : Equation) → Running s i e → Fit s e.op e.args e.of
  pub solves : (i : ℕ) (e : Equation) → Running s i e → z i t ≡ case_of inputs z i e t
  pub typed : (i : ℕ) (e : Equation) → Running s i e → (v : View) → event (z i t) ≡ Some v → has_elements v ≡ is_aggregate e.of
  pub law : TriggerLaw s z t
  pub lasts : (v i : ℕ) (e : Equation) → Running s i e → Contains (last_of e.op e.args) v → SlotOf (outcome_of (Ok (latest (z v) t))) (slot_of (last v))
  pub pending : (i d r : ℕ) (e : Equation) → Running s i e → e.op ≡ op.Delay → e.args ≡ d ∷ r ∷ [] → option_is t (pend i) ≡ expires (z d) (z r) (z i) t

-- registers against outcomes
pub failed_is : (o : Option Outcome) (slot : Slot) → SlotOf o slot → is_failed slot ≡ is_fault o
failed_is None slot is = ap is_failed is
failed_is (Some Fault) slot is = ap is_failed is.1
failed_is (Some (Event (Plain v))) slot is = ap is_failed is
failed_is (Some (Event v)) slot is = ap is_failed is.1

pub fires_is : (o : Option Outcome) (slot : Slot) → SlotOf o slot → is_some (held slot) ≡ has_event o
fires_is None slot is = ap (λ x. is_some (held x)) is
fires_is (Some Fault) slot is = ap (λ x. is_some (held x)) is.1
fires_is (Some (Event (Plain v))) slot is = ap (λ x. is_some (held x)) is
fires_is (Some (Event v)) slot is = ap (λ x. is_some (held x)) is.1

abbrev pub value_of : Cells → Slot → Option View
value_of cells slot = option_and_then (view_of cells) (held slot)

pub value_is : (cells : Cells) (o : Option Outcome) (slot : Slot) → SlotOf o slot → ((h : ℕ) → slot ≡ Holds (Cell h) → finite_map.get cells h ≡ event o) → value_of cells slot ≡ event o
value_is cells None slot is right = ap (value_of cells) is
value_is cells (Some Fault) slot is right = ap (value_of cells) is.1
value_is cells (Some (Event (Plain v))) slot is right = ap (value_of cells) is
value_is cells (Some (Event v)) slot is right = ap (value_of cells) is.1 ∙ right is.0 is.1

some_is : (o : Option View) → (o ≡ None → ⊥) → is_some o ≡ true
some_is None is = absurd (is refl)
some_is (Some v) is = refl

-- also a cell with another view tells that there is an event
pub present_is : (cells : Cells) (o : Option Outcome) (slot : Slot) → SlotOf o slot → ((h : ℕ) → slot ≡ Holds (Cell h) → finite_map.get cells h ≡ None → ⊥) → is_some (value_of cells slot) ≡ has_event o
present_is cells None slot is live = ap (λ x. is_some (value_of cells x)) is
present_is cells (Some Fault) slot is live = ap (λ x. is_some (value_of cells x)) is.1
present_is cells (Some (Event (Plain v))) slot is live = ap (λ x. is_some (value_of cells x)) is
present_is cells (Some (Event v)) slot is live = ap (λ x. is_some (value_of cells x)) is.1 ∙ some_is _ (live is.0 is.1)

-- what is handed on
pub handed : (o : Option Outcome) (slot : Slot) → SlotOf o slot → SlotOf (outcome_of (Ok (event o))) (slot_of (held slot))
handed None slot is = ap (λ x. slot_of (held x)) is
handed (Some Fault) slot is = ap (λ x. slot_of (held x)) is.1
handed (Some (Event (Plain v))) slot is = ap (λ x. slot_of (held x)) is
handed (Some (Event v)) slot is = (is.0, ap (λ x. slot_of (held x)) is.1)

pub handed_holds : (slot : Slot) (k : Held) → slot_of (held slot) ≡ Holds k → slot ≡ Holds k
handed_holds Blank k is = is
handed_holds (Failed kind) k is = blank_holds is
handed_holds (Holds l) k is = is

pub any_same : (p q : ℕ → Bool) (xs : List ℕ) → ((x : ℕ) → Contains xs x → p x ≡ q x) → list_any p xs ≡ list_any q xs
any_same p q [] each = refl
any_same p q (y ∷ xs) each =
    let here = each y (0, omega arith, refl) in
    let rest = any_same p q xs (λ x found. each x (later y x xs found)) in
    λ k. here k || rest k

pub map_same : (f g : ℕ → Option View) (xs : List ℕ) → ((x : ℕ) → Contains xs x → f x ≡ g x) → map f xs ≡ map g xs
map_same f g [] each = refl
map_same f g (y ∷ xs) each =
    let here = each y (0, omega arith, refl) in
    let rest = map_same f g xs (λ x found. each x (later y x xs found)) in
    λ k. here k ∷ rest k

pub used_unguarded : (o : Op) (args : List ℕ) (a : ℕ) → Contains (used_of o args) a → Contains (unguarded_of o args) a
used_unguarded op.Delay args a found = absurd (none_in_nil a found)
used_unguarded o args a found = found

in_rest_of : (args : List ℕ) (a : ℕ) → Contains (Rattle.std.specs.Prelude.drop 1 args) a → Contains args a
in_rest_of [] a found = absurd (none_in_nil a found)
in_rest_of (x ∷ args) a found = later x a args found

pub used_argument : (o : Op) (args : List ℕ) (a : ℕ) → Contains (used_of o args) a → Contains args a
used_argument op.Delay args a found = absurd (none_in_nil a found)
used_argument op.Last args a found = in_rest_of args a found
used_argument o args a found = found

-- what is no aggregate is no variable; what has the type of a variable is one
pub no_variable : (s : System) (x : ℕ) → IsVariable s x → aggregate s x ≡ false → ⊥
no_variable s x v is = true≢false (sym v.aggregate ∙ sym (ap is_aggregate_at v.is) ∙ is)

pub variable_too : (s : System) (x i : ℕ) (e : Equation) → Running s i e → IsVariable s x → aggregate s x ≡ is_aggregate e.of → IsVariable s i
variable_too s x i e running v is = record { at = e; is = running.is; running = running.runs_too; aggregate = sym is ∙ ap is_aggregate_at v.is ∙ v.aggregate }
