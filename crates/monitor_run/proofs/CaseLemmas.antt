-- What equations have by the registers of their arguments.
use Rattle.std.proofs.Common.{◌≡◌, ◌==◌, ℕ, zero, suc, ◌+◌, ◌-◌, ◌^◌, ◌<◌, Bool, true, false, List, [], ◌∷◌, length, map, Option, Some, None, Ok, Err, inl, inr, refl, sym, ap, subst, ◌∙◌, arith}
use Rattle.std.proofs.lemmas.Bool.{false≢true, true≢false, ne_eqb}
use Rattle.std.proofs.lemmas.List.{length-set}
use Rattle.std.specs.Prelude.{◌⊎◌, IfOk, IsOk, IsTrue, Result, slice_set, is_some, min, not, if◌then◌else◌, slice_index}
use Rattle.std.specs.List.{All, AllByRecursion, list_any}
use Rattle.std.specs.Option.{option_and_then, option_or}
use Rattle.std.proofs.lemmas.List.Elements.{recursion_from_All}
use Rattle.std.specs.FinMap as finite_map
use Rattle.std.proofs.lemmas.Option.{same_Some}
use Rattle.tsl_value.specs.declared.operation.Update.{Update}
use Rattle.tsl_value.specs.declared.scalar.ValueType.{ValueType}
use Rattle.tsl_value.specs.View.{View}
use Rattle.body_eval.specs.declared.register.Register.{Register}
use Rattle.body_eval.specs.declared.register.Register.TheVariants as register
use Rattle.cell_reader.specs.inner.Cells.{Cells, IsLive}
use Rattle.body_eval.specs.inner.Registers.{HoldsLive, held}
use Rattle.body_eval.specs.declared.eval.EvalFault.{EvalFault}
use Rattle.body_eval.specs.declared.eval.EvalFault.TheVariants as eval_fault
use Rattle.lift_func.specs.Apply.{Answer}
use Rattle.lift_func.specs.Update.{update_answer}
use Rattle.body_eval.specs.inner.Evaluable.{IsEvaluable, IsHeldValue}
use Rattle.tsl_value.specs.declared.scalar.Scalar.TheVariants as scalar
use Rattle.lift_func.specs.BodyTree.{BodyTree}
use Rattle.aggregate_store.specs.inner.Stored.{Stored}
use Rattle.flat_core.specs.declared.equation.Equation.{Equation}
use Rattle.flat_core.specs.declared.equation.Op.{Op}
use Rattle.flat_core.specs.declared.equation.Op.TheVariants as op
use Rattle.flat_core.specs.Events.{at_once, at_zero, unit}
use Rattle.flat_core.specs.Typed.{IsTyped, kind_of}
use Rattle.flat_core.specs.Typed as rule
use Rattle.tsl_value.specs.Aggregate.{empty_of, is_aggregate}
use Rattle.flat_core.specs.inner.TypedEvents.{AreOf}
use Rattle.flat_core.specs.inner.Arity.{HasArity}
use Rattle.flat_core.proofs.TypedCase.{all_there_fit, options_fit}
use Rattle.monitor_run.specs.inner.Here.{HasAnswer, HasEffect, HasMade, HasMadeOne, HasPut, IsBare, TakesTyped, effect_here, source_of, truth_of}
use Rattle.flat_core.specs.inner.OpGroups.{counts, lift_answer}
use Rattle.flat_core.specs.Updates.{is_update, update_in}
use Rattle.flat_core.proofs.UpdateOps.{no_update}
use Rattle.register_machine.specs.Machine.{Held, Bare, Cell, slot_of, slot_of_answer, Config, view_of, value_in, where_either, Effect, Fill, Make, made, effect_of}
use Rattle.register_machine.specs.Copied.{size_at}
use Rattle.register_machine.proofs.UpdateEffects.{effect_update, is_one}
use Rattle.monitor_run.specs.inner.Registers.{register_at, value_at}
use Rattle.monitor_run.specs.inner.Shown.{config_of, held_at, held_by}
use Rattle.monitor_run.proofs.CellLemmas.{held_slot, seen_is}

pub last_two : (args : List ℕ) → HasArity op.Last args → length args ≡ 2
last_two [] shape = absurd shape
last_two (v ∷ []) shape = absurd shape
last_two (v ∷ r ∷ []) shape = refl
last_two (v ∷ r ∷ a ∷ args) shape = absurd shape

-- ---- empty aggregates

pub empty_made : (old new : Stored) (handle n t : ℕ) (of : ValueType) → ¬ (IsLive old.cells handle) → new ≡ record old { cells = finite_map.insert old.cells handle (empty_of of) } → n ≡ 0 → n ≡ t → HasMadeOne old new (register.Aggregate handle) (at_zero t (empty_of of))
empty_made old new handle n t of fresh made at same =
    subst (HasMadeOne old new (register.Aggregate handle)) (ap (λ m. at_zero m (empty_of of)) (sym (sym same ∙ at)))
    (record { handle = handle; is = refl; fresh = fresh; cells = ap (λ (s : Stored). s.cells) made }, ap (λ (s : Stored). s.ledger) made)

pub empty_later : (old : Stored) (n t : ℕ) (of : ValueType) → (n ≡ 0 → ⊥) → n ≡ t → HasMadeOne old old register.Empty (at_zero t (empty_of of))
empty_later old n zero of later same = absurd (later same)
empty_later old n (suc t) of later same = (refl, refl)

from_empty : (types : List ValueType) (of : ValueType) → IsTyped op.Empty types of → is_aggregate of ≡ true
from_empty types of (rule.empty aggregate) = aggregate
from_empty types of (rule.update is row) = no_update is

empty_typed : (o : Op) (types : List ValueType) (of : ValueType) → o ≡ op.Empty → IsTyped o types of → is_aggregate of ≡ true
empty_typed o types of is typed = from_empty types of (subst (λ p. IsTyped p types of) is typed)

pub takes_empty : (c : Cells) (registers : List Register) (e : Equation) → TakesTyped c registers e → e.op ≡ op.Empty → is_aggregate e.of ≡ true
takes_empty c registers e t is = empty_typed e.op t.types e.of is t.typed

-- ---- lifts

module _ (c : Cells) (registers : List Register) (args : List ℕ) (known : All (λ a. a < length registers) args) (live : All (λ a. HoldsLive c (register_at registers a)) args) where
  lift_evaluable : (body : BodyTree) (strict : Bool) (ts : List ValueType) (of : ValueType) → IsTyped (op.Lift body strict) ts of → AreOf ts (map (value_at c registers) args) → IsTrue (counts strict (map (value_at c registers) args)) → IsEvaluable c registers args body
  lift_evaluable body true ts of (rule.lift low high kind) values all = record {
    body = record { kinds = map (kind_of true) ts; kind = kind_of true of; named = known; live = live; fit = all_there_fit ts (map (value_at c registers) args) values all; typed = kind };
    scalar = tt;
  }
  lift_evaluable body false ts of (rule.lift low high kind) values some = record {
    body = record { kinds = map (kind_of false) ts; kind = kind_of false of; named = known; live = live; fit = options_fit ts (map (value_at c registers) args) values; typed = kind };
    scalar = tt;
  }
  lift_evaluable body strict ts of (rule.update is row) values some = no_update is

-- a lift that counts can be evaluated
pub liftable : (c : Cells) (registers : List Register) (e : Equation) (body : BodyTree) (strict : Bool) → All (λ a. a < length registers) e.args → TakesTyped c registers e → e.op ≡ op.Lift body strict → IsTrue (counts strict (map (value_at c registers) e.args)) → IsEvaluable c registers e.args body
liftable c registers e body strict known t is some = lift_evaluable c registers e.args known t.live body strict t.types e.of (subst (λ o. IsTyped o t.types e.of) is t.typed) t.values some

-- ---- unit events

unit_at : (t : ℕ) → ◌≡◌ {A = Option View} (if t == 0 then Some unit else None) (at_zero t unit)
unit_at zero = refl
unit_at (suc t) = λ k. if ne_eqb (suc t) 0 (λ same. absurd (omega arith)) k then Some unit else None

no_args : (args : List ℕ) → HasArity op.Unit args → args ≡ []
no_args [] shape = refl
no_args (a ∷ args) shape = absurd shape

-- ---- effects

-- operations whose answer is a scalar or nothing
abbrev IsScalarOp : Op → Type 0
IsScalarOp op.Nil = Unit {0}
IsScalarOp op.Unit = Unit {0}
IsScalarOp (op.Lift body strict) = Unit {0}
IsScalarOp op.Any = Unit {0}
IsScalarOp op.Time = Unit {0}
IsScalarOp _ = ⊥

bare_slot : (c : Cells) (r : Register) → IsBare r → slot_of_answer (Ok (held c r)) ≡ slot_of (held_by r)
bare_slot c register.Empty bare = refl
bare_slot c (register.Scalar s) bare = refl
bare_slot c (register.Aggregate h) bare = absurd bare

scalar_effect : (c : Config) (i t : ℕ) (o : Op) (args : List ℕ) (of : ValueType) → IsScalarOp o → effect_of (λ j u. None) t c i o args of ≡ Fill (slot_of_answer (at_once o of (map (value_in c) args) t))
scalar_effect c i t op.Nil args of is = refl
scalar_effect c i t op.Unit args of is = refl
scalar_effect c i t (op.Lift body strict) args of is = refl
scalar_effect c i t op.Any args of is = refl
scalar_effect c i t op.Time args of is = refl
scalar_effect c i t _ args of is = absurd is

-- values as the machine sees them
pub value_seen : (registers last : List Register) (st : Stored) (a : ℕ) → HoldsLive st.cells (register_at registers a) → value_in (config_of registers last st) a ≡ value_at st.cells registers a
value_seen registers last st a live = ap (option_and_then (view_of st.cells)) (held_slot (held_at registers a)) ∙ seen_is st.cells (register_at registers a) live

pub values_seen : (registers last : List Register) (st : Stored) (args : List ℕ) → All (λ a. HoldsLive st.cells (register_at registers a)) args → map (value_in (config_of registers last st)) args ≡ map (value_at st.cells registers) args
values_seen registers last st args live = go args (recursion_from_All (λ a. HoldsLive st.cells (register_at registers a)) args live)
  where
    go : (xs : List ℕ) → AllByRecursion (λ a. HoldsLive st.cells (register_at registers a)) xs → map (value_in (config_of registers last st)) xs ≡ map (value_at st.cells registers) xs
    go [] all = refl
    go (a ∷ xs) all = let here = value_seen registers last st a all.0 in let rest = go xs all.1 in λ k. here k ∷ rest k

lift_once : (body : BodyTree) (strict : Bool) (of : ValueType) (values : List (Option View)) (t : ℕ) → at_once (op.Lift body strict) of values t ≡ lift_answer body strict values
lift_once body true of values t = refl
lift_once body false of values t = refl

module _ (in_place : Bool) (i t : ℕ) (e : Equation) (registers last : List Register) (old : Stored) (typed : TakesTyped old.cells registers e) where
  scalar_answer : (o : Op) → e.op ≡ o → IsScalarOp o → (a : Answer) → at_once o e.of (map (value_at old.cells registers) e.args) t ≡ a → effect_here registers last old i t e ≡ Fill (slot_of_answer a)
  scalar_answer o is scalar a answer =
      (λ k. effect_of (λ j u. None) t (config_of registers last old) i (is k) e.args e.of)
      ∙ scalar_effect (config_of registers last old) i t o e.args e.of scalar
      ∙ ap (λ vs. Fill (slot_of_answer (at_once o e.of vs t))) (values_seen registers last old e.args typed.live)
      ∙ ap (λ x. Fill (slot_of_answer x)) answer

  pub bare_effect : (o : Op) → e.op ≡ o → IsScalarOp o → (r : Register) → IsBare r → at_once o e.of (map (value_at old.cells registers) e.args) t ≡ Ok (held old.cells r)
      → HasEffect in_place i e.op (source_of registers e.args) old old (Ok r) (effect_here registers last old i t e)
  bare_effect o is scalar r bare answer =
      subst (HasEffect in_place i e.op (source_of registers e.args) old old (Ok r)) (sym (scalar_answer o is scalar (Ok (held old.cells r)) answer ∙ ap Fill (bare_slot old.cells r bare))) (refl, refl)

  pub unit_effect : (r : Register) (n : ℕ) → e.op ≡ op.Unit → HasArity e.op e.args → n ≡ t → IsBare r → held old.cells r ≡ (if n == 0 then Some unit else None) → HasEffect in_place i e.op (source_of registers e.args) old old (Ok r) (effect_here registers last old i t e)
  unit_effect r n is shape same bare value =
      let none = no_args e.args (subst (λ p. HasArity p e.args) is shape) in
      bare_effect op.Unit is tt r bare ((λ k. at_once op.Unit e.of (map (value_at old.cells registers) (none k)) t) ∙ ap Ok (sym (value ∙ (λ k. if same k == 0 then Some unit else None) ∙ unit_at t)))

  pub any_effect : (r : Register) (b : Bool) → e.op ≡ op.Any → IsBare r → b ≡ list_any is_some (map (value_at old.cells registers) e.args) → held old.cells r ≡ (if b then Some unit else None) → HasEffect in_place i e.op (source_of registers e.args) old old (Ok r) (effect_here registers last old i t e)
  any_effect r b is bare some value = bare_effect op.Any is tt r bare (ap Ok (sym (value ∙ (λ k. if some k then Some unit else None))))

  pub lift_effect : (result : Result Register EvalFault) (body : BodyTree) (strict : Bool) → e.op ≡ op.Lift body strict → IfOk result (λ r. IsBare r) → IsHeldValue old.cells result (lift_answer body strict (map (value_at old.cells registers) e.args))
      → HasEffect in_place i e.op (source_of registers e.args) old old result (effect_here registers last old i t e)
  lift_effect (Ok r) body strict is bare value = bare_effect (op.Lift body strict) is tt r bare (lift_once body strict e.of (map (value_at old.cells registers) e.args) t ∙ value.0)
  lift_effect (Err (eval_fault.Fault kind)) body strict is bare value =
      subst (HasEffect in_place i e.op (source_of registers e.args) old old (Err (eval_fault.Fault kind))) (sym (scalar_answer (op.Lift body strict) is tt (Err kind) (lift_once body strict e.of (map (value_at old.cells registers) e.args) t ∙ value))) (refl, refl)
  lift_effect (Err eval_fault.Memory) body strict is bare value = tt

-- ---- what updates make

made_effect : (in_place : Bool) (i : ℕ) (o : Op) (source : Register) (old new : Stored) (r : Result Register EvalFault) (answer : Answer) → is_update o ≡ true → HasAnswer in_place i source old new r answer → HasEffect in_place i o source old new r (made answer)
made_effect in_place i o source old new (Ok r) (Ok None) is had = (sym (ap (λ x. slot_of (held_by x)) had.0), had.1)
made_effect in_place i o source old new (Ok r) (Ok (Some v)) is had = subst (λ q. HasMade q in_place i source old new r v) (sym is) had
made_effect in_place i o source old new (Ok r) (Err kind) is had = absurd had
made_effect in_place i o source old new (Err (eval_fault.Fault kind)) answer is had =
    subst (λ a. HasEffect in_place i o source old new (Err (eval_fault.Fault kind)) (made a)) (sym had.0) (refl, had.1)
made_effect in_place i o source old new (Err eval_fault.Memory) answer is had = tt

-- an operation that is none
pub no_update_op : (o : Op) → update_in o ≡ None → is_update o ≡ false
no_update_op o is = ap is_some is

-- an update has run by a test that agrees
pub update_effect : (tested in_place : Bool) (i t : ℕ) (e : Equation) (u : Update) (registers last : List Register) (old new : Stored) → TakesTyped old.cells registers e → update_in e.op ≡ Some u → tested ≡ in_place
    → (r : Result Register EvalFault) → HasAnswer tested i (source_of registers e.args) old new r (update_answer u (map (value_at old.cells registers) e.args))
    → HasEffect in_place i e.op (source_of registers e.args) old new r (effect_here registers last old i t e)
update_effect tested in_place i t e u registers last old new typed is same r had =
    let does : effect_here registers last old i t e ≡ made (update_answer u (map (value_at old.cells registers) e.args)) =
    effect_update (λ j u. None) t (config_of registers last old) i e.op u is e.args e.of
    ∙ ap (λ vs. made (update_answer u vs)) (values_seen registers last old e.args typed.live) in
    subst (HasEffect in_place i e.op (source_of registers e.args) old new r) (sym does)
    (made_effect in_place i e.op (source_of registers e.args) old new r (update_answer u (map (value_at old.cells registers) e.args)) (is_one e.op is)
    (subst (λ b. HasAnswer b i (source_of registers e.args) old new r (update_answer u (map (value_at old.cells registers) e.args))) same had))

-- ---- what is put into a place

pub put_one : (P : Result Register EvalFault → Type 0) (place other : ℕ) (old new : List Register) (result : Result (Unit {0}) EvalFault) (r : Register) → IsOk result → new ≡ slice_set old place r → place ≡ other → P (Ok r) → HasPut other old new result P
put_one P place other old new (Ok done) r ok is same has = (r, is ∙ (λ k. slice_set old (same k) r), has)
put_one P place other old new (Err fault) r ok is same has = absurd (false≢true ok)

pub put_as : (P Q : Result Register EvalFault → Type 0) (place other : ℕ) (old new : List Register) (result : Result (Unit {0}) EvalFault) → place ≡ other → ((r : Result Register EvalFault) → P r → Q r) → HasPut place old new result P → HasPut other old new result Q
put_as P Q place other old new (Ok done) same turn put = (put.0, put.1 ∙ (λ k. slice_set old (same k) put.0), turn (Ok put.0) put.2)
put_as P Q place other old new (Err fault) same turn put = turn (Err fault) put

-- ---- what is handed on

pub is_blank : (r : Register) (b : Bool) → ((c : Cells) → is_some (held c r) ≡ not b) → b ≡ true → held_by r ≡ None
is_blank register.Empty b all so = refl
is_blank (register.Scalar s) b all so = absurd (true≢false (all finite_map.empty ∙ ap not so))
is_blank (register.Aggregate h) b all so = absurd (true≢false (all finite_map.empty ∙ ap not so))

pub is_there : (r : Register) (b : Bool) → ((c : Cells) → is_some (held c r) ≡ not b) → b ≡ false → is_some (held_by r) ≡ true
is_there register.Empty b all fails = absurd (false≢true (all finite_map.empty ∙ ap not fails))
is_there (register.Scalar s) b all fails = refl
is_there (register.Aggregate h) b all fails = refl

-- a copy of a register that a choice of what is held gives
pub copied_is : {E : Type 0} (to : Result Register E) (r : Register) (h : Option Held) → IfOk to (λ x. x ≡ r) → held_by r ≡ h → IfOk to (λ x. held_by x ≡ h)
copied_is (Ok x) r h is same = ap held_by is ∙ same
copied_is (Err e) r h is same = tt

or_there : (a b : Option Held) → is_some a ≡ true → a ≡ option_or a b
or_there None b there = absurd (false≢true there)
or_there (Some a) b there = refl

pub first_taken : (a b : Register) → is_some (held_by a) ≡ true → held_by a ≡ option_or (held_by a) (held_by b)
first_taken a b there = or_there (held_by a) (held_by b) there

pub second_taken : (a b : Register) → held_by a ≡ None → held_by b ≡ option_or (held_by a) (held_by b)
second_taken a b none = sym (ap (λ h. option_or h (held_by b)) none)

none_first : (d b : Option Held) → where_either d None b ≡ None
none_first None b = refl
none_first (Some (Bare (scalar.Bool true))) b = refl
none_first (Some (Bare (scalar.Bool false))) b = refl
none_first (Some (Bare x)) b = refl
none_first (Some (Cell h)) b = refl

none_second : (d a : Option Held) → where_either d a None ≡ None
none_second None a = refl
none_second (Some (Bare (scalar.Bool true))) None = refl
none_second (Some (Bare (scalar.Bool true))) (Some a) = refl
none_second (Some (Bare (scalar.Bool false))) None = refl
none_second (Some (Bare (scalar.Bool false))) (Some a) = refl
none_second (Some (Bare x)) a = refl
none_second (Some (Cell h)) a = refl

pub none_picked : (d a b : Register) → (held_by a ≡ None) ⊎ (held_by b ≡ None) → None ≡ where_either (held_by d) (held_by a) (held_by b)
none_picked d a b (inl none) = sym (ap (λ h. where_either (held_by d) h (held_by b)) none ∙ none_first (held_by d) (held_by b))
none_picked d a b (inr none) = sym (ap (λ h. where_either (held_by d) (held_by a) h) none ∙ none_second (held_by d) (held_by a))

picks : (q : Bool) (a b : Option Held) → is_some a ≡ true → is_some b ≡ true → (if q then a else b) ≡ where_either (Some (Bare (scalar.Bool q))) a b
picks true (Some a) (Some b) p r = refl
picks false (Some a) (Some b) p r = refl
picks q None b p r = absurd (false≢true p)
picks q (Some a) None p r = absurd (false≢true r)

said : (d : Option Held) (q : Bool) → truth_of d ≡ Some q → d ≡ Some (Bare (scalar.Bool q))
said (Some (Bare (scalar.Bool b))) q is = ap (λ x. Some (Bare (scalar.Bool x))) (same_Some b q is)
said None q is = absurd (cc)
said (Some (Bare x)) q is = absurd (cc)
said (Some (Cell h)) q is = absurd (cc)

pub picked_is : (d : Option Held) (a b : Register) (q : Bool) → truth_of d ≡ Some q → is_some (held_by a) ≡ true → is_some (held_by b) ≡ true → (if q then held_by a else held_by b) ≡ where_either d (held_by a) (held_by b)
picked_is d a b q is p r = picks q (held_by a) (held_by b) p r ∙ sym (ap (λ x. where_either x (held_by a) (held_by b)) (said d q is))

pub unsaid : (d a b : Option Held) → truth_of d ≡ None → None ≡ where_either d a b
unsaid (Some (Bare (scalar.Bool q))) a b is = absurd (cc)
unsaid None a b is = refl
unsaid (Some (Bare x)) a b is = refl
unsaid (Some (Cell h)) a b is = refl

-- ---- the ledger

-- an effect leaves the numbers of the ledger in their places
pub ledger_each : (in_place : Bool) (i : ℕ) (o : Op) (source : Register) (old new : Stored) (r : Register) (effect : Effect) → HasEffect in_place i o source old new (Ok r) effect
    → length new.ledger ≡ length old.ledger
ledger_each in_place i o source old new r (Fill slot) does = ap (λ (s : Stored). length s.ledger) does.1
ledger_each in_place i o source old new r (Make v) does = made_each (is_update o) in_place does
  where
    made_each : (update in_place : Bool) → HasMade update in_place i source old new r v → length new.ledger ≡ length old.ledger
    made_each false in_place does = ap length does.1
    made_each true false does = ap length does.1 ∙ length-set old.ledger i (min (slice_index old.ledger i + size_at (held old.cells source)) (2 ^ 64 - 1))
    made_each true true does = ap (λ (s : Stored). length s.ledger) does.3
