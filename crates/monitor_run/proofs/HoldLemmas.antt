-- What equations put into registers is of their types.
use Rattle.std.proofs.Common.{◌≡◌, ℕ, Bool, true, false, List, [], ◌∷◌, map, Option, Some, None, Ok, Err, refl, sym, ap, subst, ◌∙◌}
use Rattle.std.proofs.lemmas.Bool.{true≢false}
use Rattle.std.specs.Prelude.{if◌then◌else◌, is_some, IsTrue}
use Rattle.std.specs.Option.{option_or}
use Rattle.std.specs.List.{All, AllByRecursion}
use Rattle.tsl_value.specs.declared.scalar.Scalar.TheVariants as scalar
use Rattle.tsl_value.specs.declared.scalar.ValueType.{ValueType}
use Rattle.tsl_value.specs.View.{View, Plain, is_of}
use Rattle.body_eval.specs.declared.register.Register.{Register}
use Rattle.body_eval.specs.declared.register.Register.TheVariants as register
use Rattle.lift_func.specs.Apply.{Answer}
use Rattle.cell_reader.specs.inner.Cells.{Cells}
use Rattle.body_eval.specs.inner.Registers.{HoldsLive}
use Rattle.lift_func.specs.Typing.{Optional, FitsAnswer}
use Rattle.aggregate_store.specs.inner.Stored.{Stored}
use Rattle.flat_core.specs.declared.equation.Equation.{Equation}
use Rattle.flat_core.specs.declared.equation.Op.{Op}
use Rattle.flat_core.specs.declared.equation.Op.TheVariants as op
use Rattle.flat_core.specs.Events.{at_once}
use Rattle.flat_core.specs.Complete.{IsFlat}
use Rattle.flat_core.specs.System.{System, runs, equation}
use Rattle.tsl_value.specs.Aggregate.{is_aggregate, has_elements}
use Rattle.flat_core.specs.Typed.{IsTyped, empty, last, merge, filter, pick}
use Rattle.flat_core.specs.Typed as rule
use Rattle.flat_core.specs.Updates.{is_update}
use Rattle.flat_core.proofs.UpdateOps.{no_update, update_there, row_of}
use Rattle.lift_func.proofs.Updates.{updates_aggregate}
use Rattle.flat_core.specs.TypedSystem.{AreOfTypes}
use Rattle.register_machine.specs.Machine.{Held, Bare, Cell, Slot, Blank, held, slot_of, slot_of_answer, Config, value_in, where_true, where_either, Fill, Make, made, effect_by, effect_of}
use Rattle.register_machine.proofs.FailedKinds.{fill_same}
use Rattle.flat_core.specs.inner.Arity.{HasArity}
use Rattle.monitor_run.specs.inner.Here.{effect_here, is_given_op}
use Rattle.monitor_run.specs.inner.Registers.{AreHeld, IsHeldOf, register_at, value_at}
use Rattle.monitor_run.specs.inner.Shown.{config_of, held_at, held_by}
use Rattle.monitor_run.proofs.CaseLemmas.{values_seen}
use Rattle.monitor_run.proofs.CellLemmas.{aggregate_of, held_slot}
use Rattle.flat_core.proofs.Shapes.{running_args, shape_of}
use Rattle.flat_core.proofs.TypedCase.{at_once_typed}
use Rattle.monitor_run.proofs.TypedLemmas.{args_live, values_typed}

-- what is held is of a type, and a cell's type is this one
abbrev pub HoldsAs : (ℕ → ValueType) → Cells → ValueType → Option Held → Type 0
HoldsAs types c of None = Unit {0}
HoldsAs types c of (Some (Bare s)) = IsTrue (is_of of (Plain s))
HoldsAs types c of (Some (Cell h)) = (types h ≡ of) × IsHeldOf c of (register.Aggregate h)

module _ (types : ℕ → ValueType) (c : Cells) where
  pub holds_as : (of : ValueType) (r : Register) → IsHeldOf c of r → ((h : ℕ) → r ≡ register.Aggregate h → types h ≡ of) → HoldsAs types c of (held_by r)
  holds_as of register.Empty is one = tt
  holds_as of (register.Scalar s) is one = is.typed
  holds_as of (register.Aggregate h) is one = (one h refl, is)

  pub held_as : (of : ValueType) (r : Register) → HoldsAs types c of (held_by r) → IsHeldOf c of r
  held_as of register.Empty is = record { typed = refl; live = tt }
  held_as of (register.Scalar s) is = record { typed = is; live = tt }
  held_as of (register.Aggregate h) is = is.1

  pub one_as : (of : ValueType) (r : Register) → HoldsAs types c of (held_by r) → (h : ℕ) → r ≡ register.Aggregate h → types h ≡ of
  one_as of r is h same = let here : HoldsAs types c of (Some (Cell h)) = subst (λ x. HoldsAs types c of (held_by x)) same is in here.0

  -- what is handed on
  or_holds : (of : ValueType) (a b : Option Held) → HoldsAs types c of a → HoldsAs types c of b → HoldsAs types c of (option_or a b)
  or_holds of None b p q = q
  or_holds of (Some a) b p q = p

  true_holds : (of : ValueType) (d h : Option Held) → HoldsAs types c of h → HoldsAs types c of (where_true d h)
  true_holds of (Some (Bare (scalar.Bool true))) h p = p
  true_holds of _ h p = tt

  either_holds : (of : ValueType) (d a b : Option Held) → HoldsAs types c of a → HoldsAs types c of b → HoldsAs types c of (where_either d a b)
  either_holds of (Some (Bare (scalar.Bool true))) (Some a) (Some b) p q = p
  either_holds of (Some (Bare (scalar.Bool false))) (Some a) (Some b) p q = q
  either_holds of _ _ _ p q = tt

  where_holds : (of : ValueType) (b : Bool) (h : Option Held) → HoldsAs types c of h → HoldsAs types c of (held (if b then slot_of h else Blank))
  where_holds of true h p = subst (HoldsAs types c of) (sym (held_slot h)) p
  where_holds of false h p = tt

  answer_holds : (of : ValueType) (a : Answer) → FitsAnswer (Optional of) a → HoldsAs types c of (held (slot_of_answer a))
  answer_holds of (Ok None) fit = tt
  answer_holds of (Ok (Some (Plain s))) fit = fit
  answer_holds of (Ok (Some v)) fit = tt
  answer_holds of (Err kind) fit = tt

  made_holds : (of : ValueType) (a : Answer) (slot : Slot) → made a ≡ Fill slot → HoldsAs types c of (held slot)
  made_holds of (Ok None) slot is = subst (λ x. HoldsAs types c of (held x)) (fill_same is) tt
  made_holds of (Ok (Some v)) slot is = absurd (cc)
  made_holds of (Err kind) slot is = subst (λ x. HoldsAs types c of (held x)) (fill_same is) tt

  -- what an update makes, and what others fill in
  by_holds : (of : ValueType) (b : Bool) (a : Answer) (slot : Slot) → FitsAnswer (Optional of) a → effect_by b a ≡ Fill slot → HoldsAs types c of (held slot)
  by_holds of true a slot fit is = made_holds of a slot is
  by_holds of false a slot fit is = subst (λ x. HoldsAs types c of (held x)) (fill_same is) (answer_holds of a fit)

made_is : (a : Answer) (v : View) → made a ≡ Make v → a ≡ Ok (Some v)
made_is (Ok None) v is = absurd (cc)
made_is (Ok (Some w)) v is = cc
made_is (Err kind) v is = absurd (cc)

fill_make : {P : Type 0} {x : Slot} {v : View} → Fill x ≡ Make v → P
fill_make q = absurd (cc)

-- ---- an equation
module _ (s : System) (whole : IsFlat s) (types : ℕ → ValueType) (st : Stored) (registers last_registers : List Register) (held_now : AreHeld s types st.cells registers) (held_last : AreHeld s types st.cells last_registers) where
  at_type : (rs : List Register) → AreHeld s types st.cells rs → (a : ℕ) (e : Equation) (of : ValueType) → IsTrue (runs s a) → equation s a ≡ Some e → e.of ≡ of → HoldsAs types st.cells of (held_at rs a)
  at_type rs are a e of run is same = subst (λ u. HoldsAs types st.cells u (held_at rs a)) same (holds_as types st.cells e.of (register_at rs a) (are.each a e run is) (λ h r. are.one_type a h e run is r))

  module _ (i t : ℕ) (e : Equation) (run : IsTrue (runs s i)) (is : equation s i ≡ Some e) where
    all_run : AllByRecursion (λ a. IsTrue (runs s a)) e.args
    all_run = running_args s whole.proper i e run is

    live : All (λ a. HoldsLive st.cells (register_at registers a)) e.args
    live = args_live s whole types st.cells registers held_now i e run is

    answer_fits : (kinds : List ValueType) → IsTyped e.op kinds e.of → AreOfTypes s.equations e.args kinds → FitsAnswer (Optional e.of) (at_once e.op e.of (map (value_in (config_of registers last_registers st)) e.args) t)
    answer_fits kinds typed are =
        subst (λ vs. FitsAnswer (Optional e.of) (at_once e.op e.of vs t)) (sym (values_seen registers last_registers st e.args live))
        (at_once_typed e.op kinds e.of typed (map (value_at st.cells registers) e.args) (values_typed s whole types st.cells registers held_now e.args kinds all_run are) t)

    seen : (a : ℕ) → held (slot_of (held_at registers a)) ≡ held_at registers a
    seen a = held_slot (held_at registers a)

    abbrev c : Config
    c = config_of registers last_registers st

    -- a register that is filled
    fills : (o : Op) (kinds : List ValueType) (of : ValueType) → IsTyped o kinds of → is_given_op o ≡ false → (args : List ℕ) → AllByRecursion (λ a. IsTrue (runs s a)) args → AreOfTypes s.equations args kinds
        → FitsAnswer (Optional of) (at_once o of (map (value_in c) args) t) → (slot : Slot) → effect_of (λ j u. None) t c i o args of ≡ Fill slot → HoldsAs types st.cells of (held slot)
    fills op.Input kinds of typed other args run are fit slot is = absurd (true≢false other)
    fills op.Delay kinds of typed other args run are fit slot is = absurd (true≢false other)
    fills op.Empty kinds of typed other args run are fit slot is = made_holds types st.cells of (at_once op.Empty of (map (value_in c) args) t) slot is
    fills op.Last kinds of (rule.update h row) other args run are fit slot is = no_update h
    fills op.Last kinds of last other [] run are fit slot is = absurd are
    fills op.Last kinds of last other (v ∷ []) run are fit slot is = absurd are.1
    fills op.Last kinds of last other (v ∷ r ∷ x ∷ args) run are fit slot is = absurd are.1.1
    fills op.Last kinds of last other (v ∷ r ∷ []) run are fit slot is =
        subst (λ x. HoldsAs types st.cells of (held x)) (fill_same is)
        (where_holds types st.cells of (is_some (held (slot_of (held_at registers r)))) (held_at last_registers v) (at_type last_registers held_last v are.0.at of run.0 are.0.is are.0.of_is))
    fills op.Merge kinds of (rule.update h row) other args run are fit slot is = no_update h
    fills op.Merge kinds of merge other [] run are fit slot is = absurd are
    fills op.Merge kinds of merge other (a ∷ []) run are fit slot is = absurd are.1
    fills op.Merge kinds of merge other (a ∷ b ∷ x ∷ args) run are fit slot is = absurd are.1.1
    fills op.Merge kinds of merge other (a ∷ b ∷ []) run are fit slot is =
        subst (λ x. HoldsAs types st.cells of (held x)) (fill_same is)
        (subst (HoldsAs types st.cells of) (sym (held_slot (option_or (held (slot_of (held_at registers a))) (held (slot_of (held_at registers b)))) ∙ (λ k. option_or (seen a k) (seen b k))))
        (or_holds types st.cells of (held_at registers a) (held_at registers b) (at_type registers held_now a are.0.at of run.0 are.0.is are.0.of_is) (at_type registers held_now b are.1.0.at of run.1.0 are.1.0.is are.1.0.of_is)))
    fills op.Filter kinds of (rule.update h row) other args run are fit slot is = no_update h
    fills op.Filter kinds of filter other [] run are fit slot is = absurd are
    fills op.Filter kinds of filter other (a ∷ []) run are fit slot is = absurd are.1
    fills op.Filter kinds of filter other (a ∷ b ∷ x ∷ args) run are fit slot is = absurd are.1.1
    fills op.Filter kinds of filter other (a ∷ b ∷ []) run are fit slot is =
        subst (λ x. HoldsAs types st.cells of (held x)) (fill_same is)
        (subst (HoldsAs types st.cells of) (sym (held_slot (where_true (held (slot_of (held_at registers b))) (held (slot_of (held_at registers a)))) ∙ (λ k. where_true (seen b k) (seen a k))))
        (true_holds types st.cells of (held_at registers b) (held_at registers a) (at_type registers held_now a are.0.at of run.0 are.0.is are.0.of_is)))
    fills op.Pick kinds of (rule.update h row) other args run are fit slot is = no_update h
    fills op.Pick kinds of (pick k) other [] run are fit slot is = absurd are
    fills op.Pick kinds of (pick k) other (a ∷ []) run are fit slot is = absurd are.1
    fills op.Pick kinds of (pick k) other (a ∷ b ∷ []) run are fit slot is = absurd are.1.1
    fills op.Pick kinds of (pick k) other (a ∷ b ∷ x ∷ y ∷ args) run are fit slot is = absurd are.1.1.1
    fills op.Pick kinds of (pick k) other (a ∷ b ∷ x ∷ []) run are fit slot is =
        subst (λ y. HoldsAs types st.cells of (held y)) (fill_same is)
        (subst (HoldsAs types st.cells of) (sym (held_slot (where_either (held (slot_of (held_at registers a))) (held (slot_of (held_at registers b))) (held (slot_of (held_at registers x)))) ∙ (λ j. where_either (seen a j) (seen b j) (seen x j))))
        (either_holds types st.cells of (held_at registers a) (held_at registers b) (held_at registers x) (at_type registers held_now b are.1.0.at of run.1.0 are.1.0.is are.1.0.of_is) (at_type registers held_now x are.1.1.0.at of run.1.1.0 are.1.1.0.is are.1.1.0.of_is)))
    fills o kinds of typed other args run are fit slot is = by_holds types st.cells of (is_update o) (at_once o of (map (value_in c) args) t) slot fit is

    pub filled_holds : is_given_op e.op ≡ false → (slot : Slot) (r : Register) → effect_here registers last_registers st i t e ≡ Fill slot → slot ≡ slot_of (held_by r) → HoldsAs types st.cells e.of (held_by r)
    filled_holds other slot r does same =
        let g = whole.complete.typed.each i e is in
        subst (HoldsAs types st.cells e.of) (ap held same ∙ held_slot (held_by r))
        (fills e.op g.types e.of g.typed other e.args all_run g.arguments (answer_fits g.types g.typed g.arguments) slot does)

    -- an update makes an aggregate, and others make none
    makes_by : (o : Op) (kinds : List ValueType) (of : ValueType) → IsTyped o kinds of → (b : Bool) → is_update o ≡ b → (a : Answer) (v : View) → effect_by b a ≡ Make v → (a ≡ Ok (Some v)) × (is_aggregate of ≡ true)
    makes_by o kinds of typed true so a v is =
        let found = update_there o so in
        let row = row_of o found.0 kinds of found.1 typed in
        (made_is a v is, updates_aggregate row.row)
    makes_by o kinds of typed false so a v is = fill_make is

    -- a view that is made
    makes : (o : Op) (kinds : List ValueType) (of : ValueType) → IsTyped o kinds of → is_given_op o ≡ false → (args : List ℕ) → HasArity o args → (v : View) → effect_of (λ j u. None) t c i o args of ≡ Make v → (at_once o of (map (value_in c) args) t ≡ Ok (Some v)) × (is_aggregate of ≡ true)
    makes op.Input kinds of typed other args shape v is = absurd (true≢false other)
    makes op.Delay kinds of typed other args shape v is = absurd (true≢false other)
    makes op.Last kinds of typed other [] shape v is = absurd shape
    makes op.Last kinds of typed other (w ∷ []) shape v is = absurd shape
    makes op.Last kinds of typed other (w ∷ r ∷ []) shape v is = fill_make is
    makes op.Last kinds of typed other (w ∷ r ∷ x ∷ args) shape v is = absurd shape
    makes op.Merge kinds of typed other [] shape v is = absurd shape
    makes op.Merge kinds of typed other (a ∷ []) shape v is = absurd shape
    makes op.Merge kinds of typed other (a ∷ b ∷ []) shape v is = fill_make is
    makes op.Merge kinds of typed other (a ∷ b ∷ x ∷ args) shape v is = absurd shape
    makes op.Filter kinds of typed other [] shape v is = absurd shape
    makes op.Filter kinds of typed other (a ∷ []) shape v is = absurd shape
    makes op.Filter kinds of typed other (a ∷ b ∷ []) shape v is = fill_make is
    makes op.Filter kinds of typed other (a ∷ b ∷ x ∷ args) shape v is = absurd shape
    makes op.Pick kinds of typed other [] shape v is = absurd shape
    makes op.Pick kinds of typed other (a ∷ []) shape v is = absurd shape
    makes op.Pick kinds of typed other (a ∷ b ∷ []) shape v is = absurd shape
    makes op.Pick kinds of typed other (a ∷ b ∷ x ∷ []) shape v is = fill_make is
    makes op.Pick kinds of typed other (a ∷ b ∷ x ∷ y ∷ args) shape v is = absurd shape
    makes op.Empty kinds of (rule.update h row) other args shape v is = no_update h
    makes op.Empty kinds of (empty aggregate) other args shape v is = (made_is (at_once op.Empty of (map (value_in c) args) t) v is, aggregate)
    makes o kinds of typed other args shape v is = makes_by o kinds of typed (is_update o) refl (at_once o of (map (value_in c) args) t) v is

    pub made_fits : is_given_op e.op ≡ false → (v : View) → effect_here registers last_registers st i t e ≡ Make v → IsTrue (is_of e.of v) × IsTrue (has_elements v)
    made_fits other v does =
        let g = whole.complete.typed.each i e is in
        let made_so = makes e.op g.types e.of g.typed other e.args (shape_of s whole i e is) v does in
        let fit : IsTrue (is_of e.of v) = subst (FitsAnswer (Optional e.of)) made_so.0 (answer_fits g.types g.typed g.arguments) in
        (fit, aggregate_of e.of v made_so.1 fit)
