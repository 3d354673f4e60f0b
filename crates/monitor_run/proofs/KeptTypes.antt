-- All registers are of their types once an equation has run.
use Rattle.std.proofs.Common.{◌≡◌, ◌<◌, ℕ, Bool, true, false, List, [], ◌∷◌, length, Option, Some, Ok, Err, refl, sym, ap, subst, ◌∙◌, inl, inr, length-set}
use Rattle.std.proofs.lemmas.Bool.{cases_eq}
use Rattle.std.proofs.lemmas.List.{get_or-set_same, get_or-set_other}
use Rattle.std.specs.Prelude.{IsTrue, slice_set}
use Rattle.std.specs.List.{AllByRecursion}
use Rattle.std.specs.FinMap as finite_map
use Rattle.tsl_value.specs.View.{View, is_of}
use Rattle.tsl_value.specs.declared.scalar.ValueType.{ValueType}
use Rattle.body_eval.specs.declared.eval.EvalFault.TheVariants as eval_fault
use Rattle.body_eval.specs.declared.register.Register.{Register}
use Rattle.body_eval.specs.declared.register.Register.TheVariants as register
use Rattle.tsl_value.specs.Aggregate.{has_elements}
use Rattle.cell_reader.specs.inner.Cells.{Cells}
use Rattle.aggregate_store.specs.inner.Stored.{Stored}
use Rattle.aggregate_store.proofs.Live.{is_live, has_view}
use Rattle.flat_core.specs.declared.equation.Equation.{Equation}
use Rattle.flat_core.specs.declared.equation.Op.{Op}
use Rattle.flat_core.specs.Complete.{IsFlat}
use Rattle.flat_core.specs.System.{System, runs, equation}
use Rattle.flat_core.specs.Typed.{IsTyped}
use Rattle.flat_core.specs.TypedSystem.{AreOfTypes}
use Rattle.flat_core.specs.Updates.{is_update}
use Rattle.register_machine.specs.Machine.{with, Effect, Fill, Make}
use Rattle.register_machine.proofs.Cells.{with-here}
use Rattle.monitor_run.specs.declared.machine.Machine.{Machine}
use Rattle.monitor_run.specs.declared.run.Root.{Root}
use Rattle.monitor_run.specs.inner.Here.{HasEffect, HasMade, IsMade, effect_here, is_given_op, source_of}
use Rattle.monitor_run.specs.inner.Instant.{HasRunOne, was_given, was_barred, was_filled, has_failed}
use Rattle.monitor_run.specs.inner.Registers.{AreHeld, IsHeldOf, register_at}
use Rattle.monitor_run.proofs.CellLemmas.{held-retyped, held-stays, stay-changed, stay-new}
use Rattle.monitor_run.proofs.HoldLemmas.{filled_holds, held_as, made_fits, one_as}
use Rattle.flat_core.proofs.Shapes.{one_equation, running_args}
use Rattle.flat_core.proofs.UpdateOps.{update_there, row_of}

-- all registers, and the last registers, with some types of the cells
pub record AllHeld (s : System) (m : Machine) : Type 0 where
  pub types : ℕ → ValueType
  pub held : AreHeld s types m.store.cells m.registers.items
  pub last : AreHeld s types m.store.cells m.last.items

aggregate_same : {a b : ℕ} → register.Aggregate a ≡ register.Aggregate b → a ≡ b
aggregate_same q = cc

-- the source of an update is of its type
source_type : (o : Op) (kinds : List ValueType) (of : ValueType) → IsTyped o kinds of → is_update o ≡ true → (k : ValueType) (more : List ValueType) → kinds ≡ k ∷ more → k ≡ of
source_type o kinds of typed so k more same =
    let found = update_there o so in
    let row = row_of o found.0 kinds of found.1 typed in
    first_type (sym same ∙ row.are)
  where
    first_type : {x y : ValueType} {xs ys : List ValueType} → x ∷ xs ≡ y ∷ ys → x ≡ y
    first_type e = cc

-- a register is set
set_held : (s : System) (types : ℕ → ValueType) (c : Cells) (registers : List Register) (n : ℕ) (e : Equation) (r : Register) → equation s n ≡ Some e → AreHeld s types c registers → n < length registers → IsHeldOf c e.of r → ((h : ℕ) → r ≡ register.Aggregate h → types h ≡ e.of)
    → AreHeld s types c (slice_set registers n r)
set_held s types c registers n e r at held there is one = record {
  one_each = length-set registers n r ∙ held.one_each;
  each = λ i f run found. elim (cases_eq i n) [
    | inl same ↦
        let equal = one_equation s n e f at (sym (ap (equation s) same) ∙ found) in
        subst (λ (g : Equation). IsHeldOf c g.of (register_at (slice_set registers n r) i)) (sym equal)
        (subst (IsHeldOf c e.of) (sym (ap (register_at (slice_set registers n r)) same ∙ get_or-set_same registers n r register.Empty there)) is)
    | inr other ↦ subst (IsHeldOf c f.of) (sym (get_or-set_other registers n i r register.Empty other)) (held.each i f run found)
  ];
  one_type = λ i h f run found holds. elim (cases_eq i n) [
    | inl same ↦
        let equal = one_equation s n e f at (sym (ap (equation s) same) ∙ found) in
        one h (sym (ap (register_at (slice_set registers n r)) same ∙ get_or-set_same registers n r register.Empty there) ∙ holds) ∙ ap (λ (g : Equation). g.of) (sym equal)
    | inr other ↦ held.one_type i h f run found (sym (get_or-set_other registers n i r register.Empty other) ∙ holds)
  ];
}

module _ (s : System) (whole : IsFlat s) (in_place : Bool) (t n : ℕ) (e : Equation) (run : IsTrue (runs s n)) (at : equation s n ≡ Some e) (old new : Machine) (last : new.last.items ≡ old.last.items) (there : n < length old.registers.items) (all : AllHeld s old) (update : in_place ≡ true → is_update e.op ≡ true) where
  -- where the cells and the registers are as they were
  same_held : new.registers.items ≡ old.registers.items → new.store.cells ≡ old.store.cells → AllHeld s new
  same_held registers cells_are = record {
    types = all.types;
    held = subst (λ rs. AreHeld s all.types new.store.cells rs) (sym registers) (subst (λ c. AreHeld s all.types c old.registers.items) (sym cells_are) all.held);
    last = subst (λ rs. AreHeld s all.types new.store.cells rs) (sym last) (subst (λ c. AreHeld s all.types c old.last.items) (sym cells_are) all.last);
  }

  module _ (r : Register) (registers : new.registers.items ≡ slice_set old.registers.items n r) where
    set_new : (types : ℕ → ValueType) → AreHeld s types new.store.cells old.registers.items → AreHeld s types new.store.cells old.last.items → IsHeldOf new.store.cells e.of r → ((h : ℕ) → r ≡ register.Aggregate h → types h ≡ e.of) → AllHeld s new
    set_new types held held_last is one = record {
      types = types;
      held = subst (AreHeld s types new.store.cells) (sym registers) (set_held s types new.store.cells old.registers.items n e r at held there is one);
      last = subst (AreHeld s types new.store.cells) (sym last) held_last;
    }

    cell_held : (h : ℕ) (v : View) → r ≡ register.Aggregate h → new.store.cells ≡ finite_map.insert old.store.cells h v → IsTrue (is_of e.of v) × IsTrue (has_elements v) → IsHeldOf new.store.cells e.of r
    cell_held h v is made fits =
        let same = has_view old.store.cells new.store.cells h v made in
        subst (IsHeldOf new.store.cells e.of) (sym is) (record {
          typed = subst (λ w. IsTrue (is_of e.of w)) (sym same) fits.0;
          live = (is_live old.store.cells new.store.cells h v made, ap has_elements same ∙ fits.1);
        })

    made_held : (v : View) → IsTrue (is_of e.of v) × IsTrue (has_elements v) → IsMade old.store.cells new.store.cells v r → AllHeld s new
    made_held v fits made =
        let types = with all.types made.handle e.of in
        let stays = stay-new types old.store.cells new.store.cells made.handle v made.fresh made.cells in
        set_new types
        (held-stays s types old.store.cells new.store.cells old.registers.items stays (held-retyped s all.types old.store.cells old.registers.items made.handle e.of made.fresh all.held))
        (held-stays s types old.store.cells new.store.cells old.last.items stays (held-retyped s all.types old.store.cells old.last.items made.handle e.of made.fresh all.last))
        (cell_held made.handle v made.is made.cells fits)
        (λ h is. let same : made.handle ≡ h = aggregate_same (sym made.is ∙ is) in subst (λ m. with all.types made.handle e.of m ≡ e.of) same (with-here all.types made.handle e.of))

    changed_held : (v : View) → IsTrue (is_of e.of v) × IsTrue (has_elements v) → is_update e.op ≡ true → (h : ℕ) → source_of old.registers.items e.args ≡ register.Aggregate h → r ≡ register.Aggregate h → new.store.cells ≡ finite_map.insert old.store.cells h v → AllHeld s new
    changed_held v fits so h source is made =
        let g = whole.complete.typed.each n e at in
        let of_h : all.types h ≡ e.of = go e.args g.types (running_args s whole.proper n e run at) g.arguments (source_type e.op g.types e.of g.typed so) source in
        let stays = stay-changed all.types old.store.cells new.store.cells h v (subst (λ u. IsTrue (is_of u v)) (sym of_h) fits.0) made in
        set_new all.types (held-stays s all.types old.store.cells new.store.cells old.registers.items stays all.held) (held-stays s all.types old.store.cells new.store.cells old.last.items stays all.last) (cell_held h v is made fits)
        (λ k same. subst (λ m. all.types m ≡ e.of) (aggregate_same (sym is ∙ same)) of_h)
      where
        go : (args : List ℕ) (kinds : List ValueType) → AllByRecursion (λ a. IsTrue (runs s a)) args → AreOfTypes s.equations args kinds → ((k : ValueType) (more : List ValueType) → kinds ≡ k ∷ more → k ≡ e.of) → source_of old.registers.items args ≡ register.Aggregate h → all.types h ≡ e.of
        go [] kinds all_run are head is = absurd (cc)
        go (m ∷ args) [] all_run are head is = absurd are
        go (m ∷ args) (k ∷ kinds) all_run are head is = all.held.one_type m h are.0.at all_run.0 are.0.is is ∙ are.0.of_is ∙ head k kinds refl

    filled_held : is_given_op e.op ≡ false → HasEffect in_place n e.op (source_of old.registers.items e.args) old.store new.store (Ok r) (effect_here old.registers.items old.last.items old.store n t e) → AllHeld s new
    filled_held other has = go (effect_here old.registers.items old.last.items old.store n t e) refl has
      where
        go : (does : Effect) → effect_here old.registers.items old.last.items old.store n t e ≡ does → HasEffect in_place n e.op (source_of old.registers.items e.args) old.store new.store (Ok r) does → AllHeld s new
        go (Fill slot) is has =
            let holds = filled_holds s whole all.types old.store old.registers.items old.last.items all.held all.last n t e run at other slot r is has.0 in
            let cells_are : new.store.cells ≡ old.store.cells = ap (λ (st : Stored). st.cells) has.1 in
            set_new all.types (subst (λ c. AreHeld s all.types c old.registers.items) (sym cells_are) all.held) (subst (λ c. AreHeld s all.types c old.last.items) (sym cells_are) all.last)
            (subst (λ c. IsHeldOf c e.of r) (sym cells_are) (held_as all.types old.store.cells e.of r holds)) (one_as all.types old.store.cells e.of r holds)
        go (Make v) is has = by (is_update e.op) refl in_place refl has
          where
            fits : IsTrue (is_of e.of v) × IsTrue (has_elements v)
            fits = made_fits s whole all.types old.store old.registers.items old.last.items all.held all.last n t e run at other v is

            by : (q : Bool) → is_update e.op ≡ q → (b : Bool) → in_place ≡ b → HasMade q b n (source_of old.registers.items e.args) old.store new.store r v → AllHeld s new
            by false fails b place has = made_held v fits has.0
            by true so false place has = made_held v fits has.0
            by true so true place has = changed_held v fits so has.0 has.1 has.2 (ap (λ (st : Stored). st.cells) has.3)

  -- a register is emptied
  emptied_held : new.registers.items ≡ slice_set old.registers.items n register.Empty → new.store.cells ≡ old.store.cells → AllHeld s new
  emptied_held registers cells_are =
      set_new register.Empty registers all.types (subst (λ c. AreHeld s all.types c old.registers.items) (sym cells_are) all.held) (subst (λ c. AreHeld s all.types c old.last.items) (sym cells_are) all.last)
      (record { typed = refl; live = tt }) (λ h is. absurd (cc))

  pub all_held : (root : Option Root) → HasRunOne in_place t n e old new root → AllHeld s new
  all_held root (was_given is same) = same_held (ap (λ (m : Machine). m.registers.items) same) (ap (λ (m : Machine). m.store.cells) same)
  all_held root (was_barred other blocked registers marks store) = emptied_held registers (ap (λ (st : Stored). st.cells) store)
  all_held root (was_filled r other sound has registers marks) = filled_held r registers other has
  all_held root (has_failed kind other sound has registers marks) = failed_held (effect_here old.registers.items old.last.items old.store n t e) has
    where
      failed_held : (does : Effect) → HasEffect in_place n e.op (source_of old.registers.items e.args) old.store new.store (Err (eval_fault.Fault kind)) does → AllHeld s new
      failed_held (Fill slot) has = emptied_held registers (ap (λ (st : Stored). st.cells) has.1)
      failed_held (Make v) has = absurd has
