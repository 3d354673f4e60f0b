use Rattle.std.proofs.Common.{refl, sym, ap, subst, pos}
use Rattle.std.specs.Prelude.{IsTrue}
use Rattle.tsl_value.specs.View.{View, is_of}
use Rattle.tsl_value.specs.declared.scalar.Scalar.TheVariants as scalar
use Rattle.tsl_value.specs.declared.scalar.KeyType.TheVariants as key_type
use Rattle.tsl_value.specs.declared.scalar.ValueType.{ValueType}
use Rattle.tsl_value.specs.declared.scalar.ValueType.TheVariants as value_type
use Rattle.cell_reader.specs.inner.Cells.{FitsKey, view_at}
use Rattle.aggregate_store.specs.inner.Stored.{Stored}
use Rattle.aggregate_store.proofs.Live.{is_live, still_live, still_view}
use Rattle.aggregate_store.proofs.Typed.{fits_key, fits_value, typed_added, typed_empty}
use Rattle.value_tests.proofs.tests.of_aggregate_store.sets_are_copied.Goals as goal

abbrev numbers : ValueType
numbers = value_type.Set key_type.Int

pub copy_add-requires-clause-live : goal.copy_add-requires-clause-live
copy_add-requires-clause-live g c = is_live _ _ _ _ (ap (λ (s : Stored). s.cells) c.in_ok-none.ensures.made)

pub copy_add-requires-clause-key : goal.copy_add-requires-clause-key
copy_add-requires-clause-key g c =
    fits_key numbers _ _ scalar.Unit (refl, refl)
    (typed_empty numbers c.in_ok-store.store.cells c.empty.new.self.cells c.in_ok-none.none refl (ap (λ (s : Stored). s.cells) c.in_ok-none.ensures.made))

pub copy_add-requires-clause-value : goal.copy_add-requires-clause-value
copy_add-requires-clause-value g c =
    fits_value numbers _ (scalar.Int (pos 2)) _ (refl, refl)
    (typed_empty numbers c.in_ok-store.store.cells c.empty.new.self.cells c.in_ok-none.none refl (ap (λ (s : Stored). s.cells) c.in_ok-none.ensures.made))

pub copy_remove-requires-clause-live : goal.copy_remove-requires-clause-live
copy_remove-requires-clause-live g c = is_live _ _ _ _ c.in_ok-one.ensures.made

pub copy_remove-requires-clause-key : goal.copy_remove-requires-clause-key
copy_remove-requires-clause-key g c =
    let none : IsTrue (is_of numbers (view_at c.empty.new.self.cells c.in_ok-none.none)) =
    typed_empty numbers c.in_ok-store.store.cells c.empty.new.self.cells c.in_ok-none.none refl (ap (λ (s : Stored). s.cells) c.in_ok-none.ensures.made) in
    fits_key numbers _ _ scalar.Unit (refl, refl)
    (typed_added numbers c.empty.new.self.cells c.copy_add.new.self.cells c.in_ok-none.none c.in_ok-one.one (scalar.Int (pos 2)) scalar.Unit c.in_ok-one.ensures.made (refl, refl) none)

pub text-requires : goal.text-requires
text-requires g c = is_live _ _ _ _ c.in_ok-less.ensures.made

pub copy_remove-requires-2-clause-live : goal.copy_remove-requires-2-clause-live
copy_remove-requires-2-clause-live g c = still_live _ _ _ _ c.in_ok-less.ensures.made c.in_ok-one.one (is_live _ _ _ _ c.in_ok-one.ensures.made)

pub copy_remove-requires-2-clause-key : goal.copy_remove-requires-2-clause-key
copy_remove-requires-2-clause-key g c =
    let none : IsTrue (is_of numbers (view_at c.empty.new.self.cells c.in_ok-none.none)) =
    typed_empty numbers c.in_ok-store.store.cells c.empty.new.self.cells c.in_ok-none.none refl (ap (λ (s : Stored). s.cells) c.in_ok-none.ensures.made) in
    let Fits : View → Type 0 = λ v. FitsKey v (scalar.Int (pos 7)) in
    subst Fits (sym (still_view _ _ _ _ c.in_ok-less.ensures.made c.in_ok-less.ensures.fresh c.in_ok-one.one (is_live _ _ _ _ c.in_ok-one.ensures.made)))
    (fits_key numbers (view_at c.copy_add.new.self.cells c.in_ok-one.one) (scalar.Int (pos 7)) scalar.Unit (refl, refl)
    (typed_added numbers c.empty.new.self.cells c.copy_add.new.self.cells c.in_ok-none.none c.in_ok-one.one (scalar.Int (pos 2)) scalar.Unit c.in_ok-one.ensures.made (refl, refl) none))

pub text-requires-2 : goal.text-requires-2
text-requires-2 g c = is_live _ _ _ _ c.in_ok-same.ensures.made
