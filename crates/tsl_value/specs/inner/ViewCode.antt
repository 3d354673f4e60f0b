-- A code for views, so that a model's value may have them.
use Rattle.std.specs.Prelude.{◌≡◌, ◌⊎◌, List, refl}
use Rattle.std.proofs.Common.{inl, inr}
use Rattle.std.specs.Coded.{Coded, code_by, coded_list, coded⊎}
use Rattle.std.specs.FinSet as set
use Rattle.std.specs.FinMap as finite_map
use Rattle.tsl_value.specs.declared.scalar.Scalar.{Scalar}
use Rattle.tsl_value.specs.contracts.scalar.Scalar as scalar_row
use Rattle.tsl_value.specs.View.{View, Plain, Keyed, Mapped, Listed, Keys, Table}

abbrev pub scalar_code : Coded Scalar
scalar_code = (scalar_row.the_row).coded

abbrev pub Parts : Type 0
Parts = Scalar ⊎ (Keys ⊎ (Table ⊎ List Scalar))

abbrev pub parts_of : View → Parts
parts_of (Plain s) = inl s
parts_of (Keyed s) = inr (inl s)
parts_of (Mapped m) = inr (inr (inl m))
parts_of (Listed xs) = inr (inr (inr xs))

abbrev pub view_of : Parts → View
view_of (inl s) = Plain s
view_of (inr (inl s)) = Keyed s
view_of (inr (inr (inl m))) = Mapped m
view_of (inr (inr (inr xs))) = Listed xs

pub view_of-parts_of : (v : View) → view_of (parts_of v) ≡ v
view_of-parts_of (Plain s) = refl
view_of-parts_of (Keyed s) = refl
view_of-parts_of (Mapped m) = refl
view_of-parts_of (Listed xs) = refl

abbrev pub view_code : Coded View
view_code =
    code_by Parts
    (coded⊎ scalar_code (coded⊎ (set.code scalar_code) (coded⊎ (finite_map.code scalar_code scalar_code) (coded_list scalar_code))))
    parts_of view_of view_of-parts_of
