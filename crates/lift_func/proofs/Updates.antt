-- What updates make of values that may be absent.
use Rattle.std.proofs.Common.{◌≡◌, ◌≤◌, true, false, List, [], ◌∷◌, ◌++◌, map, length, Option, Some, None, Result, Ok, Err, refl, sym, ap, subst, ◌∙◌, lit≤}
use Rattle.std.specs.Prelude.{IsTrue, is_some}
use Rattle.std.specs.List.{AllByRecursion, list_all}
use Rattle.std.specs.Option.{option_map}
use Rattle.std.specs.FinSet as set
use Rattle.std.specs.FinMap as finite_map
use Rattle.std.proofs.lemmas.Bool.{true≢false}
use Rattle.tsl_value.specs.Aggregate.{is_aggregate}
use Rattle.tsl_value.specs.View.{View, Plain, Keyed, Mapped, Listed}
use Rattle.tsl_value.specs.declared.operation.Update.{Update}
use Rattle.tsl_value.specs.declared.operation.Update.TheVariants as update
use Rattle.tsl_value.specs.declared.scalar.ValueType.{ValueType}
use Rattle.lift_func.specs.declared.fault.FaultKind.{FaultKind}
use Rattle.lift_func.specs.Apply.{Answer}
use Rattle.lift_func.specs.Typing.{Optional, fits, FitsAnswer}
use Rattle.lift_func.specs.Update.{updated, UpdateTypes, set_add, set_remove, map_add, map_remove, queue_add, queue_take, beside, update_faults, all_of, present, update_of, update_answer}
use Rattle.lift_func.proofs.TypedUpdates.{AreViewsOf, IsUpdated, updated_typed}

-- ---- the rows

pub updates_aggregate : {u : Update} {of : ValueType} {types : List ValueType} → UpdateTypes u of types → is_aggregate of ≡ true
updates_aggregate (set_add is) = refl
updates_aggregate (set_remove is) = refl
updates_aggregate (map_add is) = refl
updates_aggregate (map_remove is) = refl
updates_aggregate queue_add = refl
updates_aggregate queue_take = refl

pub beside_scalars : {u : Update} {of : ValueType} {types : List ValueType} → UpdateTypes u of types → AllByRecursion (λ t. is_aggregate t ≡ false) types
beside_scalars (set_add is) = (refl, tt)
beside_scalars (set_remove is) = (refl, tt)
beside_scalars (map_add is) = (refl, (refl, tt))
beside_scalars (map_remove is) = (refl, tt)
beside_scalars queue_add = (refl, tt)
beside_scalars queue_take = tt

pub beside_is : {u : Update} {of : ValueType} {types : List ValueType} → UpdateTypes u of types → length types ≡ beside u
beside_is (set_add is) = refl
beside_is (set_remove is) = refl
beside_is (map_add is) = refl
beside_is (map_remove is) = refl
beside_is queue_add = refl
beside_is queue_take = refl

pub beside_few : (u : Update) → beside u ≤ 7
beside_few update.MapAdd = lit≤ tt
beside_few u = lit≤ tt

-- an update that cannot fault gives an aggregate
pub updated_safe : (u : Update) (v : View) (rest : List View) → update_faults u ≡ false → (w : View) × (updated u v rest ≡ Ok w)
updated_safe update.SetAdd (Keyed s) (Plain k ∷ []) never = (Keyed (set.insert s k), refl)
updated_safe update.SetRemove (Keyed s) (Plain k ∷ []) never = (Keyed (set.remove s k), refl)
updated_safe update.MapAdd (Mapped m) (Plain k ∷ Plain x ∷ []) never = (Mapped (finite_map.insert m k x), refl)
updated_safe update.MapRemove (Mapped m) (Plain k ∷ []) never = (Mapped (finite_map.remove m k), refl)
updated_safe update.QueueAdd (Listed xs) (Plain x ∷ []) never = (Listed (xs ++ x ∷ []), refl)
updated_safe update.QueueTake v rest never = absurd (true≢false never)
updated_safe _ v _ never = (v, refl)

-- ---- values that may be absent

option_there : {A B : Type 0} (f : A → B) (o : Option A) → is_some (option_map f o) ≡ is_some o
option_there f None = refl
option_there f (Some x) = refl

pub all_there : (values : List (Option View)) → is_some (all_of values) ≡ list_all is_some values
all_there [] = refl
all_there (None ∷ values) = refl
all_there (Some v ∷ values) = option_there (λ vs. v ∷ vs) (all_of values) ∙ all_there values

-- what holds where they are all there, and where one is not
pub by_all : (P : Option (List View) → Type 0) (values : List (Option View)) → P None → ((vs : List View) → values ≡ map Some vs → P (Some vs)) → P (all_of values)
by_all P [] none some = some [] refl
by_all P (None ∷ values) none some = none
by_all P (Some v ∷ values) none some = by_all (λ o. P (option_map (λ vs. v ∷ vs) o)) values none (λ vs is. some (v ∷ vs) (ap (λ l. Some v ∷ l) is))

-- values that may be absent are of these types
abbrev pub AreValuesOf : List ValueType → List (Option View) → Type 0
AreValuesOf [] [] = Unit {0}
AreValuesOf (t ∷ types) (v ∷ values) = IsTrue (fits (Optional t) v) × AreValuesOf types values
AreValuesOf _ _ = ⊥

views_of : (types : List ValueType) (views : List View) → AreValuesOf types (map Some views) → AreViewsOf types views
views_of [] [] fit = tt
views_of [] (v ∷ views) fit = absurd fit
views_of (t ∷ types) [] fit = absurd fit
views_of (t ∷ types) (v ∷ views) fit = (fit.0, views_of types views fit.1)

present_fits : (of : ValueType) (r : Result View FaultKind) → IsUpdated of r → FitsAnswer (Optional of) (present r)
present_fits of (Ok v) typed = typed
present_fits of (Err kind) typed = tt

some_typed : {u : Update} {of : ValueType} {types : List ValueType} → UpdateTypes u of types → (views : List View) → AreViewsOf (of ∷ types) views → FitsAnswer (Optional of) (update_of u (Some views))
some_typed row [] fit = absurd fit
some_typed {u = u} {of = of} row (v ∷ rest) fit = present_fits of (updated u v rest) (updated_typed row v fit.0 rest fit.1)

-- what an update makes of values of its types is of the aggregate's type
pub answer_typed : {u : Update} {of : ValueType} {types : List ValueType} → UpdateTypes u of types → (values : List (Option View)) → AreValuesOf (of ∷ types) values → FitsAnswer (Optional of) (update_answer u values)
answer_typed {u = u} {of = of} {types = types} row values fit =
    by_all (λ o. FitsAnswer (Optional of) (update_of u o)) values refl
    (λ views is. some_typed row views (views_of (of ∷ types) views (subst (AreValuesOf (of ∷ types)) is fit)))

-- an update that cannot fault has a value, if any
some_safe : (u : Update) → update_faults u ≡ false → (views : List View) → (v : Option View) × (update_of u (Some views) ≡ Ok v)
some_safe u never [] = (None, refl)
some_safe u never (v ∷ rest) = let got = updated_safe u v rest never in (Some got.0, ap present got.1)

pub answer_safe : (u : Update) → update_faults u ≡ false → (values : List (Option View)) → (v : Option View) × (update_answer u values ≡ Ok v)
answer_safe u never values = by_all (λ o. (v : Option View) × (update_of u o ≡ Ok v)) values (None, refl) (λ views is. some_safe u never views)

-- an update without a fault has a value where all that it takes is there
abbrev value_in : Answer → Option View
value_in (Ok v) = v
value_in (Err kind) = None

same_there : (v w : Option View) → ◌≡◌ {A = Answer} (Ok v) (Ok w) → is_some w ≡ is_some v
same_there v w is = ap (λ a. is_some (value_in a)) (sym is)

value_there : (r : Result View FaultKind) (v : Option View) → present r ≡ Ok v → is_some v ≡ true
value_there (Ok w) v is = same_there (Some w) v is
value_there (Err kind) v is = absurd (cc)

some_there : (u : Update) (a : Option View) (rest : List (Option View)) (v : Option View) (views : List View) → a ∷ rest ≡ map Some views → update_of u (Some views) ≡ Ok v → is_some v ≡ true
some_there u a rest v [] is e = absurd (cc)
some_there u a rest v (w ∷ views) is e = value_there (updated u w views) v e

pub answer_there : (u : Update) (a : Option View) (rest : List (Option View)) (v : Option View) → update_answer u (a ∷ rest) ≡ Ok v → is_some v ≡ list_all is_some (a ∷ rest)
answer_there u a rest v is =
    by_all (λ o. update_of u o ≡ Ok v → is_some v ≡ is_some o) (a ∷ rest) (same_there None v) (some_there u a rest v) is ∙ all_there (a ∷ rest)

-- where one of them is missing it has none
no_value : {A : Type 0} (o : Option A) → is_some o ≡ false → o ≡ None
no_value None is = refl
no_value (Some x) is = absurd (true≢false is)

pub answer_missing : (u : Update) (values : List (Option View)) → list_all is_some values ≡ false → update_answer u values ≡ Ok None
answer_missing u values missing = ap (update_of u) (no_value (all_of values) (all_there values ∙ missing))
