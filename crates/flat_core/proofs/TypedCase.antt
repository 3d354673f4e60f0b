-- What an equation makes of values of its arguments' types is of its own type.
use Rattle.std.proofs.Common.{◌≡◌, ℕ, zero, suc, ◌<◌, Bool, true, false, List, [], ◌∷◌, map, Option, Some, None, Ok, Err, refl, sym, subst, arith}
use Rattle.std.proofs.lemmas.Bool.{false≢true}
use Rattle.std.specs.Prelude.{if◌then◌else◌, is_some, IsTrue}
use Rattle.std.specs.List.{AllByRecursion, list_all, list_any}
use Rattle.tsl_value.specs.declared.scalar.Scalar.TheVariants as scalar
use Rattle.tsl_value.specs.declared.scalar.ValueType.{ValueType}
use Rattle.tsl_value.specs.View.{View, Plain, is_of}
use Rattle.lift_func.specs.Apply.{Answer, apply}
use Rattle.lift_func.specs.BodyTree.{BodyTree}
use Rattle.lift_func.specs.Typing.{Optional, HasKind, FitsAnswer, AllFit}
use Rattle.lift_func.proofs.Fits.{apply_fits}
use Rattle.lift_func.proofs.TypedUpdates.{is_of-empty}
use Rattle.lift_func.proofs.Updates.{AreValuesOf, answer_typed}
use Rattle.flat_core.specs.declared.equation.Equation.{Equation}
use Rattle.flat_core.specs.declared.equation.Op.{Op}
use Rattle.flat_core.specs.declared.equation.Op.TheVariants as op
use Rattle.flat_core.specs.Case.{Streams, lasting, delayed, own_of, own, used_of, is_blocked, case_of}
use Rattle.tsl_value.specs.Aggregate.{empty_of}
use Rattle.flat_core.specs.Events.{Inputs, unit, merged, filtered, picked, at_once, expires, outcome_of}
use Rattle.flat_core.specs.Stream.{History, Fault, event, has_event, latest}
use Rattle.flat_core.specs.System.{System, equation}
use Rattle.flat_core.specs.Typed.{IsTyped, input, nil, empty, time, any, last, delay, merge, filter, pick, lift, unit_type, kind_of}
use Rattle.flat_core.specs.Typed as typed
use Rattle.flat_core.specs.inner.TypedEvents.{IsOf, AreOf}
use Rattle.flat_core.specs.TypedSystem.{AreOfTypes, IsTypedEquation}
use Rattle.flat_core.proofs.UpdateOps.{at_once_update, no_update}

pub is_of_from : (of : ValueType) (v : Option View) → ((x : View) → v ≡ Some x → IsTrue (is_of of x)) → IsOf of v
is_of_from of None each = refl
is_of_from of (Some x) each = each x refl

pub is_of_at : (of : ValueType) (v : Option View) (x : View) → IsOf of v → v ≡ Some x → IsTrue (is_of of x)
is_of_at of v x fit is = subst (IsOf of) is fit

-- ---- each operation

filter_typed : (of : ValueType) (a c : Option View) → IsOf of a → IsOf of (filtered a c)
filter_typed of a (Some (Plain (scalar.Bool true))) fit = fit
filter_typed of a _ fit = refl

pub merge_typed : (of : ValueType) (a b : Option View) → IsOf of a → IsOf of b → IsOf of (merged a b)
merge_typed of None b p q = q
merge_typed of (Some a) b p q = p

pick_typed : (of : ValueType) (c a b : Option View) → IsOf of a → IsOf of b → IsOf of (picked c a b)
pick_typed of (Some (Plain (scalar.Bool true))) (Some a) (Some b) p q = p
pick_typed of (Some (Plain (scalar.Bool false))) (Some a) (Some b) p q = q
pick_typed of _ _ _ p q = refl

-- events of types, as an update's values are
values_of : (types : List ValueType) (values : List (Option View)) → AreOf types values → AreValuesOf types values
values_of [] [] fit = tt
values_of [] (v ∷ values) fit = absurd fit
values_of (t ∷ types) [] fit = absurd fit
values_of (t ∷ types) (v ∷ values) fit = (fit.0, values_of types values fit.1)

-- values that count fit the kinds of a lift
pub all_there_fit : (types : List ValueType) (values : List (Option View)) → AreOf types values → list_all is_some values ≡ true → AllFit (map (kind_of true) types) values
all_there_fit [] [] of all = tt
all_there_fit [] (v ∷ values) of all = absurd of
all_there_fit (t ∷ types) [] of all = absurd of
all_there_fit (t ∷ types) (None ∷ values) of all = absurd (false≢true all)
all_there_fit (t ∷ types) (Some v ∷ values) of all = (of.0, all_there_fit types values of.1 all)

pub options_fit : (types : List ValueType) (values : List (Option View)) → AreOf types values → AllFit (map (kind_of false) types) values
options_fit [] [] of = tt
options_fit [] (v ∷ values) of = absurd of
options_fit (t ∷ types) [] of = absurd of
options_fit (t ∷ types) (v ∷ values) of = (of.0, options_fit types values of.1)

optional_fits : (of : ValueType) (strict : Bool) (a : Answer) → FitsAnswer (kind_of strict of) a → FitsAnswer (Optional of) a
optional_fits of true (Ok None) fit = refl
optional_fits of true (Ok (Some v)) fit = fit
optional_fits of true (Err kind) fit = tt
optional_fits of false a fit = fit

where_it_counts : (of : ValueType) (b : Bool) (a : Answer) → (b ≡ true → FitsAnswer (Optional of) a) → FitsAnswer (Optional of) (if b then a else Ok None)
where_it_counts of true a fit = fit refl
where_it_counts of false a fit = refl

unit_where : (b : Bool) → IsOf unit_type (if b then Some unit else None)
unit_where true = refl
unit_where false = refl

lift_typed : (body : BodyTree) (strict : Bool) (ts : List ValueType) (of : ValueType) → HasKind (map (kind_of strict) ts) body (kind_of strict of) → (values : List (Option View)) → AreOf ts values → (t : ℕ) → FitsAnswer (Optional of) (at_once (op.Lift body strict) of values t)
lift_typed body true ts of kind values fit t =
    where_it_counts of (list_all is_some values) (apply body values) (λ all.
    optional_fits of true (apply body values) (apply_fits (map (kind_of true) ts) values (all_there_fit ts values fit all) kind))
lift_typed body false ts of kind values fit t =
    where_it_counts of (list_any is_some values) (apply body values) (λ some.
    optional_fits of false (apply body values) (apply_fits (map (kind_of false) ts) values (options_fit ts values fit) kind))

-- what an operation makes of values of its types
pub at_once_typed : (o : Op) (ts : List ValueType) (of : ValueType) → IsTyped o ts of → (values : List (Option View)) → AreOf ts values → (t : ℕ) → FitsAnswer (Optional of) (at_once o of values t)
at_once_typed o ts of input values fit t = refl
at_once_typed o ts of nil values fit t = refl
at_once_typed o ts of typed.unit [] fit zero = refl
at_once_typed o ts of typed.unit [] fit (suc t) = refl
at_once_typed o ts of typed.unit (v ∷ values) fit t = absurd fit
at_once_typed o ts of (empty is) [] fit zero = is_of-empty of is
at_once_typed o ts of (empty is) [] fit (suc t) = refl
at_once_typed o ts of (empty is) (v ∷ values) fit t = absurd fit
at_once_typed o ts of time [] fit t = absurd fit
at_once_typed o ts of time (None ∷ []) fit t = refl
at_once_typed o ts of time (Some v ∷ []) fit t = refl
at_once_typed o ts of time (v ∷ w ∷ values) fit t = absurd fit.1
at_once_typed o ts of (any low high) values fit t = unit_where (list_any is_some values)
at_once_typed o ts of last values fit t = refl
at_once_typed o ts of delay values fit t = refl
at_once_typed o ts of merge [] fit t = absurd fit
at_once_typed o ts of merge (a ∷ []) fit t = absurd fit.1
at_once_typed o ts of merge (a ∷ b ∷ []) fit t = merge_typed of a b fit.0 fit.1.0
at_once_typed o ts of merge (a ∷ b ∷ c ∷ values) fit t = absurd fit.1.1
at_once_typed o ts of filter [] fit t = absurd fit
at_once_typed o ts of filter (a ∷ []) fit t = absurd fit.1
at_once_typed o ts of filter (a ∷ c ∷ []) fit t = filter_typed of a c fit.0
at_once_typed o ts of filter (a ∷ c ∷ d ∷ values) fit t = absurd fit.1.1
at_once_typed o ts of (pick is) [] fit t = absurd fit
at_once_typed o ts of (pick is) (c ∷ []) fit t = absurd fit.1
at_once_typed o ts of (pick is) (c ∷ a ∷ []) fit t = absurd fit.1.1
at_once_typed o ts of (pick is) (c ∷ a ∷ b ∷ []) fit t = pick_typed of c a b fit.1.0 fit.1.1.0
at_once_typed o ts of (pick is) (c ∷ a ∷ b ∷ d ∷ values) fit t = absurd fit.1.1.1
at_once_typed o ts of (typed.update {u = u} is row) values fit t =
    subst (FitsAnswer (Optional of)) (sym (at_once_update o u is of values t)) (answer_typed row values (values_of ts values fit))
at_once_typed o ts of (lift {body = body} {strict = strict} low high kind) values fit t = lift_typed body strict ts of kind values fit t

-- ---- an equation

pub latest_typed : (of : ValueType) (h : History) (t : ℕ) → ((u : ℕ) → u < t → IsOf of (event (h u))) → IsOf of (latest h t)
latest_typed of h zero each = refl
latest_typed of h (suc t) each = merge_typed of (event (h t)) (latest h t) (each t (omega arith)) (latest_typed of h t (λ u lt. each u (omega arith)))

event_typed : (of : ValueType) (blocked : Bool) (a : Answer) → FitsAnswer (Optional of) a → IsOf of (event (if blocked then Some Fault else outcome_of a))
event_typed of true a fit = refl
event_typed of false (Ok None) fit = refl
event_typed of false (Ok (Some v)) fit = fit
event_typed of false (Err kind) fit = refl

module _ (s : System) (z : Streams) where
  -- the event of equation a at a time is of its type
  abbrev pub IsTypedAt : ℕ → ℕ → Type 0
  IsTypedAt t a = (e : Equation) → equation s a ≡ Some e → IsOf e.of (event (z a t))

  -- and so are those before the time
  abbrev pub IsTypedBefore : ℕ → ℕ → Type 0
  IsTypedBefore t a = (u : ℕ) → u < t → IsTypedAt u a

  pub values_typed : (t : ℕ) (args : List ℕ) (types : List ValueType) → AreOfTypes s.equations args types → AllByRecursion (IsTypedAt t) args → AreOf types (map (λ a. event (z a t)) args)
  values_typed t [] [] of all = tt
  values_typed t [] (u ∷ types) of all = absurd of
  values_typed t (a ∷ args) [] of all = absurd of
  values_typed t (a ∷ args) (u ∷ types) of all = (subst (λ k. IsOf k (event (z a t))) of.0.of_is (all.0 of.0.at of.0.is), values_typed t args types of.1 all.1)

  last_typed : (t : ℕ) (args : List ℕ) (ts : List ValueType) (of : ValueType) → IsTyped op.Last ts of → AreOfTypes s.equations args ts → AllByRecursion (IsTypedBefore t) args → IsOf of (lasting z args t)
  last_typed t args ts of (typed.update is row) are past = no_update is
  last_typed t [] ts of last are past = refl
  last_typed t (v ∷ []) ts of last are past = refl
  last_typed t (v ∷ r ∷ []) ts of last are past =
      elim (has_event (z r t)) as (λ b. IsOf of (if b then latest (z v) t else None)) [
        | true ↦ latest_typed of (z v) t (λ u lt. subst (λ k. IsOf k (event (z v u))) are.0.of_is (past.0 u lt are.0.at are.0.is))
        | false ↦ refl
      ]
  last_typed t (v ∷ r ∷ x ∷ args) ts of last are past = absurd are.1.1

  delay_typed : (t i : ℕ) (args : List ℕ) (ts : List ValueType) (of : ValueType) → IsTyped op.Delay ts of → IsOf of (delayed z i args t)
  delay_typed t i args ts of (typed.update is row) = no_update is
  delay_typed t i [] ts of delay = refl
  delay_typed t i (d ∷ []) ts of delay = refl
  delay_typed t i (d ∷ r ∷ []) ts of delay = unit_where (expires (z d) (z r) (z i) t)
  delay_typed t i (d ∷ r ∷ x ∷ args) ts of delay = refl

  module _ (inputs : Inputs) where
    own_typed : (t i : ℕ) (o : Op) (args : List ℕ) (ts : List ValueType) (of : ValueType) → IsTyped o ts of → AreOfTypes s.equations args ts → (o ≡ op.Input → IsOf of (inputs i t)) → AllByRecursion (IsTypedBefore t) args → AllByRecursion (IsTypedAt t) (used_of o args) → FitsAnswer (Optional of) (own_of inputs z i o args of t)
    own_typed t i op.Input args ts of takes are given past now = given refl
    own_typed t i op.Last args ts of takes are given past now = last_typed t args ts of takes are past
    own_typed t i op.Delay args ts of takes are given past now = delay_typed t i args ts of takes
    own_typed t i o args ts of takes are given past now = at_once_typed o ts of takes (map (λ a. event (z a t)) args) (values_typed t args ts are now) t

    -- the event that an equation has by its case is of its type, if those are that it uses
    pub case_typed : (t i : ℕ) (e : Equation) → IsTypedEquation s.equations e → (e.op ≡ op.Input → IsOf e.of (inputs i t)) → AllByRecursion (IsTypedBefore t) e.args → AllByRecursion (IsTypedAt t) (used_of e.op e.args) → IsOf e.of (event (case_of inputs z i e t))
    case_typed t i e g given past now =
        event_typed e.of (is_blocked z e t) (own inputs z i e t) (own_typed t i e.op e.args g.types e.of g.typed g.arguments given past now)
