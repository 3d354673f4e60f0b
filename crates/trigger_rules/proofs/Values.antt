-- When an operation that sees its arguments at one time gives a value.
use Rattle.std.proofs.Common.{◌≡◌, ◌==◌, ℕ, zero, suc, Bool, true, false, ◌&&◌, ◌||◌, List, [], ◌∷◌, map, Option, Some, None, Ok, Err, refl, sym, ap, subst, ◌∙◌, arith}
use Rattle.std.specs.Prelude.{if◌then◌else◌, is_some, IsTrue}
use Rattle.std.specs.List.{list_all, list_any}
use Rattle.std.specs.Option.{option_or}
use Rattle.std.proofs.lemmas.Bool.{ne_eqb, false≢true}
use Rattle.tsl_value.specs.declared.scalar.Scalar.TheVariants as scalar
use Rattle.tsl_value.specs.declared.scalar.ValueType.{ValueType}
use Rattle.tsl_value.specs.View.{View, Plain}
use Rattle.lift_func.specs.Apply.{Answer, apply}
use Rattle.lift_func.specs.BodyTree.{BodyTree}
use Rattle.lift_func.specs.Typing.{Value, Optional, HasKind, fits, FitsAnswer}
use Rattle.lift_func.proofs.Fits.{apply_fits}
use Rattle.lift_func.proofs.Updates.{answer_there}
use Rattle.tsl_value.specs.declared.operation.Update.{Update}
use Rattle.tsl_value.specs.declared.operation.Update.TheVariants as update
use Rattle.flat_core.specs.declared.equation.Op.{Op}
use Rattle.flat_core.specs.declared.equation.Op.TheVariants as op
use Rattle.flat_core.specs.Events.{unit, at_zero, filtered, picked, at_once}
use Rattle.flat_core.specs.Typed.{IsTyped, nil, empty, time, any, merge, filter, pick, lift, bool_type, kind_of, input, last, delay}
use Rattle.tsl_value.specs.Aggregate.{empty_of}
use Rattle.flat_core.specs.Typed as typed
use Rattle.flat_core.specs.Updates.{operation_of, update_in}
use Rattle.flat_core.specs.inner.TypedEvents.{AreOf}
use Rattle.flat_core.proofs.UpdateOps.{by_update, at_once_update}
use Rattle.flat_core.proofs.TypedCase.{all_there_fit}
use Rattle.trigger_rules.specs.inner.Firing.{is_true}

-- the operations that decide by them alone whether there is a value
abbrev pub is_plain : Op → Bool
is_plain op.Input = false
is_plain op.Last = false
is_plain op.Delay = false
is_plain (op.Lift body strict) = strict
is_plain o = true

-- whether there is a value, by the values of the arguments
abbrev pub happens : Op → List (Option View) → ℕ → Bool
happens op.Unit values t = t == 0
happens op.Empty values t = t == 0
happens op.Any values t = list_any is_some values
happens op.Merge values t = list_any is_some values
happens op.Filter (e ∷ c ∷ []) t = is_some e && (is_some c && is_true c)
happens op.Nil values t = false
happens o values t = list_all is_some values

abbrev value_in : Answer → Option View
value_in (Ok v) = v
value_in (Err kind) = None

pub same_value : {v w : Option View} → ◌≡◌ {A = Answer} (Ok v) (Ok w) → is_some w ≡ is_some v
same_value is = ap (λ a. is_some (value_in a)) (sym is)

there : (k : ValueType) (v : Option View) → IsTrue (fits (Value k) v) → is_some v ≡ true
there k None fit = absurd (false≢true fit)
there k (Some v) fit = refl

where_all : (k : ValueType) (b : Bool) (answer : Answer) (v : Option View) → (b ≡ true → FitsAnswer (Value k) answer) → (if b then answer else Ok None) ≡ Ok v → is_some v ≡ b
where_all k true answer v fit is = there k v (subst (FitsAnswer (Value k)) is (fit refl))
where_all k false answer v fit is = same_value is

zero_is : (t : ℕ) (v : View) → is_some (at_zero t v) ≡ (t == 0)
zero_is zero v = refl
zero_is (suc t) v = sym (ne_eqb (suc t) 0 (λ is. absurd (omega arith)))

unit_is : (b : Bool) → is_some (if b then Some unit else None) ≡ b
unit_is true = refl
unit_is false = refl

merged_is : (a b : Option View) → is_some (option_or a b) ≡ (is_some a || (is_some b || false))
merged_is (Some a) b = refl
merged_is None (Some b) = refl
merged_is None None = refl

filtered_is : (e c : Option View) → is_some (filtered e c) ≡ (is_some e && (is_some c && is_true c))
filtered_is None (Some (Plain (scalar.Bool true))) = refl
filtered_is None _ = refl
filtered_is (Some e) (Some (Plain (scalar.Bool true))) = refl
filtered_is (Some e) (Some (Plain (scalar.Bool false))) = refl
filtered_is (Some e) None = refl
filtered_is (Some e) (Some v) = refl

picked_is : (c a b : Option View) → IsTrue (fits (Optional bool_type) c) → is_some (picked c a b) ≡ (is_some c && (is_some a && (is_some b && true)))
picked_is None a b fit = refl
picked_is (Some (Plain (scalar.Bool true))) (Some a) (Some b) fit = refl
picked_is (Some (Plain (scalar.Bool true))) (Some a) None fit = refl
picked_is (Some (Plain (scalar.Bool true))) None b fit = refl
picked_is (Some (Plain (scalar.Bool false))) (Some a) (Some b) fit = refl
picked_is (Some (Plain (scalar.Bool false))) (Some a) None fit = refl
picked_is (Some (Plain (scalar.Bool false))) None b fit = refl
picked_is (Some v) a b fit = absurd (false≢true fit)

own_happens : (u : Update) (values : List (Option View)) (t : ℕ) → happens (operation_of u) values t ≡ list_all is_some values
own_happens update.SetAdd values t = refl
own_happens u values t = refl

update_happens : (o : Op) (u : Update) → update_in o ≡ Some u → (values : List (Option View)) (t : ℕ) → happens o values t ≡ list_all is_some values
update_happens o u is values t = by_update (λ p u. happens p values t ≡ list_all is_some values) (λ u. own_happens u values t) o u is

lift_gives : (body : BodyTree) (strict : Bool) (ts : List ValueType) (of : ValueType) → HasKind (map (kind_of strict) ts) body (kind_of strict of) → (values : List (Option View)) → AreOf ts values → IsTrue (is_plain (op.Lift body strict)) → (t : ℕ) (v : Option View) → at_once (op.Lift body strict) of values t ≡ Ok v → is_some v ≡ happens (op.Lift body strict) values t
lift_gives body true ts of kind values fit plain t v is =
    where_all of (list_all is_some values) (apply body values) v (λ all. apply_fits (map (kind_of true) ts) values (all_there_fit ts values fit all) kind) is
lift_gives body false ts of kind values fit plain t v is = absurd (false≢true plain)

pub gives : (o : Op) (ts : List ValueType) (of : ValueType) → IsTyped o ts of → (values : List (Option View)) → AreOf ts values → IsTrue (is_plain o) → (t : ℕ) (v : Option View) → at_once o of values t ≡ Ok v → is_some v ≡ happens o values t
gives o ts of input values fit plain t v is = absurd (false≢true plain)
gives o ts of last values fit plain t v is = absurd (false≢true plain)
gives o ts of delay values fit plain t v is = absurd (false≢true plain)
gives o ts of nil values fit plain t v is = same_value is
gives o ts of typed.unit [] fit plain t v is = same_value is ∙ zero_is t unit
gives o ts of typed.unit (x ∷ values) fit plain t v is = absurd fit
gives o ts of (empty h) [] fit plain t v is = same_value is ∙ zero_is t (empty_of of)
gives o ts of (empty h) (x ∷ values) fit plain t v is = absurd fit
gives o ts of time [] fit plain t v is = absurd fit
gives o ts of time (None ∷ []) fit plain t v is = same_value is
gives o ts of time (Some a ∷ []) fit plain t v is = same_value is
gives o ts of time (a ∷ b ∷ values) fit plain t v is = absurd fit.1
gives o ts of (any low high) values fit plain t v is = same_value is ∙ unit_is (list_any is_some values)
gives o ts of merge [] fit plain t v is = absurd fit
gives o ts of merge (a ∷ []) fit plain t v is = absurd fit.1
gives o ts of merge (a ∷ b ∷ []) fit plain t v is = same_value is ∙ merged_is a b
gives o ts of merge (a ∷ b ∷ c ∷ values) fit plain t v is = absurd fit.1.1
gives o ts of filter [] fit plain t v is = absurd fit
gives o ts of filter (e ∷ []) fit plain t v is = absurd fit.1
gives o ts of filter (e ∷ c ∷ []) fit plain t v is = same_value is ∙ filtered_is e c
gives o ts of filter (e ∷ c ∷ d ∷ values) fit plain t v is = absurd fit.1.1
gives o ts of (pick h) [] fit plain t v is = absurd fit
gives o ts of (pick h) (c ∷ []) fit plain t v is = absurd fit.1
gives o ts of (pick h) (c ∷ a ∷ []) fit plain t v is = absurd fit.1.1
gives o ts of (pick h) (c ∷ a ∷ b ∷ []) fit plain t v is = same_value is ∙ picked_is c a b fit.0
gives o ts of (pick h) (c ∷ a ∷ b ∷ d ∷ values) fit plain t v is = absurd fit.1.1.1
gives o ts of (typed.update op row) [] fit plain t v is = absurd fit
gives o ts of (typed.update {u = u} h row) (a ∷ values) fit plain t v is =
    answer_there u a values v (sym (at_once_update o u h of (a ∷ values) t) ∙ is) ∙ sym (update_happens o u h (a ∷ values) t)
gives o ts of (lift {body = body} {strict = strict} low high kind) values fit plain t v is = lift_gives body strict ts of kind values fit plain t v is
