-- Events are of their equations' types.
use Rattle.std.proofs.Common.{◌≡◌, ℕ, suc, Bool, true, false, List, [], ◌∷◌, length, map, Option, Some, refl, sym, ap, subst, arith}
use Rattle.std.specs.Prelude.{IsTrue}
use Rattle.tsl_value.specs.declared.scalar.ValueType.{ValueType}
use Rattle.tsl_value.specs.View.{View, is_of}
use Rattle.lift_func.specs.BodyTree.{BodyTree}
use Rattle.flat_core.specs.declared.equation.Equation.{Equation}
use Rattle.flat_core.specs.declared.equation.Op.TheVariants as op
use Rattle.flat_core.specs.Case.{Streams, used_of, case_of}
use Rattle.flat_core.specs.Events.{Inputs}
use Rattle.flat_core.specs.Complete.{IsFlat}
use Rattle.flat_core.specs.Stream.{event}
use Rattle.flat_core.specs.System.{System, equation}
use Rattle.flat_core.specs.Typed.{IsTyped, lift, update, kind_of}
use Rattle.flat_core.proofs.UpdateOps.{no_update}
use Rattle.flat_core.specs.inner.TypedEvents.{AreOf, AreTypedInputs}
use Rattle.flat_core.proofs.Members.{all_true}
use Rattle.flat_core.proofs.TypedCase as typed_case
use Rattle.flat_core.proofs.TypedCase.{IsTypedAt, IsTypedBefore, is_of_at, is_of_from, all_there_fit, options_fit, values_typed}
use Rattle.flat_core.proofs.TypedEvents.{given_typed}
use Rattle.plain_solver.specs.inner.Lent.{IsEvaluableAt}
use Rattle.flat_core.specs.inner.OpGroups.{counts}
use Rattle.plain_solver.specs.inner.Typed.{AreTyped, TakesTyped, TakesValues}

-- ---- what equations have at their arguments

typed_at : (s : System) (z : Streams) → AreTyped s z → (t a : ℕ) → IsTypedAt s z t a
typed_at s z all t a e is = is_of_from e.of (event (z a t)) (λ v some. all.each a e is t v some)

pub takes_typed : (s : System) → IsFlat s → (z : Streams) → AreTyped s z → (i : ℕ) (e : Equation) → equation s i ≡ Some e → (t : ℕ) → TakesTyped z e t
takes_typed s whole z all i e is t =
    let g = whole.complete.typed.each i e is in
    record { types = g.types; typed = g.typed; values = values_typed s z t e.args g.types g.arguments (all_true (IsTypedAt s z t) (typed_at s z all t) e.args) }

-- the event that an equation has by its case is of its type
pub case_typed : (s : System) → IsFlat s → (inputs : Inputs) → AreTypedInputs s inputs → (z : Streams) → AreTyped s z → (i : ℕ) (e : Equation) → equation s i ≡ Some e → (t : ℕ) (v : View) → event (case_of inputs z i e t) ≡ Some v → IsTrue (is_of e.of v)
case_typed s whole inputs given z all i e is t v some =
    is_of_at e.of (event (case_of inputs z i e t)) v
    (typed_case.case_typed s z inputs t i e (whole.complete.typed.each i e is) (given_typed s inputs given i e is t)
    (all_true (IsTypedBefore s z t) (λ a u lt. typed_at s z all u a) e.args)
    (all_true (IsTypedAt s z t) (typed_at s z all t) (used_of e.op e.args))) some

-- ---- lifts

as_many : (types : List ValueType) (values : List (Option View)) → AreOf types values → length values ≡ length types
as_many [] [] of = refl
as_many [] (v ∷ values) of = absurd of
as_many (t ∷ types) [] of = absurd of
as_many (t ∷ types) (v ∷ values) of = ap suc (as_many types values of.1)

lift_evaluable : (body : BodyTree) (strict : Bool) (ts : List ValueType) (of : ValueType) → IsTyped (op.Lift body strict) ts of → (values : List (Option View)) → AreOf ts values → IsTrue (counts strict values) → IsEvaluableAt body values
lift_evaluable body strict ts of (update is row) values fit counted = no_update is
lift_evaluable body true ts of (lift low high kind) values fit all =
    let many = as_many ts values fit in
    record { kinds = map (kind_of true) ts; kind = kind_of true of; fit = all_there_fit ts values fit all; typed = kind; scalar = tt; few = omega arith }
lift_evaluable body false ts of (lift low high kind) values fit some =
    let many = as_many ts values fit in
    record { kinds = map (kind_of false) ts; kind = kind_of false of; fit = options_fit ts values fit; typed = kind; scalar = tt; few = omega arith }

-- a lift that counts can be evaluated
pub takes_liftable : (e : Equation) (body : BodyTree) (strict : Bool) → e.op ≡ op.Lift body strict → (values : List (Option View)) → TakesValues e values → IsTrue (counts strict values) → IsEvaluableAt body values
takes_liftable e body strict op_is values takes some = lift_evaluable body strict takes.types e.of (subst (λ o. IsTyped o takes.types e.of) op_is takes.typed) values takes.fit some

pub liftable : (z : Streams) (e : Equation) (t : ℕ) (body : BodyTree) (strict : Bool) → e.op ≡ op.Lift body strict → TakesTyped z e t → (values : List (Option View)) → values ≡ map (λ a. event (z a t)) e.args → IsTrue (counts strict values) → IsEvaluableAt body values
liftable z e t body strict op_is takes values is some =
    lift_evaluable body strict takes.types e.of (subst (λ o. IsTyped o takes.types e.of) op_is takes.typed) values (subst (AreOf takes.types) (sym is) takes.values) some
