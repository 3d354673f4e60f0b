-- What registers hold, and what reading a cell gives.
use Rattle.std.proofs.Common.{◌≡◌, ℕ, Bool, true, false, ◌&&◌, List, [], ◌∷◌, Option, Some, None, Result, Ok, Err, pos, refl, sym, subst, ◌∙◌}
use Rattle.std.specs.Prelude.{IsTrue, if◌then◌else◌, is_some}
use Rattle.std.specs.List.{list_all}
use Rattle.std.specs.Option.{option_map}
use Rattle.std.specs.FinMap as map
use Rattle.std.proofs.lemmas.Bool.{and_parts, false≢true}
use Rattle.tsl_value.specs.Aggregate.{has_elements, size_of}
use Rattle.tsl_value.specs.View.{View, Plain, Keyed, Mapped, Listed, is_of, is_of_key, is_of_scalar}
use Rattle.tsl_value.specs.declared.scalar.KeyType.{KeyType}
use Rattle.tsl_value.specs.declared.scalar.KeyType.TheVariants as key_type
use Rattle.tsl_value.specs.declared.scalar.Scalar.{Scalar}
use Rattle.tsl_value.specs.declared.scalar.ScalarType.{ScalarType}
use Rattle.tsl_value.specs.declared.scalar.ValueType.TheVariants as value_type
use Rattle.tsl_value.specs.declared.operation.Unary.{Unary}
use Rattle.tsl_value.specs.declared.operation.Unary.TheVariants as unary
use Rattle.tsl_value.specs.declared.operation.Binary.{Binary}
use Rattle.tsl_value.specs.declared.operation.Binary.TheVariants as binary
use Rattle.body_eval.specs.declared.eval.EvalFault.{EvalFault}
use Rattle.body_eval.specs.declared.eval.EvalFault.TheVariants as eval_fault
use Rattle.lift_func.specs.declared.fault.FaultKind.{FaultKind}
use Rattle.lift_func.specs.declared.fault.FaultKind.TheVariants.{EmptyQueue}
use Rattle.body_eval.specs.declared.register.Register.{Register}
use Rattle.body_eval.specs.declared.register.Register.TheVariants as register
use Rattle.lift_func.specs.Apply.{int, bool, found, of_one, contained, at_key}
use Rattle.cell_reader.specs.inner.Cells.{Cells, FitsKey, IsMap, IsQueue, front_of, has_key, value_at, view_at}
use Rattle.body_eval.specs.inner.Registers.{HoldsLive, held, register_of, scalar_in}
use Rattle.body_eval.specs.inner.Evaluable.{CanRead, FitsOperand, IsHeld, IsHeldValue, IsScalarKind, is_read}
use Rattle.lift_func.proofs.TypedUpdates.{key_of}
use Rattle.lift_func.specs.Typing as typing
use Rattle.lift_func.specs.Operations.{is_arithmetic, is_order, is_equality, is_logic, is_on_texts}
use Rattle.lift_func.specs.Typing.{ValueKind, Value, Optional, TypesOne, TypesTwo, fits, plain, scalar_of}

pub size_is : (v : View) → IsTrue (has_elements v) → of_one unary.Size (Some v) ≡ int (pos (size_of v))
size_is v is = λ i. if is i then int (pos (size_of v)) else Ok None

pub contained_is : (v : View) (key : Scalar) → FitsKey v key → contained (Some v) (Some (Plain key)) ≡ bool (has_key v key)
contained_is (Plain s) key fit = absurd fit
contained_is (Keyed s) key fit = refl
contained_is (Mapped m) key fit = refl
contained_is (Listed xs) key fit = absurd fit

pub at_key_is : (v : View) (key : Scalar) → IsMap v → at_key (Some v) (Some (Plain key)) ≡ found (option_map Plain (value_at v key))
at_key_is (Plain s) key is = absurd is
at_key_is (Keyed s) key is = absurd is
at_key_is (Mapped m) key is = refl
at_key_is (Listed xs) key is = absurd is

pub map_has : (v : View) (key : Scalar) → IsMap v → has_key v key ≡ is_some (value_at v key)
map_has (Plain s) key is = absurd is
map_has (Keyed s) key is = absurd is
map_has (Mapped m) key is = refl
map_has (Listed xs) key is = absurd is

-- what stands in front of a queue, and that nothing does
pub front_is : (v : View) (x : Scalar) → front_of v ≡ Some x → of_one unary.Front (Some v) ≡ Ok (Some (Plain x))
front_is (Plain s) x is = absurd (cc)
front_is (Keyed s) x is = absurd (cc)
front_is (Mapped m) x is = absurd (cc)
front_is (Listed []) x is = absurd (cc)
front_is (Listed (y ∷ ys)) x is = let same : y ≡ x = cc in λ k. Ok (Some (Plain (same k)))

pub no_front : (v : View) → IsQueue v → front_of v ≡ None → of_one unary.Front (Some v) ≡ Err EmptyQueue
no_front (Plain s) queue is = absurd queue
no_front (Keyed s) queue is = absurd queue
no_front (Mapped m) queue is = absurd queue
no_front (Listed []) queue is = refl
no_front (Listed (x ∷ xs)) queue is = absurd (cc)

queue_of : {o : Unary} {j k : ValueKind} → TypesOne o j k → o ≡ unary.Front → (v : View) → IsTrue (fits j (Some v)) → IsQueue v
queue_of typing.front is (Listed xs) fit = tt
queue_of typing.front is _ fit = absurd (false≢true fit)
queue_of typing.neg is v fit = absurd (cc)
queue_of typing.not is v fit = absurd (cc)
queue_of (typing.size aggregate) is v fit = absurd (cc)
queue_of typing.length is v fit = absurd (cc)
queue_of typing.some is v fit = absurd (cc)
queue_of typing.is_some is v fit = absurd (cc)
queue_of typing.is_none is v fit = absurd (cc)
queue_of typing.get_some is v fit = absurd (cc)

pub queue_operand : (v : View) → FitsOperand unary.Front (Some v) → IsQueue v
queue_operand v operand = queue_of operand.types refl v operand.fit

-- an aggregate is of no scalar's kind
no_aggregate : (k : ValueKind) → IsScalarKind k → (v : View) → IsTrue (has_elements v) → IsTrue (fits k (Some v)) → ⊥
no_aggregate (Value (value_type.Scalar t)) scalar (Plain s) is fit = false≢true is
no_aggregate (Value (value_type.Scalar t)) scalar _ is fit = false≢true fit
no_aggregate (Optional (value_type.Scalar t)) scalar (Plain s) is fit = false≢true is
no_aggregate (Optional (value_type.Scalar t)) scalar _ is fit = false≢true fit
no_aggregate _ scalar v is fit = scalar

-- the keys of a map
keys_fit : (k : KeyType) (x : ScalarType) (es : List (Scalar × Scalar)) → list_all (λ e. is_of_key k e.0 && is_of_scalar x e.1) es ≡ true → list_all (λ e. is_of_key k e.0) es ≡ true
keys_fit k x [] all = refl
keys_fit k x (e ∷ es) all =
    let parts = and_parts (is_of_key k e.0 && is_of_scalar x e.1) (list_all (λ e. is_of_key k e.0 && is_of_scalar x e.1) es) all in
    λ i. (and_parts (is_of_key k e.0) (is_of_scalar x e.1) parts.0).0 i && keys_fit k x es parts.1 i

set_key : (k : KeyType) (t : ScalarType) → t ≡ scalar_of k → (v : View) (key : Scalar) → IsTrue (is_of (value_type.Set k) v) → IsTrue (is_of_scalar t key) → FitsKey v key
set_key k t e (Keyed s) key fit of = (k, key_of k t e key of, fit)
set_key k t e _ key fit of = absurd (false≢true fit)

map_key : (k : KeyType) (x t : ScalarType) → t ≡ scalar_of k → (v : View) (key : Scalar) → IsTrue (is_of (value_type.Map k x) v) → IsTrue (is_of_scalar t key) → IsMap v × FitsKey v key
map_key k x t e (Mapped m) key fit of = (tt, (k, key_of k t e key of, keys_fit k x (map.entries m) fit))
map_key k x t e _ key fit of = absurd (false≢true fit)

unread : (p : Binary → Bool) → p binary.Contains ≡ false → p binary.Get ≡ false → (o : Binary) → p o ≡ true → is_read o ≡ true → ⊥
unread p c g binary.Contains e is = false≢true (sym c ∙ e)
unread p c g binary.Get e is = false≢true (sym g ∙ e)
unread p c g _ e is = false≢true is

-- operations that read no aggregate have operands of scalars
pub plain_operands : {o : Binary} {i j k : ValueKind} → TypesTwo o i j k → is_read o ≡ false → IsScalarKind i × IsScalarKind j
plain_operands (typing.arithmetic e) is = (tt, tt)
plain_operands (typing.order e) is = (tt, tt)
plain_operands (typing.equality e) is = (tt, tt)
plain_operands (typing.logic e) is = (tt, tt)
plain_operands (typing.in_set e) is = absurd (false≢true (sym is))
plain_operands (typing.in_map e) is = absurd (false≢true (sym is))
plain_operands (typing.get e) is = absurd (false≢true (sym is))
plain_operands (typing.on_texts e) is = (tt, tt)

-- an operation of a scalar has the value of nothing at an aggregate
abbrev pub of_scalar : Unary → Bool
of_scalar unary.Neg = true
of_scalar unary.Not = true
of_scalar unary.Length = true
of_scalar _ = false

at_aggregate : (o : Unary) → of_scalar o ≡ true → (v : View) → IsTrue (has_elements v) → of_one o (Some v) ≡ of_one o None
at_aggregate o of (Plain s) is = absurd (false≢true is)
at_aggregate unary.Neg of v is = refl
at_aggregate unary.Not of v is = refl
at_aggregate unary.Length of v is = refl
at_aggregate _ of v is = absurd (false≢true of)

module _ (cells : Cells) where
  at_register : (o : Unary) → of_scalar o ≡ true → (r : Register) → HoldsLive cells r → of_one o (option_map Plain (scalar_in r)) ≡ of_one o (held cells r)
  at_register o of register.Empty live = refl
  at_register o of (register.Scalar s) live = refl
  at_register o of (register.Aggregate handle) live = sym (at_aggregate o of (view_at cells handle) live.1)

  pub scalar_held : (o : Unary) → of_scalar o ≡ true → (r : Register) → HoldsLive cells r → (x : Register) → IsHeld cells x (of_one o (option_map Plain (scalar_in r))) → IsHeld cells x (of_one o (held cells r))
  scalar_held o of r live x is = subst (IsHeld cells x) (at_register o of r live) is

  pub scalar_fault : (o : Unary) → of_scalar o ≡ true → (r : Register) → HoldsLive cells r → (kind : FaultKind) → of_one o (option_map Plain (scalar_in r)) ≡ Err kind → (e : EvalFault) (result : Result Register EvalFault) → e ≡ eval_fault.Fault kind → result ≡ Err e → IsHeldValue cells result (of_one o (held cells r))
  scalar_fault o of r live kind fault e result of_kind is =
      subst (λ v. IsHeldValue cells v (of_one o (held cells r))) (sym (is ∙ (λ i. Err (of_kind i)))) (sym (at_register o of r live) ∙ fault)

  pub held_register : (v : Option Scalar) → held cells (register_of v) ≡ option_map Plain v
  held_register None = refl
  held_register (Some s) = refl

  pub live_register : (v : Option Scalar) → HoldsLive cells (register_of v)
  live_register None = tt
  live_register (Some s) = tt

  -- a register of a scalar's kind has a scalar or nothing
  pub held_scalar : (k : ValueKind) → IsScalarKind k → (r : Register) → HoldsLive cells r → IsTrue (fits k (held cells r)) → held cells r ≡ option_map Plain (scalar_in r)
  held_scalar k scalar register.Empty live fit = refl
  held_scalar k scalar (register.Scalar s) live fit = refl
  held_scalar k scalar (register.Aggregate handle) live fit = absurd (no_aggregate k scalar (view_at cells handle) live.1 fit)

  -- an operand that is an aggregate, and one that is a scalar
  at_cell : (of : ValueKind) (P : Register → Type 0) → fits of None ≡ false → ((s : Scalar) → fits of (Some (Plain s)) ≡ false) → ((handle : ℕ) → IsTrue (fits of (Some (view_at cells handle))) → P (register.Aggregate handle)) → (r : Register) → IsTrue (fits of (held cells r)) → P r
  at_cell of P none scalar h register.Empty fit = absurd (false≢true (sym none ∙ fit))
  at_cell of P none scalar h (register.Scalar s) fit = absurd (false≢true (sym (scalar s) ∙ fit))
  at_cell of P none scalar h (register.Aggregate handle) fit = h handle fit

  at_scalar : (t : ScalarType) (P : Register → Type 0) → ((s : Scalar) → IsTrue (is_of_scalar t s) → P (register.Scalar s)) → (r : Register) → HoldsLive cells r → IsTrue (fits (plain t) (held cells r)) → P r
  at_scalar t P h register.Empty live fit = absurd (false≢true fit)
  at_scalar t P h (register.Scalar s) live fit = h s fit
  at_scalar t P h (register.Aggregate handle) live fit = absurd (no_aggregate (plain t) tt (view_at cells handle) live.1 fit)

  pub can_read : {o : Binary} {i j k : ValueKind} → TypesTwo o i j k → is_read o ≡ true → (r q : Register) → HoldsLive cells q → IsTrue (fits i (held cells r)) → IsTrue (fits j (held cells q)) → CanRead cells o r q
  can_read (typing.arithmetic {o = o} e) is r q live p f = absurd (unread is_arithmetic refl refl o e is)
  can_read (typing.order {o = o} e) is r q live p f = absurd (unread is_order refl refl o e is)
  can_read (typing.equality {o = o} e) is r q live p f = absurd (unread is_equality refl refl o e is)
  can_read (typing.logic {o = o} e) is r q live p f = absurd (unread is_logic refl refl o e is)
  can_read (typing.in_set {k = k} {t = t} e) is r q live p f =
      at_cell (Value (value_type.Set k)) (λ r. CanRead cells binary.Contains r q) refl (λ s. refl)
      (λ handle fit. at_scalar t (λ q. CanRead cells binary.Contains (register.Aggregate handle) q) (λ key of. set_key k t e (view_at cells handle) key fit of) q live f)
      r p
  can_read (typing.in_map {k = k} {x = x} {t = t} e) is r q live p f =
      at_cell (Value (value_type.Map k x)) (λ r. CanRead cells binary.Contains r q) refl (λ s. refl)
      (λ handle fit. at_scalar t (λ q. CanRead cells binary.Contains (register.Aggregate handle) q) (λ key of. (map_key k x t e (view_at cells handle) key fit of).1) q live f)
      r p
  can_read (typing.get {k = k} {x = x} {t = t} e) is r q live p f =
      at_cell (Value (value_type.Map k x)) (λ r. CanRead cells binary.Get r q) refl (λ s. refl)
      (λ handle fit. at_scalar t (λ q. CanRead cells binary.Get (register.Aggregate handle) q) (λ key of. map_key k x t e (view_at cells handle) key fit of) q live f)
      r p
  can_read (typing.on_texts {o = o} e) is r q live p f = absurd (unread is_on_texts refl refl o e is)
