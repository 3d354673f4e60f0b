-- The rules that compute take just what operations are typed on.
use Rattle.std.proofs.Common.{◌≡◌, ℕ, ◌≤◌, Bool, false, ◌&&◌, List, [], ◌∷◌, length, map, Option, Some, None, refl, ap, sym, subst, ◌∙◌}
use Rattle.std.specs.Prelude.{IsTrue, nat_le}
use Rattle.std.proofs.lemmas.Bool.{and_parts, false≢true, leb-true, le-leb}
use Rattle.tsl_value.specs.Aggregate.{is_aggregate}
use Rattle.tsl_value.specs.declared.operation.Update.{Update}
use Rattle.tsl_value.specs.declared.operation.Update.TheVariants as update
use Rattle.tsl_value.specs.declared.scalar.KeyType.{KeyType}
use Rattle.tsl_value.specs.declared.scalar.ScalarType.{ScalarType}
use Rattle.tsl_value.specs.declared.scalar.ValueType.{ValueType}
use Rattle.tsl_value.specs.declared.scalar.ValueType.TheVariants as value_type
use Rattle.lift_func.specs.BodyTree.{BodyTree}
use Rattle.lift_func.specs.Typing.{HasKind, scalar_of}
use Rattle.lift_func.specs.Update.{UpdateTypes}
use Rattle.lift_func.specs.Update as row
use Rattle.lift_func.proofs.TypedUpdates.{both}
use Rattle.flat_core.specs.Typed.{IsTyped, kind_of, unit_type, int_type, bool_type}
use Rattle.flat_core.specs.Typed as rule
use Rattle.flat_core.specs.Updates.{update_in, operation_of}
use Rattle.flat_core.specs.declared.equation.Op.{Op}
use Rattle.flat_core.specs.declared.equation.Op.TheVariants as op
use Rattle.flat_core.proofs.UpdateOps.{is_operation}
use Rattle.equation_types.specs.declared.kind.Kind.{Kind}
use Rattle.equation_types.specs.inner.Rules.{is_type, kind_at, kind_in, is_queue, is_member, is_map_key, is_map_value, is_element, takes_none, takes_one, takes_two, takes_three, takes, are_several, has_kind, lifts, is_typed_op}
use Rattle.equation_types.proofs.SameTypes.{type_is, type_itself, type_passes, kind_is, kind_itself}
use Rattle.equation_types.proofs.BodyKinds.{at_kind, at_value, kind_from, kind_to}

-- ---- what the tests of aggregates tell: the type is just such a one
record IsSetOf (of a : ValueType) : Type 0 where
  pub key : KeyType
  pub is : value_type.Set key ≡ of
  pub member : value_type.Scalar (scalar_of key) ≡ a

member_is : (of a : ValueType) → IsTrue (is_member of a) → IsSetOf of a
member_is (value_type.Set k) a h = record { key = k; is = refl; member = sym (type_is a (value_type.Scalar (scalar_of k)) h) }
member_is _ a h = absurd (false≢true h)

record IsMapOf (of a : ValueType) : Type 0 where
  pub key : KeyType
  pub value : ScalarType
  pub is : value_type.Map key value ≡ of
  pub member : value_type.Scalar (scalar_of key) ≡ a

map_key_is : (of a : ValueType) → IsTrue (is_map_key of a) → IsMapOf of a
map_key_is (value_type.Map k x) a h = record { key = k; value = x; is = refl; member = sym (type_is a (value_type.Scalar (scalar_of k)) h) }
map_key_is _ a h = absurd (false≢true h)

map_value_is : (k : KeyType) (x : ScalarType) (of a : ValueType) → value_type.Map k x ≡ of → IsTrue (is_map_value of a) → value_type.Scalar x ≡ a
map_value_is k x of a is h =
    sym (type_is a (value_type.Scalar x) (subst (λ t. IsTrue (is_map_value t a)) (sym is) h))

record IsQueueOf (of : ValueType) : Type 0 where
  pub value : ScalarType
  pub is : value_type.Queue value ≡ of

queue_is : (of : ValueType) → IsTrue (is_queue of) → IsQueueOf of
queue_is (value_type.Queue x) h = record { value = x; is = refl }
queue_is _ h = absurd (false≢true h)

record IsQueueWith (of a : ValueType) : Type 0 where
  pub value : ScalarType
  pub is : value_type.Queue value ≡ of
  pub element : value_type.Scalar value ≡ a

element_is : (of a : ValueType) → IsTrue (is_element of a) → IsQueueWith of a
element_is (value_type.Queue x) a h = record { value = x; is = refl; element = sym (type_is a (value_type.Scalar x) h) }
element_is _ a h = absurd (false≢true h)

-- ---- an operation that the rules take is typed
none_from : (o : Op) (of : ValueType) → IsTrue (takes_none o of) → IsTyped o [] of
none_from op.Input (value_type.Scalar t) h = rule.input
none_from op.Nil of h = rule.nil
none_from op.Unit of h = subst (IsTyped op.Unit []) (sym (type_is of unit_type h)) rule.unit
none_from op.Empty of h = rule.empty h
none_from _ of h = absurd (false≢true h)

taken_from : (a of : ValueType) → IsTrue (is_queue of) → IsTrue (is_type a of) → IsTyped op.QueueTake (a ∷ []) of
taken_from a of queue same =
    let found = queue_is of queue in
    subst (λ x. IsTyped op.QueueTake (x ∷ []) of) (sym (type_is a of same))
    (subst (λ x. IsTyped op.QueueTake (x ∷ []) x) found.is (rule.update refl row.queue_take))

one_from : (o : Op) (a of : ValueType) → IsTrue (takes_one o a of) → IsTyped o (a ∷ []) of
one_from op.Time a of h = subst (IsTyped op.Time (a ∷ [])) (sym (type_is of int_type h)) rule.time
one_from op.QueueTake a of h = let parts = and_parts (is_queue of) (is_type a of) h in taken_from a of parts.0 parts.1
one_from _ a of h = absurd (false≢true h)

-- the first of two is of the equation's own type
with_first : (o : Op) (a b of : ValueType) → IsTrue (is_type a of) → IsTyped o (of ∷ b ∷ []) of → IsTyped o (a ∷ b ∷ []) of
with_first o a b of same typed = subst (λ x. IsTyped o (x ∷ b ∷ []) of) (sym (type_is a of same)) typed

set_from : (o : Op) (u : Update) (b of : ValueType) → update_in o ≡ Some u → ((k : KeyType) → UpdateTypes u (value_type.Set k) (value_type.Scalar (scalar_of k) ∷ [])) → IsTrue (is_member of b) → IsTyped o (of ∷ b ∷ []) of
set_from o u b of is types h =
    let found = member_is of b h in
    subst (λ x. IsTyped o (of ∷ x ∷ []) of) found.member
    (subst (λ x. IsTyped o (x ∷ value_type.Scalar (scalar_of found.key) ∷ []) x) found.is (rule.update is (types found.key)))

map_from : (b of : ValueType) → IsTrue (is_map_key of b) → IsTyped op.MapRemove (of ∷ b ∷ []) of
map_from b of h =
    let found = map_key_is of b h in
    subst (λ x. IsTyped op.MapRemove (of ∷ x ∷ []) of) found.member
    (subst (λ x. IsTyped op.MapRemove (x ∷ value_type.Scalar (scalar_of found.key) ∷ []) x) found.is (rule.update refl (row.map_remove refl)))

queue_from : (b of : ValueType) → IsTrue (is_element of b) → IsTyped op.QueueAdd (of ∷ b ∷ []) of
queue_from b of h =
    let found = element_is of b h in
    subst (λ x. IsTyped op.QueueAdd (of ∷ x ∷ []) of) found.element
    (subst (λ x. IsTyped op.QueueAdd (x ∷ value_type.Scalar found.value ∷ []) x) found.is (rule.update refl row.queue_add))

delay_from : (a b of : ValueType) → a ≡ int_type → of ≡ unit_type → IsTyped op.Delay (a ∷ b ∷ []) of
delay_from a b of first own =
    subst (IsTyped op.Delay (a ∷ b ∷ [])) (sym own) (subst (λ x. IsTyped op.Delay (x ∷ b ∷ []) unit_type) (sym first) rule.delay)

two_from : (o : Op) (a b of : ValueType) → IsTrue (takes_two o a b of) → IsTyped o (a ∷ b ∷ []) of
two_from op.Last a b of h = with_first op.Last a b of h rule.last
two_from op.Delay a b of h =
    let parts = and_parts (is_type a int_type) (is_type of unit_type) h in
    delay_from a b of (type_is a int_type parts.0) (type_is of unit_type parts.1)
two_from op.Merge a b of h =
    let parts = and_parts (is_type a of) (is_type b of) h in
    with_first op.Merge a b of parts.0 (subst (λ x. IsTyped op.Merge (of ∷ x ∷ []) of) (sym (type_is b of parts.1)) rule.merge)
two_from op.Filter a b of h =
    let parts = and_parts (is_type a of) (is_type b bool_type) h in
    with_first op.Filter a b of parts.0 (subst (λ x. IsTyped op.Filter (of ∷ x ∷ []) of) (sym (type_is b bool_type parts.1)) rule.filter)
two_from op.SetAdd a b of h =
    let parts = and_parts (is_type a of) (is_member of b) h in
    with_first op.SetAdd a b of parts.0 (set_from op.SetAdd update.SetAdd b of refl (λ k. row.set_add refl) parts.1)
two_from op.SetRemove a b of h =
    let parts = and_parts (is_type a of) (is_member of b) h in
    with_first op.SetRemove a b of parts.0 (set_from op.SetRemove update.SetRemove b of refl (λ k. row.set_remove refl) parts.1)
two_from op.MapRemove a b of h =
    let parts = and_parts (is_type a of) (is_map_key of b) h in with_first op.MapRemove a b of parts.0 (map_from b of parts.1)
two_from op.QueueAdd a b of h =
    let parts = and_parts (is_type a of) (is_element of b) h in with_first op.QueueAdd a b of parts.0 (queue_from b of parts.1)
two_from _ a b of h = absurd (false≢true h)

pick_from : (a b c of : ValueType) → a ≡ bool_type → b ≡ of → c ≡ of → IsTrue (is_aggregate of) → IsTyped op.Pick (a ∷ b ∷ c ∷ []) of
pick_from a b c of condition first second h =
    subst (λ x. IsTyped op.Pick (x ∷ b ∷ c ∷ []) of) (sym condition)
    (subst (λ x. IsTyped op.Pick (bool_type ∷ x ∷ c ∷ []) of) (sym first)
    (subst (λ x. IsTyped op.Pick (bool_type ∷ of ∷ x ∷ []) of) (sym second) (rule.pick h)))

entry_from : (a b c of : ValueType) → a ≡ of → IsTrue (is_map_key of b) → IsTrue (is_map_value of c) → IsTyped op.MapAdd (a ∷ b ∷ c ∷ []) of
entry_from a b c of first key value =
    let found = map_key_is of b key in
    let entry = map_value_is found.key found.value of c found.is value in
    subst (λ x. IsTyped op.MapAdd (x ∷ b ∷ c ∷ []) of) (sym first)
    (subst (λ x. IsTyped op.MapAdd (of ∷ x ∷ c ∷ []) of) found.member
    (subst (λ x. IsTyped op.MapAdd (of ∷ value_type.Scalar (scalar_of found.key) ∷ x ∷ []) of) entry
    (subst (λ x. IsTyped op.MapAdd (x ∷ value_type.Scalar (scalar_of found.key) ∷ value_type.Scalar found.value ∷ []) x) found.is
    (rule.update refl (row.map_add refl)))))

three_from : (o : Op) (a b c of : ValueType) → IsTrue (takes_three o a b c of) → IsTyped o (a ∷ b ∷ c ∷ []) of
three_from op.Pick a b c of h =
    let one = and_parts (is_type a bool_type && is_type b of && is_type c of) (is_aggregate of) h in
    let two = and_parts (is_type a bool_type && is_type b of) (is_type c of) one.0 in
    let three = and_parts (is_type a bool_type) (is_type b of) two.0 in
    pick_from a b c of (type_is a bool_type three.0) (type_is b of three.1) (type_is c of two.1) one.1
three_from op.MapAdd a b c of h =
    let one = and_parts (is_type a of && is_map_key of b) (is_map_value of c) h in
    let two = and_parts (is_type a of) (is_map_key of b) one.0 in
    entry_from a b c of (type_is a of two.0) two.1 one.1
three_from _ a b c of h = absurd (false≢true h)

takes_from : (o : Op) (types : List ValueType) (of : ValueType) → IsTrue (takes o types of) → IsTyped o types of
takes_from o [] of h = none_from o of h
takes_from o (a ∷ []) of h = one_from o a of h
takes_from o (a ∷ b ∷ []) of h = two_from o a b of h
takes_from o (a ∷ b ∷ c ∷ []) of h = three_from o a b c of h
takes_from o (a ∷ b ∷ c ∷ d ∷ types) of h = absurd (false≢true h)

-- ---- lifts
has_kind_is : (x : Option Kind) (k : Kind) → IsTrue (has_kind x k) → x ≡ Some k
has_kind_is None k h = absurd (false≢true h)
has_kind_is (Some j) k h = ap Some (kind_is j k h)

lift_from : (body : BodyTree) (strict : Bool) (types : List ValueType) (of : ValueType) → IsTrue (lifts body strict types of) → IsTyped (op.Lift body strict) types of
lift_from body strict types (value_type.Scalar t) h =
    let one = and_parts (are_several 1 types) (has_kind (kind_in types strict body) (kind_at strict (value_type.Scalar t))) h in
    let two = and_parts (nat_le 1 (length types)) (nat_le (length types) 8) one.0 in
    let is = has_kind_is (kind_in types strict body) (kind_at strict (value_type.Scalar t)) one.1 in
    rule.lift (leb-true 1 (length types) two.0) (leb-true (length types) 8 two.1)
    (subst (HasKind (map (kind_of strict) types) body) (at_value strict (value_type.Scalar t)) (kind_from types strict body (kind_at strict (value_type.Scalar t)) is))
lift_from body strict types of h = absurd (false≢true h)

any_from : (types : List ValueType) (of : ValueType) → IsTrue (are_several 3 types && is_type of unit_type) → IsTyped op.Any types of
any_from types of h =
    let one = and_parts (are_several 3 types) (is_type of unit_type) h in
    let two = and_parts (nat_le 3 (length types)) (nat_le (length types) 8) one.0 in
    subst (IsTyped op.Any types) (sym (type_is of unit_type one.1))
    (rule.any (leb-true 3 (length types) two.0) (leb-true (length types) 8 two.1))

pub typed_from : (o : Op) (types : List ValueType) (of : ValueType) → IsTrue (is_typed_op o types of) → IsTyped o types of
typed_from op.Any types of h = any_from types of h
typed_from (op.Lift body strict) types of h = lift_from body strict types of h
typed_from o types of h = takes_from o types of h

-- ---- an operation that is typed is taken by the rules
several_to : (least : ℕ) (types : List ValueType) → least ≤ length types → length types ≤ 8 → IsTrue (are_several least types)
several_to least types low high = both (le-leb least (length types) low) (le-leb (length types) 8 high)

-- an argument of a key's type
key_passes : (k : KeyType) (t : ScalarType) → t ≡ scalar_of k → IsTrue (is_type (value_type.Scalar t) (value_type.Scalar (scalar_of k)))
key_passes k t is = type_passes (value_type.Scalar t) (value_type.Scalar (scalar_of k)) (ap value_type.Scalar is)

row_to : (u : Update) (t : ValueType) (ts : List ValueType) → UpdateTypes u t ts → IsTrue (is_typed_op (operation_of u) (t ∷ ts) t)
row_to u t ts (row.UpdateTypes.set_add {k = k} {t = s} is) = both (type_itself (value_type.Set k)) (key_passes k s is)
row_to u t ts (row.UpdateTypes.set_remove {k = k} {t = s} is) = both (type_itself (value_type.Set k)) (key_passes k s is)
row_to u t ts (row.UpdateTypes.map_add {k = k} {t = s} {x = x} is) =
    both (both (type_itself (value_type.Map k x)) (key_passes k s is)) (type_itself (value_type.Scalar x))
row_to u t ts (row.UpdateTypes.map_remove {k = k} {t = s} {x = x} is) = both (type_itself (value_type.Map k x)) (key_passes k s is)
row_to u t ts (row.UpdateTypes.queue_add {x = x}) = both (type_itself (value_type.Queue x)) (type_itself (value_type.Scalar x))
row_to u t ts (row.UpdateTypes.queue_take {x = x}) = type_itself (value_type.Queue x)

lift_to : (body : BodyTree) (strict : Bool) (types : List ValueType) (t : ScalarType) → 1 ≤ length types → length types ≤ 8 → HasKind (map (kind_of strict) types) body (kind_of strict (value_type.Scalar t)) → IsTrue (lifts body strict types (value_type.Scalar t))
lift_to body strict types t low high has =
    let is = kind_to types strict has ∙ ap Some (at_kind strict (value_type.Scalar t)) in
    both (several_to 1 types low high) (subst (λ x. IsTrue (has_kind x (kind_at strict (value_type.Scalar t)))) (sym is) (kind_itself (kind_at strict (value_type.Scalar t))))

pub typed_to : {o : Op} {types : List ValueType} {of : ValueType} → IsTyped o types of → IsTrue (is_typed_op o types of)
typed_to rule.IsTyped.input = refl
typed_to rule.IsTyped.nil = refl
typed_to rule.IsTyped.unit = refl
typed_to (rule.IsTyped.empty is) = is
typed_to rule.IsTyped.time = refl
typed_to (rule.IsTyped.any {ts = ts} low high) = both (several_to 3 ts low high) refl
typed_to (rule.IsTyped.last {t = t}) = type_itself t
typed_to rule.IsTyped.delay = refl
typed_to (rule.IsTyped.merge {t = t}) = both (type_itself t) (type_itself t)
typed_to (rule.IsTyped.filter {t = t}) = both (type_itself t) refl
typed_to (rule.IsTyped.pick {t = t} is) = both (both (type_itself t) (type_itself t)) is
typed_to (rule.IsTyped.update {o = o} {u = u} {t = t} {ts = ts} is types) =
    subst (λ p. IsTrue (is_typed_op p (t ∷ ts) t)) (sym (is_operation o u is)) (row_to u t ts types)
typed_to (rule.IsTyped.lift {body = body} {strict = strict} {ts = ts} {t = t} low high has) = lift_to body strict ts t low high has
