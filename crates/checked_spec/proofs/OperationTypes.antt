-- The operation of each function with a dot types its signature.
use Rattle.std.proofs.Common.{◌≡◌, Bool, true, false, ◌&&◌, ◌||◌, [], ◌∷◌, refl, subst}
use Rattle.std.proofs.lemmas.Bool.{and_parts, false≢true}
use Rattle.tsl_value.specs.declared.scalar.KeyType.{KeyType}
use Rattle.tsl_value.specs.declared.scalar.ScalarType.{ScalarType}
use Rattle.tsl_value.specs.declared.scalar.ValueType.{ValueType}
use Rattle.tsl_value.specs.declared.scalar.ValueType.TheVariants as value_type
use Rattle.tsl_value.specs.declared.scalar.ScalarType.TheVariants as scalar_type
use Rattle.tsl_value.specs.declared.operation.Unary.{Unary}
use Rattle.tsl_value.specs.declared.operation.Unary.TheVariants as unary
use Rattle.tsl_value.specs.declared.operation.Binary.{Binary}
use Rattle.tsl_value.specs.declared.operation.Binary.TheVariants as binary
use Rattle.lift_func.specs.Operations.{is_on_texts, made_of_texts}
use Rattle.lift_func.specs.Typing as typing
use Rattle.lift_func.specs.Typing.{Value, plain, TypesOne, TypesTwo, scalar_of}
use Rattle.lift_func.specs.Update.{UpdateTypes, set_add, set_remove, map_add, map_remove, queue_add, queue_take}
use Rattle.tsl_value.specs.Aggregate.{is_aggregate}
use Rattle.vocabulary.specs.declared.kind.Kind.{Kind}
use Rattle.vocabulary.specs.declared.kind.Kind.TheVariants as aggregate_kind
use Rattle.vocabulary.specs.declared.dotted.Dotted.{Dotted}
use Rattle.vocabulary.specs.declared.signature.Term.{Term}
use Rattle.vocabulary.specs.declared.signature.Term.TheVariants as term
use Rattle.vocabulary.specs.declared.signature.Parameters.{Parameters}
use Rattle.vocabulary.specs.declared.signature.Parameters.TheVariants as parameters
use Rattle.tsl_value.specs.declared.operation.Update.{Update}
use Rattle.tsl_value.specs.declared.operation.Update.TheVariants as update
use Rattle.vocabulary.specs.declared.signature.Role.{Role}
use Rattle.vocabulary.specs.declared.signature.Role.TheVariants as role
use Rattle.vocabulary.specs.Table.{parameters_of, gives_of, role_of}
use Rattle.vocabulary.proofs.Listed.{all_true}

-- the type of the aggregates of a kind, where keys and entries are of these types
abbrev pub aggregate_type : Kind → KeyType → ScalarType → ValueType
aggregate_type aggregate_kind.Set k x = value_type.Set k
aggregate_type aggregate_kind.Map k x = value_type.Map k x
aggregate_type aggregate_kind.Queue k x = value_type.Queue x

is_one : (g : Kind) (k : KeyType) (x : ScalarType) → is_aggregate (aggregate_type g k x) ≡ true
is_one aggregate_kind.Set k x = refl
is_one g k x = refl

-- a type of a signature, where keys and entries are of these types
abbrev pub at_types : KeyType → ScalarType → Term → ValueType
at_types k x (term.Of g) = aggregate_type g k x
at_types k x term.Key = value_type.Scalar (scalar_of k)
at_types k x term.Entry = value_type.Scalar x
at_types k x (term.Scalar t) = value_type.Scalar t

-- an update gives the aggregate's type, which it takes first
abbrev pub IsUpdating : Update → KeyType → ScalarType → Parameters → Term → Type 0
IsUpdating o k x (parameters.One p) g = (p ≡ g) × UpdateTypes o (at_types k x g) []
IsUpdating o k x (parameters.Two p q) g = (p ≡ g) × UpdateTypes o (at_types k x g) (at_types k x q ∷ [])
IsUpdating o k x (parameters.Three p q r) g = (p ≡ g) × UpdateTypes o (at_types k x g) (at_types k x q ∷ at_types k x r ∷ [])

-- an operation and an update type their signature, whatever keys and entries are
abbrev pub IsTyped : Role → Parameters → Term → Type 0
IsTyped (role.Unary o) (parameters.One p) g = (k : KeyType) (x : ScalarType) → TypesOne o (Value (at_types k x p)) (Value (at_types k x g))
IsTyped (role.Binary o) (parameters.Two p q) g = (k : KeyType) (x : ScalarType) → TypesTwo o (Value (at_types k x p)) (Value (at_types k x q)) (Value (at_types k x g))
IsTyped (role.Update o) ps g = (k : KeyType) (x : ScalarType) → IsUpdating o k x ps g
IsTyped r ps g = ⊥

-- ---- which computes, but for the types of two texts, which go by the sort of the operation
abbrev is_type : ScalarType → ScalarType → Bool
is_type scalar_type.Unit scalar_type.Unit = true
is_type scalar_type.Int scalar_type.Int = true
is_type scalar_type.Bool scalar_type.Bool = true
is_type scalar_type.Text scalar_type.Text = true
is_type s t = false

same_type : (s t : ScalarType) → is_type s t ≡ true → s ≡ t
same_type scalar_type.Unit scalar_type.Unit h = refl
same_type scalar_type.Int scalar_type.Int h = refl
same_type scalar_type.Bool scalar_type.Bool h = refl
same_type scalar_type.Text scalar_type.Text h = refl
same_type s t h = absurd (false≢true h)

abbrev types_one : Unary → Term → Term → Bool
types_one unary.Size (term.Of g) (term.Scalar scalar_type.Int) = true
types_one unary.Front (term.Of aggregate_kind.Queue) term.Entry = true
types_one unary.Length (term.Scalar scalar_type.Text) (term.Scalar scalar_type.Int) = true
types_one o p g = false

one_typed : (o : Unary) (p g : Term) → types_one o p g ≡ true → IsTyped (role.Unary o) (parameters.One p) g
one_typed unary.Size (term.Of g) (term.Scalar scalar_type.Int) h = λ k x. typing.size (is_one g k x)
one_typed unary.Front (term.Of aggregate_kind.Queue) term.Entry h = λ k x. typing.front
one_typed unary.Length (term.Scalar scalar_type.Text) (term.Scalar scalar_type.Int) h = λ k x. typing.length
one_typed o p g h = absurd (false≢true h)

abbrev types_texts : Binary → Term → Term → Term → Bool
types_texts o (term.Scalar scalar_type.Text) (term.Scalar scalar_type.Text) (term.Scalar t) = is_on_texts o && is_type (made_of_texts o) t
types_texts o p q g = false

texts_typed : (o : Binary) (p q g : Term) → types_texts o p q g ≡ true → IsTyped (role.Binary o) (parameters.Two p q) g
texts_typed o (term.Scalar scalar_type.Text) (term.Scalar scalar_type.Text) (term.Scalar t) h =
    let both = and_parts (is_on_texts o) (is_type (made_of_texts o) t) h in
    λ k x. subst (λ s. TypesTwo o (plain scalar_type.Text) (plain scalar_type.Text) (plain s)) (same_type (made_of_texts o) t both.1) (typing.on_texts both.0)
texts_typed o p q g h = absurd (false≢true h)

abbrev types_keys : Binary → Term → Term → Term → Bool
types_keys binary.Contains (term.Of aggregate_kind.Set) term.Key (term.Scalar scalar_type.Bool) = true
types_keys binary.Contains (term.Of aggregate_kind.Map) term.Key (term.Scalar scalar_type.Bool) = true
types_keys binary.Get (term.Of aggregate_kind.Map) term.Key term.Entry = true
types_keys o p q g = false

keys_typed : (o : Binary) (p q g : Term) → types_keys o p q g ≡ true → IsTyped (role.Binary o) (parameters.Two p q) g
keys_typed binary.Contains (term.Of aggregate_kind.Set) term.Key (term.Scalar scalar_type.Bool) h = λ k x. typing.in_set refl
keys_typed binary.Contains (term.Of aggregate_kind.Map) term.Key (term.Scalar scalar_type.Bool) h = λ k x. typing.in_map refl
keys_typed binary.Get (term.Of aggregate_kind.Map) term.Key term.Entry h = λ k x. typing.get refl
keys_typed o p q g h = absurd (false≢true h)

abbrev types_update : Update → Parameters → Term → Bool
types_update update.SetAdd (parameters.Two (term.Of aggregate_kind.Set) term.Key) (term.Of aggregate_kind.Set) = true
types_update update.SetRemove (parameters.Two (term.Of aggregate_kind.Set) term.Key) (term.Of aggregate_kind.Set) = true
types_update update.MapAdd (parameters.Three (term.Of aggregate_kind.Map) term.Key term.Entry) (term.Of aggregate_kind.Map) = true
types_update update.MapRemove (parameters.Two (term.Of aggregate_kind.Map) term.Key) (term.Of aggregate_kind.Map) = true
types_update update.QueueAdd (parameters.Two (term.Of aggregate_kind.Queue) term.Entry) (term.Of aggregate_kind.Queue) = true
types_update update.QueueTake (parameters.One (term.Of aggregate_kind.Queue)) (term.Of aggregate_kind.Queue) = true
types_update o ps g = false

update_typed : (o : Update) (ps : Parameters) (g : Term) → types_update o ps g ≡ true → IsTyped (role.Update o) ps g
update_typed update.SetAdd (parameters.Two (term.Of aggregate_kind.Set) term.Key) (term.Of aggregate_kind.Set) h = λ k x. (refl, set_add refl)
update_typed update.SetRemove (parameters.Two (term.Of aggregate_kind.Set) term.Key) (term.Of aggregate_kind.Set) h = λ k x. (refl, set_remove refl)
update_typed update.MapAdd (parameters.Three (term.Of aggregate_kind.Map) term.Key term.Entry) (term.Of aggregate_kind.Map) h = λ k x. (refl, map_add refl)
update_typed update.MapRemove (parameters.Two (term.Of aggregate_kind.Map) term.Key) (term.Of aggregate_kind.Map) h = λ k x. (refl, map_remove refl)
update_typed update.QueueAdd (parameters.Two (term.Of aggregate_kind.Queue) term.Entry) (term.Of aggregate_kind.Queue) h = λ k x. (refl, queue_add)
update_typed update.QueueTake (parameters.One (term.Of aggregate_kind.Queue)) (term.Of aggregate_kind.Queue) h = λ k x. (refl, queue_take)
update_typed o ps g h = absurd (false≢true h)

abbrev types : Role → Parameters → Term → Bool
types (role.Unary o) (parameters.One p) g = types_one o p g
types (role.Binary o) (parameters.Two p q) g = types_texts o p q g || types_keys o p q g
types (role.Update o) ps g = types_update o ps g
types r ps g = false

either : {P : Type 0} (a b : Bool) → (a || b) ≡ true → (a ≡ true → P) → (b ≡ true → P) → P
either true b h first second = first refl
either false b h first second = second h

typed : (r : Role) (ps : Parameters) (g : Term) → types r ps g ≡ true → IsTyped r ps g
typed (role.Unary o) (parameters.One p) g h = one_typed o p g h
typed (role.Binary o) (parameters.Two p q) g h = either (types_texts o p q g) (types_keys o p q g) h (texts_typed o p q g) (keys_typed o p q g)
typed (role.Update o) ps g h = update_typed o ps g h
typed r ps g h = absurd (false≢true h)

pub each_typed : (d : Dotted) → IsTyped (role_of d) (parameters_of d) (gives_of d)
each_typed d = typed (role_of d) (parameters_of d) (gives_of d) (all_true (λ d. types (role_of d) (parameters_of d) (gives_of d)) refl d)
