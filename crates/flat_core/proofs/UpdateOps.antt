-- Operations that are updates: what holds of the operation of each update holds of them.
use Rattle.std.proofs.Common.{◌≡◌, ℕ, suc, Bool, true, List, ◌∷◌, map, length, Option, Some, None, refl, sym, subst, ◌∙◌}
use Rattle.std.specs.Prelude.{is_some}
use Rattle.std.proofs.lemmas.Bool.{false≢true}
use Rattle.std.proofs.lemmas.Option.{same_Some}
use Rattle.tsl_value.specs.View.{View}
use Rattle.tsl_value.specs.declared.operation.Update.{Update}
use Rattle.tsl_value.specs.declared.operation.Update.TheVariants as update
use Rattle.tsl_value.specs.declared.scalar.ValueType.{ValueType}
use Rattle.lift_func.specs.Apply.{Answer}
use Rattle.lift_func.specs.Update.{UpdateTypes, beside, update_answer}
use Rattle.flat_core.specs.declared.equation.Op.{Op}
use Rattle.flat_core.specs.declared.equation.Op.TheVariants as op
use Rattle.flat_core.specs.Events.{Inputs, at_once}
use Rattle.flat_core.specs.Case.{Streams, own_of, used_of}
use Rattle.flat_core.specs.Stream.{event}
use Rattle.flat_core.specs.Typed.{IsTyped}
use Rattle.flat_core.specs.Typed as rule
use Rattle.flat_core.specs.Updates.{operation_of, update_in, is_update}
use Rattle.flat_core.specs.WellFormed.{unguarded_of}
use Rattle.flat_core.specs.inner.Arity.{HasArity}

-- the operation of an update is that update, and no other operation is
pub updates_itself : (u : Update) → update_in (operation_of u) ≡ Some u
updates_itself update.SetAdd = refl
updates_itself u = refl

pub is_operation : (o : Op) (u : Update) → update_in o ≡ Some u → o ≡ operation_of u
is_operation op.SetAdd update.SetAdd is = refl
is_operation op.SetRemove update.SetRemove is = refl
is_operation op.MapAdd update.MapAdd is = refl
is_operation op.MapRemove update.MapRemove is = refl
is_operation op.QueueAdd update.QueueAdd is = refl
is_operation op.QueueTake update.QueueTake is = refl
is_operation _ _ is = absurd (cc)

-- what holds of the operation of each update
pub by_update : (P : Op → Update → Type 0) → ((u : Update) → P (operation_of u) u) → (o : Op) (u : Update) → update_in o ≡ Some u → P o u
by_update P each o u is = subst (λ p. P p u) (sym (is_operation o u is)) (each u)

-- an operation that is none
pub no_update : {P : Type 0} {u : Update} → None ≡ Some u → P
no_update is = absurd (cc)

there : (x : Option Update) → is_some x ≡ true → (u : Update) × (x ≡ Some u)
there None is = absurd (false≢true is)
there (Some u) is = (u, refl)

pub update_there : (o : Op) → is_update o ≡ true → (u : Update) × (update_in o ≡ Some u)
update_there o is = there (update_in o) is

pub each_update : (P : Op → Type 0) → ((u : Update) → P (operation_of u)) → (o : Op) → is_update o ≡ true → P o
each_update P each o is = let found = update_there o is in by_update (λ p u. P p) each o found.0 found.1

-- ---- the types of an update are its row
pub record IsRow (u : Update) (kinds : List ValueType) (of : ValueType) : Type 0 where
  pub types : List ValueType
  pub are : kinds ≡ of ∷ types
  pub row : UpdateTypes u of types

pub row_of : (o : Op) (u : Update) (kinds : List ValueType) (of : ValueType) → update_in o ≡ Some u → IsTyped o kinds of → IsRow u kinds of
row_of o u kinds of is (rule.update {u = w} {ts = ts} h row) = record { types = ts; are = refl; row = subst (λ v. UpdateTypes v of ts) (same_Some w u (sym h ∙ is)) row }
row_of o u kinds of is rule.input = no_update is
row_of o u kinds of is rule.nil = no_update is
row_of o u kinds of is rule.unit = no_update is
row_of o u kinds of is (rule.empty aggregate) = no_update is
row_of o u kinds of is rule.time = no_update is
row_of o u kinds of is (rule.any low high) = no_update is
row_of o u kinds of is rule.last = no_update is
row_of o u kinds of is rule.delay = no_update is
row_of o u kinds of is rule.merge = no_update is
row_of o u kinds of is rule.filter = no_update is
row_of o u kinds of is (rule.pick aggregate) = no_update is
row_of o u kinds of is (rule.lift low high body) = no_update is

-- ---- what definitions say of an update

own_arity : (u : Update) (args : List ℕ) → length args ≡ suc (beside u) → HasArity (operation_of u) args
own_arity update.SetAdd args many = many
own_arity u args many = many

arity_own : (u : Update) (args : List ℕ) → HasArity (operation_of u) args → length args ≡ suc (beside u)
arity_own update.SetAdd args many = many
arity_own u args many = many

pub own_once : (u : Update) (of : ValueType) (values : List (Option View)) (t : ℕ) → at_once (operation_of u) of values t ≡ update_answer u values
own_once update.SetAdd of values t = refl
own_once u of values t = refl

own_used : (u : Update) (args : List ℕ) → used_of (operation_of u) args ≡ args
own_used update.SetAdd args = refl
own_used u args = refl

own_case : (inputs : Inputs) (z : Streams) (i : ℕ) (u : Update) (args : List ℕ) (of : ValueType) (t : ℕ) → own_of inputs z i (operation_of u) args of t ≡ update_answer u (map (λ a. event (z a t)) args)
own_case inputs z i update.SetAdd args of t = refl
own_case inputs z i u args of t = refl

-- as many arguments as the update has
pub has_arity : (o : Op) (u : Update) (args : List ℕ) → update_in o ≡ Some u → length args ≡ suc (beside u) → HasArity o args
has_arity o u args is = by_update (λ p u. length args ≡ suc (beside u) → HasArity p args) (λ u. own_arity u args) o u is

pub arity_is : (o : Op) (u : Update) (args : List ℕ) → update_in o ≡ Some u → HasArity o args → length args ≡ suc (beside u)
arity_is o u args is = by_update (λ p u. HasArity p args → length args ≡ suc (beside u)) (λ u. arity_own u args) o u is

-- what it makes of values, and of its arguments' events, all of which are used at the same time
pub at_once_update : (o : Op) (u : Update) → update_in o ≡ Some u → (of : ValueType) (values : List (Option View)) (t : ℕ) → at_once o of values t ≡ update_answer u values
at_once_update o u is of values t = by_update (λ p u. at_once p of values t ≡ update_answer u values) (λ u. own_once u of values t) o u is

pub used_update : (o : Op) → is_update o ≡ true → (args : List ℕ) → used_of o args ≡ args
used_update o is args = each_update (λ p. used_of p args ≡ args) (λ u. own_used u args) o is

own_unguarded : (u : Update) (args : List ℕ) → unguarded_of (operation_of u) args ≡ args
own_unguarded update.SetAdd args = refl
own_unguarded u args = refl

pub unguarded_update : (o : Op) → is_update o ≡ true → (args : List ℕ) → unguarded_of o args ≡ args
unguarded_update o is args = each_update (λ p. unguarded_of p args ≡ args) (λ u. own_unguarded u args) o is

pub own_update : (inputs : Inputs) (z : Streams) (i : ℕ) (o : Op) (u : Update) → update_in o ≡ Some u → (args : List ℕ) (of : ValueType) (t : ℕ) → own_of inputs z i o args of t ≡ update_answer u (map (λ a. event (z a t)) args)
own_update inputs z i o u is args of t =
    by_update (λ p u. own_of inputs z i p args of t ≡ update_answer u (map (λ a. event (z a t)) args)) (λ u. own_case inputs z i u args of t) o u is
