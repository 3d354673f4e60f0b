-- What running an update does, and what stands in the definitions of updates.
use Rattle.std.proofs.Common.{◌≡◌, ℕ, Bool, true, not, List, [], ◌∷◌, Option, Some, refl, sym, ap, subst, Contains, map, arith}
use Rattle.std.specs.Prelude.{if◌then◌else◌, is_some}
use Rattle.tsl_value.specs.declared.operation.Update.{Update}
use Rattle.tsl_value.specs.declared.operation.Update.TheVariants as update
use Rattle.tsl_value.specs.declared.scalar.ValueType.{ValueType}
use Rattle.lift_func.specs.Update.{update_answer}
use Rattle.flat_core.specs.declared.equation.Op.{Op}
use Rattle.flat_core.specs.Events.{Inputs}
use Rattle.flat_core.specs.Case.{Streams, used_of}
use Rattle.flat_core.specs.System.{System}
use Rattle.flat_core.specs.Updates.{operation_of, update_in, is_update}
use Rattle.flat_core.proofs.UpdateOps.{by_update, used_update}
use Rattle.alias_rules.specs.Uses.{written_of}
use Rattle.alias_rules.specs.Roots.{begins_content}
use Rattle.register_machine.specs.Machine.{Held, Cells, Config, made, value_in, effect_of}
use Rattle.register_machine.proofs.Reach.{IsEntered}

-- an operation is an update
pub is_one : (o : Op) {u : Update} → update_in o ≡ Some u → is_update o ≡ true
is_one o is = ap is_some is

-- it makes what its case gives
own_effect : (inputs : Inputs) (t : ℕ) (c : Config) (i : ℕ) (u : Update) (args : List ℕ) (of : ValueType) → effect_of inputs t c i (operation_of u) args of ≡ made (update_answer u (map (value_in c) args))
own_effect inputs t c i update.SetAdd args of = refl
own_effect inputs t c i u args of = refl

pub effect_update : (inputs : Inputs) (t : ℕ) (c : Config) (i : ℕ) (o : Op) (u : Update) → update_in o ≡ Some u → (args : List ℕ) (of : ValueType) → effect_of inputs t c i o args of ≡ made (update_answer u (map (value_in c) args))
effect_update inputs t c i o u is args of =
    by_update (λ p u. effect_of inputs t c i p args of ≡ made (update_answer u (map (value_in c) args))) (λ u. own_effect inputs t c i u args of) o u is

-- all arguments are used at the same time, and the content of the first is written
pub used_each : (o : Op) (u : Update) → update_in o ≡ Some u → (args : List ℕ) (a : ℕ) → Contains args a → Contains (used_of o args) a
used_each o u is args a found = subst (λ l. Contains l a) (sym (used_update o (is_one o is) args)) found

pub used_first : (o : Op) (u : Update) → update_in o ≡ Some u → (m : ℕ) (ks : List ℕ) → Contains (used_of o (m ∷ ks)) m
used_first o u is m ks = used_each o u is (m ∷ ks) m (0, omega arith, refl)

pub written_first : (o : Op) (u : Update) → update_in o ≡ Some u → (m : ℕ) (ks : List ℕ) → Contains (written_of o (m ∷ ks)) m
written_first o u is m ks = subst (λ b. Contains (if b then m ∷ [] else []) m) (sym (is_one o is)) (0, omega arith, refl)

-- content begins at an update that is not in place
own_begins : (u : Update) (inside : Bool) → begins_content (operation_of u) inside ≡ not inside
own_begins update.SetAdd inside = refl
own_begins u inside = refl

pub begins_update : (o : Op) (u : Update) → update_in o ≡ Some u → (inside : Bool) → begins_content o inside ≡ not inside
begins_update o u is inside = by_update (λ p u. begins_content p inside ≡ not inside) (λ u. own_begins u inside) o u is

-- any argument of an update is passed over by nothing
own_entered : (s : System) (set : List ℕ) (z : Streams) (t : ℕ) (last : ℕ → Option Held) (old : Cells) (x : ℕ) (args : List ℕ) (u : Update) → IsEntered s set z t last old x (operation_of u) args
own_entered s set z t last old x args update.SetAdd = tt
own_entered s set z t last old x args u = tt

pub entered_update : (s : System) (set : List ℕ) (z : Streams) (t : ℕ) (last : ℕ → Option Held) (old : Cells) (o : Op) (u : Update) → update_in o ≡ Some u → (x : ℕ) (args : List ℕ) → IsEntered s set z t last old x o args
entered_update s set z t last old o u is x args = by_update (λ p u. IsEntered s set z t last old x p args) (own_entered s set z t last old x args) o u is
