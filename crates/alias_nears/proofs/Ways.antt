-- From where an aggregate variable has its content: it begins there, or comes from an argument, however the equations around it are.
use Rattle.std.proofs.Common.{◌≡◌, ℕ, Bool, true, false, List, [], ◌∷◌, drop, Contains, Some, inl, inr, refl, sym, ap, subst, ◌∙◌}
use Rattle.std.specs.Prelude.{IsTrue, is_some, slice_get, if◌then◌else◌}
use Rattle.std.proofs.lemmas.Bool.{false≢true}
use Rattle.tsl_value.specs.declared.scalar.ValueType.{ValueType}
use Rattle.flat_core.specs.declared.equation.Equation.{Equation}
use Rattle.flat_core.specs.declared.equation.Op.{Op}
use Rattle.flat_core.specs.declared.equation.Op.TheVariants as op
use Rattle.tsl_value.specs.Aggregate.{is_aggregate}
use Rattle.flat_core.specs.Typed.{IsTyped, input, nil, unit, empty, time, any, last, delay, merge, filter, pick, update, lift}
use Rattle.flat_core.specs.TypedSystem.{IsOfType, AreOfTypes}
use Rattle.flat_core.specs.WellFormed.{unguarded_of}
use Rattle.tsl_value.proofs.Lists.{here, later, none_in_nil, cons_cases}
use Rattle.alias_rules.specs.Roots.{begins_content}
use Rattle.tsl_value.specs.declared.operation.Update.{Update}
use Rattle.tsl_value.specs.declared.operation.Update.TheVariants as variant
use Rattle.flat_core.specs.Updates.{operation_of, is_update}
use Rattle.flat_core.proofs.UpdateOps.{each_update, unguarded_update}
use Rattle.alias_rules.specs.Uses.{first_of, passed_of, written_of}

-- ---- what is passed on or written is an argument that is not guarded

in_first : (args : List ℕ) (x : ℕ) → Contains (first_of args) x → Contains args x
in_first [] x c = c
in_first (a ∷ args) x c = elim (cons_cases a x [] c) [ inl same ↦ subst (Contains (a ∷ args)) same (here a args) | inr none ↦ absurd (none_in_nil x none) ]

in_rest : (args : List ℕ) (x : ℕ) → Contains (drop 1 args) x → Contains args x
in_rest [] x c = c
in_rest (a ∷ args) x c = later a x args c

pub passed_needed : (o : Op) (args : List ℕ) (x : ℕ) → Contains (passed_of o args) x → Contains (unguarded_of o args) x
passed_needed op.Merge args x c = c
passed_needed op.Filter args x c = in_first args x c
passed_needed op.Pick args x c = in_rest args x c
passed_needed o args x c = absurd (none_in_nil x c)

pub written_needed : (o : Op) (args : List ℕ) (x : ℕ) → Contains (written_of o args) x → Contains (unguarded_of o args) x
written_needed o args x c = at (is_update o) refl c
  where
    at : (b : Bool) → is_update o ≡ b → Contains (if b then first_of args else []) x → Contains (unguarded_of o args) x
    at true is found = subst (λ l. Contains l x) (sym (unguarded_update o is args)) (in_first args x found)
    at false is found = absurd (none_in_nil x found)

own_begins : (u : Update) → begins_content (operation_of u) false ≡ true
own_begins variant.SetAdd = refl
own_begins u = refl

-- an update outside the set begins content
pub begins_outside : (o : Op) → is_update o ≡ true → begins_content o false ≡ true
begins_outside o h = each_update (λ p. begins_content p false ≡ true) own_begins o h

-- ---- by the types

module _ (equations : List Equation) where
  -- an argument with a set or a map
  pub record IsAggregateAt (a : ℕ) : Type 0 where
    pub at : Equation
    pub is : slice_get equations a ≡ Some at
    pub aggregate : IsTrue (is_aggregate at.of)

  pub data Way (o : Op) (args : List ℕ) : Type 0 where
    begins : ((inside : Bool) → begins_content o inside ≡ true) → Way o args
    is_nil : o ≡ op.Nil → Way o args
    passes : (a : ℕ) → IsAggregateAt a → Contains (passed_of o args) a → ((other : ℕ) → o ≡ op.Merge → args ≡ other ∷ a ∷ [] → other ≡ a) → Way o args
    writes : (a : ℕ) → IsAggregateAt a → is_update o ≡ true → Contains (written_of o args) a → Way o args

  aggregate_at : (a : ℕ) (t : ValueType) → IsOfType equations a t → IsTrue (is_aggregate t) → IsAggregateAt a
  aggregate_at a t h aggregate = record { at = h.at; is = h.is; aggregate = ap is_aggregate h.of_is ∙ aggregate }

  merge_way : (args : List ℕ) (t : ValueType) → AreOfTypes equations args (t ∷ t ∷ []) → IsTrue (is_aggregate t) → Way op.Merge args
  merge_way [] t typed aggregate = absurd typed
  merge_way (a ∷ []) t typed aggregate = absurd typed.1
  merge_way (a ∷ b ∷ c ∷ args) t typed aggregate = absurd typed.1.1
  merge_way (a ∷ b ∷ []) t typed aggregate = passes a (aggregate_at a t typed.0 aggregate) (here a (b ∷ [])) (λ other is args_are. cc)

  filter_way : (args : List ℕ) (t u : ValueType) → AreOfTypes equations args (t ∷ u ∷ []) → IsTrue (is_aggregate t) → Way op.Filter args
  filter_way [] t u typed aggregate = absurd typed
  filter_way (a ∷ args) t u typed aggregate = passes a (aggregate_at a t typed.0 aggregate) (here a []) (λ other is args_are. cc)

  pick_way : (args : List ℕ) (u t : ValueType) → AreOfTypes equations args (u ∷ t ∷ t ∷ []) → IsTrue (is_aggregate t) → Way op.Pick args
  pick_way [] u t typed aggregate = absurd typed
  pick_way (c ∷ []) u t typed aggregate = absurd typed.1
  pick_way (c ∷ a ∷ args) u t typed aggregate = passes a (aggregate_at a t typed.1.0 aggregate) (here a args) (λ other is args_are. cc)

  first_way : (o : Op) (args : List ℕ) (t : ValueType) (types : List ValueType) → is_update o ≡ true → AreOfTypes equations args (t ∷ types) → IsTrue (is_aggregate t) → Way o args
  first_way o [] t types writes_to typed aggregate = absurd typed
  first_way o (a ∷ args) t types writes_to typed aggregate =
      writes a (aggregate_at a t typed.0 aggregate) writes_to (subst (λ b. Contains (if b then a ∷ [] else []) a) (sym writes_to) (here a []))

  pub way : {o : Op} {types : List ValueType} {of : ValueType} → IsTyped o types of → (args : List ℕ) → AreOfTypes equations args types → IsTrue (is_aggregate of) → Way o args
  way input args typed aggregate = absurd (false≢true aggregate)
  way nil args typed aggregate = is_nil refl
  way unit args typed aggregate = absurd (false≢true aggregate)
  way (empty h) args typed aggregate = begins (λ inside. refl)
  way time args typed aggregate = absurd (false≢true aggregate)
  way (any low high) args typed aggregate = absurd (false≢true aggregate)
  way last args typed aggregate = begins (λ inside. refl)
  way delay args typed aggregate = absurd (false≢true aggregate)
  way (merge {t}) args typed aggregate = merge_way args t typed aggregate
  way (filter {t}) args typed aggregate = filter_way args t _ typed aggregate
  way (pick {t} h) args typed aggregate = pick_way args _ t typed aggregate
  way (update {o = o} is row) args typed aggregate = first_way o args _ _ (ap is_some is) typed aggregate
  way (lift low high h) args typed aggregate = absurd (false≢true aggregate)
