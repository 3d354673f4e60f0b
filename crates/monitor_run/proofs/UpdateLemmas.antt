-- What updates make of registers.
use Rattle.std.proofs.Common.{◌≡◌, ℕ, suc, Bool, true, false, List, [], ◌∷◌, length, map, Option, Some, Ok, Err, inl, inr, refl, sym, ap, subst, ◌∙◌, arith}
use Rattle.std.proofs.lemmas.Bool.{false≢true, true≢false}
use Rattle.std.specs.Prelude.{◌⊎◌, IfOk, IsTrue, Result, slice_index}
use Rattle.std.specs.List.{AllByRecursion}
use Rattle.std.proofs.lemmas.List.Elements.{recursion_from_All}
use Rattle.tsl_value.specs.Aggregate.{is_aggregate, size_of}
use Rattle.tsl_value.specs.declared.operation.Update.{Update}
use Rattle.tsl_value.specs.declared.operation.Update.TheVariants as update
use Rattle.tsl_value.specs.declared.scalar.Scalar.{Scalar}
use Rattle.tsl_value.specs.declared.scalar.Scalar.TheVariants as scalar
use Rattle.tsl_value.specs.declared.scalar.ValueType.{ValueType}
use Rattle.tsl_value.specs.declared.scalar.ValueType.TheVariants as value_type
use Rattle.tsl_value.specs.View.{View, Plain, Keyed, Mapped, Listed, is_of}
use Rattle.tsl_value.proofs.Aggregates.{elements_of}
use Rattle.cell_reader.specs.inner.Cells.{Cells, FitsKey, IsLive, IsQueue, view_at}
use Rattle.body_eval.specs.inner.Registers.{HoldsLive, held}
use Rattle.body_eval.specs.declared.eval.EvalFault.{EvalFault}
use Rattle.lift_func.specs.declared.fault.FaultKind.TheVariants.{EmptyQueue}
use Rattle.body_eval.specs.declared.register.Register.{Register}
use Rattle.body_eval.specs.declared.register.Register.TheVariants as register
use Rattle.lift_func.specs.Update.{updated, UpdateTypes, set_add, set_remove, map_add, map_remove, queue_add, queue_take, beside, present, update_answer}
use Rattle.lift_func.proofs.Updates.{updates_aggregate, beside_scalars}
use Rattle.lift_func.proofs.TypedUpdates.{AreViewsOf, key_of}
use Rattle.aggregate_store.specs.inner.Stored.{Stored, FitsValue, HasFront, with_added, with_last, without_front, without_key}
use Rattle.aggregate_store.proofs.Typed.{fits_map, fits_value}
use Rattle.flat_core.specs.declared.equation.Equation.{Equation}
use Rattle.flat_core.specs.inner.TypedEvents.{AreOf}
use Rattle.flat_core.specs.Updates.{update_in}
use Rattle.flat_core.proofs.UpdateOps.{row_of}
use Rattle.monitor_run.specs.inner.Here.{AreHeldOf, HasAnswer, HasUpdated, IsBare, IsRemoval, HoldsNoScalar, TakesTyped, TakesUpdate, register_of, source_of}
use Rattle.monitor_run.specs.inner.Registers.{IsHeldOf, register_at, value_at}

-- ---- the rows

-- a key with a value fits an aggregate, and an update gives the aggregate with it
pub record Adds (u : Update) (v : View) (key value : Scalar) (rest : List View) : Type 0 where
  pub key_fits : FitsKey v key
  pub value_fits : FitsValue v value
  pub is : updated u v rest ≡ Ok (with_added v key value)

pub record Removes (u : Update) (v : View) (key : Scalar) : Type 0 where
  pub key_fits : FitsKey v key
  pub is : updated u v (Plain key ∷ []) ≡ Ok (without_key v key)

set_adds : {of : ValueType} {types : List ValueType} → UpdateTypes update.SetAdd of types → (v : View) (key : Scalar) → IsTrue (is_of of v) → AreViewsOf types (Plain key ∷ []) → Adds update.SetAdd v key scalar.Unit (Plain key ∷ [])
set_adds (set_add {k = k} {t = t} is) (Keyed s) key typed fit = record { key_fits = (k, key_of k t is key fit.0, typed); value_fits = refl; is = refl }
set_adds (set_add is) (Plain s) key typed fit = absurd (false≢true typed)
set_adds (set_add is) (Mapped m) key typed fit = absurd (false≢true typed)
set_adds (set_add is) (Listed xs) key typed fit = absurd (false≢true typed)

map_adds : {of : ValueType} {types : List ValueType} → UpdateTypes update.MapAdd of types → (v : View) (key value : Scalar) → IsTrue (is_of of v) → AreViewsOf types (Plain key ∷ Plain value ∷ []) → Adds update.MapAdd v key value (Plain key ∷ Plain value ∷ [])
map_adds (map_add {k = k} {t = t} {x = x} is) (Mapped m) key value typed fit = record { key_fits = fits_map k x m key (key_of k t is key fit.0) typed; value_fits = fits_value (value_type.Map k x) (Mapped m) key value (key_of k t is key fit.0, fit.1.0) typed; is = refl }
map_adds (map_add is) (Plain s) key value typed fit = absurd (false≢true typed)
map_adds (map_add is) (Keyed s) key value typed fit = absurd (false≢true typed)
map_adds (map_add is) (Listed xs) key value typed fit = absurd (false≢true typed)

removes : {u : Update} {of : ValueType} {types : List ValueType} → IsRemoval u → UpdateTypes u of types → (v : View) (key : Scalar) → IsTrue (is_of of v) → AreViewsOf types (Plain key ∷ []) → Removes u v key
removes one (set_remove {k = k} {t = t} is) (Keyed s) key typed fit = record { key_fits = (k, key_of k t is key fit.0, typed); is = refl }
removes one (set_remove is) (Plain s) key typed fit = absurd (false≢true typed)
removes one (set_remove is) (Mapped m) key typed fit = absurd (false≢true typed)
removes one (set_remove is) (Listed xs) key typed fit = absurd (false≢true typed)
removes one (map_remove {k = k} {t = t} {x = x} is) (Mapped m) key typed fit = record { key_fits = fits_map k x m key (key_of k t is key fit.0) typed; is = refl }
removes one (map_remove is) (Plain s) key typed fit = absurd (false≢true typed)
removes one (map_remove is) (Keyed s) key typed fit = absurd (false≢true typed)
removes one (map_remove is) (Listed xs) key typed fit = absurd (false≢true typed)
removes one (set_add is) v key typed fit = absurd one
removes one (map_add is) v key typed fit = absurd one
removes one queue_add v key typed fit = absurd one
removes one queue_take v key typed fit = absurd one

-- a queue takes a value after its last element
pub record Enqueues (v : View) (value : Scalar) : Type 0 where
  pub queue : IsQueue v
  pub is : updated update.QueueAdd v (Plain value ∷ []) ≡ Ok (with_last v value)

queue_adds : {of : ValueType} {types : List ValueType} → UpdateTypes update.QueueAdd of types → (v : View) (value : Scalar) → IsTrue (is_of of v) → Enqueues v value
queue_adds queue_add (Listed xs) value typed = record { queue = tt; is = refl }
queue_adds queue_add (Plain s) value typed = absurd (false≢true typed)
queue_adds queue_add (Keyed s) value typed = absurd (false≢true typed)
queue_adds queue_add (Mapped m) value typed = absurd (false≢true typed)

-- a queue that has an element gives it, and the empty one has a fault
pub record Dequeues (v : View) : Type 0 where
  pub none : size_of v ≡ 0 → updated update.QueueTake v [] ≡ Err EmptyQueue
  pub front : (size_of v ≡ 0 → ⊥) → HasFront v
  pub is : (size_of v ≡ 0 → ⊥) → updated update.QueueTake v [] ≡ Ok (without_front v)

queue_takes : {of : ValueType} {types : List ValueType} → UpdateTypes update.QueueTake of types → (v : View) → IsTrue (is_of of v) → Dequeues v
queue_takes queue_take (Listed []) typed = record { none = λ empty. refl; front = λ some. some refl; is = λ some. absurd (some refl) }
queue_takes queue_take (Listed (x ∷ xs)) typed = record { none = λ empty. absurd (omega arith); front = λ some. tt; is = λ some. refl }
queue_takes queue_take (Plain s) typed = absurd (false≢true typed)
queue_takes queue_take (Keyed s) typed = absurd (false≢true typed)
queue_takes queue_take (Mapped m) typed = absurd (false≢true typed)

-- ---- registers of these types
module _ (c : Cells) where
  bare_of : (t : ValueType) (r : Register) → is_aggregate t ≡ false → IsHeldOf c t r → IsBare r
  bare_of t register.Empty plain is = tt
  bare_of t (register.Scalar s) plain is = tt
  bare_of t (register.Aggregate h) plain is = absurd (true≢false (sym is.live.1 ∙ elements_of t (view_at c h) is.typed ∙ plain))

  no_scalar_of : (t : ValueType) (r : Register) → is_aggregate t ≡ true → IsHeldOf c t r → HoldsNoScalar r
  no_scalar_of t register.Empty aggregate is = tt
  no_scalar_of t (register.Scalar s) aggregate is = absurd (false≢true (elements_of t (Plain s) is.typed ∙ aggregate))
  no_scalar_of t (register.Aggregate h) aggregate is = tt

  all_bare : (types : List ValueType) (registers : List Register) → AllByRecursion (λ t. is_aggregate t ≡ false) types → AreHeldOf c types registers → AllByRecursion (λ r. IsBare r) registers
  all_bare [] [] plain are = tt
  all_bare [] (r ∷ registers) plain are = absurd are
  all_bare (t ∷ types) [] plain are = absurd are
  all_bare (t ∷ types) (r ∷ registers) plain are = (bare_of t r plain.0 are.0, all_bare types registers plain.1 are.1)

  views_of : (types : List ValueType) (keys : List Scalar) → AreHeldOf c types (map (λ k. register.Scalar k) keys) → AreViewsOf types (map (λ k. Plain k) keys)
  views_of [] [] are = tt
  views_of [] (k ∷ keys) are = absurd are
  views_of (t ∷ types) [] are = absurd are
  views_of (t ∷ types) (k ∷ keys) are = (are.0.typed, views_of types keys are.1)

  module _ (u : Update) (aggregate : Register) (besides : List Register) (takes : TakesUpdate c u (aggregate ∷ besides)) where
    -- the first holds no scalar, and the others hold nothing else
    pub no_scalar : HoldsNoScalar aggregate
    no_scalar = no_scalar_of takes.of aggregate (updates_aggregate takes.row) takes.held_are.0

    pub bare : AllByRecursion (λ r. IsBare r) besides
    bare = all_bare takes.types besides (beside_scalars takes.row) takes.held_are.1

  -- the cell of an aggregate is live
  pub live_of : (u : Update) (h : ℕ) (besides : List Register) → TakesUpdate c u (register.Aggregate h ∷ besides) → IsLive c h
  live_of u h besides takes = takes.held_are.0.live.0

  pub adds_to_set : (h : ℕ) (k : Scalar) → TakesUpdate c update.SetAdd (register.Aggregate h ∷ register.Scalar k ∷ []) → Adds update.SetAdd (view_at c h) k scalar.Unit (Plain k ∷ [])
  adds_to_set h k takes = set_adds takes.row (view_at c h) k takes.held_are.0.typed (views_of takes.types (k ∷ []) takes.held_are.1)

  pub adds_to_map : (h : ℕ) (k x : Scalar) → TakesUpdate c update.MapAdd (register.Aggregate h ∷ register.Scalar k ∷ register.Scalar x ∷ []) → Adds update.MapAdd (view_at c h) k x (Plain k ∷ Plain x ∷ [])
  adds_to_map h k x takes = map_adds takes.row (view_at c h) k x takes.held_are.0.typed (views_of takes.types (k ∷ x ∷ []) takes.held_are.1)

  pub removes_from : (u : Update) (h : ℕ) (k : Scalar) → IsRemoval u → TakesUpdate c u (register.Aggregate h ∷ register.Scalar k ∷ []) → Removes u (view_at c h) k
  removes_from u h k one takes = removes one takes.row (view_at c h) k takes.held_are.0.typed (views_of takes.types (k ∷ []) takes.held_are.1)

  pub adds_to_queue : (h : ℕ) (x : Scalar) → TakesUpdate c update.QueueAdd (register.Aggregate h ∷ register.Scalar x ∷ []) → Enqueues (view_at c h) x
  adds_to_queue h x takes = queue_adds takes.row (view_at c h) x takes.held_are.0.typed

  pub takes_of_queue : (h : ℕ) → TakesUpdate c update.QueueTake (register.Aggregate h ∷ []) → Dequeues (view_at c h)
  takes_of_queue h takes = queue_takes takes.row (view_at c h) takes.held_are.0.typed

-- what a run of an update made is what the update has
pub answered : (in_place : Bool) (i : ℕ) (source : Register) (old new : Stored) (r : Register) (u : Update) (v w : View) (rest : List View) → updated u v rest ≡ Ok w
    → HasUpdated in_place i source old new r (Some w) → HasAnswer in_place i source old new (Ok r) (present (updated u v rest))
answered in_place i source old new r u v w rest is has = subst (λ a. HasAnswer in_place i source old new (Ok r) (present a)) (sym is) has

-- ---- the arguments of updates
module _ (c : Cells) (registers : List Register) where
  held_each : (types : List ValueType) (args : List ℕ) → AreOf types (map (value_at c registers) args) → AllByRecursion (λ a. HoldsLive c (register_at registers a)) args → AreHeldOf c types (map (register_at registers) args)
  held_each [] [] fit live = tt
  held_each [] (a ∷ args) fit live = absurd fit
  held_each (t ∷ types) [] fit live = absurd fit
  held_each (t ∷ types) (a ∷ args) fit live = (record { typed = fit.0; live = live.0 }, held_each types args fit.1 live.1)

  pub takes_update : (e : Equation) (u : Update) → update_in e.op ≡ Some u → TakesTyped c registers e → TakesUpdate c u (map (register_at registers) e.args)
  takes_update e u is t =
      let row = row_of e.op u t.types e.of is t.typed in
      record {
        of = e.of;
        types = row.types;
        row = row.row;
        held_are = held_each (e.of ∷ row.types) e.args (subst (λ ts. AreOf ts (map (value_at c registers) e.args)) row.are t.values)
            (recursion_from_All (λ a. HoldsLive c (register_at registers a)) e.args t.live);
      }

-- one argument, two, and three
one_arg : (args : List ℕ) → length args ≡ 1 → args ≡ slice_index args 0 ∷ []
one_arg [] many = absurd (omega arith)
one_arg (a ∷ []) many = refl
one_arg (a ∷ b ∷ args) many = absurd (omega arith)

pub two_args : (args : List ℕ) → length args ≡ 2 → args ≡ slice_index args 0 ∷ slice_index args 1 ∷ []
two_args [] many = absurd (omega arith)
two_args (a ∷ []) many = absurd (omega arith)
two_args (a ∷ b ∷ []) many = refl
two_args (a ∷ b ∷ x ∷ args) many = absurd (omega arith)

pub three_args : (args : List ℕ) → length args ≡ 3 → args ≡ slice_index args 0 ∷ slice_index args 1 ∷ slice_index args 2 ∷ []
three_args [] many = absurd (omega arith)
three_args (a ∷ []) many = absurd (omega arith)
three_args (a ∷ b ∷ []) many = absurd (omega arith)
three_args (a ∷ b ∷ x ∷ []) many = refl
three_args (a ∷ b ∷ x ∷ y ∷ args) many = absurd (omega arith)

module _ (c : Cells) (registers : List Register) (args : List ℕ) (u w : Update) (is : u ≡ w) (many : length args ≡ suc (beside u)) where
  -- what an update takes, and what it makes, of one argument, of two, and of three
  pub takes_one : beside w ≡ 0 → TakesUpdate c u (map (register_at registers) args) → TakesUpdate c w (register_at registers (slice_index args 0) ∷ [])
  takes_one none takes =
      subst (λ x. TakesUpdate c x (register_at registers (slice_index args 0) ∷ [])) is
      (subst (λ xs. TakesUpdate c u (map (register_at registers) xs)) (one_arg args (many ∙ ap suc (ap beside is ∙ none))) takes)

  pub answers_one : beside w ≡ 0 → (in_place : Bool) (i : ℕ) (old new : Stored) (r : Result Register EvalFault)
      → HasAnswer in_place i (register_at registers (slice_index args 0)) old new r (update_answer w (value_at c registers (slice_index args 0) ∷ []))
      → HasAnswer in_place i (source_of registers args) old new r (update_answer u (map (value_at c registers) args))
  answers_one none in_place i old new r has =
      subst (λ xs. HasAnswer in_place i (source_of registers xs) old new r (update_answer u (map (value_at c registers) xs))) (sym (one_arg args (many ∙ ap suc (ap beside is ∙ none))))
      (subst (λ x. HasAnswer in_place i (register_at registers (slice_index args 0)) old new r (update_answer x (value_at c registers (slice_index args 0) ∷ []))) (sym is) has)

  pub takes_two : beside w ≡ 1 → TakesUpdate c u (map (register_at registers) args) → TakesUpdate c w (register_at registers (slice_index args 0) ∷ register_at registers (slice_index args 1) ∷ [])
  takes_two one takes =
      subst (λ x. TakesUpdate c x (register_at registers (slice_index args 0) ∷ register_at registers (slice_index args 1) ∷ [])) is
      (subst (λ xs. TakesUpdate c u (map (register_at registers) xs)) (two_args args (many ∙ ap suc (ap beside is ∙ one))) takes)

  pub answers_two : beside w ≡ 1 → (in_place : Bool) (i : ℕ) (old new : Stored) (r : Result Register EvalFault)
      → HasAnswer in_place i (register_at registers (slice_index args 0)) old new r (update_answer w (value_at c registers (slice_index args 0) ∷ value_at c registers (slice_index args 1) ∷ []))
      → HasAnswer in_place i (source_of registers args) old new r (update_answer u (map (value_at c registers) args))
  answers_two one in_place i old new r has =
      subst (λ xs. HasAnswer in_place i (source_of registers xs) old new r (update_answer u (map (value_at c registers) xs))) (sym (two_args args (many ∙ ap suc (ap beside is ∙ one))))
      (subst (λ x. HasAnswer in_place i (register_at registers (slice_index args 0)) old new r (update_answer x (value_at c registers (slice_index args 0) ∷ value_at c registers (slice_index args 1) ∷ []))) (sym is) has)

  pub takes_three : beside w ≡ 2 → TakesUpdate c u (map (register_at registers) args) → TakesUpdate c w (register_at registers (slice_index args 0) ∷ register_at registers (slice_index args 1) ∷ register_at registers (slice_index args 2) ∷ [])
  takes_three two takes =
      subst (λ x. TakesUpdate c x (register_at registers (slice_index args 0) ∷ register_at registers (slice_index args 1) ∷ register_at registers (slice_index args 2) ∷ [])) is
      (subst (λ xs. TakesUpdate c u (map (register_at registers) xs)) (three_args args (many ∙ ap suc (ap beside is ∙ two))) takes)

  pub answers_three : beside w ≡ 2 → (in_place : Bool) (i : ℕ) (old new : Stored) (r : Result Register EvalFault)
      → HasAnswer in_place i (register_at registers (slice_index args 0)) old new r (update_answer w (value_at c registers (slice_index args 0) ∷ value_at c registers (slice_index args 1) ∷ value_at c registers (slice_index args 2) ∷ []))
      → HasAnswer in_place i (source_of registers args) old new r (update_answer u (map (value_at c registers) args))
  answers_three two in_place i old new r has =
      subst (λ xs. HasAnswer in_place i (source_of registers xs) old new r (update_answer u (map (value_at c registers) xs))) (sym (three_args args (many ∙ ap suc (ap beside is ∙ two))))
      (subst (λ x. HasAnswer in_place i (register_at registers (slice_index args 0)) old new r (update_answer x (value_at c registers (slice_index args 0) ∷ value_at c registers (slice_index args 1) ∷ value_at c registers (slice_index args 2) ∷ []))) (sym is) has)

-- a run's answer at two registers, and at three, is one at the arguments
module _ {E : Type 0} (c : Cells) (registers : List Register) (args : List ℕ) (u w : Update) (is : u ≡ w) (many : length args ≡ suc (beside u)) (in_place : Bool) (i : ℕ) (old new : Stored) (a b : Register) (a_is : a ≡ register_at registers (slice_index args 0)) (b_is : b ≡ register_at registers (slice_index args 1)) where
  pub made_two : beside w ≡ 1 → (result : Result (Option ℕ) E) → IfOk result (λ h. HasAnswer in_place i a old new (Ok (register_of h)) (update_answer w (held c a ∷ held c b ∷ [])))
      → IfOk result (λ h. HasAnswer in_place i (source_of registers args) old new (Ok (register_of h)) (update_answer u (map (value_at c registers) args)))
  made_two one (Ok h) has =
      answers_two c registers args u w is many one in_place i old new (Ok (register_of h))
      (subst (λ x. HasAnswer in_place i x old new (Ok (register_of h)) (update_answer w (held c x ∷ value_at c registers (slice_index args 1) ∷ []))) a_is
      (subst (λ y. HasAnswer in_place i a old new (Ok (register_of h)) (update_answer w (held c a ∷ held c y ∷ []))) b_is has))
  made_two one (Err e) has = tt

  pub made_three : beside w ≡ 2 → (x : Register) → x ≡ register_at registers (slice_index args 2) → (result : Result (Option ℕ) E) → IfOk result (λ h. HasAnswer in_place i a old new (Ok (register_of h)) (update_answer w (held c a ∷ held c b ∷ held c x ∷ [])))
      → IfOk result (λ h. HasAnswer in_place i (source_of registers args) old new (Ok (register_of h)) (update_answer u (map (value_at c registers) args)))
  made_three two x x_is (Ok h) has =
      answers_three c registers args u w is many two in_place i old new (Ok (register_of h))
      (subst (λ y. HasAnswer in_place i y old new (Ok (register_of h)) (update_answer w (held c y ∷ value_at c registers (slice_index args 1) ∷ value_at c registers (slice_index args 2) ∷ []))) a_is
      (subst (λ y. HasAnswer in_place i a old new (Ok (register_of h)) (update_answer w (held c a ∷ held c y ∷ value_at c registers (slice_index args 2) ∷ []))) b_is
      (subst (λ y. HasAnswer in_place i a old new (Ok (register_of h)) (update_answer w (held c a ∷ held c b ∷ held c y ∷ []))) x_is has)))
  made_three two x x_is (Err e) has = tt

-- and at one register
pub made_one : (c : Cells) (registers : List Register) (args : List ℕ) (u w : Update) → u ≡ w → length args ≡ suc (beside u) → (in_place : Bool) (i : ℕ) (old new : Stored) (a : Register) → a ≡ register_at registers (slice_index args 0) → beside w ≡ 0
    → (r : Result Register EvalFault) → HasAnswer in_place i a old new r (update_answer w (held c a ∷ [])) → HasAnswer in_place i (source_of registers args) old new r (update_answer u (map (value_at c registers) args))
made_one c registers args u w is many in_place i old new a a_is none r has =
    answers_one c registers args u w is many none in_place i old new r
    (subst (λ x. HasAnswer in_place i x old new r (update_answer w (held c x ∷ []))) a_is has)

-- the two that take a key out
pub is_removal : (u : Update) → (u ≡ update.SetRemove) ⊎ (u ≡ update.MapRemove) → IsRemoval u
is_removal u (inl is) = subst (λ w. IsRemoval w) (sym is) tt
is_removal u (inr is) = subst (λ w. IsRemoval w) (sym is) tt

pub removal_beside : (u : Update) → (u ≡ update.SetRemove) ⊎ (u ≡ update.MapRemove) → beside u ≡ 1
removal_beside u (inl is) = ap beside is
removal_beside u (inr is) = ap beside is

-- what is in the registers fits, where an update runs on them
module _ (c : Cells) (a k : Register) (h : ℕ) (key : Scalar) (a_is : register.Aggregate h ≡ a) (k_is : register.Scalar key ≡ k) where
  pub removed_key_fits : (u : Update) → IsRemoval u → TakesUpdate c u (a ∷ k ∷ []) → FitsKey (view_at c h) key
  removed_key_fits u one takes =
      let of_key = subst (λ y. TakesUpdate c u (a ∷ y ∷ [])) (sym k_is) takes in
      (removes_from c u h key one (subst (λ x. TakesUpdate c u (x ∷ register.Scalar key ∷ [])) (sym a_is) of_key)).key_fits

  pub entry_fits : (x : Register) (value : Scalar) → register.Scalar value ≡ x → TakesUpdate c update.MapAdd (a ∷ k ∷ x ∷ []) → Adds update.MapAdd (view_at c h) key value (Plain key ∷ Plain value ∷ [])
  entry_fits x value x_is takes =
      let of_value = subst (λ z. TakesUpdate c update.MapAdd (a ∷ k ∷ z ∷ [])) (sym x_is) takes in
      let of_key = subst (λ y. TakesUpdate c update.MapAdd (a ∷ y ∷ register.Scalar value ∷ [])) (sym k_is) of_value in
      adds_to_map c h key value (subst (λ y. TakesUpdate c update.MapAdd (y ∷ register.Scalar key ∷ register.Scalar value ∷ [])) (sym a_is) of_key)

  pub element_fits : TakesUpdate c update.QueueAdd (a ∷ k ∷ []) → Enqueues (view_at c h) key
  element_fits takes =
      let of_key = subst (λ y. TakesUpdate c update.QueueAdd (a ∷ y ∷ [])) (sym k_is) takes in
      adds_to_queue c h key (subst (λ x. TakesUpdate c update.QueueAdd (x ∷ register.Scalar key ∷ [])) (sym a_is) of_key)

pub front_fits : (c : Cells) (a : Register) (h : ℕ) → register.Aggregate h ≡ a → TakesUpdate c update.QueueTake (a ∷ []) → Dequeues (view_at c h)
front_fits c a h a_is takes = takes_of_queue c h (subst (λ x. TakesUpdate c update.QueueTake (x ∷ [])) (sym a_is) takes)
