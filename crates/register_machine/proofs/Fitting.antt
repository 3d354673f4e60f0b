-- What the typing of a system says of arity and of aggregates.
use Rattle.std.specs.List.{AllByRecursion}
use Rattle.std.proofs.Common.{◌≡◌, ℕ, false, List, [], ◌∷◌, Option, Some, None, refl, sym, ap, subst, ◌∙◌, map}
use Rattle.tsl_value.specs.declared.scalar.ValueType.{ValueType}
use Rattle.tsl_value.specs.declared.scalar.ValueType.TheVariants as value_type
use Rattle.flat_core.specs.declared.equation.Op.{Op}
use Rattle.flat_core.specs.declared.equation.Equation.{Equation}
use Rattle.flat_core.specs.System.{System, equation}
use Rattle.tsl_value.specs.Aggregate.{is_aggregate}
use Rattle.flat_core.specs.Typed.{IsTyped, unit_type, int_type, bool_type, input, nil, unit, empty, time, any, last, delay, merge, filter, pick, update, lift}
use Rattle.flat_core.specs.declared.equation.Op.TheVariants as op
use Rattle.register_machine.proofs.Setting.{Fit, fit_update, aggregate}
use Rattle.lift_func.proofs.Updates.{updates_aggregate, beside_scalars}
use Rattle.register_machine.specs.Stands.{is_aggregate_at}

abbrev pub type_of : Option Equation → ValueType
type_of None = unit_type
type_of (Some e) = e.of

abbrev pub type_at : System → ℕ → ValueType
type_at s a = type_of (equation s a)

aggregate_type : (q : Option Equation) → is_aggregate_at q ≡ is_aggregate (type_of q)
aggregate_type None = refl
aggregate_type (Some e) = refl

head_same : {A : Type 0} {x y : A} {xs ys : List A} → x ∷ xs ≡ y ∷ ys → x ≡ y
head_same e = cc

tail_same : {A : Type 0} {x y : A} {xs ys : List A} → x ∷ xs ≡ y ∷ ys → xs ≡ ys
tail_same e = cc

nil_cons : {A : Type 0} {P : Type 0} {x : A} {xs : List A} → [] ≡ x ∷ xs → P
nil_cons e = absurd (cc)

cons_nil : {A : Type 0} {P : Type 0} {x : A} {xs : List A} → x ∷ xs ≡ [] → P
cons_nil e = absurd (cc)

module _ (s : System) where
  types : List ℕ → List ValueType
  types args = map (type_at s) args

  none : (args : List ℕ) → map (type_at s) args ≡ [] → args ≡ []
  none [] e = refl
  none (a ∷ args) e = cons_nil e

  more : (t : ValueType) (ts : List ValueType) (args : List ℕ) → map (type_at s) args ≡ t ∷ ts → (a : ℕ) × (rest : List ℕ) × (args ≡ a ∷ rest) × (type_at s a ≡ t) × (map (type_at s) rest ≡ ts)
  more t ts [] e = nil_cons e
  more t ts (a ∷ args) e = (a, args, refl, head_same e, tail_same e)

  is_of : (a : ℕ) (t : ValueType) → type_at s a ≡ t → aggregate s a ≡ is_aggregate t
  is_of a t e = aggregate_type (equation s a) ∙ ap is_aggregate e

  one : (t : ValueType) (args : List ℕ) → map (type_at s) args ≡ t ∷ [] → (a : ℕ) × (args ≡ a ∷ []) × (aggregate s a ≡ is_aggregate t)
  one t args e = let m = more t [] args e in (m.0, m.2 ∙ ap (λ l. m.0 ∷ l) (none m.1 m.4), is_of m.0 t m.3)

  two : (t u : ValueType) (args : List ℕ) → map (type_at s) args ≡ t ∷ u ∷ [] → (a : ℕ) × (b : ℕ) × (args ≡ a ∷ b ∷ []) × (aggregate s a ≡ is_aggregate t) × (aggregate s b ≡ is_aggregate u)
  two t u args e = let m = more t (u ∷ []) args e in let n = one u m.1 m.4 in (m.0, n.0, m.2 ∙ ap (λ l. m.0 ∷ l) n.1, is_of m.0 t m.3, n.2)

  three : (t u v : ValueType) (args : List ℕ) → map (type_at s) args ≡ t ∷ u ∷ v ∷ [] → (a : ℕ) × (b : ℕ) × (c : ℕ) × (args ≡ a ∷ b ∷ c ∷ []) × (aggregate s a ≡ is_aggregate t) × (aggregate s b ≡ is_aggregate u) × (aggregate s c ≡ is_aggregate v)
  three t u v args e = let m = more t (u ∷ v ∷ []) args e in let n = two u v m.1 m.4 in (m.0, n.0, n.1, m.2 ∙ ap (λ l. m.0 ∷ l) n.2, is_of m.0 t m.3, n.3, n.4)

  -- arguments of types that are none of aggregates
  scalars : (types : List ValueType) (args : List ℕ) → map (type_at s) args ≡ types → AllByRecursion (λ t. is_aggregate t ≡ false) types → AllByRecursion (λ a. aggregate s a ≡ false) args
  scalars [] args e flat = subst (AllByRecursion (λ a. aggregate s a ≡ false)) (sym (none args e)) tt
  scalars (t ∷ types) args e flat =
      let m = more t types args e in
      subst (AllByRecursion (λ a. aggregate s a ≡ false)) (sym m.2) (is_of m.0 t m.3 ∙ flat.0, scalars types m.1 m.4 flat.1)

  pub fit_from : (o : Op) (ts : List ValueType) (of : ValueType) → IsTyped o ts of → (args : List ℕ) → map (type_at s) args ≡ ts → Fit s o args of
  fit_from o ts of (input {t}) args e = subst (λ l. Fit s op.Input l (value_type.Scalar t)) (sym (none args e)) refl
  fit_from o ts of (nil {t}) args e = subst (λ l. Fit s op.Nil l t) (sym (none args e)) tt
  fit_from o ts of unit args e = subst (λ l. Fit s op.Unit l unit_type) (sym (none args e)) refl
  fit_from o ts of (empty {t} agg) args e = subst (λ l. Fit s op.Empty l t) (sym (none args e)) agg
  fit_from o ts of (time {t}) args e = subst (λ l. Fit s op.Time l int_type) (sym (one t args e).1) refl
  fit_from o ts of (any low high) args e = refl
  fit_from o ts of (last {t} {u}) args e = let m = two t u args e in subst (λ l. Fit s op.Last l t) (sym m.2) m.3
  fit_from o ts of (delay {u}) args e = let m = two int_type u args e in subst (λ l. Fit s op.Delay l unit_type) (sym m.2) (refl, m.3)
  fit_from o ts of (merge {t}) args e = let m = two t t args e in subst (λ l. Fit s op.Merge l t) (sym m.2) (m.3, m.4)
  fit_from o ts of (filter {t}) args e = let m = two t bool_type args e in subst (λ l. Fit s op.Filter l t) (sym m.2) (m.3, m.4)
  fit_from o ts of (pick {t} agg) args e = let m = three bool_type t t args e in subst (λ l. Fit s op.Pick l t) (sym m.3) (m.4, m.5, m.6)
  fit_from o ts of (update {u = u} {t = t} {ts = more_types} is row) args e =
      let m = more t more_types args e in
      subst (λ l. Fit s o l t) (sym m.2) (fit_update s o u is m.0 m.1 t (record {
        made = updates_aggregate row;
        source = is_of m.0 t m.3 ∙ updates_aggregate row;
        others = scalars more_types m.1 m.4 (beside_scalars row);
      }))
  fit_from o ts of (lift {t = t} low high kinds) args e = refl
