-- Bodies that ask whether a key is there.
use Rattle.std.proofs.Common.{◌≡◌, ℕ, zero, suc, ◌<◌, Bool, List, [], ◌∷◌, Option, Some, None, Ok, map, length, refl, sym, ap, subst, ◌∙◌, arith}
use Rattle.std.specs.List.{All}
use Rattle.std.specs.Prelude.{slice_get, slice_index_or}
use Rattle.std.proofs.lemmas.Option.{same_Some}
use Rattle.tsl_value.specs.View.{View, Plain}
use Rattle.tsl_value.specs.declared.scalar.Scalar.{Scalar}
use Rattle.tsl_value.specs.declared.scalar.Scalar.TheVariants as scalar
use Rattle.lift_func.specs.Apply.{apply, contained, of_two}
use Rattle.cell_reader.specs.inner.Cells.{Cells, FitsKey, IsLive, has_key, view_at}
use Rattle.body_eval.specs.inner.Registers.{HoldsLive, held}
use Rattle.body_eval.specs.inner.Evaluable.{CanRead, IsEvaluable, IsHeld, IsTypedAt}
use Rattle.lift_func.specs.BodyTree.{BodyTree, Two}
use Rattle.tsl_value.specs.declared.operation.Binary.TheVariants as binary
use Rattle.body_eval.specs.declared.register.Register.{Register}
use Rattle.body_eval.specs.declared.register.Register.TheVariants as register
use Rattle.body_eval.proofs.CellReads.{contained_is}
use Rattle.body_eval.proofs.Evaluation.{reads}
use Rattle.monitor_run.specs.inner.Here.{IsNamed}
use Rattle.monitor_run.specs.inner.Registers.{register_at, value_at}

found_at : (args : List ℕ) (k a : ℕ) → slice_get args k ≡ Some a → (k < length args) × (slice_index_or args k a ≡ a)
found_at [] k a is = absurd (cc)
found_at (x ∷ args) zero a is = (omega arith, same_Some x a is)
found_at (x ∷ args) (suc k) a is = let found = found_at args k a is in (omega arith, found.1)

-- what holds of all arguments does so of one
pub named_all : (P : ℕ → Type 0) (args : List ℕ) (k a : ℕ) → slice_get args k ≡ Some a → All P args → P a
named_all P args k a is all = let found = found_at args k a is in subst P found.1 (all k a found.0)

named_value : (f : ℕ → Option View) (args : List ℕ) (k a : ℕ) → slice_get args k ≡ Some a → slice_index_or (map f args) k None ≡ f a
named_value f [] k a is = absurd (cc)
named_value f (x ∷ args) zero a is = ap f (same_Some x a is)
named_value f (x ∷ args) (suc k) a is = named_value f args k a is

module _ (c : Cells) (registers : List Register) (args : List ℕ) (body first second : BodyTree) (a q handle : ℕ) (key : Scalar) (typed : IsEvaluable c registers args body) (is : body ≡ Two binary.Contains first second) (first_is : IsNamed first args a) (second_is : IsNamed second args q)
    (aggregate : register.Aggregate handle ≡ register_at registers a) (scalar_is : register.Scalar key ≡ register_at registers q) where
  gives : (tree : BodyTree) (n : ℕ) → IsNamed tree args n → IsHeld c (register_at registers n) (apply tree (map (value_at c registers) args))
  gives tree n named = (
    ap (λ t. apply t (map (value_at c registers) args)) named.1 ∙ ap Ok (named_value (value_at c registers) args named.0 n named.2),
    named_all (λ a. HoldsLive c (register_at registers a)) args named.0 n named.2 typed.body.live,
  )

  can_read : CanRead c binary.Contains (register.Aggregate handle) (register.Scalar key)
  can_read =
      subst (λ r. CanRead c binary.Contains r (register.Scalar key)) (sym aggregate)
      (subst (CanRead c binary.Contains (register_at registers a)) (sym scalar_is)
      (reads c registers args binary.Contains first second (subst (IsTypedAt c registers args) is typed.body) (register_at registers a) (gives first a first_is) refl (register_at registers q) (gives second q second_is)))

  pub asked_live : IsLive c handle
  asked_live = (subst (HoldsLive c) (sym aggregate) (gives first a first_is).1).0

  pub asked_fits : FitsKey (view_at c handle) key
  asked_fits = can_read

  pub asked_is : (b : Bool) → b ≡ has_key (view_at c handle) key → apply body (map (value_at c registers) args) ≡ Ok (Some (Plain (scalar.Bool b)))
  asked_is b same =
      ap (λ t. apply t (map (value_at c registers) args)) is
      ∙ (λ k. of_two binary.Contains ((gives first a first_is).0 k) ((gives second q second_is).0 k))
      ∙ (λ k. contained (held c (sym aggregate k)) (held c (sym scalar_is k)))
      ∙ contained_is (view_at c handle) key can_read
      ∙ ap (λ x. Ok (Some (Plain (scalar.Bool x)))) (sym same)
