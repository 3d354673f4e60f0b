-- What a body that reads an aggregate gives, where the aggregate is in a register and the key at hand.
use Rattle.std.proofs.Common.{◌≡◌, ℕ, Bool, true, List, Option, Some, None, Result, Ok, Err, Bor, ℤ, pos, refl, sym, ap, subst, ◌∙◌}
use Rattle.std.specs.Prelude.{All, IfSome, is_some, slice_index_or}
use Rattle.std.specs.Option.{option_copied, option_map}
use Rattle.std.specs.Result.{result_ok}
use Rattle.tsl_value.specs.View.{Plain}
use Rattle.tsl_value.specs.declared.scalar.Scalar.{Scalar}
use Rattle.tsl_value.specs.declared.scalar.Scalar.TheVariants as scalar
use Rattle.tsl_value.specs.declared.operation.Unary.TheVariants as unary
use Rattle.tsl_value.specs.declared.operation.Binary.{Binary}
use Rattle.tsl_value.specs.declared.operation.Binary.TheVariants as binary
use Rattle.lift_func.specs.declared.fault.FaultKind.{FaultKind}
use Rattle.body_eval.specs.declared.register.Register.{Register}
use Rattle.body_eval.specs.declared.register.Register.TheVariants as register
use Rattle.lift_func.specs.Apply.{apply, and_then, at_key, bool, both, contained, found, int, of_one}
use Rattle.lift_func.specs.BodyTree.{BodyTree, One, Two}
use Rattle.tsl_value.specs.Aggregate.{size_of}
use Rattle.body_eval.specs.inner.Answered.{IsInt}
use Rattle.cell_reader.specs.inner.Cells.{Cells, IsLive, has_key, value_at, view_at}
use Rattle.body_eval.specs.inner.Registers.{HoldsLive, arguments, held}
use Rattle.body_eval.specs.inner.Evaluable.{CanRead, IsHeld, IsTypedAt, is_read}
use Rattle.body_eval.proofs.CellReads.{at_key_is, contained_is, map_has, size_is}
use Rattle.body_eval.proofs.Evaluation.{reads}

copied_is : (seen : Option (Bor Scalar)) → is_some (option_copied seen) ≡ is_some seen
copied_is None = refl
copied_is (Some s) = refl

module _ (cells : Cells) (registers : List Register) (args : List ℕ) where
  abbrev AreLive : Type 0
  AreLive = All (λ a. HoldsLive cells (slice_index_or registers a register.Empty)) args

  -- a body names a register that names a cell
  module _ (a : BodyTree) (handle : ℕ) (r : Register) (is : r ≡ register.Aggregate handle) (value : apply a (arguments cells registers args) ≡ Ok (held cells r)) (live : AreLive → HoldsLive cells r) where
    named : AreLive → IsHeld cells (register.Aggregate handle) (apply a (arguments cells registers args))
    named all = subst (λ (r : Register). IsHeld cells r (apply a (arguments cells registers args))) is (value, live all)

    pub cell_lives : AreLive → IsLive cells handle
    cell_lives all = (named all).1.0

    pub cell_size : AreLive → (r : Result ℤ FaultKind) → IsInt r (int (pos (size_of (view_at cells handle)))) → (n : Option ℤ) → n ≡ result_ok r → IfSome n (λ n. apply (One unary.Size a) (arguments cells registers args) ≡ Ok (Some (Plain (scalar.Int n))))
    cell_size all (Ok z) h n n_is =
        subst (λ (n : Option ℤ). IfSome n (λ n. apply (One unary.Size a) (arguments cells registers args) ≡ Ok (Some (Plain (scalar.Int n))))) (sym n_is)
        ((λ k. and_then ((named all).0 k) (of_one unary.Size)) ∙ size_is (view_at cells handle) (named all).1.1 ∙ h)
    cell_size all (Err kind) h n n_is =
        subst (λ (n : Option ℤ). IfSome n (λ n. apply (One unary.Size a) (arguments cells registers args) ≡ Ok (Some (Plain (scalar.Int n))))) (sym n_is) tt

    -- and another one is a key
    module _ (b : BodyTree) (key : Scalar) (second : apply b (arguments cells registers args) ≡ Ok (Some (Plain key))) where
      pub cell_reads : (o : Binary) → is_read o ≡ true → IsTypedAt cells registers args (Two o a b) → CanRead cells o (register.Aggregate handle) (register.Scalar key)
      cell_reads o read t =
          reads cells registers args o a b t (register.Aggregate handle) (named t.live) read (register.Scalar key) (second, tt)

      pub cell_contains : IsTypedAt cells registers args (Two binary.Contains a b) → (is_there : Bool) → is_there ≡ has_key (view_at cells handle) key → apply (Two binary.Contains a b) (arguments cells registers args) ≡ Ok (Some (Plain (scalar.Bool is_there)))
      cell_contains t is_there h =
          (λ k. both contained ((named t.live).0 k) (second k))
          ∙ contained_is (view_at cells handle) key (cell_reads binary.Contains refl t)
          ∙ ap bool (sym h)

      -- what a map has at the key tells whether the key is there
      pub cell_asked : IsTypedAt cells registers args (Two binary.Get a b) → (seen : Option (Bor Scalar)) → option_copied seen ≡ value_at (view_at cells handle) key → apply (Two binary.Contains a b) (arguments cells registers args) ≡ Ok (Some (Plain (scalar.Bool (is_some seen))))
      cell_asked t seen h =
          let can = cell_reads binary.Get refl t in
          (λ k. both contained ((named t.live).0 k) (second k))
          ∙ contained_is (view_at cells handle) key can.1
          ∙ ap bool (map_has (view_at cells handle) key can.0 ∙ ap is_some (sym h) ∙ copied_is seen)

      pub cell_found : IsTypedAt cells registers args (Two binary.Get a b) → (seen : Option (Bor Scalar)) → option_copied seen ≡ value_at (view_at cells handle) key → IfSome seen (λ s. apply (Two binary.Get a b) (arguments cells registers args) ≡ Ok (Some (Plain s.now)))
      cell_found t None h = tt
      cell_found t (Some s) h =
          (λ k. both at_key ((named t.live).0 k) (second k))
          ∙ at_key_is (view_at cells handle) key (cell_reads binary.Get refl t).0
          ∙ ap (λ v. found (option_map Plain v)) (sym h)
