-- The body of the tests can be evaluated.
use Rattle.std.proofs.Common.{◌≡◌, ℕ, ◌<◌, List, [], ◌∷◌, length, ℤ, pos, refl, sym, subst, lit<}
use Rattle.std.specs.Prelude.{slice_index_or}
use Rattle.std.proofs.lemmas.List.Elements.{All-from_recursion}
use Rattle.tsl_value.specs.declared.scalar.Scalar.TheVariants as scalar
use Rattle.tsl_value.specs.declared.scalar.ScalarType.TheVariants as scalar_type
use Rattle.tsl_value.specs.declared.operation.Unary.TheVariants as unary
use Rattle.tsl_value.specs.declared.operation.Binary.TheVariants as binary
use Rattle.body_eval.specs.declared.register.Register.{Register}
use Rattle.body_eval.specs.declared.register.Register.TheVariants as register
use Rattle.cell_reader.specs.inner.Cells.{Cells}
use Rattle.body_eval.specs.inner.Registers.{HoldsLive}
use Rattle.body_eval.specs.inner.Evaluable.{IsEvaluable}
use Rattle.lift_func.specs.BodyTree.{BodyTree, Literal, Argument, One, Two}
use Rattle.lift_func.specs.Typing.{plain, neg, literal, argument, arithmetic, one, two}

abbrev quotient : BodyTree
quotient = One unary.Neg (Two binary.Div (Literal (scalar.Int (pos 12))) (Argument 0))

abbrev of_one : ℤ → List Register
of_one n = register.Scalar (scalar.Int n) ∷ []

at_one : (cells : Cells) (n : ℤ) → IsEvaluable cells (of_one n) (0 ∷ []) quotient
at_one cells n = record {
  body = record {
    kinds = plain scalar_type.Int ∷ [];
    kind = plain scalar_type.Int;
    named = All-from_recursion (λ a. a < length (of_one n)) (0 ∷ []) (lit< tt, tt);
    live = All-from_recursion (λ a. HoldsLive cells (slice_index_or (of_one n) a register.Empty)) (0 ∷ []) (tt, tt);
    fit = (refl, tt);
    typed = one (two (literal refl) (argument refl) (arithmetic refl)) neg;
  };
  scalar = tt;
}

pub quotient_evaluable : (cells : Cells) (registers : List Register) (args : List ℕ) (tree : BodyTree) (n : ℤ) → registers ≡ of_one n → args ≡ 0 ∷ [] → tree ≡ quotient → IsEvaluable cells registers args tree
quotient_evaluable cells registers args tree n rs as_zero is =
    subst (λ (t : BodyTree). IsEvaluable cells registers args t) (sym is)
    (subst (λ (a : List ℕ). IsEvaluable cells registers a quotient) (sym as_zero)
    (subst (λ (r : List Register). IsEvaluable cells r (0 ∷ []) quotient) (sym rs) (at_one cells n)))
