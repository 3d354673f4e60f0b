-- A system of two inputs, for the tests.
use Rattle.std.proofs.Common.{◌≡◌, ◌<◌, [], ◌∷◌, length, sym, ap, subst, arith}
use Rattle.std.specs.List.{AllByRecursion}
use Rattle.tsl_value.specs.declared.scalar.ScalarType.{ScalarType}
use Rattle.tsl_value.specs.declared.scalar.ValueType.TheVariants as value_type
use Rattle.flat_core.specs.declared.equation.Op.TheVariants as op
use Rattle.flat_core.specs.declared.equation.Equation.{Equation}
use Rattle.flat_core.specs.declared.equation.Output.{Output}
use Rattle.flat_core.specs.System.{System}
use Rattle.flat_core.specs.Typed.{input}
use Rattle.flat_core.specs.TypedSystem.{IsTypedEquation}
use Rattle.flat_core.specs.Complete.{HasShortBody, HaveDifferentNames, IsComplete}
use Rattle.flat_core.proofs.Finished.{typed_as, typed_from_all}

-- an input of a type
pub record IsInputOf (e : Equation) (of : ScalarType) : Type 0 where
  pub op_is : e.op ≡ op.Input
  pub args_are : e.args ≡ []
  pub of_is : e.of ≡ value_type.Scalar of

module _ (s : System) (a b : Equation) (o : Output) (a_of b_of : ScalarType) (a_is : IsInputOf a a_of) (b_is : IsInputOf b b_of) (printed : o.equation ≡ 0) (equations_are : s.equations ≡ a ∷ b ∷ []) (outputs_are : s.outputs ≡ o ∷ []) where
  typed : (e : Equation) (of : ScalarType) → IsInputOf e of → IsTypedEquation s.equations e
  typed e of is = typed_as s.equations e op.Input [] (value_type.Scalar of) [] is.op_is is.args_are is.of_is tt input

  short : (e : Equation) (of : ScalarType) → IsInputOf e of → HasShortBody e.op
  short e of is = subst HasShortBody (sym is.op_is) tt

  pub complete : IsComplete s
  complete = record {
    typed = typed_from_all s (subst (AllByRecursion (IsTypedEquation s.equations)) (sym equations_are) (typed a a_of a_is, (typed b b_of b_is, tt)));
    some_output = subst (λ os. 0 < length os) (sym outputs_are) (omega arith);
    outputs_there = subst (AllByRecursion (λ q. q.equation < length s.equations)) (sym outputs_are) (let count = ap length equations_are in omega arith, tt);
    names_differ = subst HaveDifferentNames (sym outputs_are) (tt, tt);
    short_texts = subst (AllByRecursion (λ e. HasShortBody e.op)) (sym equations_are) (short a a_of a_is, (short b b_of b_is, tt));
  }
