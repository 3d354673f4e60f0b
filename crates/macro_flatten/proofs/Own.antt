-- The equations of an expression besides those of its parts, where it is a choice between sets or maps.
use Rattle.std.proofs.Common.{◌≡◌, ◌==◌, ℕ, true, false, not, ◌&&◌, List, ◌++◌, map, length, Option, ap, sym, subst, ◌∙◌}
use Rattle.std.specs.Prelude.{Result, if◌then◌else◌, IfOk, OnOk, IfErr}
use Rattle.std.proofs.lemmas.List.{length-map}
use Rattle.tsl_value.specs.declared.place.Place.{Place}
use Rattle.tsl_value.specs.declared.scalar.Scalar.{Scalar}
use Rattle.tsl_value.specs.declared.scalar.ValueType.{ValueType}
use Rattle.flat_core.specs.declared.equation.Equation.{Equation}
use Rattle.flat_core.specs.System.{System}
use Rattle.tsl_value.specs.Aggregate.{is_aggregate}
use Rattle.syntax_tree.specs.Tree as tree
use Rattle.syntax_tree.specs.Tree.{Expr, place_of}
use Rattle.stream_constructs.specs.declared.construct.Stream.{Stream}
use Rattle.stream_constructs.specs.declared.maker.MakeFault.{MakeFault}
use Rattle.stream_constructs.specs.Construct.{Construct}
use Rattle.stream_constructs.specs.Equations.{choice_equations, own_equations}
use Rattle.stream_constructs.specs.Limits.{IsRefusal}
use Rattle.stream_constructs.specs.Made.{stream_of, with_equations}
use Rattle.spec_meaning.specs.Shape.{operand}
use Rattle.spec_meaning.specs.Makes.{choice_operands, is_choice, with_itself}
use Rattle.macro_flatten.specs.inner.Own.{own_of}

-- ---- choices
-- a choice has operands, and nothing else has
choice_counted : (e : Expr) (n : ℕ) → n ≡ length (choice_operands e) → is_choice e ≡ not (n == 0)
choice_counted (tree.If p c a b) n h = ap (λ m. not (m == 0)) (sym h)
choice_counted e n h = ap (λ m. not (m == 0)) (sym h)

-- it is one between sets or maps
pub chosen : (e : Expr) (of : ValueType) (os : List (Option Scalar)) (n : ℕ) → map operand os ≡ choice_operands e → n ≡ length os → (n == 0) ≡ false → is_aggregate of ≡ true → (is_choice e && is_aggregate of) ≡ true
chosen e of os n are long some holds =
    let choice = choice_counted e n (long ∙ sym (length-map os operand) ∙ ap length are) ∙ ap not some in
    λ i. choice i && holds i

-- its equations, as they are made
pub chosen_own : (e : Expr) (p : Place) (of : ValueType) (n : ℕ) (c : Construct) (parts : List Stream) (os : List (Option Scalar)) → p ≡ place_of e → map operand os ≡ choice_operands e → (is_choice e && is_aggregate of) ≡ true → choice_equations p of n (map operand os) parts ≡ own_of e of n c parts
chosen_own e p of n c parts os place_is are is =
    (λ i. choice_equations (place_is i) of n (are i) parts)
    ∙ sym (λ i. if is i then choice_equations (place_of e) of n (choice_operands e) parts else own_equations (place_of e) of n c (with_itself c n parts))

-- ---- answers for equal equations
module _ (old new : System) (of : ValueType) (result : Result Stream MakeFault) (es fs : List Equation) (same : es ≡ fs) where
  pub made_same : OnOk result (new ≡ with_equations old es) → OnOk result (new ≡ with_equations old fs)
  made_same h = subst (λ xs. OnOk result (new ≡ with_equations old xs)) same h

  pub stream_same : IfOk result (λ s. s ≡ stream_of old es of) → IfOk result (λ s. s ≡ stream_of old fs of)
  stream_same h = subst (λ xs. IfOk result (λ s. s ≡ stream_of old xs of)) same h

  pub refused_same : IfErr result (IsRefusal (old.equations ++ es)) → IfErr result (IsRefusal (old.equations ++ fs))
  refused_same h = subst (λ xs. IfErr result (IsRefusal (old.equations ++ xs))) same h
