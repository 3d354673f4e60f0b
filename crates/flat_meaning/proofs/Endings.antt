-- The last equation of a construct is of the construct's type.
use Rattle.std.proofs.Common.{◌≡◌, ℕ, List, [], ◌∷◌, ◌++◌, length, Some, refl, sym, subst}
use Rattle.std.specs.Prelude.{slice_get}
use Rattle.tsl_value.specs.declared.place.Place.{Place}
use Rattle.tsl_value.specs.declared.scalar.ValueType.{ValueType}
use Rattle.flat_core.specs.declared.equation.Equation.{Equation}
use Rattle.flat_core.specs.System.{System}
use Rattle.flat_core.specs.TypedSystem.{IsOfType}
use Rattle.stream_constructs.specs.declared.construct.Stream.{Stream}
use Rattle.stream_constructs.specs.Construct.{Construct, Operand}
use Rattle.stream_constructs.specs.Construct as construct
use Rattle.stream_constructs.specs.Equations.{lifting, lifted_streams, literal_equations, first_number, held, own_equations, choice_equations}
use Rattle.stream_constructs.specs.Agree.{Fits, last_number}
use Rattle.stream_constructs.proofs.Making.{last_of_push}
use Rattle.flat_meaning.proofs.Plain.{plain, unnamed, Within}

-- the last of some equations is of this type
pub record EndsWith (own : List Equation) (of : ValueType) : Type 0 where
  pub front : List Equation
  pub last : Equation
  pub is : own ≡ front ++ last ∷ []
  pub of_is : last.of ≡ of

ends : (front : List Equation) (last : Equation) {of : ValueType} → last.of ≡ of → EndsWith (front ++ last ∷ []) of
ends front last of_is = record { front = front; last = last; is = refl; of_is = of_is }

pub own_ends : (p : Place) (of : ValueType) (n : ℕ) (c : Construct) (parts : List Stream) → Fits c parts of → EndsWith (own_equations p of n c parts) of
own_ends p of n construct.Nil [] fits = ends [] _ refl
own_ends p of n construct.Unit [] fits = ends [] _ (sym fits)
own_ends p of n (construct.Literal s) [] fits = ends (_ ∷ []) _ (sym fits)
own_ends p of n (construct.Empty t) [] fits = ends [] _ (sym fits.0)
own_ends p of n construct.Time (a ∷ []) fits = ends [] _ (sym fits)
own_ends p of n construct.Last (v ∷ r ∷ []) fits = ends [] _ (sym fits)
own_ends p of n construct.Delay (d ∷ r ∷ x ∷ []) fits = ends [] _ (sym fits.0)
own_ends p of n construct.Merge (a ∷ b ∷ []) fits = ends [] _ (sym fits.0)
own_ends p of n (construct.Const s) (a ∷ []) fits = ends [] _ (sym fits)
own_ends p of n construct.Filter (e ∷ c ∷ []) fits = ends (held p n e.id c) _ (sym fits.0)
own_ends p of n (construct.FilterBy b) (e ∷ []) fits = ends (_ ∷ []) _ (sym fits)
own_ends p of n (construct.Lift f) parts fits = ends [] _ refl
own_ends p of n (construct.Signal f) [] fits = ends (_ ∷ []) _ refl
own_ends p of n (construct.Signal f) (a ∷ parts) fits = ends (lifting p n (a ∷ parts)) _ refl
own_ends p of n (construct.Update o os) parts fits = ends (lifting p n parts ++ literal_equations p (first_number (lifted_streams n parts)) os) _ refl
own_ends p of n c parts fits = absurd fits

pub choice_ends : (p : Place) (of : ValueType) (n : ℕ) (os : List Operand) (parts : List Stream) → EndsWith (choice_equations p of n os parts) of
choice_ends p of n os parts = ends (lifting p n parts ++ literal_equations p (first_number (lifted_streams n parts)) os) _ refl

-- where they stand in a system, it has this type there
pub ends_there : (s : System) (n : ℕ) (own : List Equation) (of : ValueType) → EndsWith own of → Within s n own → IsOfType (plain s).equations (last_number n own) of
ends_there s n own of e within =
    let there = subst (Within s n) e.is within in
    let number = last_of_push n e.front e.last in
    subst (λ xs. IsOfType (plain s).equations (last_number n xs) of) (sym e.is)
    (subst (λ i. IsOfType (plain s).equations i of) (sym number) (record { at = unnamed e.last; is = there (length e.front) e.last (last_is e.front e.last); of_is = e.of_is }))
  where
    last_is : (front : List Equation) (last : Equation) → slice_get (front ++ last ∷ []) (length front) ≡ Some last
    last_is [] last = refl
    last_is (d ∷ front) last = last_is front last
