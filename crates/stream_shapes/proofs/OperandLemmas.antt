-- Literals and streams as the operands of a construct.
use Rattle.std.proofs.Common.{◌≡◌, ℕ, suc, ◌+◌, ◌<◌, List, [], ◌∷◌, ◌++◌, map, length, drop, get_or, Option, Some, None, refl, sym, ap, ◌∙◌, append_assoc, length-drop, arith}
use Rattle.tsl_value.specs.declared.scalar.Scalar.{Scalar}
use Rattle.spec_meaning.specs.Shape.{operand}
use Rattle.stream_constructs.specs.declared.construct.Stream.{Stream}
use Rattle.stream_constructs.specs.declared.construct.Operand.{Operand}
use Rattle.stream_constructs.specs.declared.construct.Operand.TheVariants as given
use Rattle.stream_constructs.specs.Made.{operands_of, varying_of, varying_count}
use Rattle.std.proofs.lemmas.List.{append-nil}
use Rattle.tsl_value.proofs.Lists.{left_at}

operands_of-append : (xs ys : List Operand) → operands_of (xs ++ ys) ≡ operands_of xs ++ operands_of ys
operands_of-append [] ys = refl
operands_of-append (given.Fixed s ∷ xs) ys = ap (λ os. operand (Some s) ∷ os) (operands_of-append xs ys)
operands_of-append (given.Varying a ∷ xs) ys = ap (λ os. operand None ∷ os) (operands_of-append xs ys)

varying_of-append : (xs ys : List Operand) → varying_of (xs ++ ys) ≡ varying_of xs ++ varying_of ys
varying_of-append [] ys = refl
varying_of-append (given.Fixed s ∷ xs) ys = varying_of-append xs ys
varying_of-append (given.Varying a ∷ xs) ys = ap (λ os. a ∷ os) (varying_of-append xs ys)

-- What is put together so far, and what is left: the literals after it, and the streams from a number on.
pub record AreGiven (literals : List (Option Scalar)) (streams : List Stream) (found : List Operand) (rest : List (Option Scalar)) (next : ℕ) : Type 0 where
  pub operands_are : operands_of found ++ map operand rest ≡ map operand literals
  pub streams_are : varying_of found ++ drop next streams ≡ streams
  pub count_is : varying_count (map operand rest) ≡ length (drop next streams)

-- a literal more
pub given_fixed : (literals : List (Option Scalar)) (streams : List Stream) (found more : List Operand) (rest tail : List (Option Scalar)) (next : ℕ) (o : Option Scalar) (s : Scalar) → AreGiven literals streams found rest next → rest ≡ o ∷ tail → o ≡ Some s → more ≡ found ++ given.Fixed s ∷ [] → AreGiven literals streams more tail next
given_fixed literals streams found more rest tail next o s h left is added =
    let here : rest ≡ Some s ∷ tail = cc in
    record {
      operands_are =
          ap (λ os. operands_of os ++ map operand tail) added
          ∙ ap (λ os. os ++ map operand tail) (operands_of-append found (given.Fixed s ∷ []))
          ∙ append_assoc (operands_of found) (operand (Some s) ∷ []) (map operand tail)
          ∙ ap (λ os. operands_of found ++ map operand os) (sym here)
          ∙ h.operands_are;
      streams_are =
          ap (λ os. varying_of os ++ drop next streams) added
          ∙ ap (λ os. os ++ drop next streams) (varying_of-append found (given.Fixed s ∷ []) ∙ append-nil (varying_of found))
          ∙ h.streams_are;
      count_is = ap (λ os. varying_count (map operand os)) (sym here) ∙ h.count_is;
    }

-- a stream more
pub given_varying : (literals : List (Option Scalar)) (streams : List Stream) (found more : List Operand) (rest tail : List (Option Scalar)) (next : ℕ) (o : Option Scalar) (a : Stream) → AreGiven literals streams found rest next → rest ≡ o ∷ tail → o ≡ None → a ≡ get_or streams next a → more ≡ found ++ given.Varying a ∷ [] → AreGiven literals streams more tail (next + 1)
given_varying literals streams found more rest tail next o a h left is read added =
    let here : rest ≡ None ∷ tail = cc in
    let some : suc (varying_count (map operand tail)) ≡ length (drop next streams) = ap (λ os. varying_count (map operand os)) (sym here) ∙ h.count_is in
    let lt : next < length streams = omega (arith, length-drop next streams) in
    let item : drop next streams ≡ a ∷ drop (next + 1) streams = left_at streams next a lt read in
    let count : suc (varying_count (map operand tail)) ≡ suc (length (drop (next + 1) streams)) = some ∙ ap length item in
    record {
      operands_are =
          ap (λ os. operands_of os ++ map operand tail) added
          ∙ ap (λ os. os ++ map operand tail) (operands_of-append found (given.Varying a ∷ []))
          ∙ append_assoc (operands_of found) (operand None ∷ []) (map operand tail)
          ∙ ap (λ os. operands_of found ++ map operand os) (sym here)
          ∙ h.operands_are;
      streams_are =
          ap (λ os. varying_of os ++ drop (next + 1) streams) added
          ∙ ap (λ os. os ++ drop (next + 1) streams) (varying_of-append found (given.Varying a ∷ []))
          ∙ append_assoc (varying_of found) (a ∷ []) (drop (next + 1) streams)
          ∙ ap (λ os. varying_of found ++ os) (sym item)
          ∙ h.streams_are;
      count_is = omega (arith, count);
    }
