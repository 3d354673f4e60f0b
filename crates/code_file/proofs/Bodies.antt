-- Bodies that were spelled are read again.
use Rattle.std.proofs.Common.{◌≡◌, ℕ, zero, suc, ◌^◌, ◌<◌, ◌≤◌, true, false, List, ◌∷◌, ◌++◌, length, Some, refl, ap, ◌∙◌, append_assoc, arith}
use Rattle.std.specs.Prelude.{nat_le}
use Rattle.std.specs.Int.{w64, cast_unsigned, to_be_bytes}
use Rattle.std.specs.Str.{is_utf8}
use Rattle.std.proofs.lemmas.Bool.{le-leb}
use Rattle.std.proofs.lemmas.Str.{is_utf8-from_IsUtf8}
use Rattle.std.proofs.Math.Facts as facts
use Rattle.tsl_value.specs.declared.limits.TheConstants.{MOST_TEXT_BYTES}
use Rattle.tsl_value.specs.declared.operation.Binary.{Binary}
use Rattle.tsl_value.specs.declared.operation.Binary.TheVariants as binary
use Rattle.tsl_value.specs.declared.operation.Unary.{Unary}
use Rattle.tsl_value.specs.declared.operation.Unary.TheVariants as unary
use Rattle.tsl_value.specs.declared.scalar.Scalar.{Scalar}
use Rattle.tsl_value.specs.declared.scalar.Scalar.TheVariants as scalar
use Rattle.tsl_value.specs.inner.Laws.{IsInBounds}
use Rattle.tsl_value.specs.View.{type_of}
use Rattle.lift_func.specs.declared.limits.TheConstants.{MOST_NODES}
use Rattle.lift_func.specs.BodyTree.{BodyTree, Literal, Argument, Absent, One, Two, Choice, node_count}
use Rattle.code_file.specs.declared.types.Operation.{Operation}
use Rattle.code_file.specs.declared.types.Operation.TheVariants as operation
use Rattle.code_file.specs.Form.{IsBodyForm}
use Rattle.code_file.specs.Spelling.{body_bytes, operation_place, scalar_bytes}
use Rattle.code_file.specs.inner.Reading.{body_at, few_at, node_at, operation_of, parts_at, scalar_at, text_at}
use Rattle.code_file.proofs.Fields.{bytes_again, number_again, scalar_type_again, type_again, wide_again}

pub scalar_again : (s : Scalar) (rest : List ℕ) → IsInBounds s → scalar_at (type_of s) (scalar_bytes s ++ rest) ≡ Some (s, rest)
unfolding scalar_at text_at
scalar_again scalar.Unit rest fits = refl
scalar_again (scalar.Int z) rest fits =
    let low : cast_unsigned w64 z < 2 ^ 64 = (facts.Fits-of_z fits).fits in
    rw (wide_again (cast_unsigned w64 z) rest low) (ap (λ x. Some (scalar.Int x, rest)) (facts.to_z-of_z fits))
scalar_again (scalar.Bool true) rest fits = refl
scalar_again (scalar.Bool false) rest fits = refl
scalar_again (scalar.Text bytes) rest fits =
    let utf8 : is_utf8 bytes ≡ true = is_utf8-from_IsUtf8 bytes fits.0 in
    let few = fits.1 in
    let short : nat_le (length bytes) MOST_TEXT_BYTES ≡ true = le-leb _ _ few in
    ap (scalar_at (type_of (scalar.Text bytes))) (append_assoc (to_be_bytes w64 (length bytes)) bytes rest)
    ∙ rw (wide_again (length bytes) (bytes ++ rest) (omega (arith, few)), bytes_again bytes rest, utf8, short) refl

unary_again : (o : Unary) → operation_of (operation_place (operation.One o)) ≡ Some (operation.One o)
unfolding operation_of
unary_again unary.Neg = refl
unary_again o = refl

binary_again : (o : Binary) → operation_of (operation_place (operation.Two o)) ≡ Some (operation.Two o)
unfolding operation_of
binary_again binary.Add = refl
binary_again o = refl

operation_again : (o : Operation) → operation_of (operation_place o) ≡ Some o
unfolding operation_of
operation_again operation.If = refl
operation_again operation.Absent = refl
operation_again (operation.One o) = unary_again o
operation_again (operation.Two o) = binary_again o

few_again : (t : BodyTree) (rest : List ℕ) → node_count t ≤ MOST_NODES → few_at t rest ≡ Some (t, rest)
few_again t rest few = let holds : nat_le (node_count t) MOST_NODES ≡ true = le-leb _ _ few in rw holds refl

some_nodes : (t : BodyTree) → 1 ≤ node_count t
some_nodes (Literal s) = omega arith
some_nodes (Argument n) = omega arith
some_nodes (Absent t) = omega arith
some_nodes (One o a) = omega arith
some_nodes (Two o a b) = omega arith
some_nodes (Choice c a b) = omega arith

pub body_again : (room : ℕ) (t : BodyTree) (rest : List ℕ) → IsBodyForm t → node_count t ≤ room → node_count t ≤ MOST_NODES → body_at room (body_bytes t ++ rest) ≡ Some (t, rest)
unfolding body_at parts_at
body_again zero t rest fits deep few = let some = some_nodes t in absurd (omega arith)
body_again (suc room) (Literal s) rest fits deep few = rw (scalar_type_again (type_of s), scalar_again s rest fits) refl
body_again (suc room) (Argument n) rest fits deep few = rw (number_again n rest fits) refl
body_again (suc room) (Absent t) rest fits deep few = rw (operation_again operation.Absent, type_again t rest) refl
body_again (suc room) (One o a) rest fits deep few =
    rw (operation_again (operation.One o), body_again room a rest fits (omega arith) (omega arith)) (few_again (One o a) rest few)
body_again (suc room) (Two o a b) rest fits deep few =
    ap (λ more. node_at (body_at room) (2 ∷ operation_place (operation.Two o) ∷ more)) (append_assoc (body_bytes a) (body_bytes b) rest)
    ∙ rw (operation_again (operation.Two o), body_again room a (body_bytes b ++ rest) fits.0 (omega arith) (omega arith), body_again room b rest fits.1 (omega arith) (omega arith)) (few_again (Two o a b) rest few)
body_again (suc room) (Choice c a b) rest fits deep few =
    let regrouped : (body_bytes c ++ (body_bytes a ++ body_bytes b)) ++ rest ≡ body_bytes c ++ (body_bytes a ++ (body_bytes b ++ rest)) =
    append_assoc (body_bytes c) (body_bytes a ++ body_bytes b) rest ∙ ap (λ more. body_bytes c ++ more) (append_assoc (body_bytes a) (body_bytes b) rest) in
    ap (λ more. node_at (body_at room) (2 ∷ operation_place operation.If ∷ more)) regrouped
    ∙ rw (
      operation_again operation.If,
      body_again room c (body_bytes a ++ (body_bytes b ++ rest)) fits.0 (omega arith) (omega arith),
      body_again room a (body_bytes b ++ rest) fits.1 (omega arith) (omega arith),
      body_again room b rest fits.2 (omega arith) (omega arith),
    ) (few_again (Choice c a b) rest few)
