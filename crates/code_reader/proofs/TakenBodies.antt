-- What is read as a body is spelled so.
use Rattle.std.proofs.Common.{◌≡◌, ℕ, zero, suc, ◌≤◌, Bool, true, false, cond, List, [], ◌∷◌, ◌++◌, length, Option, Some, None, refl, sym, ap, subst, ◌∙◌, arith, inl, inr}
use Rattle.std.specs.Prelude.{◌&&◌, nat_le}
use Rattle.std.specs.Int.{w64, cast_signed, to_be_bytes}
use Rattle.std.specs.Str.{IsUtf8, is_utf8}
use Rattle.std.proofs.lemmas.Bool.{and_from, and_left, and_parts, cases_Bool, le-leb, leb-true}
use Rattle.std.proofs.lemmas.Int.{of_z-to_z}
use Rattle.std.proofs.lemmas.Str.{IsUtf8-from_is_utf8, is_utf8-from_IsUtf8}
use Rattle.std.proofs.Math.Facts as facts
use Rattle.tsl_value.specs.declared.limits.TheConstants.{MOST_TEXT_BYTES}
use Rattle.tsl_value.specs.declared.scalar.Scalar.{Scalar}
use Rattle.tsl_value.specs.declared.scalar.Scalar.TheVariants as scalar
use Rattle.tsl_value.specs.declared.scalar.ScalarType.{ScalarType}
use Rattle.tsl_value.specs.declared.scalar.ScalarType.TheVariants as scalar_type
use Rattle.tsl_value.specs.inner.Laws.{IsInBounds}
use Rattle.tsl_value.specs.View.{type_of}
use Rattle.lift_func.specs.declared.limits.TheConstants.{MOST_NODES}
use Rattle.lift_func.specs.BodyTree.{BodyTree, Literal, Argument, Absent, One, Two, Choice, node_count}
use Rattle.code_file.specs.declared.types.Operation.{Operation}
use Rattle.code_file.specs.declared.types.Operation.TheVariants as operation
use Rattle.code_file.specs.Form.{IsBodyForm}
use Rattle.code_file.specs.Spelling.{body_bytes, flag, number, operation_place, scalar_bytes, scalar_place, type_bytes}
use Rattle.code_file.specs.inner.Reading.{◌>>=◌, body_at, byte_at, bytes_at, few_at, flag_at, if_few, if_text, node_at, number_at, operation_of, operations, parts_at, scalar_at, scalar_type_of, text_at, type_at, wide_at}
use Rattle.code_reader.proofs.Taken.{AreTaken, IsBytes, IsBytes-rest, Takes, Takes-then, after_byte, at_place_is, bind_some, byte_taken, bytes_taken, number_taken, passed_test, scalar_type_taken, some_is, type_taken, wide_taken}

pub flag_taken : AreTaken flag (λ b. Unit {0}) flag_at
flag_taken [] b rest fits e = absurd cc
flag_taken (zero ∷ bytes) b rest fits e =
    subst (λ (p : Bool × List ℕ). Takes (0 ∷ bytes) (flag p.0) p.1 × Unit {0}) (some_is (false, bytes) (b, rest) e) (record { parts = refl; rest_fits = IsBytes-rest 0 bytes fits }, tt)
flag_taken (suc zero ∷ bytes) b rest fits e =
    subst (λ (p : Bool × List ℕ). Takes (1 ∷ bytes) (flag p.0) p.1 × Unit {0}) (some_is (true, bytes) (b, rest) e) (record { parts = refl; rest_fits = IsBytes-rest 1 bytes fits }, tt)
flag_taken (suc (suc n) ∷ bytes) b rest fits e = absurd cc

-- a scalar of a type, in bounds
abbrev pub IsScalar : ScalarType → Scalar → Type 0
IsScalar t s = (type_of s ≡ t) × IsInBounds s

scalar_taken : (t : ScalarType) → AreTaken scalar_bytes (IsScalar t) (scalar_at t)
unfolding scalar_at text_at
scalar_taken scalar_type.Unit bytes s rest fits e =
    subst (λ (p : Scalar × List ℕ). Takes bytes (scalar_bytes p.0) p.1 × IsScalar scalar_type.Unit p.0) (some_is (scalar.Unit, bytes) (s, rest) e)
    (record { parts = refl; rest_fits = fits }, (refl, tt))
scalar_taken scalar_type.Int bytes s rest fits e =
    let a = bind_some (wide_at bytes) (λ n. Some (scalar.Int (cast_signed w64 n.0), n.1)) (s, rest) e in
    let t = wide_taken bytes a.0.0 a.0.1 fits a.1 in
    subst (λ (p : Scalar × List ℕ). Takes bytes (scalar_bytes p.0) p.1 × IsScalar scalar_type.Int p.0) (some_is (scalar.Int (cast_signed w64 a.0.0), a.0.1) (s, rest) a.2) (
      subst (λ (k : ℕ). Takes bytes (to_be_bytes w64 k) a.0.1) (sym (of_z-to_z w64 a.0.0 t.1)) t.0,
      (refl, facts.sfits_to_z (record { fits = t.1 })),
    )
scalar_taken scalar_type.Bool bytes s rest fits e =
    let a = bind_some (flag_at bytes) (λ b. Some (scalar.Bool b.0, b.1)) (s, rest) e in
    let t = flag_taken bytes a.0.0 a.0.1 fits a.1 in
    subst (λ (p : Scalar × List ℕ). Takes bytes (scalar_bytes p.0) p.1 × IsScalar scalar_type.Bool p.0) (some_is (scalar.Bool a.0.0, a.0.1) (s, rest) a.2) (t.0, (refl, tt))
scalar_taken scalar_type.Text bytes s rest fits e =
    let a = bind_some (wide_at bytes) (λ n. bytes_at n.0 n.1 >>= λ t. if_text t.0 >>= λ x. Some (x, t.1)) (s, rest) e in
    let b = bind_some (bytes_at a.0.0 a.0.1) (λ t. if_text t.0 >>= λ x. Some (x, t.1)) (s, rest) a.2 in
    let c = bind_some (if_text b.0.0) (λ x. Some (x, b.0.1)) (s, rest) b.2 in
    let first = wide_taken bytes a.0.0 a.0.1 fits a.1 in
    let second = bytes_taken a.0.0 a.0.1 b.0.0 b.0.1 first.0.rest_fits b.1 in
    let g = passed_test (is_utf8 b.0.0 && nat_le (length b.0.0) MOST_TEXT_BYTES) (scalar.Text b.0.0) c.0 c.1 in
    let both = and_parts (is_utf8 b.0.0) (nat_le (length b.0.0) MOST_TEXT_BYTES) g.0 in
    let parts = Takes-then bytes (to_be_bytes w64 a.0.0) a.0.1 b.0.0 b.0.1 first.0 second.0 in
    subst (λ (p : Scalar × List ℕ). Takes bytes (scalar_bytes p.0) p.1 × IsScalar scalar_type.Text p.0) (some_is (c.0, b.0.1) (s, rest) c.2)
    (subst (λ (x : Scalar). Takes bytes (scalar_bytes x) b.0.1 × IsScalar scalar_type.Text x) g.1
    (subst (λ (k : ℕ). Takes bytes (to_be_bytes w64 k ++ b.0.0) b.0.1) (sym second.1) parts, (refl, (IsUtf8-from_is_utf8 b.0.0 both.0, leb-true _ _ both.1))))

operation_is : (b : ℕ) (o : Operation) → operation_of b ≡ Some o → b ≡ operation_place o
unfolding operation_of
operation_is b o e = at_place_is operation_place operations b o e

-- ---- bodies

-- a body that bytes can spell
abbrev pub IsBody : BodyTree → Type 0
IsBody t = IsBodyForm t × (node_count t ≤ MOST_NODES)

abbrev pair : BodyTree → List ℕ → BodyTree × List ℕ
pair t rest = (t, rest)

few_taken : (t u : BodyTree) (more rest : List ℕ) → few_at t more ≡ Some (u, rest) → (node_count t ≤ MOST_NODES) × (pair t more ≡ pair u rest)
few_taken t u more rest e =
    let a = bind_some (if_few t) (λ x. Some (pair x more)) (pair u rest) e in
    let g = passed_test (nat_le (node_count t) MOST_NODES) t a.0 a.1 in
    (leb-true _ _ g.0, ap (λ (x : BodyTree). pair x more) g.1 ∙ some_is (pair a.0 more) (pair u rest) a.2)

-- the bytes of a body after those of its operation
abbrev IsOperation : Operation → List ℕ → BodyTree × List ℕ → Type 0
IsOperation o bytes p = (front : List ℕ) × (body_bytes p.0 ≡ 2 ∷ operation_place o ∷ front) × Takes bytes front p.1 × IsBody p.0

module _ (part : List ℕ → Option (BodyTree × List ℕ)) (taken : AreTaken body_bytes IsBody part) where
  parts_taken : (o : Operation) (bytes : List ℕ) (t : BodyTree) (rest : List ℕ) → IsBytes bytes → parts_at part o bytes ≡ Some (t, rest) → IsOperation o bytes (t, rest)
  unfolding parts_at
  parts_taken operation.Absent bytes t rest fits e =
      let a = bind_some (type_at bytes) (λ x. Some (Absent x.0, x.1)) (t, rest) e in
      subst (IsOperation operation.Absent bytes) (some_is (Absent a.0.0, a.0.1) (t, rest) a.2)
      (type_bytes a.0.0, refl, type_taken bytes a.0.0 a.0.1 fits a.1, (tt, omega arith))
  parts_taken (operation.One o) bytes t rest fits e =
      let a = bind_some (part bytes) (λ x. few_at (One o x.0) x.1) (t, rest) e in
      let g = few_taken (One o a.0.0) t a.0.1 rest a.2 in
      let first = taken bytes a.0.0 a.0.1 fits a.1 in
      subst (IsOperation (operation.One o) bytes) g.1 (body_bytes a.0.0, refl, first.0, (first.1.0, g.0))
  parts_taken (operation.Two o) bytes t rest fits e =
      let a = bind_some (part bytes) (λ x. part x.1 >>= λ y. few_at (Two o x.0 y.0) y.1) (t, rest) e in
      let b = bind_some (part a.0.1) (λ y. few_at (Two o a.0.0 y.0) y.1) (t, rest) a.2 in
      let g = few_taken (Two o a.0.0 b.0.0) t b.0.1 rest b.2 in
      let first = taken bytes a.0.0 a.0.1 fits a.1 in
      let second = taken a.0.1 b.0.0 b.0.1 first.0.rest_fits b.1 in
      let both = Takes-then bytes (body_bytes a.0.0) a.0.1 (body_bytes b.0.0) b.0.1 first.0 second.0 in
      subst (IsOperation (operation.Two o) bytes) g.1 (body_bytes a.0.0 ++ body_bytes b.0.0, refl, both, ((first.1.0, second.1.0), g.0))
  parts_taken operation.If bytes t rest fits e =
      let a = bind_some (part bytes) (λ x. part x.1 >>= λ y. part y.1 >>= λ z. few_at (Choice x.0 y.0 z.0) z.1) (t, rest) e in
      let b = bind_some (part a.0.1) (λ y. part y.1 >>= λ z. few_at (Choice a.0.0 y.0 z.0) z.1) (t, rest) a.2 in
      let c = bind_some (part b.0.1) (λ z. few_at (Choice a.0.0 b.0.0 z.0) z.1) (t, rest) b.2 in
      let g = few_taken (Choice a.0.0 b.0.0 c.0.0) t c.0.1 rest c.2 in
      let first = taken bytes a.0.0 a.0.1 fits a.1 in
      let second = taken a.0.1 b.0.0 b.0.1 first.0.rest_fits b.1 in
      let third = taken b.0.1 c.0.0 c.0.1 second.0.rest_fits c.1 in
      let later = Takes-then a.0.1 (body_bytes b.0.0) b.0.1 (body_bytes c.0.0) c.0.1 second.0 third.0 in
      let all = Takes-then bytes (body_bytes a.0.0) a.0.1 (body_bytes b.0.0 ++ body_bytes c.0.0) c.0.1 first.0 later in
      subst (IsOperation operation.If bytes) g.1 (body_bytes a.0.0 ++ (body_bytes b.0.0 ++ body_bytes c.0.0), refl, all, ((first.1.0, second.1.0, third.1.0), g.0))

  abbrev IsTaken : List ℕ → BodyTree × List ℕ → Type 0
  IsTaken bytes p = Takes bytes (body_bytes p.0) p.1 × IsBody p.0

  node_taken : AreTaken body_bytes IsBody (node_at part)
  node_taken [] t rest fits e = absurd cc
  node_taken (zero ∷ bytes) t rest fits e =
      let a = bind_some (number_at bytes) (λ n. Some (Argument n.0, n.1)) (t, rest) e in
      let first = number_taken bytes a.0.0 a.0.1 (IsBytes-rest 0 bytes fits) a.1 in
      subst (IsTaken (0 ∷ bytes)) (some_is (Argument a.0.0, a.0.1) (t, rest) a.2)
      (after_byte 0 0 bytes (number a.0.0) a.0.1 refl first.0, (first.1, omega arith))
  node_taken (suc zero ∷ bytes) t rest fits e =
      let a = bind_some (byte_at scalar_type_of bytes) (λ x. scalar_at x.0 x.1 >>= λ s. Some (Literal s.0, s.1)) (t, rest) e in
      let b = bind_some (scalar_at a.0.0 a.0.1) (λ s. Some (Literal s.0, s.1)) (t, rest) a.2 in
      let first = scalar_type_taken bytes a.0.0 a.0.1 (IsBytes-rest 1 bytes fits) a.1 in
      let second = scalar_taken a.0.0 a.0.1 b.0.0 b.0.1 first.rest_fits b.1 in
      let both = Takes-then bytes (scalar_place a.0.0 ∷ []) a.0.1 (scalar_bytes b.0.0) b.0.1 first second.0 in
      subst (IsTaken (1 ∷ bytes)) (some_is (Literal b.0.0, b.0.1) (t, rest) b.2) (
        after_byte 1 1 bytes (scalar_place (type_of b.0.0) ∷ scalar_bytes b.0.0) b.0.1 refl
            (subst (λ (x : ScalarType). Takes bytes (scalar_place x ∷ scalar_bytes b.0.0) b.0.1) (sym second.1.0) both),
        (second.1.1, omega arith),
      )
  node_taken (suc (suc zero) ∷ bytes) t rest fits e =
      let a = bind_some (byte_at operation_of bytes) (λ o. parts_at part o.0 o.1) (t, rest) e in
      let first = byte_taken operation_place operation_of operation_is bytes a.0.0 a.0.1 (IsBytes-rest 2 bytes fits) a.1 in
      let parts = parts_taken a.0.0 a.0.1 t rest first.rest_fits a.2 in
      let both = Takes-then bytes (operation_place a.0.0 ∷ []) a.0.1 parts.0 rest first parts.2 in
      let all = after_byte 2 2 bytes (operation_place a.0.0 ∷ parts.0) rest refl both in
      (subst (λ (front : List ℕ). Takes (2 ∷ bytes) front rest) (sym parts.1) all, parts.3)
  node_taken (suc (suc (suc n)) ∷ bytes) t rest fits e = absurd cc

pub body_taken : (room : ℕ) → AreTaken body_bytes IsBody (body_at room)
unfolding body_at
body_taken zero bytes t rest fits e = absurd cc
body_taken (suc room) bytes t rest fits e = node_taken (body_at room) (body_taken room) bytes t rest fits e

-- ---- texts

pub text_some : (bytes raw t : List ℕ) → raw ≡ bytes → IsUtf8 raw × (t ≡ raw) → length bytes ≤ MOST_TEXT_BYTES → if_text bytes ≡ Some (scalar.Text t)
text_some bytes raw t same is short =
    let utf8 = is_utf8-from_IsUtf8 bytes (subst IsUtf8 same is.0) in
    ap (λ b. cond b (Some (scalar.Text bytes)) None) (and_from (is_utf8 bytes) (nat_le (length bytes) MOST_TEXT_BYTES) utf8 (le-leb _ _ short))
    ∙ ap (λ x. Some (scalar.Text x)) (sym (is.1 ∙ same))

pub text_none : (bytes raw : List ℕ) → raw ≡ bytes → ¬ (IsUtf8 raw) → if_text bytes ≡ None
text_none bytes raw same not_utf8 = elim (cases_Bool (is_utf8 bytes)) [
  | inl is ↦ absurd (not_utf8 (subst IsUtf8 (sym same) (IsUtf8-from_is_utf8 bytes is)))
  | inr other ↦ ap (λ b. cond b (Some (scalar.Text bytes)) None) (and_left (is_utf8 bytes) (nat_le (length bytes) MOST_TEXT_BYTES) other)
]
