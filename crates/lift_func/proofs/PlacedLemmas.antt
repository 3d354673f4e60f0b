-- Trees in the place of arguments: what is small enough, by its parts.
use Rattle.std.proofs.Common.{◌≡◌, ℕ, zero, suc, ◌<◌, ◌≤◌, true, false, leb, if◌then◌else◌, List, [], ◌∷◌, map, Option, Some, None, refl, sym, ap, ◌∙◌, arith}
use Rattle.std.specs.Prelude.{slice_index_or}
use Rattle.std.proofs.lemmas.Bool.{le-leb, lt-leb, leb-false}
use Rattle.tsl_value.specs.declared.scalar.Scalar.TheVariants as scalar
use Rattle.lift_func.specs.declared.limits.TheConstants.{MOST_NODES}
use Rattle.tsl_value.specs.declared.operation.Unary.{Unary}
use Rattle.tsl_value.specs.declared.operation.Binary.{Binary}
use Rattle.lift_func.specs.BodyTree.{BodyTree, Literal, Argument, Absent, One, Two, Choice, node_count}
use Rattle.lift_func.specs.inner.Placed.{placed, within, one_within, two_within, choice_within, placed_within}

pub within_small : (t : BodyTree) → node_count t ≤ MOST_NODES → within t ≡ Some t
within_small t h = ap (λ b. if b then Some t else None) (le-leb (node_count t) MOST_NODES h)

pub within_large : (t : BodyTree) → MOST_NODES < node_count t → within t ≡ None
within_large t h = ap (λ b. if b then Some t else None) (lt-leb (node_count t) MOST_NODES h)

-- ---- a tree with too many nodes makes the whole too large
pub one_same : (o : Unary) (a : BodyTree) → one_within o (within a) ≡ within (One o a)
one_same o a =
    elim (leb (node_count a) MOST_NODES) as (λ b. leb (node_count a) MOST_NODES ≡ b → one_within o (if b then Some a else None) ≡ within (One o a)) [
      | true ↦ (λ e. refl)
      | false ↦ (λ e. let h = leb-false (node_count a) MOST_NODES e in sym (within_large (One o a) (omega arith)))
    ] refl

pub two_same : (o : Binary) (a b : BodyTree) → two_within o (within a) (within b) ≡ within (Two o a b)
two_same o a b =
    elim (leb (node_count a) MOST_NODES) as (λ x. leb (node_count a) MOST_NODES ≡ x → two_within o (if x then Some a else None) (within b) ≡ within (Two o a b)) [
      | true ↦ (λ e.
          elim (leb (node_count b) MOST_NODES) as (λ y. leb (node_count b) MOST_NODES ≡ y → two_within o (Some a) (if y then Some b else None) ≡ within (Two o a b)) [
            | true ↦ (λ f. refl)
            | false ↦ (λ f. let h = leb-false (node_count b) MOST_NODES f in sym (within_large (Two o a b) (omega arith)))
          ] refl)
      | false ↦ (λ e. let h = leb-false (node_count a) MOST_NODES e in sym (within_large (Two o a b) (omega arith)))
    ] refl

pub choice_same : (c a b : BodyTree) → choice_within (within c) (within a) (within b) ≡ within (Choice c a b)
choice_same c a b =
    elim (leb (node_count c) MOST_NODES) as (λ x. leb (node_count c) MOST_NODES ≡ x → choice_within (if x then Some c else None) (within a) (within b) ≡ within (Choice c a b)) [
      | true ↦ (λ e.
          elim (leb (node_count a) MOST_NODES) as (λ y. leb (node_count a) MOST_NODES ≡ y → choice_within (Some c) (if y then Some a else None) (within b) ≡ within (Choice c a b)) [
            | true ↦ (λ f.
                elim (leb (node_count b) MOST_NODES) as (λ z. leb (node_count b) MOST_NODES ≡ z → choice_within (Some c) (Some a) (if z then Some b else None) ≡ within (Choice c a b)) [
                  | true ↦ (λ g. refl)
                  | false ↦ (λ g. let h = leb-false (node_count b) MOST_NODES g in sym (within_large (Choice c a b) (omega arith)))
                ] refl)
            | false ↦ (λ f. let h = leb-false (node_count a) MOST_NODES f in sym (within_large (Choice c a b) (omega arith)))
          ] refl)
      | false ↦ (λ e. let h = leb-false (node_count c) MOST_NODES e in sym (within_large (Choice c a b) (omega arith)))
    ] refl

argument_same : (ts : List BodyTree) (n : ℕ) → slice_index_or (map within ts) n (Some (Literal scalar.Unit)) ≡ within (slice_index_or ts n (Literal scalar.Unit))
argument_same [] n = refl
argument_same (t ∷ ts) zero = refl
argument_same (t ∷ ts) (suc n) = argument_same ts n

pub placed_same : (ts : List BodyTree) (t : BodyTree) → placed_within (map within ts) t ≡ within (placed ts t)
placed_same ts (Literal s) = refl
placed_same ts (Argument n) = argument_same ts n
placed_same ts (Absent t) = refl
placed_same ts (One o a) = ap (one_within o) (placed_same ts a) ∙ one_same o (placed ts a)
placed_same ts (Two o a b) =
    ap (λ x. two_within o x (placed_within (map within ts) b)) (placed_same ts a)
    ∙ ap (two_within o (within (placed ts a))) (placed_same ts b)
    ∙ two_same o (placed ts a) (placed ts b)
placed_same ts (Choice c a b) =
    ap (λ x. choice_within x (placed_within (map within ts) a) (placed_within (map within ts) b)) (placed_same ts c)
    ∙ ap (λ x. choice_within (within (placed ts c)) x (placed_within (map within ts) b)) (placed_same ts a)
    ∙ ap (choice_within (within (placed ts c)) (within (placed ts a))) (placed_same ts b)
    ∙ choice_same (placed ts c) (placed ts a) (placed ts b)

-- where the operands are trees that are small enough
pub placed_at : (os : List (Option BodyTree)) (ts : List BodyTree) (t : BodyTree) (b : Option BodyTree) → b ≡ placed_within os t → os ≡ map within ts → b ≡ within (placed ts t)
placed_at os ts t b is of = is ∙ ap (λ x. placed_within x t) of ∙ placed_same ts t
