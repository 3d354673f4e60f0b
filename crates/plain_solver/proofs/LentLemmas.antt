-- The cells and the registers of arguments stand for them.
use Rattle.std.proofs.Common.{◌≡◌, ℕ, zero, suc, ◌+◌, ◌<◌, true, false, cond, List, [], ◌∷◌, map, length, get_or, Option, Some, None, refl, sym, ap, subst, ◌∙◌, arith}
use Rattle.std.proofs.lemmas.List.Elements.{All-from_recursion}
use Rattle.std.specs.Prelude.{◌≢◌, is_some, unwrap_or}
use Rattle.std.specs.FinMap as finite_map
use Rattle.std.specs.Cmp.{Equal-is, eq_by_cmp_equiv, nat_cmp_total}
use Rattle.std.specs.Ordering.{eq_by_cmp, nat_cmp}
use Rattle.std.specs.List.{AllByRecursion}
use Rattle.tsl_value.specs.Aggregate.{has_elements}
use Rattle.tsl_value.specs.View.{View, Plain, Keyed, Mapped}
use Rattle.tsl_value.specs.declared.scalar.Scalar.TheVariants as scalar
use Rattle.body_eval.specs.declared.register.Register.TheVariants as register
use Rattle.cell_reader.specs.inner.Cells.{Cells}
use Rattle.body_eval.specs.inner.Registers.{HoldsLive, arguments, held}
use Rattle.body_eval.specs.inner.Evaluable.{IsEvaluable}
use Rattle.lift_func.specs.BodyTree.{BodyTree}
use Rattle.lift_func.specs.Typing.{AllFit}
use Rattle.event_writer.specs.Text.{IsPrintable}
use Rattle.flat_core.proofs.Members.{all_true}
use Rattle.plain_solver.specs.inner.Lent.{aggregate_in, with_cell, cells_from, cells_of, register_of, registers_from, numbers_from, IsEvaluableAt}

-- ---- cells

with_cell-other : (cells : Cells) (k : ℕ) (o : Option View) (q : ℕ) → q ≢ k → finite_map.get (with_cell cells k o) q ≡ finite_map.get cells q
with_cell-other cells k None q ne = refl
with_cell-other cells k (Some v) q ne =
    finite_map.get-insert nat_cmp_total cells k v q
    ∙ elim (eq_by_cmp nat_cmp q k) as (λ b. eq_by_cmp nat_cmp q k ≡ b → cond b (Some v) (finite_map.get cells q) ≡ finite_map.get cells q) [
      | true ↦ λ tied. absurd (ne (finite_map.nat_cmp-IsAntisymmetric q k ((Equal-is (nat_cmp q k)).0 tied)))
      | false ↦ λ apart. refl
    ] refl

with_cell-same : (cells : Cells) (k : ℕ) (o : Option View) → finite_map.get cells k ≡ None → finite_map.get (with_cell cells k o) k ≡ o
with_cell-same cells k None none = none
with_cell-same cells k (Some v) none =
    finite_map.get-insert nat_cmp_total cells k v k ∙ ap (λ b. cond b (Some v) (finite_map.get cells k)) ((eq_by_cmp_equiv nat_cmp_total).refl k)

-- no argument has a smaller number
none_before : (k : ℕ) (values : List (Option View)) (q : ℕ) → q < k → finite_map.get (cells_from k values) q ≡ None
none_before k [] q lt = finite_map.get-empty nat_cmp q
none_before k (v ∷ values) q lt =
    with_cell-other (cells_from (suc k) values) k (aggregate_in v) q (λ same. absurd (omega arith)) ∙ none_before (suc k) values q (omega arith)

cell_at : (k : ℕ) (values : List (Option View)) (n q : ℕ) → q ≡ k + n → finite_map.get (cells_from k values) q ≡ aggregate_in (get_or values n None)
cell_at k [] n q is = finite_map.get-empty nat_cmp q
cell_at k (v ∷ values) zero q is =
    let here : q ≡ k = omega arith in
    ap (finite_map.get (cells_from k (v ∷ values))) here
    ∙ with_cell-same (cells_from (suc k) values) k (aggregate_in v) (none_before (suc k) values k (omega arith))
cell_at k (v ∷ values) (suc n) q is =
    with_cell-other (cells_from (suc k) values) k (aggregate_in v) q (λ same. absurd (omega arith)) ∙ cell_at (suc k) values n q (omega arith)

-- a handle is the number of the argument that is its aggregate
pub lent_cell : (values : List (Option View)) (n : ℕ) → finite_map.get (cells_of values) n ≡ aggregate_in (get_or values n None)
lent_cell values n = cell_at 0 values n n (omega arith)

-- ---- registers

register_at : (k : ℕ) (values : List (Option View)) (n q : ℕ) → q ≡ k + n → get_or (registers_from k values) n register.Empty ≡ register_of q (get_or values n None)
register_at k [] n q is = refl
register_at k (v ∷ values) zero q is = let here : k ≡ q = omega arith in ap (λ m. register_of m v) here
register_at k (v ∷ values) (suc n) q is = register_at (suc k) values n q (omega arith)

held_of : (cells : Cells) (n : ℕ) (v : Option View) → finite_map.get cells n ≡ aggregate_in v → held cells (register_of n v) ≡ v
held_of cells n None is = refl
held_of cells n (Some (Plain s)) is = refl
held_of cells n (Some v) is = ap (λ o. Some (unwrap_or o (Plain scalar.Unit))) is

live_of : (cells : Cells) (n : ℕ) (v : Option View) → finite_map.get cells n ≡ aggregate_in v → HoldsLive cells (register_of n v)
live_of cells n None is = tt
live_of cells n (Some (Plain s)) is = tt
live_of cells n (Some v) is = (ap is_some is, ap (λ o. has_elements (unwrap_or o (Plain scalar.Unit))) is)

module _ (values : List (Option View)) where
  lent_register : (n : ℕ) → get_or (registers_from 0 values) n register.Empty ≡ register_of n (get_or values n None)
  lent_register n = register_at 0 values n n (omega arith)

  lent_held : (n : ℕ) → held (cells_of values) (get_or (registers_from 0 values) n register.Empty) ≡ get_or values n None
  lent_held n = ap (held (cells_of values)) (lent_register n) ∙ held_of (cells_of values) n (get_or values n None) (lent_cell values n)

  lent_live : (n : ℕ) → HoldsLive (cells_of values) (get_or (registers_from 0 values) n register.Empty)
  lent_live n = subst (HoldsLive (cells_of values)) (sym (lent_register n)) (live_of (cells_of values) n (get_or values n None) (lent_cell values n))

-- ---- a value by itself

printable_of : (cells : Cells) (n : ℕ) (v : View) → HoldsLive cells (register_of n (Some v)) → IsPrintable cells (register_of n (Some v))
printable_of cells n (Plain s) live = tt
printable_of cells n _ live = live.0

pub lent_printable : (v : View) → IsPrintable (cells_of (Some v ∷ [])) (register_of 0 (Some v))
lent_printable v = printable_of (cells_of (Some v ∷ [])) 0 v (lent_live (Some v ∷ []) 0)

pub lent_value : (v : View) → held (cells_of (Some v ∷ [])) (register_of 0 (Some v)) ≡ Some v
lent_value v = lent_held (Some v ∷ []) 0

-- ---- arguments

mapped : (f : ℕ → Option View) (values : List (Option View)) (k : ℕ) → ((n : ℕ) → f (k + n) ≡ get_or values n None) → map f (numbers_from k (length values)) ≡ values
mapped f [] k each = refl
mapped f (v ∷ values) k each =
    let here : k ≡ k + 0 = omega arith in
    let first : f k ≡ v = ap f here ∙ each 0 in
    let rest = mapped f values (suc k) (λ n. let later : suc k + n ≡ k + suc n = omega arith in ap f later ∙ each (suc n)) in
    λ j. first j ∷ rest j

pub lent_arguments : (values : List (Option View)) → arguments (cells_of values) (registers_from 0 values) (numbers_from 0 (length values)) ≡ values
lent_arguments values = mapped (λ a. held (cells_of values) (get_or (registers_from 0 values) a register.Empty)) values 0 (λ n.
    let same : 0 + n ≡ n = omega arith in
    ap (λ a. held (cells_of values) (get_or (registers_from 0 values) a register.Empty)) same ∙ lent_held values n)

many_registers : (k : ℕ) (values : List (Option View)) → length (registers_from k values) ≡ length values
many_registers k [] = refl
many_registers k (v ∷ values) = ap suc (many_registers (suc k) values)

numbers_low : (k n : ℕ) → AllByRecursion (λ a. a < k + n) (numbers_from k n)
numbers_low k zero = tt
numbers_low k (suc n) =
    let same : suc k + n ≡ k + suc n = omega arith in
    (omega arith, subst (λ m. AllByRecursion (λ a. a < m) (numbers_from (suc k) n)) same (numbers_low (suc k) n))

pub evaluable : (tree : BodyTree) (values : List (Option View)) → IsEvaluableAt tree values → IsEvaluable (cells_of values) (registers_from 0 values) (numbers_from 0 (length values)) tree
evaluable tree values e =
    let args = numbers_from 0 (length values) in
    let room : 0 + length values ≡ length (registers_from 0 values) = (let many = many_registers 0 values in omega arith) in
    record {
      body = record {
        kinds = e.kinds;
        kind = e.kind;
        named = All-from_recursion (λ a. a < length (registers_from 0 values)) args (subst (λ m. AllByRecursion (λ a. a < m) args) room (numbers_low 0 (length values)));
        live = All-from_recursion (λ a. HoldsLive (cells_of values) (get_or (registers_from 0 values) a register.Empty)) args (all_true _ (lent_live values) args);
        fit = subst (AllFit e.kinds) (sym (lent_arguments values)) e.fit;
        typed = e.typed;
      };
      scalar = e.scalar;
    }
