-- The cells and the registers of values that are lent, as the arguments of one evaluation: the handle of an aggregate is its value's
-- number.
use Rattle.std.specs.Prelude.{ℕ, zero, suc, ◌≤◌, List, [], ◌∷◌, length, Option, Some, None}
use Rattle.std.specs.FinMap as finite_map
use Rattle.tsl_value.specs.View.{View, Plain}
use Rattle.body_eval.specs.declared.register.Register.{Register}
use Rattle.body_eval.specs.declared.register.Register.TheVariants as register
use Rattle.cell_reader.specs.inner.Cells.{Cells}
use Rattle.body_eval.specs.inner.Evaluable.{IsScalarKind}
use Rattle.lift_func.specs.BodyTree.{BodyTree}
use Rattle.lift_func.specs.Typing.{ValueKind, HasKind, AllFit}

-- the aggregate that a value is, if it is one
abbrev pub aggregate_in : Option View → Option View
aggregate_in None = None
aggregate_in (Some (Plain s)) = None
aggregate_in (Some v) = Some v

abbrev pub with_cell : Cells → ℕ → Option View → Cells
with_cell cells k None = cells
with_cell cells k (Some v) = finite_map.insert cells k v

-- the cells of arguments, of which the first has this number
abbrev pub cells_from : ℕ → List (Option View) → Cells
cells_from k [] = finite_map.empty
cells_from k (v ∷ values) = with_cell (cells_from (suc k) values) k (aggregate_in v)

abbrev pub cells_of : List (Option View) → Cells
cells_of values = cells_from 0 values

abbrev pub register_of : ℕ → Option View → Register
register_of k None = register.Empty
register_of k (Some (Plain s)) = register.Scalar s
register_of k (Some v) = register.Aggregate k

abbrev pub registers_from : ℕ → List (Option View) → List Register
registers_from k [] = []
registers_from k (v ∷ values) = register_of k v ∷ registers_from (suc k) values

-- so many numbers from one on
abbrev pub numbers_from : ℕ → ℕ → List ℕ
numbers_from k zero = []
numbers_from k (suc n) = k ∷ numbers_from (suc k) n

-- The body can be evaluated at these values: it has a kind where the arguments have some kinds, which the values fit, and that kind
-- is one of scalars. There are few arguments.
pub record IsEvaluableAt (tree : BodyTree) (values : List (Option View)) : Type 0 where
  pub kinds : List ValueKind
  pub kind : ValueKind
  pub fit : AllFit kinds values
  pub typed : HasKind kinds tree kind
  pub scalar : IsScalarKind kind
  pub few : length values ≤ 8
