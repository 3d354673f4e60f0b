-- Registers that name cells of aggregates.
use Rattle.std.specs.Prelude.{ℕ, List, map, Option, Some, None, IsTrue, slice_index_or}
use Rattle.tsl_value.specs.Aggregate.{has_elements}
use Rattle.tsl_value.specs.View.{View, Plain}
use Rattle.tsl_value.specs.declared.scalar.Scalar.{Scalar}
use Rattle.cell_reader.specs.inner.Cells.{Cells, IsLive, view_at}
use Rattle.body_eval.specs.declared.register.Register.{Register}
use Rattle.body_eval.specs.declared.register.Register.TheVariants as register

-- what a register holds
abbrev pub held : Cells → Register → Option View
held cells register.Empty = None
held cells (register.Scalar s) = Some (Plain s)
held cells (register.Aggregate handle) = Some (view_at cells handle)

-- what the registers hold that the arguments name
abbrev pub arguments : Cells → List Register → List ℕ → List (Option View)
arguments cells registers args = map (λ a. held cells (slice_index_or registers a register.Empty)) args

-- the cell of an aggregate is live, and has one
abbrev pub HoldsLive : Cells → Register → Type 0
HoldsLive cells (register.Aggregate handle) = IsLive cells handle × IsTrue (has_elements (view_at cells handle))
HoldsLive cells _ = Unit {0}

-- the scalar of a register; an aggregate has none
abbrev pub scalar_in : Register → Option Scalar
scalar_in register.Empty = None
scalar_in (register.Scalar s) = Some s
scalar_in (register.Aggregate handle) = None

-- the register of a scalar that may be absent
abbrev pub register_of : Option Scalar → Register
register_of None = register.Empty
register_of (Some s) = register.Scalar s
