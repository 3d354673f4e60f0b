-- The lines of faults, and the registers whose events have a line. The line itself of an event stands in flat_core.
use Rattle.std.specs.Prelude.{ℕ, List, [], ◌∷◌, ◌++◌, codes}
use Rattle.std.specs.Fmt.{decimal}
use Rattle.tsl_value.specs.declared.place.Place.{Place}
use Rattle.lift_func.specs.declared.fault.FaultKind.{FaultKind}
use Rattle.lift_func.specs.declared.fault.FaultKind.TheVariants as kind
use Rattle.body_eval.specs.declared.register.Register.{Register}
use Rattle.body_eval.specs.declared.register.Register.TheVariants as register
use Rattle.cell_reader.specs.inner.Cells.{Cells, IsLive}

-- a place as LINE:COLUMN
abbrev pub place_text : Place → List ℕ
place_text p = decimal p.line ++ (codes ":" ++ decimal p.column)

abbrev pub kind_text : FaultKind → List ℕ
kind_text kind.Overflow = codes "Overflow"
kind_text kind.DivideByZero = codes "DivideByZero"
kind_text kind.MissingKey = codes "MissingKey"
kind_text kind.NoValue = codes "NoValue"
kind_text kind.TextTooLong = codes "TextTooLong"
kind_text kind.EmptyQueue = codes "EmptyQueue"
kind_text kind.DelayNotPositive = codes "DelayNotPositive"

-- when, how and where an equation faults
abbrev pub fault_text : ℕ → FaultKind → Place → List ℕ
fault_text time kind place = decimal time ++ (codes ": fault " ++ (kind_text kind ++ (codes " at " ++ place_text place)))

-- with the end of a line
abbrev pub fault_line : ℕ → FaultKind → Place → List ℕ
fault_line time kind place = fault_text time kind place ++ 10 ∷ []

-- a register with a value to print: a scalar, or an aggregate whose cell is live
abbrev pub IsPrintable : Cells → Register → Type 0
IsPrintable cells register.Empty = ⊥
IsPrintable cells (register.Scalar s) = Unit {0}
IsPrintable cells (register.Aggregate handle) = IsLive cells handle
