-- The refusals of a specification, of its items and of where its source ends, in the order in which they are checked.
use Rattle.std.specs.Prelude.{◌≡◌, List, [], ◌∷◌, ◌++◌, map, Option, Some, None}
use Rattle.tsl_value.specs.declared.place.Place.{Place}
use Rattle.syntax_tree.specs.Tree as tree
use Rattle.name_check.specs.Faults.{declared_twice, unknown_names}
use Rattle.form_check.specs.Types.{bad_types}
use Rattle.form_check.specs.Declared.{mixed_parameters, aggregate_inputs}
use Rattle.form_check.specs.Arity.{wrong_arities}
use Rattle.form_check.specs.Outputs.{outputs_twice, without_output}
use Rattle.definition_cycles.specs.Cycles.{IsFirstFunctionCycle, IsFirstUntypedCycle}
use Rattle.type_rules.specs.Kinds.{Kinds}
use Rattle.expr_types.specs.Bodies.{AreKinds, all_wrongs, aggregate_results_from}
use Rattle.type_check.specs.declared.fault.TypeFault.{TypeFault}
use Rattle.type_check.specs.declared.fault.TypeFault.TheVariants as fault
use Rattle.type_check.specs.Kind.{wrong_type}

-- the first of some faults
abbrev pub first_fault : List TypeFault → Option TypeFault
first_fault [] = None
first_fault (f ∷ fs) = Some f

-- those of names, those of written types and of parameters, and both, which are checked before cycles
abbrev pub name_faults : List tree.Item → List TypeFault
name_faults items = map fault.DefinedTwice (declared_twice items) ++ map fault.UnknownName (unknown_names items)

abbrev pub form_faults : List tree.Item → List TypeFault
form_faults items =
    map fault.BadType (bad_types items) ++ map fault.MixedParameters (mixed_parameters items)
    ++ map fault.AggregateInput (aggregate_inputs items)

abbrev pub early : List tree.Item → List TypeFault
early items = name_faults items ++ form_faults items

-- those that are checked after cycles
abbrev pub late : List tree.Item → Place → Kinds → List TypeFault
late items end kinds =
    map fault.WrongArity (wrong_arities items) ++ map wrong_type (all_wrongs items kinds)
    ++ map fault.AggregateResult (aggregate_results_from kinds 0 items) ++ map fault.OutputTwice (outputs_twice items)
    ++ map fault.NoOutput (without_output items end)

-- no cycle of value functions, and of definitions without a written type
pub record HasNoCycle (items : List tree.Item) : Type 0 where
  pub functions : IsFirstFunctionCycle items None
  pub untyped : IsFirstUntypedCycle items None

-- The specification has no fault, and its declared names are this.
pub record IsAccepted (items : List tree.Item) (end : Place) (kinds : Kinds) : Type 0 where
  pub no_early : early items ≡ []
  pub no_cycle : HasNoCycle items
  pub are_kinds : AreKinds items kinds
  pub no_late : late items end kinds ≡ []

-- a cycle of value functions, or else one of definitions without a written type
abbrev pub IsCycleFault : List tree.Item → TypeFault → Type 0
IsCycleFault items (fault.FunctionCycle p) = IsFirstFunctionCycle items (Some p)
IsCycleFault items (fault.NeedsType p) = IsFirstFunctionCycle items None × IsFirstUntypedCycle items (Some p)
IsCycleFault items f = ⊥

-- The fault is the first: one that is checked before cycles, a cycle, or one that is checked after them, for what the declared names
-- are.
pub data IsFirstFault (items : List tree.Item) (end : Place) : TypeFault → Type 0 where
  before_cycles : {f : TypeFault} → first_fault (early items) ≡ Some f → IsFirstFault items end f
  cycle : {f : TypeFault} → early items ≡ [] → IsCycleFault items f → IsFirstFault items end f
  -- neither one before cycles nor a cycle: the first of those that are checked after them
  after_cycles :
      {f : TypeFault} (kinds : Kinds) →
      early items ≡ [] →
      HasNoCycle items →
      AreKinds items kinds →
      first_fault (late items end kinds) ≡ Some f →
      IsFirstFault items end f
