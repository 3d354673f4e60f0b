-- What a specification that is accepted has none of, fault by fault.
use Rattle.std.proofs.Common.{◌≡◌, List, [], ◌∷◌, ◌++◌, map, None, refl}
use Rattle.tsl_value.specs.declared.place.Place.{Place}
use Rattle.syntax_tree.specs.Tree as tree
use Rattle.name_check.specs.Faults.{declared_twice, unknown_names}
use Rattle.form_check.specs.Types.{bad_types}
use Rattle.form_check.specs.Declared.{mixed_parameters, aggregate_inputs}
use Rattle.form_check.specs.Arity.{wrong_arities}
use Rattle.form_check.specs.Outputs.{outputs_twice, without_output}
use Rattle.definition_cycles.specs.Cycles.{IsFirstFunctionCycle, IsFirstUntypedCycle}
use Rattle.type_rules.specs.Kinds.{Kinds}
use Rattle.expr_types.specs.Bodies.{AreKinds, all_wrongs, aggregate_results_from}
use Rattle.type_check.specs.declared.fault.TypeFault.{TypeFault}
use Rattle.type_check.specs.declared.fault.TypeFault.TheVariants as fault
use Rattle.type_check.specs.Kind.{wrong_type}
use Rattle.type_check.specs.Faults.{name_faults, form_faults, IsAccepted}

pub record AcceptedParts (items : List tree.Item) (end : Place) (kinds : Kinds) : Type 0 where
  pub names_once : declared_twice items ≡ []
  pub names_known : unknown_names items ≡ []
  pub good_types : bad_types items ≡ []
  pub not_mixed : mixed_parameters items ≡ []
  pub scalar_inputs : aggregate_inputs items ≡ []
  pub no_function_cycle : IsFirstFunctionCycle items None
  pub no_untyped_cycle : IsFirstUntypedCycle items None
  pub are_kinds : AreKinds items kinds
  pub arities : wrong_arities items ≡ []
  pub fit : all_wrongs items kinds ≡ []
  pub scalar_results : aggregate_results_from kinds 0 items ≡ []
  pub outputs_once : outputs_twice items ≡ []
  pub has_output : without_output items end ≡ []

none_mapped : {A B : Type 0} (f : A → B) (xs : List A) → map f xs ≡ [] → xs ≡ []
none_mapped f [] h = refl
none_mapped f (x ∷ xs) h = cc

front_empty : {A : Type 0} (xs ys : List A) → xs ++ ys ≡ [] → xs ≡ []
front_empty [] ys h = refl
front_empty (x ∷ xs) ys h = cc

rest_empty : {A : Type 0} (xs ys : List A) → xs ++ ys ≡ [] → ys ≡ []
rest_empty [] ys h = h
rest_empty (x ∷ xs) ys h = cc

-- the faults of one kind, which stand after others
last_none : {A : Type 0} (before : List TypeFault) (f : A → TypeFault) (xs : List A) → before ++ map f xs ≡ [] → xs ≡ []
last_none before f xs h = none_mapped f xs (rest_empty before (map f xs) h)

module _ (items : List tree.Item) (end : Place) (kinds : Kinds) (is : IsAccepted items end kinds) where
  abbrev twice : List TypeFault
  twice = map fault.DefinedTwice (declared_twice items)

  abbrev bad : List TypeFault
  bad = map fault.BadType (bad_types items)

  abbrev mixed : List TypeFault
  mixed = map fault.MixedParameters (mixed_parameters items)

  abbrev wrong : List TypeFault
  wrong = map fault.WrongArity (wrong_arities items)

  abbrev unfit : List TypeFault
  unfit = map wrong_type (all_wrongs items kinds)

  abbrev results : List TypeFault
  results = map fault.AggregateResult (aggregate_results_from kinds 0 items)

  abbrev again : List TypeFault
  again = map fault.OutputTwice (outputs_twice items)

  abbrev missing : List TypeFault
  missing = map fault.NoOutput (without_output items end)

  no_names : name_faults items ≡ []
  no_names = front_empty (name_faults items) (form_faults items) is.no_early

  no_forms : form_faults items ≡ []
  no_forms = rest_empty (name_faults items) (form_faults items) is.no_early

  no_types : bad ++ mixed ≡ []
  no_types = front_empty (bad ++ mixed) (map fault.AggregateInput (aggregate_inputs items)) no_forms

  no_outputs : wrong ++ unfit ++ results ++ again ≡ []
  no_outputs = front_empty (wrong ++ unfit ++ results ++ again) missing is.no_late

  no_results : wrong ++ unfit ++ results ≡ []
  no_results = front_empty (wrong ++ unfit ++ results) again no_outputs

  no_unfit : wrong ++ unfit ≡ []
  no_unfit = front_empty (wrong ++ unfit) results no_results

  pub accepted_parts : AcceptedParts items end kinds
  accepted_parts = record {
    names_once = none_mapped fault.DefinedTwice (declared_twice items) (front_empty twice (map fault.UnknownName (unknown_names items)) no_names);
    names_known = last_none twice fault.UnknownName (unknown_names items) no_names;
    good_types = none_mapped fault.BadType (bad_types items) (front_empty bad mixed no_types);
    not_mixed = last_none bad fault.MixedParameters (mixed_parameters items) no_types;
    scalar_inputs = last_none (bad ++ mixed) fault.AggregateInput (aggregate_inputs items) no_forms;
    no_function_cycle = is.no_cycle.functions;
    no_untyped_cycle = is.no_cycle.untyped;
    are_kinds = is.are_kinds;
    arities = none_mapped fault.WrongArity (wrong_arities items) (front_empty wrong unfit no_unfit);
    fit = last_none wrong wrong_type (all_wrongs items kinds) no_unfit;
    scalar_results = last_none (wrong ++ unfit) fault.AggregateResult (aggregate_results_from kinds 0 items) no_results;
    outputs_once = last_none (wrong ++ unfit ++ results) fault.OutputTwice (outputs_twice items) no_outputs;
    has_output = last_none (wrong ++ unfit ++ results ++ again) fault.NoOutput (without_output items end) is.no_late;
  }
