-- What a well typed source brings to its flattening.
use Rattle.std.proofs.Common.{◌≡◌, ℕ, ◌<◌, ◌≤◌, List, [], ◌∷◌, length, None, arith}
use Rattle.tsl_value.specs.declared.place.Place.{Place}
use Rattle.spec_lexer.proofs.SourceLaws.{few_tokens}
use Rattle.spec_lexer.specs.declared.limits.TheConstants.{MOST_SOURCE_BYTES}
use Rattle.syntax_tree.specs.Tree as tree
use Rattle.spec_parser.proofs.Items.{complete}
use Rattle.spec_parser.proofs.ParseLaws.{size_is}
use Rattle.spec_parser.specs.declared.limits.TheConstants.{MOST_LEVELS}
use Rattle.form_check.specs.Outputs.{without_output}
use Rattle.definition_cycles.specs.Cycles.{IsFirstFunctionCycle}
use Rattle.definition_cycles.specs.Nodes.{HasFewNodes}
use Rattle.source_rules.proofs.CountLemmas.{few_bytes, few_nodes}
use Rattle.type_rules.specs.Kinds.{Kinds}
use Rattle.spec_meaning.specs.Due.{outputs_of}
use Rattle.checked_spec.specs.inner.Checked.{IsChecked}
use Rattle.checked_spec.proofs.BodyLaws.{function_bodies_are_typed}
use Rattle.checked_spec.proofs.OwnNames.{lift_is_no_function}
use Rattle.type_check.proofs.AcceptedParts.{AcceptedParts, accepted_parts}
use Rattle.parsed_spec.proofs.Chains.{spelled_have_operators}
use Rattle.parsed_spec.specs.inner.Short.{HaveShortTexts}
use Rattle.parsed_spec.proofs.Texts.{spelled_have_short_texts}
use Rattle.function_bodies.specs.inner.Calls.{ArePlain}
use Rattle.flat_meaning.specs.inner.Complete.{HasOutputs}
use Rattle.source_rules.specs.Source.{IsSpelled, IsWellTyped}
use Rattle.source_rules.proofs.SourceLemmas.{held_typed}

-- where an output is not missing, one is printed
has_output : (items : List tree.Item) (end : Place) → without_output items end ≡ [] → 0 < length (outputs_of items)
has_output [] end h = cc
has_output (tree.Input p q n y ∷ items) end h = has_output items end h
has_output (tree.Defined p d ∷ items) end h = has_output items end h
has_output (tree.Output p q n ∷ items) end h = omega arith
has_output (tree.OutputAs p e q n ∷ items) end h = omega arith

-- no more items than bytes
items_and_bytes : (source : List ℕ) (items : List tree.Item) (end : Place) → IsSpelled source items end → length items ≤ MOST_SOURCE_BYTES
items_and_bytes source items end s =
    let bytes = few_bytes source s.spelled s.tokens in
    let tokens = few_tokens source s.spelled s.tokens in
    let fewer = size_is MOST_LEVELS s.spelled.tokens items (complete MOST_LEVELS s.spelled.tokens items s.spells) in omega (arith, bytes, tokens, fewer)

-- of the items as they lie in memory
module _ (source : List ℕ) (items whole : List tree.Item) (kinds : Kinds) (same : items ≡ whole) (typed : IsWellTyped source whole kinds) where
  t : IsWellTyped source items kinds
  t = held_typed source items whole kinds same typed

  parts : AcceptedParts items t.end kinds
  parts = accepted_parts items t.end kinds t.accepted

  pub is_checked : IsChecked items kinds
  is_checked = record {
    names_once = parts.names_once;
    names_known = parts.names_known;
    good_types = parts.good_types;
    not_mixed = parts.not_mixed;
    scalar_inputs = parts.scalar_inputs;
    no_cycle = parts.no_function_cycle;
    no_untyped_cycle = parts.no_untyped_cycle;
    are_kinds = parts.are_kinds;
    arities = parts.arities;
    fit = parts.fit;
    scalar_results = parts.scalar_results;
    operators = spelled_have_operators t.spelled.spelled.tokens items t.spelled.spells;
  }

  pub no_function_cycle : IsFirstFunctionCycle items None
  no_function_cycle = parts.no_function_cycle

  pub has_outputs : HasOutputs items
  has_outputs = record { some = has_output items t.end parts.has_output; once = parts.outputs_once }

  pub have_short_texts : HaveShortTexts items
  have_short_texts = spelled_have_short_texts source t.spelled.spelled items t.spelled.tokens t.spelled.spells

  pub few_items : length items < 2147483648
  few_items = let few = items_and_bytes source items t.end t.spelled in omega (arith, few)

  pub has_few_nodes : HasFewNodes items
  has_few_nodes = few_nodes source t.spelled.spelled items t.spelled.tokens t.spelled.spells

  -- value functions are plain expressions
  pub are_plain : ArePlain items
  are_plain = record {
    no_braces = λ i is. let f = function_bodies_are_typed items kinds i is_checked is in (f.expr, f.plain);
    no_lift = λ j is. lift_is_no_function items kinds j is_checked is;
  }
