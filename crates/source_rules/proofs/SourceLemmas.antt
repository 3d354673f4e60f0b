-- From the answers of the phases to the source.
use Rattle.std.proofs.Common.{◌≡◌, ℕ, List, [], None, sym, subst}
use Rattle.tsl_value.specs.declared.place.Place.{Place}
use Rattle.flat_core.specs.Complete.{IsFlat}
use Rattle.flat_core.specs.Needed.{RunsNeeded}
use Rattle.flat_core.specs.System.{System}
use Rattle.spec_lexer.specs.declared.fault.LexFault.{LexFault}
use Rattle.spec_lexer.specs.declared.fault.LexFault.TheVariants as lex_fault
use Rattle.spec_lexer.specs.Tokens.{Spelled}
use Rattle.spec_lexer.specs.Source.{HasTokens, HasFault, IsFaultAnd}
use Rattle.syntax_tree.specs.Tree as tree
use Rattle.spec_parser.specs.declared.parse.ParseFault.{ParseFault}
use Rattle.spec_parser.specs.declared.parse.ParseFault.TheVariants as parse_fault
use Rattle.syntax_tree.specs.declared.tree.Tree.{Tree}
use Rattle.syntax_tree.specs.inner.OneLevel.{items_of}
use Rattle.spec_parser.specs.Grammar.{Spells}
use Rattle.spec_parser.specs.Answers.{IsFaultOf}
use Rattle.spec_parser.specs.declared.limits.TheConstants.{MOST_LEVELS}
use Rattle.type_rules.specs.Kinds.{Kinds}
use Rattle.type_check.specs.declared.fault.TypeFault.{TypeFault}
use Rattle.type_check.specs.declared.fault.TypeFault.TheVariants as type_fault
use Rattle.type_check.specs.inner.Answer.{IsFaultOf as IsTypeFaultOf}
use Rattle.type_check.specs.Faults.{IsAccepted}
use Rattle.stream_constructs.specs.declared.maker.MakeFault.{MakeFault}
use Rattle.stream_constructs.specs.declared.maker.MakeFault.TheVariants as make_fault
use Rattle.call_limits.specs.Nesting.{IsFirstMacroCycle, IsFirstTooDeep}
use Rattle.function_bodies.specs.Bodies.{too_large_bodies}
use Rattle.equation_marks.specs.Marks.{all_marks}
use Rattle.equation_marks.specs.Refused.{refused, AreRefused}
use Rattle.spec_meaning.specs.Flat.{IsFlatOf}
use Rattle.source_rules.specs.declared.fault.SpecFault.{SpecFault}
use Rattle.source_rules.specs.declared.fault.SpecFault.TheVariants as fault
use Rattle.source_rules.specs.Source.{IsSpelled, IsWellTyped, HasSystem, IsFlatFault, IsRefused, of_lex, of_parse, of_type, of_make, IsOfFlat}

module _ (source : List ℕ) where
  pub lex_refused : (e : LexFault) → IsFaultAnd e (HasFault source) → IsRefused source (of_lex e)
  lex_refused lex_fault.Memory h = tt
  lex_refused e h = h

  module _ (spelled : Spelled) (tokens : HasTokens source spelled) where
    pub parse_refused : (e : ParseFault) → IsFaultOf e spelled.tokens spelled.end → IsRefused source (of_parse e)
    parse_refused parse_fault.Memory h = tt
    parse_refused e h = record { spelled = spelled; tokens = tokens; refused = h }

    module _ (items : List tree.Item) (end : Place) (spells : Spells MOST_LEVELS spelled.tokens items) (end_is : end ≡ spelled.end) where
      is_spelled : IsSpelled source items end
      is_spelled = record { spelled = spelled; tokens = tokens; spells = spells; end_is = sym end_is }

      pub type_refused : (e : TypeFault) → IsTypeFaultOf items end e → IsRefused source (of_type e)
      type_refused type_fault.Memory h = tt
      type_refused e h = record { items = items; end = end; spelled = is_spelled; refused = h }

      pub is_well_typed : (kinds : Kinds) → IsAccepted items end kinds → IsWellTyped source items kinds
      is_well_typed kinds accepted = record { end = end; spelled = is_spelled; accepted = accepted }

  -- the same items, as they lie in memory
  module _ (held items : List tree.Item) (kinds : Kinds) (same : held ≡ items) (typed : IsWellTyped source items kinds) where
    pub held_typed : IsWellTyped source held kinds
    held_typed = subst (λ is. IsWellTyped source is kinds) (sym same) typed

    pub flat_refused : (e : SpecFault) → IsOfFlat (IsFlatFault held kinds) e → IsRefused source e
    flat_refused (fault.Flat e) h = record { items = held; kinds = kinds; typed = held_typed; refused = h }
    flat_refused fault.Memory h = tt
    flat_refused e h = absurd h

    module _ (no_macro_cycle : IsFirstMacroCycle held None) (nests : IsFirstTooDeep held None) (small : too_large_bodies held ≡ []) where
      pub make_refused : (e : MakeFault) → AreRefused (all_marks held kinds) e → IsRefused source (of_make e)
      make_refused make_fault.Memory h = tt
      make_refused (make_fault.TooManyEquations place) h =
          record { items = held; kinds = kinds; typed = held_typed; refused = (no_macro_cycle, nests, small, h) }
      make_refused (make_fault.TooManyUpdates place) h =
          record { items = held; kinds = kinds; typed = held_typed; refused = (no_macro_cycle, nests, small, h) }

      pub has_system : (s : System) → refused (all_marks held kinds) ≡ None → IsFlatOf held kinds s.equations s.outputs → IsFlat s → RunsNeeded s → HasSystem source items s
      has_system s few flat_of is_flat needed = subst (λ is. HasSystem source is s) same (record {
        kinds = kinds;
        specifies = record { typed = held_typed; no_macro_cycle = no_macro_cycle; nests = nests; small = small; few = few };
        is_flat_of = flat_of;
        is_flat = is_flat;
        needed = needed;
      })

-- ---- the whole
-- what is read of a source that is well typed
pub tree_typed : (source : List ℕ) (a : Spelled) (parsed checked : Tree) (kinds : Kinds) → HasTokens source a → Spells MOST_LEVELS a.tokens (items_of parsed) → parsed.end ≡ a.end → checked ≡ parsed → IsAccepted (items_of parsed) parsed.end kinds → IsWellTyped source (items_of checked) kinds
tree_typed source a parsed checked kinds tokens spells end same accepted =
    subst (λ t. IsWellTyped source (items_of t) kinds) (sym same) (is_well_typed source a tokens (items_of parsed) parsed.end spells end kinds accepted)
