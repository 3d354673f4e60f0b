-- Which specification a source is, what system it means, and how another source is refused.
use Rattle.std.specs.Prelude.{◌≡◌, ℕ, List, [], ◌∷◌, length, map, Some, None}
use Rattle.tsl_value.specs.declared.place.Place.{Place}
use Rattle.flat_core.specs.declared.equation.Equation.{Equation}
use Rattle.flat_core.specs.Complete.{IsFlat}
use Rattle.flat_core.specs.Needed.{RunsNeeded}
use Rattle.flat_core.specs.System.{System, equation}
use Rattle.flat_core.specs.WellFormed.{IsWellFormed}
use Rattle.spec_lexer.specs.declared.token.Token.{Token}
use Rattle.spec_lexer.specs.declared.fault.LexFault.{LexFault}
use Rattle.spec_lexer.specs.declared.fault.LexFault.TheVariants as lex_fault
use Rattle.spec_lexer.specs.Tokens.{Spelled}
use Rattle.spec_lexer.specs.Source.{HasTokens, HasFault}
use Rattle.syntax_tree.specs.Tree as tree
use Rattle.spec_parser.specs.declared.parse.ParseFault.{ParseFault}
use Rattle.spec_parser.specs.declared.parse.ParseFault.TheVariants as parse_fault
use Rattle.spec_parser.specs.Grammar.{Spells}
use Rattle.spec_parser.specs.Answers.{IsFaultOf}
use Rattle.spec_parser.specs.declared.limits.TheConstants.{MOST_LEVELS}
use Rattle.name_check.specs.Faults.{first}
use Rattle.type_rules.specs.Kinds.{Kinds}
use Rattle.type_check.specs.declared.fault.TypeFault.{TypeFault}
use Rattle.type_check.specs.declared.fault.TypeFault.TheVariants as type_fault
use Rattle.type_check.specs.Faults.{IsAccepted, IsFirstFault}
use Rattle.call_limits.specs.Nesting.{IsFirstMacroCycle, IsFirstTooDeep}
use Rattle.function_bodies.specs.Bodies.{too_large_bodies}
use Rattle.stream_constructs.specs.declared.maker.MakeFault.{MakeFault}
use Rattle.stream_constructs.specs.declared.maker.MakeFault.TheVariants as make_fault
use Rattle.equation_marks.specs.Marks.{all_marks}
use Rattle.equation_marks.specs.Refused.{refused}
use Rattle.spec_meaning.specs.Flat.{IsFlatOf}
use Rattle.translation_order.specs.Cycle.{IsCycleOfWalk}
use Rattle.program_text.specs.Text.{label_text}
use Rattle.recursion_check.specs.Feeds.{Feeds}
use Rattle.source_rules.specs.declared.fault.FlatFault.{FlatFault}
use Rattle.source_rules.specs.declared.fault.FlatFault.TheVariants as flat_fault
use Rattle.source_rules.specs.declared.fault.SpecFault.{SpecFault}
use Rattle.source_rules.specs.declared.fault.SpecFault.TheVariants as fault

-- ---- what the source is
-- the source's tokens spell these items, and it ends here
pub record IsSpelled (source : List ℕ) (items : List tree.Item) (end : Place) : Type 0 where
  pub spelled : Spelled
  pub tokens : HasTokens source spelled
  pub spells : Spells MOST_LEVELS spelled.tokens items
  pub end_is : spelled.end ≡ end

-- and the check of types accepts them
pub record IsWellTyped (source : List ℕ) (items : List tree.Item) (kinds : Kinds) : Type 0 where
  pub end : Place
  pub spelled : IsSpelled source items end
  pub accepted : IsAccepted items end kinds

-- and nothing of them is refused before their equations are made, nor while they are
pub record Specifies (source : List ℕ) (items : List tree.Item) (kinds : Kinds) : Type 0 where
  pub typed : IsWellTyped source items kinds
  pub no_macro_cycle : IsFirstMacroCycle items None
  pub nests : IsFirstTooDeep items None
  pub small : too_large_bodies items ≡ []
  pub few : refused (all_marks items kinds) ≡ None

-- their flat system, in which just those equations run that the outputs need
pub record HasSystem (source : List ℕ) (items : List tree.Item) (s : System) : Type 0 where
  pub kinds : Kinds
  pub specifies : Specifies source items kinds
  pub is_flat_of : IsFlatOf items kinds s.equations s.outputs
  pub is_flat : IsFlat s
  pub needed : RunsNeeded s

-- The source is a specification that can be run: these items, which mean this system.
pub record SpellsSystem (source : List ℕ) (items : List tree.Item) (s : System) : Type 0 where
  pub system : HasSystem source items s
  pub well_formed : IsWellFormed s

-- it is some specification that means this system
abbrev pub SpellsSomething : List ℕ → System → Type 0
SpellsSomething source s = (items : List tree.Item) × SpellsSystem source items s

-- ---- how it is refused
-- out of memory is a fault of no source and of no tokens
abbrev pub IsLexFault : List ℕ → LexFault → Type 0
IsLexFault source lex_fault.Memory = ⊥
IsLexFault source e = HasFault source e

abbrev pub IsParseFault : List Token → Place → ParseFault → Type 0
IsParseFault tokens end parse_fault.Memory = ⊥
IsParseFault tokens end e = IsFaultOf e tokens end

-- the source has tokens, and they are refused
pub record IsMisspelled (source : List ℕ) (e : ParseFault) : Type 0 where
  pub spelled : Spelled
  pub tokens : HasTokens source spelled
  pub refused : IsParseFault spelled.tokens spelled.end e

abbrev pub IsTypeFault : List tree.Item → Place → TypeFault → Type 0
IsTypeFault items end type_fault.Memory = ⊥
IsTypeFault items end e = IsFirstFault items end e

-- its tokens spell items, and the check of types refuses them
pub record IsMistyped (source : List ℕ) (e : TypeFault) : Type 0 where
  pub items : List tree.Item
  pub end : Place
  pub spelled : IsSpelled source items end
  pub refused : IsTypeFault items end e

-- Well typed items are refused before their equations are made, in this order, or while they are.
abbrev pub IsFlatFault : List tree.Item → Kinds → FlatFault → Type 0
IsFlatFault items kinds (flat_fault.MacroCycle place) = IsFirstMacroCycle items (Some place)
IsFlatFault items kinds (flat_fault.CallsTooDeep place) = IsFirstMacroCycle items None × IsFirstTooDeep items (Some place)
IsFlatFault items kinds (flat_fault.BodyTooLarge place) =
    IsFirstMacroCycle items None × IsFirstTooDeep items None × (first (too_large_bodies items) ≡ Some place)
IsFlatFault items kinds (flat_fault.TooManyEquations place) =
    IsFirstMacroCycle items None
    × IsFirstTooDeep items None
    × (too_large_bodies items ≡ [])
    × (refused (all_marks items kinds) ≡ Some (make_fault.TooManyEquations place))
IsFlatFault items kinds (flat_fault.TooManyUpdates place) =
    IsFirstMacroCycle items None
    × IsFirstTooDeep items None
    × (too_large_bodies items ≡ [])
    × (refused (all_marks items kinds) ≡ Some (make_fault.TooManyUpdates place))

pub record HasNoFlat (source : List ℕ) (e : FlatFault) : Type 0 where
  pub items : List tree.Item
  pub kinds : Kinds
  pub typed : IsWellTyped source items kinds
  pub refused : IsFlatFault items kinds e

-- The equations have a cycle without a guard: this one, at the place of its first equation.
pub record IsCyclic (source : List ℕ) (place : Place) (names : List (List ℕ)) : Type 0 where
  pub items : List tree.Item
  pub system : System
  pub is_system : HasSystem source items system
  pub cycle : List ℕ
  pub walked : IsCycleOfWalk (length system.equations) (Feeds system) cycle
  pub names_are : names ≡ map (label_text system) cycle
  pub place_is : (i : ℕ) (rest : List ℕ) (e : Equation) → cycle ≡ i ∷ rest → equation system i ≡ Some e → place ≡ e.place

-- The source is refused in this way. Out of memory says nothing of it.
abbrev pub IsRefused : List ℕ → SpecFault → Type 0
IsRefused source (fault.Lex e) = IsLexFault source e
IsRefused source (fault.Parse e) = IsMisspelled source e
IsRefused source (fault.Types e) = IsMistyped source e
IsRefused source (fault.Flat e) = HasNoFlat source e
IsRefused source (fault.Cycle place names) = IsCyclic source place names.items
IsRefused source fault.Memory = Unit {0}

-- ---- on the way
-- a phase that is out of memory leaves the reader so
abbrev pub of_lex : LexFault → SpecFault
of_lex lex_fault.Memory = fault.Memory
of_lex e = fault.Lex e

abbrev pub of_parse : ParseFault → SpecFault
of_parse parse_fault.Memory = fault.Memory
of_parse e = fault.Parse e

abbrev pub of_type : TypeFault → SpecFault
of_type type_fault.Memory = fault.Memory
of_type e = fault.Types e

abbrev pub of_make : MakeFault → SpecFault
of_make make_fault.Memory = fault.Memory
of_make (make_fault.TooManyEquations place) = fault.Flat (flat_fault.TooManyEquations place)
of_make (make_fault.TooManyUpdates place) = fault.Flat (flat_fault.TooManyUpdates place)

-- the fault is one of these, or out of memory
abbrev pub IsOfFlat : (FlatFault → Type 0) → SpecFault → Type 0
IsOfFlat P (fault.Flat e) = P e
IsOfFlat P fault.Memory = Unit {0}
IsOfFlat P e = ⊥
