-- Laws of sources.
use Rattle.std.specs.Prelude.{◌≡◌, ◌≢◌, ℕ, List}
use Rattle.flat_core.specs.System.{System}
use Rattle.spec_lexer.specs.declared.fault.LexFault.TheVariants as lex_fault
use Rattle.syntax_tree.specs.Tree as tree
use Rattle.spec_parser.specs.declared.parse.ParseFault.TheVariants as parse_fault
use Rattle.type_rules.specs.Kinds.{Kinds}
use Rattle.type_check.specs.declared.fault.TypeFault.TheVariants as type_fault
use Rattle.source_rules.specs.declared.fault.SpecFault.{SpecFault}
use Rattle.source_rules.specs.declared.fault.SpecFault.TheVariants as fault
use Rattle.source_rules.specs.declared.fault.SpecFault.TheVariants.{Memory}
use Rattle.source_rules.specs.Source.{Specifies, SpellsSystem, IsRefused}

-- a source has one reading: it specifies one list of items at most, with one kind of each name
abbrev pub OneReading : Type 0
OneReading =
    (source : List ℕ) (items others : List tree.Item) (kinds again : Kinds) →
    Specifies source items kinds →
    Specifies source others again →
    (items ≡ others) × (kinds ≡ again)

-- a source is one specification at most, which means one system
abbrev pub OneSystem : Type 0
OneSystem =
    (source : List ℕ) (items others : List tree.Item) (s t : System) →
    SpellsSystem source items s →
    SpellsSystem source others t →
    (items ≡ others) × (s ≡ t)

-- a source that is refused, other than for memory, is none
abbrev pub RefusedSpellsNone : Type 0
RefusedSpellsNone =
    (source : List ℕ) (e : SpecFault) (items : List tree.Item) (s : System) →
    e ≢ Memory →
    IsRefused source e →
    ¬ (SpellsSystem source items s)

-- two refusals are one, wherever the names of a cycle lie in memory
abbrev pub IsSame : SpecFault → SpecFault → Type 0
IsSame (fault.Cycle place names) (fault.Cycle other others) = (place ≡ other) × (names.items ≡ others.items)
IsSame d e = d ≡ e

-- a source is refused in one way at most, other than for memory
abbrev pub OneRefusal : Type 0
OneRefusal = (source : List ℕ) (d e : SpecFault) → d ≢ Memory → e ≢ Memory → IsRefused source d → IsRefused source e → IsSame d e

-- no refusal of a source by a phase is that the phase was out of memory
pub record IsNoMemory (source : List ℕ) : Type 0 where
  pub lexed : ¬ (IsRefused source (fault.Lex lex_fault.Memory))
  pub parsed : ¬ (IsRefused source (fault.Parse parse_fault.Memory))
  pub typed : ¬ (IsRefused source (fault.Types type_fault.Memory))

abbrev pub RefusalsAreNoMemory : Type 0
RefusalsAreNoMemory = (source : List ℕ) → IsNoMemory source
