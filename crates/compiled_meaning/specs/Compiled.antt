-- Which system is run for a source, and how a source is refused.
use Rattle.std.specs.Prelude.{◌≢◌, ℕ, List}
use Rattle.flat_core.specs.System.{System}
use Rattle.flat_simplify.specs.Simplified.{IsSimplified}
use Rattle.syntax_tree.specs.Tree as tree
use Rattle.source_rules.specs.declared.fault.SpecFault.{SpecFault}
use Rattle.source_rules.specs.declared.fault.SpecFault.TheVariants.{Memory}
use Rattle.source_rules.specs.Source.{SpellsSystem, IsRefused}

-- The source is a specification that can be run: these items, whose flat system is u once it is simplified.
pub record Compiles (source : List ℕ) (items : List tree.Item) (u : System) : Type 0 where
  pub flat : System
  pub spells : SpellsSystem source items flat
  pub simplified : IsSimplified flat u

-- it is some specification whose system this is
abbrev pub CompilesSomething : List ℕ → System → Type 0
CompilesSomething source u = (items : List tree.Item) × Compiles source items u

-- the source is refused in this way; out of memory refuses none
abbrev pub IsRefusedBy : List ℕ → SpecFault → Type 0
IsRefusedBy source e = (e ≢ Memory) × IsRefused source e
