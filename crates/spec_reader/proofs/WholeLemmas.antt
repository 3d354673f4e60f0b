-- From the answer of the whole to the source.
use Rattle.std.proofs.Common.{◌≡◌, ℕ, List, Ok, Err, sym, subst}
use Rattle.std.specs.Prelude.{Result, IfOk}
use Rattle.flat_core.specs.System.{System}
use Rattle.flat_core.specs.WellFormed.{IsWellFormed}
use Rattle.syntax_tree.specs.Tree as tree
use Rattle.source_rules.specs.declared.fault.SpecFault.{SpecFault}
use Rattle.source_rules.specs.Source.{HasSystem, SpellsSomething}
use Rattle.spec_reader.specs.declared.read.Specification.{Specification}

pub spells_something : (source : List ℕ) (items : List tree.Item) (s : System) (r : Result Specification SpecFault) → HasSystem source items s → IfOk r (λ c. c.flat ≡ s) → IfOk r (λ c. IsWellFormed c.flat) → IfOk r (λ c. SpellsSomething source c.flat)
spells_something source items s (Ok c) has same good = (items, record { system = subst (HasSystem source items) (sym same) has; well_formed = good })
spells_something source items s (Err e) has same good = tt
