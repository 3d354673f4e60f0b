-- Something happens in a specification that is compiled.
use Rattle.std.proofs.Common.{◌⊎◌, inl, inr, ℕ, suc, List, sym, ◌∙◌, arith}
use Rattle.std.specs.Prelude.{is_some}
use Rattle.std.proofs.lemmas.Bool.{cases_Bool, true≢false}
use Rattle.flat_core.specs.Case.{Streams}
use Rattle.flat_core.specs.Complete.{IsFlat}
use Rattle.flat_core.specs.Fault.{root_at, is_faulty}
use Rattle.flat_core.specs.Line.{Line, inputs_of}
use Rattle.flat_core.specs.Solution.{Solves}
use Rattle.flat_core.specs.System.{System}
use Rattle.flat_core.specs.WellFormed.{IsWellFormed}
use Rattle.flat_core.proofs.Members.{some_in}
use Rattle.flat_meaning.specs.inner.Laws.{MeansTheSame}
use Rattle.flat_meaning.proofs.Covered.{needed_there}
use Rattle.flat_meaning.proofs.DueText.{to_faulty, some_is}
use Rattle.flat_meaning.proofs.FromLaws.{flat_means_the_same, the_laws}
use Rattle.flat_meaning.proofs.Means.{leads, outputs_there, happening_at}
use Rattle.flat_meaning.proofs.OneThing.{one_thing}
use Rattle.spec_meaning.specs.Due.{IsFaulty}
use Rattle.spec_meaning.specs.Happens.{IsNeeded}
use Rattle.spec_meaning.specs.Occurrence.{Occurrence}
use Rattle.syntax_tree.specs.Tree as tree
use Rattle.compiled_meaning.specs.Compiled.{Compiles}
use Rattle.compiled_meaning.specs.inner.Laws.{OneHappens, SomethingHappens, FaultsAreDecided}
use Rattle.compiled_meaning.proofs.FlatMeaning.{root_is_meant}
use Rattle.compiled_meaning.proofs.Readiness.{ready_of}

module _ (source : List ℕ) (items : List tree.Item) (u : System) (lines : List Line) (t : ℕ) (c : Compiles source items u) where
  abbrev s : System
  s = c.flat

  flat : IsFlat s
  flat = c.spells.system.is_flat

  good : IsWellFormed s
  good = c.spells.well_formed

  -- streams of the flat system up to this time
  solution : (z : Streams) × Solves s (inputs_of lines) (suc t) z
  solution = (ready_of s flat good).exists (inputs_of lines) (suc t)

  pub one_happens : (o : Occurrence) → IsNeeded items o → OneHappens items (inputs_of lines) o t
  one_happens o needed =
      let has = c.spells.system in
      let (z, zs) = solution in
      let at = needed_there items has.kinds has.is_flat_of.top s flat.proper
      (leads items has.kinds s lines (suc t) z the_laws has.is_flat_of flat has.needed good zs)
      flat
      (outputs_there items has.kinds s lines (suc t) z the_laws has.is_flat_of flat has.needed good zs)
      needed in
      let happens = happening_at items has.kinds s lines (suc t) z the_laws has.is_flat_of flat has.needed good zs o at.number at.there at.running t (omega arith) in
      record { outcome = z at.number t; happens = happens; only = λ x other. one_thing items (inputs_of lines) o t x (z at.number t) other happens }

  pub decided : IsFaulty items lines t ⊎ ¬ (IsFaulty items lines t)
  decided =
      let has = c.spells.system in
      let (z, zs) = solution in
      let same : MeansTheSame items s lines (suc t) z = flat_means_the_same the_laws items has.kinds s lines (suc t) z has.is_flat_of flat has.needed good zs in
      elim (cases_Bool (is_faulty s (inputs_of lines) z t)) [
        | inl faulty ↦
            let found = some_in (λ i. is_some (root_at s (inputs_of lines) z t i)) s.running faulty in
            let kind = some_is (root_at s (inputs_of lines) z t found.0) found.2 in
            inl (root_is_meant items s lines (suc t) z same flat.proper t found.0 kind.0 (omega arith) found.1 kind.1)
        | inr sound ↦ inr (λ faulty. true≢false (sym (to_faulty items s lines (suc t) z same t (omega arith) faulty) ∙ sound))
      ]

pub something_happens : SomethingHappens
something_happens source items u lines o t c needed = one_happens source items u lines t c o needed

pub faults_are_decided : FaultsAreDecided
faults_are_decided source items u lines t c = decided source items u lines t c
