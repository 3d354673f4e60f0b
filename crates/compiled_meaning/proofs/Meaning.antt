-- What the system that is run says of a trace, the specification says.
use Rattle.std.proofs.Common.{◌≡◌, ℕ, ◌<◌, List, Some, refl, sym, subst, arith}
use Rattle.std.specs.Prelude.{IsTrue}
use Rattle.lift_func.specs.declared.fault.FaultKind.{FaultKind}
use Rattle.flat_core.specs.inner.BoundLaws.{HappensAtInstants}
use Rattle.flat_core.specs.declared.equation.Equation.{Equation}
use Rattle.flat_core.specs.Case.{Streams}
use Rattle.flat_core.specs.Complete.{IsFlat}
use Rattle.flat_core.specs.Ending.{EndsInFault}
use Rattle.flat_core.specs.Line.{Line, inputs_of}
use Rattle.flat_core.specs.Renumbered.{with_new_args}
use Rattle.flat_core.specs.Solution.{Solves}
use Rattle.flat_core.specs.System.{System, runs, equation}
use Rattle.flat_core.specs.Text.{due_text}
use Rattle.flat_core.specs.inner.TypedLines.{IsTypedLine, AreTypedLines}
use Rattle.flat_core.specs.WellFormed.{IsWellFormed}
use Rattle.flat_core.proofs.SameMeaning.{happens_alike}
use Rattle.flat_core.proofs.Silence.{happens_at_instants}
use Rattle.flat_core.proofs.TypedEvents.{inputs_typed}
use Rattle.flat_core.proofs.Uniqueness.{agree_before, all_by}
use Rattle.flat_core.proofs.WellFormedRank.{rank_of, well_formed_ranked}
use Rattle.flat_meaning.specs.inner.Laws.{MeansTheSame}
use Rattle.flat_meaning.proofs.FromLaws.{flat_means_the_same, flat_text_is_due, the_laws}
use Rattle.flat_simplify.specs.inner.Laws.{IsFit, KeepsEnds}
use Rattle.flat_simplify.specs.inner.Solved.{AreSolved}
use Rattle.flat_simplify.proofs.Ends.{keeps_ends}
use Rattle.flat_simplify.proofs.Fit.{new_equation, simplified_fit}
use Rattle.flat_simplify.proofs.Text.{keeps_text}
use Rattle.spec_meaning.specs.Due.{IsDueText}
use Rattle.syntax_tree.specs.Tree as tree
use Rattle.compiled_meaning.specs.Compiled.{Compiles}
use Rattle.compiled_meaning.specs.inner.Laws.{SaysWhatIsMeant, CompiledSaysWhatIsMeant}
use Rattle.compiled_meaning.specs.Meant.{FaultTimeIsMeant, IsFaultNamed}
use Rattle.compiled_meaning.proofs.FlatMeaning.{quiet_is_meant, limit_is_meant, fault_time_is_meant}
use Rattle.compiled_meaning.proofs.Readiness.{ready_of}

module _ (source : List ℕ) (items : List tree.Item) (u : System) (lines : List Line) (bound limit : ℕ) (w : Streams) (c : Compiles source items u) (typed : AreTypedLines u lines) (ws : Solves u (inputs_of lines) bound w) where
  abbrev s : System
  s = c.flat

  flat : IsFlat s
  flat = c.spells.system.is_flat

  good : IsWellFormed s
  good = c.spells.well_formed

  solution : (z : Streams) × Solves s (inputs_of lines) bound z
  solution = (ready_of s flat good).exists (inputs_of lines) bound

  abbrev z : Streams
  z = solution.0

  -- the equations of the flat system have the types of those that are run
  line_typed : (l : Line) → IsTypedLine u l → IsTypedLine s l
  line_typed l good_line = record {
    event = λ i v is e at. good_line.event i v is (with_new_args c.simplified.replaced e) (new_equation s u flat.proper flat.complete.typed good flat.outputs_run c.simplified.replaced c.simplified.replacement c.simplified.renumbered i e at);
  }

  lines_typed : (ls : List Line) → AreTypedLines u ls → AreTypedLines s ls
  lines_typed ls all = all_by (IsTypedLine u) (IsTypedLine s) line_typed ls all

  both : AreSolved s u (inputs_of lines) bound z w
  both = record {
    proper = flat.proper;
    typed = flat.complete.typed;
    well_formed = good;
    outputs_run = flat.outputs_run;
    simplified = c.simplified;
    solves = solution.1;
    typed_inputs = inputs_typed s lines (lines_typed lines typed);
    solves_simplified = ws;
  }

  same : MeansTheSame items s lines bound z
  same = flat_means_the_same the_laws items c.spells.system.kinds s lines bound z c.spells.system.is_flat_of flat c.spells.system.needed good solution.1

  happens : HappensAtInstants s lines bound z
  happens = happens_at_instants s lines z bound flat.proper flat.complete.typed (rank_of s good) (well_formed_ranked s good) solution.1

  ends : KeepsEnds s u lines bound limit z w
  ends = keeps_ends s u lines bound limit z w both

  text_meant : IsDueText items lines bound limit (due_text u lines w bound limit)
  text_meant =
      subst (λ (l : List ℕ). IsDueText items lines bound limit l) (sym ((keeps_text s u lines bound z w both).due_same limit))
      (flat_text_is_due the_laws items c.spells.system.kinds s lines bound limit z c.spells.system.is_flat_of flat c.spells.system.needed good solution.1)

  fault_meant : (t i : ℕ) (kind : FaultKind) → EndsInFault u lines w bound limit t i kind → FaultTimeIsMeant items lines bound limit t
  fault_meant t i kind fault = let (j, other, found) = (ends.fault_same t).1 (i, kind, fault) in fault_time_is_meant items s lines bound z same limit flat.proper t j other found

  fit : IsFit s u
  fit = simplified_fit s u flat.proper flat.complete.typed good flat.outputs_run c.simplified

  -- all streams that solve the system name the fault that these name
  agreeing : (v : Streams) → Solves u (inputs_of lines) bound v → (i : ℕ) → IsTrue (runs u i) → (t : ℕ) → t < bound → w i t ≡ v i t
  agreeing v vs i run t lt = agree_before u (inputs_of lines) (rank_of u fit.well_formed) fit.proper (well_formed_ranked u fit.well_formed) bound w v ws vs bound (omega arith) i run t lt

  named_meant : (t i : ℕ) (kind : FaultKind) (e : Equation) → equation u i ≡ Some e → EndsInFault u lines w bound limit t i kind → IsFaultNamed u lines bound t e.place kind
  named_meant t i kind e is fault = record {
    number = i;
    of = e;
    is = is;
    place_is = refl;
    named = λ v vs. ((happens_alike u bound w v fit.proper (agreeing v vs) lines).named_same t i kind (fault_meant t i kind fault).closed).0 fault.named;
  }

  meant : SaysWhatIsMeant items u lines bound limit w
  meant = record {
    text = text_meant;
    quiet = λ quiet. quiet_is_meant items s lines bound z same limit happens (ends.bound_same.1 quiet);
    fault = fault_meant;
    named = named_meant;
    limited = λ t limited. limit_is_meant items s lines bound z same limit t ((ends.limit_same t).1 limited);
  }

pub compiled_says_what_is_meant : CompiledSaysWhatIsMeant
compiled_says_what_is_meant source items u lines bound limit w c typed ws = meant source items u lines bound limit w c typed ws
