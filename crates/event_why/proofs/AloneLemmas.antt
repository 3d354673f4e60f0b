-- What is known of the system of one output is what is said of the whole.
use Rattle.std.proofs.Common.{◌≡◌, ℕ, suc, ◌<◌, not, List, [], sym, ap, subst, ◌∙◌, arith}
use Rattle.std.specs.Prelude.{IsTrue, is_some, slice_get}
use Rattle.std.specs.List.{list_any}
use Rattle.std.specs.Option.{option_and_then}
use Rattle.lift_func.specs.declared.fault.FaultKind.{FaultKind}
use Rattle.translation_order.specs.Graph.{Path, edge, step, stay}
use Rattle.flat_core.specs.Case.{Streams, root_fault}
use Rattle.flat_core.specs.Complete.{IsFlat}
use Rattle.flat_core.specs.Events.{Inputs}
use Rattle.flat_core.specs.Fault.{IsNamed, is_faulty, root_at}
use Rattle.flat_core.specs.Line.{Line}
use Rattle.flat_core.specs.Solution.{Solves}
use Rattle.flat_core.specs.Stream.{event}
use Rattle.flat_core.specs.System.{System, runs, equation}
use Rattle.flat_core.specs.WellFormed.{Needs, IsWellFormed}
use Rattle.flat_core.specs.inner.TypedLines.{AreTypedLines, IsTypedLine}
use Rattle.flat_core.proofs.Members.{contains_head}
use Rattle.flat_core.proofs.Uniqueness.{agree_before, all_by}
use Rattle.flat_core.proofs.WellFormedOrder.{ranked_solution}
use Rattle.flat_core.proofs.WellFormedRank.{rank_of, well_formed_ranked}
use Rattle.flat_slice.proofs.SliceLemmas.{member_runs}
use Rattle.event_why.specs.Explained.{restricted, IsExplained, Tells}
use Rattle.event_why.specs.declared.explained.Explained.{Explained}
use Rattle.event_why.specs.declared.explained.Explained.TheVariants as explained
use Rattle.event_why.specs.inner.Found.{Knows}
use Rattle.event_why.specs.inner.Sliced.{IsSliced}
use Rattle.event_why.proofs.AcceptedLemmas.{accepted}
use Rattle.event_why.proofs.CheckLemmas.{output_runs}

module _ (s f : System) (number : ℕ) (is : IsSliced s number f) where
  same_at : (i : ℕ) → equation f i ≡ equation s i
  same_at i = ap (λ es. slice_get es i) is.equations

  need_same : (i j : ℕ) → Needs f i j → Needs s i j
  need_same i j n = record { at = n.at; is = sym (same_at i) ∙ n.is; argument = n.argument }

  path_same : {i j : ℕ} → Path (Needs f) i j → Path (Needs s) i j
  path_same (edge n) = edge (need_same _ _ n)
  path_same (step n p) = step (need_same _ _ n) (path_same p)

  pub well_formed_alone : IsWellFormed s → IsWellFormed f
  well_formed_alone formed i p = formed i (path_same p)

  pub typed_alone : (lines : List Line) → AreTypedLines s lines → AreTypedLines f lines
  typed_alone lines typed = all_by (IsTypedLine s) (IsTypedLine f) (λ l h. record { event = λ i v has e at. h.event i v has e (sym (same_at i) ∙ at) }) lines typed

  abbrev o : ℕ
  o = is.output.equation

  pub o_runs : IsTrue (runs f o)
  o_runs = (is.slice o).1 (record { start = o; among = contains_head o []; walk = stay })

  module _ (p : Inputs) where
    abbrev part : System
    part = restricted s f.running

    -- root faults of the part
    root_same : (z : Streams) (u i : ℕ) → root_at f p z u i ≡ root_at part p z u i
    root_same z u i = ap (option_and_then (λ e. root_fault p z i e u)) (same_at i)

    faulty_same : (z : Streams) (u : ℕ) → is_faulty f p z u ≡ is_faulty part p z u
    faulty_same z u = λ k. list_any (λ i. is_some (root_same z u i k)) f.running

    named_same : (z : Streams) (u i : ℕ) (kind : FaultKind) → IsNamed f p z u i kind → IsNamed part p z u i kind
    named_same z u i kind n = record {
      running = n.running;
      root = sym (root_same z u i) ∙ n.root;
      least = λ j run low. sym (root_same z u j) ∙ n.least j run low;
      first = λ v low. subst (λ b. IsTrue (not b)) (faulty_same z v) (n.first v low);
    }

    module _ (whole : IsFlat s) (formed : IsWellFormed s) (t : ℕ) where
      running : (i : ℕ) → IsTrue (runs f i) → IsTrue (runs s i)
      running i run = member_runs s whole.proper o (output_runs s number is.output whole is.is_output) f.running is.slice i run

      -- a solution of the whole is one of the part
      solves_alone : (bound : ℕ) (z : Streams) → t < bound → Solves s p bound z → Solves f p (suc t) z
      solves_alone bound z lt zs = record { each = λ i e run at u low. zs.each i e (running i run) (sym (same_at i) ∙ at) u (omega (arith, low, lt)) }

      formed_f : IsWellFormed f
      formed_f = well_formed_alone formed

      -- the part has a solution, and all have the same event there
      one : (z : Streams) × Solves f p (suc t) z
      one = ranked_solution f (rank_of f formed_f) is.whole.proper (well_formed_ranked f formed_f) p (suc t)

      same_event : (z w : Streams) → Solves f p (suc t) z → Solves f p (suc t) w → event (z o t) ≡ event (w o t)
      same_event z w zs ws = ap event (agree_before f p (rank_of f formed_f) is.whole.proper (well_formed_ranked f formed_f) (suc t) z w zs ws (suc t) (omega arith) o o_runs t (omega arith))

      tells_of : (answer : Explained) → ((z : Streams) → Solves f p (suc t) z → Knows f p z o t answer) → Tells s p number t o f.running answer
      tells_of (explained.Why why) known =
          let found = (known one.0 one.1).1 in (
            record { each = λ bound w lt ws u le. sym (faulty_same w u) ∙ (known w (solves_alone bound w lt ws)).0 u (omega (arith, le)) },
            (
              found.0,
              accepted s f number is p t why found.0 found.2,
              record { each = λ bound w lt ws. same_event w one.0 (solves_alone bound w lt ws) one.1 ∙ found.1 },
            ),
          )
      tells_of explained.NoEvent known = (
        record { each = λ bound w lt ws u le. sym (faulty_same w u) ∙ (known w (solves_alone bound w lt ws)).0 u (omega (arith, le)) },
        record { each = λ bound w lt ws. (known w (solves_alone bound w lt ws)).1 },
      )
      tells_of (explained.Fault u i kind) known =
          let early = (known one.0 one.1).0 in
          record {
            early = omega (arith, early);
            each = λ bound w lt ws. named_same w u i kind (known w (solves_alone bound w lt ws)).1;
          }

      pub explained_of : (answer : Explained) → ((z : Streams) → Solves f p (suc t) z → Knows f p z o t answer) → IsExplained s p number t answer
      explained_of answer known = record { output = is.output; is_output = is.is_output; slice = f.running; is_slice = is.slice; tells = tells_of answer known }
