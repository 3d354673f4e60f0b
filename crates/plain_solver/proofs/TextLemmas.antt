-- The text of the instants that ran is the due text.
use Rattle.std.proofs.Common.{◌≡◌, ℕ, List, sym, ap, ◌∙◌}
use Rattle.std.specs.Prelude.{IsTrue}
use Rattle.std.specs.List.{AllByRecursion, flat_map}
use Rattle.flat_core.specs.declared.equation.Output.{Output}
use Rattle.flat_core.specs.Stream.{event}
use Rattle.flat_core.specs.Case.{Streams}
use Rattle.flat_core.specs.System.{System, runs}
use Rattle.flat_core.proofs.Uniqueness.{all_by}
use Rattle.plain_solver.specs.declared.events.Moment.{Moment}
use Rattle.plain_solver.specs.declared.solve.End.{End}
use Rattle.plain_solver.specs.inner.Streams.{streams_of}
use Rattle.flat_core.specs.Text.{event_line, text_at}
use Rattle.plain_solver.specs.inner.Ending.{IsDueText}
use Rattle.plain_solver.proofs.EndingLemmas.{all_ran, due_ran, ran_to, solved_to}
use Rattle.tsl_value.proofs.Lists.{flat_map_same}

-- streams that agree at a time, where equations run, have the same text there
text_same : (s : System) (z w : Streams) (t : ℕ) → AllByRecursion (λ o. IsTrue (runs s o.equation)) s.outputs → ((i : ℕ) → IsTrue (runs s i) → z i t ≡ w i t) → text_at s z t ≡ text_at s w t
text_same s z w t run same =
    let line : Streams → Output → List ℕ = λ v o. event_line t o.name (event (v o.equation t)) in
    flat_map_same (line z) (line w) s.outputs
    (all_by (λ (o : Output). IsTrue (runs s o.equation)) (λ o. line z o ≡ line w o) (λ o r k. event_line t o.name (event (same o.equation r k))) s.outputs run)

pub ran_due : (s : System) (all : List (List Moment)) (ran : List ℕ) (ends : End) → IsDueText s all ran ends (flat_map (text_at s (streams_of all)) ran)
ran_due s all ran ends lines bound limit ended w ws =
    let solved = (solved_to s lines bound limit all ran ends ended).1 in
    let to = ran_to s lines solved.order solved.ordered solved.whole bound limit all ran w ws ends ended in
    let z = streams_of all in
    let texts = all_ran s lines solved.order solved.ordered solved.whole bound limit all ran w ws (λ t. text_at s z t ≡ text_at s w t) to.0 to.1 (λ t lt. text_same s z w t solved.whole.outputs_run (λ i run. to.1.same i run t lt)) in
    flat_map_same (text_at s z) (text_at s w) ran texts ∙ ap (flat_map (text_at s w)) (sym (due_ran s lines solved.order solved.ordered solved.whole bound limit all ran w ws ends ended))
