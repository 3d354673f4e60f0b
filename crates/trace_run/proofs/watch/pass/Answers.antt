use Rattle.std.proofs.Common.{◌∙◌, ap, sym, subst, Option, Ok, Result}
use Rattle.std.proofs.lemmas.Result.{err_from_is_err_and}
use Rattle.std.specs.Result.{result_from_control_flow}
use Rattle.trace_monitor.specs.declared.ending.RunEnding.{RunEnding}
use Rattle.tsl_world.proofs.Runs.{none, weaker}
use Rattle.tsl_world.specs.Runs.{Runs}
use Rattle.tsl_world.specs.declared.broken.Broken.{Broken}
use Rattle.trace_run.specs.inner.Round.{Passed, Passes, Stopped, lost, unwritten}
use Rattle.trace_run.proofs.watch.pass.Goals as goal

pub returns-in_err-next-clause-calls : goal.returns-in_err-next-clause-calls
returns-in_err-next-clause-calls g c =
    let (error, failed, same) = err_from_is_err_and c.from_residual.result c.from_residual.ensures.1 in
    subst (λ (r : Result (Option RunEnding) Broken). Runs g.W.World.told g.W.World.journal g.W.World.standing c.args.world.now c.args.world.now (Passes c.args.monitor.now c.advance.new.self c.args.piece.now r)) (sym failed)
    (none g.W.World.told g.W.World.journal g.W.World.standing c.args.world.now (Stopped c.args.monitor.now c.args.piece.now) lost)

pub returns-in_err-write_all-clause-calls : goal.returns-in_err-write_all-clause-calls
returns-in_err-write_all-clause-calls g c =
    let (error, failed, same) = err_from_is_err_and c.from_residual-in_err-write_all.result c.from_residual-in_err-write_all.ensures.1 in
    let m = c.args.monitor.now in
    let next = c.in_ok-next.next in
    let result_is = c.branch-next.ensures ∙ ap result_from_control_flow c.in_ok-next.is in
    subst (λ (r : Result (Option RunEnding) Broken). Runs g.W.World.told g.W.World.journal g.W.World.standing c.args.world.now c.write_all.new.world (Passes m c.advance.new.self c.args.piece.now r)) (sym failed)
    (weaker g.W.World.told g.W.World.journal g.W.World.standing _ _ _ (Stopped m c.args.piece.now) (rw c.as_slice.ensures at c.in_err-write_all.ensures.calls)
    (λ part gives. unwritten c.advance.new.self next c.advance.new.out part record {
      due = λ fed text kept due. c.in_ok-next.ensures.text fed text kept due;
      stands = λ fed kept. c.in_ok-next.ensures.ending fed kept;
      kept = λ is fed kept. c.advance.ensures.kept fed kept (result_is ∙ ap (λ (e : Option RunEnding). Ok e) is);
      counted = λ how is fed kept. c.advance.ensures.counted fed how kept (result_is ∙ ap (λ (e : Option RunEnding). Ok e) is);
    } gives.writes gives.some))

pub returns-clause-taken : goal.returns-clause-taken
returns-clause-taken g c =
    let result_is = c.branch-next.ensures ∙ ap result_from_control_flow c.in_ok-next.is in
    record {
      alike = record { system = c.advance.ensures.system; options = c.advance.ensures.options; engine = c.advance.ensures.engine; set = c.advance.ensures.set; order = c.advance.ensures.order };
      goes_on = λ is. c.advance.ensures.goes_on (result_is ∙ ap (λ (e : Option RunEnding). Ok e) is);
      at_end = λ is. c.advance.ensures.done (result_is ∙ ap (λ (e : Option RunEnding). Ok e) is);
    }

pub returns-clause-calls : goal.returns-clause-calls
returns-clause-calls g c =
    let m = c.args.monitor.now in
    let next = c.in_ok-next.next in
    let result_is = c.branch-next.ensures ∙ ap result_from_control_flow c.in_ok-next.is in
    weaker g.W.World.told g.W.World.journal g.W.World.standing _ _ _ (Passed m c.advance.new.self c.args.piece.now next) (rw c.as_slice.ensures at c.in_ok-write_all.ensures.calls)
    (λ part gives. record {
      out = c.advance.new.out;
      has_taken = record {
        alike = record { system = c.advance.ensures.system; options = c.advance.ensures.options; engine = c.advance.ensures.engine; set = c.advance.ensures.set; order = c.advance.ensures.order };
        goes_on = λ is. c.advance.ensures.goes_on (result_is ∙ ap (λ (e : Option RunEnding). Ok e) is);
        at_end = λ is. c.advance.ensures.done (result_is ∙ ap (λ (e : Option RunEnding). Ok e) is);
      };
      advanced = record {
        due = λ fed text kept due. c.in_ok-next.ensures.text fed text kept due;
        stands = λ fed kept. c.in_ok-next.ensures.ending fed kept;
        kept = λ is fed kept. c.advance.ensures.kept fed kept (result_is ∙ ap (λ (e : Option RunEnding). Ok e) is);
        counted = λ how is fed kept. c.advance.ensures.counted fed how kept (result_is ∙ ap (λ (e : Option RunEnding). Ok e) is);
      };
      writes = gives.writes;
      done = gives.done;
      whole = gives.whole;
    })
