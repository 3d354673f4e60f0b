use Rattle.std.proofs.Common.{◌<◌, length, refl, ap, subst, ◌∙◌}
use Rattle.flat_core.specs.System.{System}
use Rattle.monitor_run.proofs.ResumeLemmas.{resumed}
use Rattle.monitor_run.proofs.ResumedLemmas.{lines_at, resumed_as}
use Rattle.monitor_run.proofs.monitor.Monitor.from_state.Goals as goal

pub given_at-requires : goal.given_at-requires
given_at-requires c = λ some. c.requires.fits.bound.open_in_time (subst (λ es. 0 < length es) c.as_slice.ensures some)

pub restored-requires : goal.restored-requires
restored-requires c = (c.args.limit, c.requires.fits)

pub invariant_of-result : goal.invariant_of-result
invariant_of-result c =
    let code = c.flat.ensures.is_code in
    let made = c.in_ok-restored.ensures in (
      made.room,
      λ going. (resumed_as _ c.args.limit c.args.state code.is_flat code.fine c.requires.fits c.requires.limit refl refl refl refl
          (c.in_ok-given_at.ensures ∙ ap (lines_at c.args.state.bound) c.as_slice.ensures) refl made.room.last made.restored).ready,
      c.in_ok-new.ensures,
      record {
        steps = c.in_ok-new-2.ensures.steps ∙ c.len.ensures ∙ ap length c.plan.ensures.order;
        texts = c.in_ok-new-2.ensures.texts ∙ ap length (c.outputs.ensures ∙ ap (λ (q : System). q.outputs) c.flat.ensures.flat);
      },
      λ going. (made.unmarked, made.rest),
    )

pub returns-clause-saved : goal.returns-clause-saved
returns-clause-saved c =
    let code = c.flat.ensures.is_code in
    let made = c.in_ok-restored.ensures in
    resumed_as _ c.args.limit c.args.state code.is_flat code.fine c.requires.fits c.requires.limit refl refl refl refl
    (c.in_ok-given_at.ensures ∙ ap (lines_at c.args.state.bound) c.as_slice.ensures) refl made.room.last made.restored

pub returns-clause-stands : goal.returns-clause-stands
returns-clause-stands c = λ lines after. resumed _ c.args.state lines refl (returns-clause-saved c) after
