use Rattle.std.proofs.Common.{◌==◌, ◌||◌, ap, ◌∙◌, arith}
use Rattle.std.proofs.lemmas.List.{take_all}
use Rattle.flat_core.specs.Members.{is_in}
use Rattle.last_use.proofs.Trying.{taken_more}
use Rattle.last_use.proofs.trial.copy.Goals as goal

pub loop-place-preserved : goal.loop-place-preserved
loop-place-preserved c = record {
  is =
      taken_more c.args.set.now c.loop-place.copy c.push.new.self c.loop-place.place (omega arith) c.len-place-end.ensures.ascending
      c.loop-place.invariant.is c.loop-place.invariant.ascending c.push.ensures.ascending
      (λ x. c.in_ok-push.ensures.members x ∙ ap (λ y. (y == x) || is_in c.loop-place.copy x) c.update_at.ensures);
  ascending = c.push.ensures.ascending;
}

pub returns-clause-same : goal.returns-clause-same
returns-clause-same c = c.loop-place.invariant.is ∙ take_all c.loop-place.place c.args.set.now (omega arith)
