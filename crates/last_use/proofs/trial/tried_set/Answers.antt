use Rattle.std.proofs.Common.{◌==◌, ◌||◌, ap, subst, ◌∙◌}
use Rattle.std.specs.List.Sorted.{IsStrictlyIncreasing}
use Rattle.flat_core.specs.Members.{is_in}
use Rattle.last_use.proofs.Trying.{tried_made}
use Rattle.last_use.proofs.trial.tried_set.Goals as goal

pub returns : goal.returns
returns c =
    let set = c.args.set.now in
    let is = c.in_ok-tried.ensures.same in
    tried_made set c.push.new.self c.args.update (subst IsStrictlyIncreasing is c.in_ok-tried.ensures.ascending) c.push.ensures.ascending c.requires
    (λ x. c.in_ok-push.ensures.members x ∙ ap (λ l. (c.args.update == x) || is_in l x) is)
