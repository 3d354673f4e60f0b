use Rattle.std.proofs.Common.{◌==◌, ◌||◌, ◌∙◌, ℕ, ap}
use Rattle.std.proofs.lemmas.Result.{on_ok_weaker}
use Rattle.flat_core.specs.Members.{is_in}
use Rattle.code_reader.proofs.Entering.{pushed_last}
use Rattle.code_reader.proofs.parts.push_last.Goals as goal

pub returns : goal.returns
returns c =
    on_ok_weaker c.push.result
    (λ members. pushed_last c.args.set.now c.push.new.self c.args.number c.assert_ascending.ensures c.push.ensures.ascending c.requires
    (λ x. members x ∙ ap (λ (n : ℕ). (n == x) || is_in c.args.set.now x) c.new.ensures)) c.push.ensures.members
