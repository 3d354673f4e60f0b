use Rattle.std.proofs.Common.{◌≡◌, ◌<◌, ◌∷◌, ◌++◌, [], List, length, refl, sym, subst, rules}
use Rattle.std.proofs.lemmas.Result.{err_from_is_err_and}
use Rattle.tsl_world.specs.declared.outside.Did.{Did}
use Rattle.tsl_world.specs.declared.outside.Did.TheVariants.{NotGave}
use Rattle.tsl_world.proofs.Runs.{go_on, one_call}
use Rattle.trace_run.specs.Effects.{Gives}
use Rattle.trace_run.proofs.Writing.{gave_less}
use Rattle.trace_run.proofs.write.write_all.Goals as goal

pub returns-in_err-count-clause-calls : goal.returns-in_err-count-clause-calls
returns-in_err-count-clause-calls g c =
    let to = c.args.to in
    let bytes = c.args.bytes.now in
    let rest = c.loop-rest.rest.now in
    let some : 0 < length rest = search rules in
    let (error, failed, same) = err_from_is_err_and c.from_residual.result c.from_residual.ensures.1 in
    go_on g.W.World.told g.W.World.journal g.W.World.standing c.args.world.now c.loop-rest.world c.write.new.self _ (λ q. q ≡ NotGave to ∷ []) (Gives to bytes c.from_residual.result) c.loop-rest.invariant.calls
    (one_call g.W.World.told g.W.World.journal g.W.World.standing c.loop-rest.world c.write.new.self (NotGave to) (λ q. q ≡ NotGave to ∷ []) c.write.ensures.told c.write.ensures.standing c.in_err-count.ensures.journal refl)
    (λ p q at is. subst (λ (l : List Did). Gives to bytes c.from_residual.result (p ++ l)) (sym is)
    (gave_less to bytes rest c.from_residual.result error p failed some at))
