use Rattle.std.proofs.Common.{[], ◌∷◌, refl, ◌∙◌}
use Rattle.std.proofs.lemmas.Result.{err_from_is_err_and}
use Rattle.stream_constructs.proofs.Steps.{refused_early}
use Rattle.std.proofs.lemmas.Result.{on_err_weaker}
use Rattle.tsl_value.proofs.Results.{on_err}
use Rattle.stream_constructs.proofs.Partly.{has_made, has_none}
use Rattle.stream_constructs.proofs.maker.Maker.literal.Goals as goal

pub returns-in_err-start-clause-refused : goal.returns-in_err-start-clause-refused
returns-in_err-start-clause-refused c =
    let p = err_from_is_err_and c.from_residual.result c.from_residual.ensures.1 in
    refused_early c.from_residual.result p.0 _ c.args.self.now.equations (_ ∷ []) (_ ∷ []) _ p.1 p.2 refl c.in_err-start.ensures.refused

pub returns-in_err-start-clause-partly : goal.returns-in_err-start-clause-partly
returns-in_err-start-clause-partly c = on_err _ (has_none c.args.self.now c.unit.new.self _ c.in_err-start.ensures.err)

pub returns-clause-partly : goal.returns-clause-partly
returns-clause-partly c =
    on_err_weaker c.literal_over.result (λ same. has_made c.args.self.now c.literal_over.new.self (_ ∷ []) (_ ∷ []) _ refl (same ∙ c.in_ok-start.ensures.made)) c.literal_over.ensures.err
