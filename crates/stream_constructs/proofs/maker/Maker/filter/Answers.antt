use Rattle.std.proofs.Common.{[], ◌∷◌, ◌+◌, refl, length, ◌∙◌}
use Rattle.std.proofs.lemmas.Result.{err_from_is_err_and}
use Rattle.flat_core.specs.declared.equation.Op.TheVariants as op
use Rattle.stream_constructs.specs.Equations.{equation, held}
use Rattle.stream_constructs.proofs.Steps.{refused_early}
use Rattle.std.proofs.lemmas.Result.{on_err_weaker}
use Rattle.tsl_value.proofs.Results.{on_err}
use Rattle.stream_constructs.proofs.Partly.{has_early, has_made}
use Rattle.stream_constructs.proofs.maker.Maker.filter.Goals as goal

pub returns-in_err-held-clause-refused : goal.returns-in_err-held-clause-refused
returns-in_err-held-clause-refused c =
    let p = err_from_is_err_and c.from_residual.result c.from_residual.ensures.1 in
    let n = length c.args.self.now.equations in
    refused_early c.from_residual.result p.0 _ c.args.self.now.equations (held c.args.place n c.args.e.id c.args.c) (equation c.args.place op.Filter (c.args.e.id ∷ (n + 1) ∷ []) c.args.e.of ∷ []) _ p.1 p.2 refl c.in_err-held.ensures.refused

pub returns-in_err-held-clause-partly : goal.returns-in_err-held-clause-partly
returns-in_err-held-clause-partly c =
    let n = length c.args.self.now.equations in
    on_err _ (has_early c.args.self.now c.hold.new.self (held c.args.place n c.args.e.id c.args.c) (equation c.args.place op.Filter (c.args.e.id ∷ (n + 1) ∷ []) c.args.e.of ∷ []) _ refl c.in_err-held.ensures.partly)

pub returns-in_err-args-clause-partly : goal.returns-in_err-args-clause-partly
returns-in_err-args-clause-partly c =
    let n = length c.args.self.now.equations in
    on_err _ (has_made c.args.self.now c.hold.new.self (held c.args.place n c.args.e.id c.args.c) (equation c.args.place op.Filter (c.args.e.id ∷ (n + 1) ∷ []) c.args.e.of ∷ []) _ refl c.in_ok-held.ensures.made)

pub returns-clause-partly : goal.returns-clause-partly
returns-clause-partly c =
    let n = length c.args.self.now.equations in
    on_err_weaker c.make.result (λ same. has_made c.args.self.now c.make.new.self (held c.args.place n c.args.e.id c.args.c) (equation c.args.place op.Filter (c.args.e.id ∷ (n + 1) ∷ []) c.args.e.of ∷ []) _ refl (same ∙ c.in_ok-held.ensures.made)) c.make.ensures.err
