use Rattle.std.proofs.Common.{[], ◌∷◌, refl, length, ◌∙◌}
use Rattle.std.proofs.lemmas.Result.{err_from_is_err_and}
use Rattle.tsl_value.specs.declared.scalar.Scalar.TheVariants as scalar
use Rattle.flat_core.specs.declared.equation.Op.TheVariants as op
use Rattle.stream_constructs.specs.Equations.{equation, literal_over}
use Rattle.stream_constructs.proofs.Steps.{refused_early}
use Rattle.std.proofs.lemmas.Result.{on_err_weaker}
use Rattle.tsl_value.proofs.Results.{on_err}
use Rattle.stream_constructs.proofs.Partly.{has_made, has_none}
use Rattle.stream_constructs.proofs.maker.Maker.filter_by.Goals as goal

pub returns-in_err-condition-clause-refused : goal.returns-in_err-condition-clause-refused
returns-in_err-condition-clause-refused c =
    let p = err_from_is_err_and c.from_residual.result c.from_residual.ensures.1 in
    let n = length c.args.self.now.equations in
    refused_early c.from_residual.result p.0 _ c.args.self.now.equations (literal_over c.args.place (scalar.Bool c.args.holds) c.args.e.id ∷ []) (equation c.args.place op.Filter (c.args.e.id ∷ n ∷ []) c.args.e.of ∷ []) _ p.1 p.2 refl c.in_err-condition.ensures.refused

pub returns-in_err-condition-clause-partly : goal.returns-in_err-condition-clause-partly
returns-in_err-condition-clause-partly c = on_err _ (has_none c.args.self.now c.literal_over.new.self _ c.in_err-condition.ensures.err)

pub returns-in_err-args-clause-partly : goal.returns-in_err-args-clause-partly
returns-in_err-args-clause-partly c =
    let n = length c.args.self.now.equations in
    on_err _ (has_made c.args.self.now c.literal_over.new.self (literal_over c.args.place (scalar.Bool c.args.holds) c.args.e.id ∷ []) (equation c.args.place op.Filter (c.args.e.id ∷ n ∷ []) c.args.e.of ∷ []) _ refl c.in_ok-condition.ensures.made)

pub returns-clause-partly : goal.returns-clause-partly
returns-clause-partly c =
    let n = length c.args.self.now.equations in
    on_err_weaker c.make.result (λ same. has_made c.args.self.now c.make.new.self (literal_over c.args.place (scalar.Bool c.args.holds) c.args.e.id ∷ []) (equation c.args.place op.Filter (c.args.e.id ∷ n ∷ []) c.args.e.of ∷ []) _ refl (same ∙ c.in_ok-condition.ensures.made)) c.make.ensures.err
