use Rattle.std.proofs.Common.{[], ◌∷◌, refl, length, ◌∙◌}
use Rattle.std.proofs.lemmas.Result.{err_from_is_err_and}
use Rattle.flat_core.specs.declared.equation.Op.TheVariants as op
use Rattle.flat_core.specs.Typed.{unit_type}
use Rattle.stream_constructs.specs.Equations.{equation}
use Rattle.stream_constructs.proofs.Steps.{refused_early}
use Rattle.std.proofs.lemmas.Result.{on_err_weaker}
use Rattle.tsl_value.proofs.Results.{on_err}
use Rattle.stream_constructs.proofs.Partly.{has_made, has_none}
use Rattle.stream_constructs.proofs.maker.Maker.once.Goals as goal

pub returns-in_err-start-clause-refused : goal.returns-in_err-start-clause-refused
returns-in_err-start-clause-refused c =
    let p = err_from_is_err_and c.from_residual.result c.from_residual.ensures.1 in
    let n = length c.args.self.now.equations in
    refused_early c.from_residual.result p.0 _ c.args.self.now.equations (equation c.args.place op.Unit [] unit_type ∷ []) (equation c.args.place c.args.op (n ∷ []) c.args.of ∷ []) _ p.1 p.2 refl c.in_err-start.ensures.refused

pub returns-in_err-start-clause-partly : goal.returns-in_err-start-clause-partly
returns-in_err-start-clause-partly c = on_err _ (has_none c.args.self.now c.unit.new.self _ c.in_err-start.ensures.err)

pub returns-in_err-args-clause-partly : goal.returns-in_err-args-clause-partly
returns-in_err-args-clause-partly c =
    let n = length c.args.self.now.equations in
    on_err _ (has_made c.args.self.now c.unit.new.self (equation c.args.place op.Unit [] unit_type ∷ []) (equation c.args.place c.args.op (n ∷ []) c.args.of ∷ []) _ refl c.in_ok-start.ensures.made)

pub returns-clause-partly : goal.returns-clause-partly
returns-clause-partly c =
    let n = length c.args.self.now.equations in
    on_err_weaker c.make.result (λ same. has_made c.args.self.now c.make.new.self (equation c.args.place op.Unit [] unit_type ∷ []) (equation c.args.place c.args.op (n ∷ []) c.args.of ∷ []) _ refl (same ∙ c.in_ok-start.ensures.made)) c.make.ensures.err
