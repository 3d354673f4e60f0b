use Rattle.std.proofs.Common.{[], ◌∷◌, ◌∙◌, refl, ap, length}
use Rattle.std.proofs.lemmas.Result.{err_from_is_err_and}
use Rattle.flat_core.specs.declared.equation.Op.TheVariants as op
use Rattle.stream_constructs.specs.Equations.{equation}
use Rattle.stream_constructs.proofs.Steps.{refused_early}
use Rattle.stream_constructs.proofs.Partly.{has_made, has_none}
use Rattle.std.proofs.lemmas.Result.{on_err_weaker}
use Rattle.tsl_value.proofs.Results.{on_err}
use Rattle.stream_constructs.proofs.maker.Maker.hold.Goals as goal

pub returns-in_err-last-clause-refused : goal.returns-in_err-last-clause-refused
returns-in_err-last-clause-refused c =
    let p = err_from_is_err_and c.from_residual-in_err-last.result c.from_residual-in_err-last.ensures.1 in
    let a = c.args.part.now in
    let merge = equation c.args.place op.Merge (a.id ∷ length c.args.self.now.equations ∷ []) a.of in
    refused_early c.from_residual-in_err-last.result p.0 _ c.args.self.now.equations (equation c.args.place op.Last c.in_ok-args.args a.of ∷ []) (merge ∷ []) _ p.1 p.2
    (ap (λ args. equation c.args.place op.Last args a.of ∷ merge ∷ []) c.in_ok-args.ensures) c.in_err-last.ensures.refused

pub returns-in_err-args-clause-partly : goal.returns-in_err-args-clause-partly
returns-in_err-args-clause-partly c = on_err _ (has_none c.args.self.now c.args.self.now _ refl)

pub returns-in_err-last-clause-partly : goal.returns-in_err-last-clause-partly
returns-in_err-last-clause-partly c = on_err _ (has_none c.args.self.now c.make.new.self _ c.in_err-last.ensures.err)

pub returns-in_err-args-2-clause-partly : goal.returns-in_err-args-2-clause-partly
returns-in_err-args-2-clause-partly c =
    let a = c.args.part.now in
    let merge = equation c.args.place op.Merge (a.id ∷ length c.args.self.now.equations ∷ []) a.of in
    on_err _ (has_made c.args.self.now c.make.new.self (equation c.args.place op.Last c.in_ok-args.args a.of ∷ []) (merge ∷ []) _
    (ap (λ args. equation c.args.place op.Last args a.of ∷ merge ∷ []) c.in_ok-args.ensures) c.in_ok-last.ensures.made)

pub returns-clause-partly : goal.returns-clause-partly
returns-clause-partly c =
    let a = c.args.part.now in
    let merge = equation c.args.place op.Merge (a.id ∷ length c.args.self.now.equations ∷ []) a.of in
    on_err_weaker c.make-2.result (λ same. has_made c.args.self.now c.make-2.new.self (equation c.args.place op.Last c.in_ok-args.args a.of ∷ []) (merge ∷ []) _
    (ap (λ args. equation c.args.place op.Last args a.of ∷ merge ∷ []) c.in_ok-args.ensures) (same ∙ c.in_ok-last.ensures.made)) c.make-2.ensures.err
