use Rattle.std.proofs.Common.{◌≡◌, ◌==◌, ◌∙◌, false, [], ◌∷◌, length}
use Rattle.std.proofs.lemmas.Result.{err_from_is_err_and}
use Rattle.stream_constructs.specs.Equations.{numbers, strict_lift, lifting, lifted_streams}
use Rattle.stream_constructs.proofs.Steps.{refused_early, signal_on_some}
use Rattle.std.proofs.lemmas.Result.{on_err_weaker}
use Rattle.tsl_value.proofs.Results.{on_err}
use Rattle.stream_constructs.proofs.Partly.{has_early, has_made}
use Rattle.stream_constructs.proofs.maker.Maker.signal.Goals as goal

pub returns-in_err-lifted_streams-clause-refused : goal.returns-in_err-lifted_streams-clause-refused
returns-in_err-lifted_streams-clause-refused c =
    let p = err_from_is_err_and c.from_residual.result c.from_residual.ensures.1 in
    let n = length c.args.self.now.equations in
    let parts = c.args.parts.now in
    let some : (length parts == 0) ≡ false = cc in
    refused_early c.from_residual.result p.0 _ c.args.self.now.equations (lifting c.args.place n parts) (strict_lift c.args.place c.args.body (numbers (lifted_streams n parts)) c.args.of ∷ []) _ p.1 p.2 (signal_on_some c.args.place c.args.of n c.args.body parts some) c.in_err-lifted_streams.ensures.refused

pub returns-in_err-lifted_streams-clause-partly : goal.returns-in_err-lifted_streams-clause-partly
returns-in_err-lifted_streams-clause-partly c =
    let n = length c.args.self.now.equations in
    let parts = c.args.parts.now in
    let some : (length parts == 0) ≡ false = cc in
    on_err _ (has_early c.args.self.now c.lift_parts.new.self (lifting c.args.place n parts) (strict_lift c.args.place c.args.body (numbers (lifted_streams n parts)) c.args.of ∷ []) _ (signal_on_some c.args.place c.args.of n c.args.body parts some) c.in_err-lifted_streams.ensures.partly)

pub returns-in_err-args-clause-partly : goal.returns-in_err-args-clause-partly
returns-in_err-args-clause-partly c =
    let n = length c.args.self.now.equations in
    let parts = c.args.parts.now in
    let some : (length parts == 0) ≡ false = cc in
    on_err _ (has_made c.args.self.now c.lift_parts.new.self (lifting c.args.place n parts) (strict_lift c.args.place c.args.body (numbers (lifted_streams n parts)) c.args.of ∷ []) _ (signal_on_some c.args.place c.args.of n c.args.body parts some) c.in_ok-lifted_streams.ensures.made)

pub returns-clause-partly : goal.returns-clause-partly
returns-clause-partly c =
    let n = length c.args.self.now.equations in
    let parts = c.args.parts.now in
    let some : (length parts == 0) ≡ false = cc in
    on_err_weaker c.make.result (λ same. has_made c.args.self.now c.make.new.self (lifting c.args.place n parts) (strict_lift c.args.place c.args.body (numbers (lifted_streams n parts)) c.args.of ∷ []) _ (signal_on_some c.args.place c.args.of n c.args.body parts some) (same ∙ c.in_ok-lifted_streams.ensures.made)) c.make.ensures.err
