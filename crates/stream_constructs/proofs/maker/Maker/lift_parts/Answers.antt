use Rattle.std.proofs.Common.{[], ◌∷◌, ◌+◌, ◌≤◌, ◌∙◌, ap, length, append-nil, arith, refl}
use Rattle.std.proofs.lemmas.Result.{err_from_is_err_and}
use Rattle.flat_core.specs.declared.equation.Op.TheVariants as op
use Rattle.flat_core.specs.Typed.{unit_type}
use Rattle.stream_constructs.specs.Equations.{equation, held_each}
use Rattle.stream_constructs.proofs.Steps.{refused_early, lifting_many}
use Rattle.std.proofs.lemmas.Result.{on_err_weaker}
use Rattle.tsl_value.proofs.Results.{on_err}
use Rattle.stream_constructs.proofs.Partly.{count_then, has_after, has_none}
use Rattle.stream_constructs.proofs.maker.Maker.lift_parts.Goals as goal

pub returns-in_err-any-clause-refused : goal.returns-in_err-any-clause-refused
returns-in_err-any-clause-refused c =
    let p = err_from_is_err_and c.from_residual-in_err-any.result c.from_residual-in_err-any.ensures.1 in
    let n = length c.args.self.now.equations in
    let parts = c.args.parts.now in
    let many : 3 ≤ length parts = omega arith in
    let each = held_each c.args.place (n + 1) n parts in
    refused_early c.from_residual-in_err-any.result p.0 _ c.args.self.now.equations (equation c.args.place op.Any c.in_ok-args.args unit_type ∷ []) each _ p.1 p.2
    (ap (λ args. equation c.args.place op.Any args unit_type ∷ each) c.in_ok-args.ensures ∙ lifting_many c.args.place n parts many) c.in_err-any.ensures.refused

pub returns-in_err-from_slice-clause-partly : goal.returns-in_err-from_slice-clause-partly
returns-in_err-from_slice-clause-partly c = on_err _ (has_none c.args.self.now c.args.self.now _ refl)

pub returns-in_err-args-clause-partly : goal.returns-in_err-args-clause-partly
returns-in_err-args-clause-partly c = on_err _ (has_none c.args.self.now c.args.self.now _ refl)

pub returns-in_err-any-clause-partly : goal.returns-in_err-any-clause-partly
returns-in_err-any-clause-partly c = on_err _ (has_none c.args.self.now c.make.new.self _ c.in_err-any.ensures.err)

pub returns-clause-partly : goal.returns-clause-partly
returns-clause-partly c =
    let s = c.args.self.now in
    let m = c.make.new.self in
    let place = c.args.place in
    let n = length s.equations in
    let parts = c.args.parts.now in
    let many : 3 ≤ length parts = omega arith in
    let any = equation place op.Any c.in_ok-args.args unit_type in
    let each = held_each place (length m.equations) c.in_ok-any.any.id parts in
    let split = ap (λ es. any ∷ es) (append-nil each)
    ∙ (λ k. equation place op.Any (c.in_ok-args.ensures k) unit_type ∷ held_each place (count_then s m (any ∷ []) c.in_ok-any.ensures.made k) (c.in_ok-any.ensures.id k) parts)
    ∙ lifting_many place n parts many in
    on_err_weaker c.hold_each.result (λ first. has_after s m c.hold_each.new.self (any ∷ []) each [] _ c.in_ok-any.ensures.made split first) c.hold_each.ensures.partly
