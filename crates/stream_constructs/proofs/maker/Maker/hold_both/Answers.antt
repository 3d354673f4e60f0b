use Rattle.std.proofs.Common.{refl, length, ◌+◌, [], ◌∷◌, ◌++◌, append-nil, ap, ◌∙◌}
use Rattle.std.proofs.lemmas.Result.{err_from_is_err_and}
use Rattle.tsl_value.proofs.Results.{on_err}
use Rattle.stream_constructs.specs.Equations.{held, lifting}
use Rattle.stream_constructs.specs.Made.{with_equations}
use Rattle.stream_constructs.proofs.Steps.{refused_early}
use Rattle.stream_constructs.proofs.Partly.{count_then, has_after, has_early, has_made, made_after}
use Rattle.stream_constructs.proofs.maker.Maker.hold_both.Goals as goal

pub returns-in_err-first-clause-refused : goal.returns-in_err-first-clause-refused
returns-in_err-first-clause-refused c =
    let p = err_from_is_err_and c.from_residual.result c.from_residual.ensures.1 in
    let n = length c.args.self.now.equations in
    refused_early c.from_residual.result p.0 _ c.args.self.now.equations (held c.args.place n c.args.b.now.id c.args.a.now) (held c.args.place (n + 2) c.args.a.now.id c.args.b.now) _ p.1 p.2 refl c.in_err-first.ensures.refused

pub returns-in_err-first-clause-partly : goal.returns-in_err-first-clause-partly
returns-in_err-first-clause-partly c =
    let n = length c.args.self.now.equations in
    on_err _ (has_early c.args.self.now c.hold.new.self (held c.args.place n c.args.b.now.id c.args.a.now) (held c.args.place (n + 2) c.args.a.now.id c.args.b.now) _ refl c.in_err-first.ensures.partly)

pub returns-in_err-second-clause-partly : goal.returns-in_err-second-clause-partly
returns-in_err-second-clause-partly c =
    let s = c.args.self.now in
    let m = c.hold.new.self in
    let place = c.args.place in
    let a = c.args.a.now in
    let b = c.args.b.now in
    let first = held place (length s.equations) b.id a in
    let second = held place (length m.equations) a.id b in
    on_err _ (has_after s m c.hold-2.new.self first second [] _ c.in_ok-first.ensures.made
    (ap (λ es. first ++ es) (append-nil second) ∙ ap (λ n. first ++ held place n a.id b) (count_then s m first c.in_ok-first.ensures.made)) c.in_err-second.ensures.partly)

pub returns-in_err-push-clause-partly : goal.returns-in_err-push-clause-partly
returns-in_err-push-clause-partly c =
    let s = c.args.self.now in
    let m = c.hold.new.self in
    let place = c.args.place in
    let a = c.args.a.now in
    let b = c.args.b.now in
    let first = held place (length s.equations) b.id a in
    let whole = lifting place (length s.equations) (a ∷ b ∷ []) in
    on_err _ (has_made s c.hold-2.new.self whole [] whole (append-nil whole)
    (made_after s m c.hold-2.new.self first (held place (length m.equations) a.id b) c.in_ok-first.ensures.made c.in_ok-second.ensures.made
    ∙ ap (λ n. with_equations s (first ++ held place n a.id b)) (count_then s m first c.in_ok-first.ensures.made)))

pub returns-in_err-push-2-clause-partly : goal.returns-in_err-push-2-clause-partly
returns-in_err-push-2-clause-partly c =
    let s = c.args.self.now in
    let m = c.hold.new.self in
    let place = c.args.place in
    let a = c.args.a.now in
    let b = c.args.b.now in
    let first = held place (length s.equations) b.id a in
    let whole = lifting place (length s.equations) (a ∷ b ∷ []) in
    on_err _ (has_made s c.hold-2.new.self whole [] whole (append-nil whole)
    (made_after s m c.hold-2.new.self first (held place (length m.equations) a.id b) c.in_ok-first.ensures.made c.in_ok-second.ensures.made
    ∙ ap (λ n. with_equations s (first ++ held place n a.id b)) (count_then s m first c.in_ok-first.ensures.made)))
