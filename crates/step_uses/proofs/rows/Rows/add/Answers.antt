use Rattle.std.proofs.Common.{◌<◌, [], ◌∷◌, ◌++◌, length, set, ◌∙◌, arith}
use Rattle.step_uses.specs.Uses.{row}
use Rattle.step_uses.proofs.RowLemmas.{added_is}
use Rattle.step_uses.proofs.rows.Rows.add.Goals as goal

pub returns-in_ok-push-clause-added : goal.returns-in_ok-push-clause-added
returns-in_ok-push-clause-added c =
    let rows = c.self.inside.rows in
    let there : c.get-place.result < length rows.items = omega (arith, c.if-place-len.true, c.len.ensures, rows.ok.0) in
    added_is rows.items (λ v. v.items) c.get-place.result c.args.number c.index_mut.result.now c.push.new.self there c.index_mut.ensures.value c.in_ok-push.ensures.items
    ∙ (λ k. set (c.self.view_is k) (c.get-place.ensures k) (row (c.self.view_is k) (c.get-place.ensures k) ++ c.args.number ∷ []))
