use Rattle.std.proofs.Common.{sym, subst}
use Rattle.std.proofs.lemmas.Result.{IfOk-weaker}
use Rattle.event_why.specs.inner.Pruned.{HasKnown, IsPruned}
use Rattle.event_why.specs.inner.Used.{NamesEarlier}
use Rattle.event_why.proofs.PruneLemmas.{draft_kept}
use Rattle.event_why.proofs.prune.prune.Goals as goal

pub returns : goal.returns
returns c =
    let old = c.args.draft.now in
    let new = c.keep_marked.new.draft in
    let known = subst (λ ms. NamesEarlier old.steps.items → HasKnown old ms) (sym c.deref.ensures.value) c.in_ok-marks.ensures.known in
    IfOk-weaker c.keep_marked.result _ (λ x. IsPruned old new) (λ x keeps. draft_kept c.deref.result.now old new known keeps) c.keep_marked.ensures
