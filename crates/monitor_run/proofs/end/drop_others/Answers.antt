use Rattle.std.proofs.Common.{◌<◌, length, sym, subst, ◌∙◌}
use Rattle.aggregate_store.specs.inner.Stored.{is_listed}
use Rattle.monitor_run.specs.inner.Instant.{cells_in}
use Rattle.monitor_run.proofs.EndLemmas.{all_listed, none_kept}
use Rattle.monitor_run.proofs.SoleLemmas.{sole_kept}
use Rattle.monitor_run.proofs.end.drop_others.Goals as goal

pub returns-then-not-touched-clause-ok : goal.returns-then-not-touched-clause-ok
returns-then-not-touched-clause-ok c = λ k. record c.args.store.now { cells = all_listed c.args.store.now.cells (is_listed (cells_in c.args.last.now c.args.keeps.now)) (c.requires.all_held c.if-not-touched.true) k }

pub returns-then-count-eq0-clause-ok : goal.returns-then-count-eq0-clause-ok
returns-then-count-eq0-clause-ok c = λ k. record c.args.store.now { cells = none_kept c.args.store.now.cells (is_listed (cells_in c.args.last.now c.args.keeps.now)) (sym c.count-count.ensures ∙ c.if-count-eq0.true) k }

pub returns-then-is_sole-clause-ok : goal.returns-then-is_sole-clause-ok
returns-then-is_sole-clause-ok c =
    let sole = c.is_sole.ensures c.if-is_sole.true in
    let listed = c.deref.ensures.value ∙ c.in_ok-list_kept.ensures in
    λ k. record c.args.store.now { cells = sole_kept c.args.store.now.cells (cells_in c.args.last.now c.args.keeps.now) (sym c.count-count.ensures ∙ sole.0) (subst (λ xs. 0 < length xs) listed sole.1) c.requires.live k }
