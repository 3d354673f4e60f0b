use Rattle.std.proofs.Common.{sym, ◌∙◌}
use Rattle.name_check.proofs.TwiceLemmas.{is_new, is_known}
use Rattle.name_check.proofs.twice.declare.Goals as goal

pub returns-then-branch-clause-found : goal.returns-then-branch-clause-found
returns-then-branch-clause-found c =
    is_new c.args.names.now c.args.place c.args.name.now c.in_ok-declare.field-0 (sym c.is_built_in.ensures ∙ c.if-is_built_in.false) c.in_ok-declare.ensures.new c.if-branch.true

pub returns-else-branch-clause-found : goal.returns-else-branch-clause-found
returns-else-branch-clause-found c =
    is_known c.args.names.now c.args.place c.args.name.now c.in_ok-declare.field-0 (sym c.is_built_in.ensures ∙ c.if-is_built_in.false) c.in_ok-declare.ensures.new c.if-branch.false
