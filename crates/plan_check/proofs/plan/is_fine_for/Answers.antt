use Rattle.std.proofs.Common.{Option, None, subst}
use Rattle.std.proofs.lemmas.Result.{IfOk-weaker}
use Rattle.flat_core.specs.System.{System}
use Rattle.alias_nears.specs.inner.Answer.{IsFirstConflict}
use Rattle.alias_nears.specs.declared.reason.Reason.{Reason}
use Rattle.plan_check.proofs.Fineness.{fine_without, not_fine_if}
use Rattle.plan_check.proofs.plan.is_fine_for.Goals as goal

pub returns-in-Some : goal.returns-in-Some
returns-in-Some c =
    let s = c.args.flat.now in
    let set = c.args.plan.now.in_place in
    let conflict = c.in_ok-conflict_of.field-0 in
    let first = subst (λ (of : System). IsFirstConflict of set conflict) c.requires.graph c.in_ok-conflict_of.ensures in
    not_fine_if s set c.args.plan.now.order c.requires.updates conflict _ first c.in-Some.is

pub returns : goal.returns
returns c =
    let s = c.args.flat.now in
    let set = c.args.plan.now.in_place in
    let conflict = c.in_ok-conflict_of.field-0 in
    let first = subst (λ (of : System). IsFirstConflict of set conflict) c.requires.graph c.in_ok-conflict_of.ensures in
    let none : IsFirstConflict s set None = subst (λ (r : Option Reason). IsFirstConflict s set r) c.in-None.is first in
    IfOk-weaker c.lets_them.result _ _ (λ r so. fine_without s set c.args.plan.now.order c.requires.updates none r so) c.lets_them.ensures
