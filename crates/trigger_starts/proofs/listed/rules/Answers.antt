use Rattle.std.proofs.Common.{◌≡◌, take_all, sym, subst, ◌∙◌, arith}
use Rattle.trigger_starts.specs.inner.Rules.{AreClosed, rules_of}
use Rattle.trigger_starts.proofs.Orders.{closed, count}
use Rattle.trigger_starts.proofs.Tables.{rules_more}
use Rattle.trigger_starts.proofs.listed.rules.Goals as goal

pub loop-number-preserved : goal.loop-number-preserved
loop-number-preserved c = rules_more c.args.flat.now c.loop-number.number c.new.result c.equation.result.now c.in_ok-rule_of.field-0 c.loop-number.rules.items c.push.new.self.items c.new.ensures c.equation.ensures c.in_ok-rule_of.ensures c.loop-number.invariant c.in_ok-push.ensures.items

pub returns-clause-closed : goal.returns-clause-closed
returns-clause-closed c =
    let many = count c.args.flat.now in
    let all : c.loop-number.rules.items ≡ rules_of c.args.flat.now = c.loop-number.invariant ∙ take_all c.loop-number.number (rules_of c.args.flat.now) (omega (arith, c.count-number-end.ensures.count)) in
    subst AreClosed (sym all) (closed c.args.flat.now c.count-number-end.ensures.is_flat)
