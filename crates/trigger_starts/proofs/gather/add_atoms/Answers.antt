use Rattle.std.proofs.Common.{length}
use Rattle.std.proofs.lemmas.Result.{on_ok_weaker}
use Rattle.trigger_starts.specs.declared.rules.Rule.TheVariants as rule
use Rattle.trigger_starts.proofs.AtomLists.{atoms_read}
use Rattle.trigger_starts.proofs.RuleAtoms.{named_below, added_start, added_own, added_all, added_any, added_any_own, added_filter, added_last, added_last_started, added_delay}
use Rattle.trigger_starts.proofs.gather.add_atoms.Goals as goal

pub returns-in-Start : goal.returns-in-Start
returns-in-Start c = on_ok_weaker c.add.result (added_start c.args.rule.now c.args.own c.args.starts.now c.args.all.now c.args.atoms.now c.add.new.self c.in-Start.is) c.add.ensures

pub returns-in-Own : goal.returns-in-Own
returns-in-Own c = on_ok_weaker c.add-in-Own.result (added_own c.args.rule.now c.args.own c.args.starts.now c.args.all.now c.args.atoms.now c.add-in-Own.new.self c.in-Own.is) c.add-in-Own.ensures

pub returns-in-All : goal.returns-in-All
returns-in-All c = on_ok_weaker c.add_each.result (added_all c.args.rule.now c.args.own c.args.starts.now c.args.all.now c.in-All.args c.ids.result.now c.args.atoms.now c.add_each.new.atoms c.in-All.is c.ids.ensures) c.add_each.ensures

pub returns-in-Any : goal.returns-in-Any
returns-in-Any c = on_ok_weaker c.add_each-in-Any.result (added_any c.args.rule.now c.args.own c.args.starts.now c.args.all.now c.in-Any.args c.ids-in-Any.result.now c.args.atoms.now c.add_each-in-Any.new.atoms c.in-Any.is c.ids-in-Any.ensures) c.add_each-in-Any.ensures

pub returns-in_ok-add-in-AnyAndOwn : goal.returns-in_ok-add-in-AnyAndOwn
returns-in_ok-add-in-AnyAndOwn c =
    on_ok_weaker c.add_each-in-AnyAndOwn.result (added_any_own c.args.rule.now c.args.own c.args.starts.now c.args.all.now c.in-AnyAndOwn.args c.ids-in-AnyAndOwn.result.now c.args.atoms.now c.add-in-AnyAndOwn.new.self c.add_each-in-AnyAndOwn.new.atoms c.in-AnyAndOwn.is c.ids-in-AnyAndOwn.ensures c.in_ok-add-in-AnyAndOwn.ensures) c.add_each-in-AnyAndOwn.ensures

pub returns-in_ok-add_all-in-Filter-2 : goal.returns-in_ok-add_all-in-Filter-2
returns-in_ok-add_all-in-Filter-2 c =
    let low = named_below (length c.args.all.now) c.args.rule.now (rule.Filter c.in-Filter.events c.in-Filter.condition) c.in-Filter.is c.requires.below in
    let es = atoms_read c.args.all.now c.in-Filter.events c.get.result c.index-all-get.result c.list.result.now c.get.ensures c.index-all-get.is c.list.ensures low.0 in
    let cs = atoms_read c.args.all.now c.in-Filter.condition c.get-in-Filter.result c.index-all-get-in-Filter.result c.list-in-Filter.result.now c.get-in-Filter.ensures c.index-all-get-in-Filter.is c.list-in-Filter.ensures low.1.0 in
    on_ok_weaker c.add-in-Filter.result (added_filter c.args.rule.now c.args.own c.args.starts.now c.args.all.now c.in-Filter.events c.in-Filter.condition c.list.result.now c.list-in-Filter.result.now c.args.atoms.now c.add_all.new.self c.add_all-in-Filter.new.self c.add-in-Filter.new.self c.in-Filter.is es cs c.in_ok-add_all-in-Filter.ensures c.in_ok-add_all-in-Filter-2.ensures)
    c.add-in-Filter.ensures

pub returns-then-starts-get : goal.returns-then-starts-get
returns-then-starts-get c =
    let low = named_below (length c.args.all.now) c.args.rule.now (rule.Last c.in-Last.values c.in-Last.trigger) c.in-Last.is c.requires.below in
    let rs = atoms_read c.args.all.now c.in-Last.trigger c.get-in-Last.result c.index-all-get-in-Last.result c.list-in-Last.result.now c.get-in-Last.ensures c.index-all-get-in-Last.is c.list-in-Last.ensures low.1.0 in
    added_last_started c.args.rule.now c.args.own c.args.starts.now c.args.all.now c.in-Last.values c.in-Last.trigger c.get-in-Last-2.result c.list-in-Last.result.now c.args.atoms.now c.add-in-Last.new.self c.add_all-in-Last.new.self c.in-Last.is c.get-in-Last-2.ensures c.if-starts-get.true rs c.in_ok-add-in-Last.ensures c.in_ok-add_all-in-Last.ensures

pub returns-else-starts-get : goal.returns-else-starts-get
returns-else-starts-get c =
    let low = named_below (length c.args.all.now) c.args.rule.now (rule.Last c.in-Last.values c.in-Last.trigger) c.in-Last.is c.requires.below in
    let rs = atoms_read c.args.all.now c.in-Last.trigger c.get-in-Last.result c.index-all-get-in-Last.result c.list-in-Last.result.now c.get-in-Last.ensures c.index-all-get-in-Last.is c.list-in-Last.ensures low.1.0 in
    on_ok_weaker c.add-else-starts-get.result (added_last c.args.rule.now c.args.own c.args.starts.now c.args.all.now c.in-Last.values c.in-Last.trigger c.get-in-Last-2.result c.list-in-Last.result.now c.args.atoms.now c.add-in-Last.new.self c.add_all-in-Last.new.self c.add-else-starts-get.new.self c.in-Last.is c.get-in-Last-2.ensures c.if-starts-get.false rs c.in_ok-add-in-Last.ensures c.in_ok-add_all-in-Last.ensures)
    c.add-else-starts-get.ensures

pub returns-in_ok-add-in-Delay : goal.returns-in_ok-add-in-Delay
returns-in_ok-add-in-Delay c = on_ok_weaker c.add-in-Delay-2.result (added_delay c.args.rule.now c.args.own c.args.starts.now c.args.all.now c.args.atoms.now c.add-in-Delay.new.self c.add-in-Delay-2.new.self c.in-Delay.is c.in_ok-add-in-Delay.ensures) c.add-in-Delay-2.ensures
