use Rattle.std.proofs.Common.{◌≡◌, None, rules, sym, ◌∙◌}
use Rattle.name_check.proofs.TwiceLemmas.{items_turn, declared_turn, if_none}
use Rattle.name_check.proofs.twice.declare_items.Goals as goal

pub loop-number-preserved : goal.loop-number-preserved
loop-number-preserved c =
    let none : c.in_ok-place.field-0 ≡ None = search rules in
    let more = if_none c.in_ok-place.field-0 _ c.in_ok-place.ensures.declared none in record {
      once = items_turn c.args.items.now c.loop-number.number c.index-items-number.result c.loop-number.names c.find_in_item.new.names _ c.loop-number-test.true c.index-items-number.is c.loop-number.invariant.once
          (sym none ∙ c.in_ok-place.ensures.found) more;
      declared = declared_turn c.args.items.now c.loop-number.number c.index-items-number.result c.loop-number.names c.find_in_item.new.names _ c.loop-number-test.true c.index-items-number.is c.loop-number.invariant.declared more;
    }
