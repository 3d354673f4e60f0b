use Rattle.std.proofs.Common.{◌≡◌, length, map, ap}
use Rattle.syntax_tree.specs.inner.OneLevel.{item_of}
use Rattle.name_check.specs.Scope.{top}
use Rattle.definition_cycles.specs.Nodes.{item_nodes}
use Rattle.definition_cycles.specs.inner.Walk.{with_nodes}
use Rattle.definition_cycles.proofs.FoundLemmas.{found_turn, firsts_turn}
use Rattle.definition_cycles.proofs.graph.Graph.of_items.Goals as goal

pub loop-number-preserved : goal.loop-number-preserved
loop-number-preserved c =
    let s = top (map item_of c.args.items.now) in
    let next : c.add_item.new.self ≡ with_nodes c.loop-number.found (item_nodes c.loop-number.number s (item_of c.index-items-number.result)) = c.in_ok-add_item.ensures s c.in_ok-top.ensures in record {
      firsts = firsts_turn c.args.items.now c.loop-number.number c.index-items-number.result s c.loop-number.found c.add_item.new.self (length c.heads.result.now) c.loop-number.firsts.items c.push.new.self.items _ c.loop-number-test.true c.index-items-number.is next
          (ap (λ l. length l) c.heads.ensures) c.loop-number.invariant.firsts c.in_ok-push.ensures.items;
      found = found_turn c.args.items.now c.loop-number.number c.index-items-number.result s c.loop-number.found c.add_item.new.self _ c.loop-number-test.true c.index-items-number.is c.loop-number.invariant.found next;
    }
