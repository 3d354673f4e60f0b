use Rattle.std.proofs.Common.{map, ◌∙◌}
use Rattle.syntax_tree.specs.inner.OneLevel.{item_of}
use Rattle.call_limits.proofs.CallLemmas.{macros_are, functions_are, small_kept, small_outputs}
use Rattle.call_limits.proofs.calls.Calls.of_items.Goals as goal

pub add_all-requires : goal.add_all-requires
add_all-requires c = small_kept (map item_of c.args.items.now) c.in_ok-graph.graph.found c.mentions.result.now c.requires c.in_ok-graph.ensures.found c.mentions.ensures

pub add_all-requires-2 : goal.add_all-requires-2
add_all-requires-2 c = small_outputs (map item_of c.args.items.now) c.deref.result.now c.requires (c.deref.ensures.value ∙ c.in_ok-outputs.ensures)

pub returns-clause-macros : goal.returns-clause-macros
returns-clause-macros c =
    macros_are (map item_of c.args.items.now) c.in_ok-graph.graph.found c.mentions.result.now c.deref.result.now c.new.result.items c.add_all.new.self.macros.items c.add_all-2.new.self.macros.items
    c.in_ok-graph.ensures.found c.mentions.ensures (c.deref.ensures.value ∙ c.in_ok-outputs.ensures) c.new.ensures.items c.in_ok-add_all.ensures.macros c.in_ok-add_all-2.ensures.macros

pub returns-clause-functions : goal.returns-clause-functions
returns-clause-functions c =
    functions_are (map item_of c.args.items.now) c.in_ok-graph.graph.found c.mentions.result.now c.deref.result.now c.new-2.result.items c.add_all.new.self.functions.items c.add_all-2.new.self.functions.items
    c.in_ok-graph.ensures.found c.mentions.ensures (c.deref.ensures.value ∙ c.in_ok-outputs.ensures) c.new-2.ensures.items c.in_ok-add_all.ensures.functions c.in_ok-add_all-2.ensures.functions
