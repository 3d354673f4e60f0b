use Rattle.std.proofs.Common.{◌≡◌, None, map, rules}
use Rattle.syntax_tree.specs.inner.OneLevel.{item_of}
use Rattle.name_check.specs.Faults.{first}
use Rattle.function_bodies.specs.Bodies.{too_large_bodies}
use Rattle.function_bodies.proofs.EndLemmas.{found_turn, none_turn}
use Rattle.function_bodies.proofs.functions.Functions.find_too_large.Goals as goal

pub returns-in-Some : goal.returns-in-Some
returns-in-Some c =
    found_turn c.args.items.now c.args.self.now c.loop-number.number c.index-items-number.result c.in-Some.place (first (too_large_bodies (map item_of c.args.items.now)))
    c.loop-number-test.true c.index-items-number.is c.in-Some.ensures c.loop-number.invariant

pub loop-number-preserved : goal.loop-number-preserved
loop-number-preserved c =
    let none : c.too_large_place.result ≡ None = search rules in
    none_turn c.args.items.now c.args.self.now c.loop-number.number c.index-items-number.result c.too_large_place.result (first (too_large_bodies (map item_of c.args.items.now)))
    c.loop-number-test.true c.index-items-number.is c.too_large_place.ensures none c.loop-number.invariant
