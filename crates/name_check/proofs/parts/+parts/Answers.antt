use Rattle.std.proofs.Common.{◌≡◌, [], ◌∷◌, ◌++◌, rules, ap, ◌∙◌}
use Rattle.name_check.specs.declared.parts.Part.TheVariants as part
use Rattle.name_check.specs.inner.Shown.{parts_in}
use Rattle.syntax_tree.proofs.Sizes.{argument_smaller, link_smaller, front_within}
use Rattle.name_check.proofs.PartsLemmas.{lift_added, parts_more}
use Rattle.name_check.proofs.parts.+parts.Goals as goal

pub add_arguments-add_parts-requires : goal.add_arguments-add_parts-requires
add_arguments-add_parts-requires t c =
    let smaller = argument_smaller c.args.arguments.now c.loop-argument.argument-index c.argument-item.result c.loop-argument-test.true c.argument-item.is in
    search rules

pub add_links-add_parts-requires : goal.add_links-add_parts-requires
add_links-add_parts-requires t c =
    let smaller = link_smaller c.args.links.now c.loop-link.link-index c.link-item.result c.loop-link-test.true c.link-item.is in
    search rules

pub add_lift-add_arguments-requires : goal.add_lift-add_arguments-requires
add_lift-add_arguments-requires t c =
    let whole : c.args.arguments.now ≡ c.in-Some.before.now ++ c.in-Some.function.now ∷ [] = search rules in
    let smaller = front_within c.args.arguments.now c.in-Some.before.now c.in-Some.function.now whole in
    search rules

pub add_lift-returns : goal.add_lift-returns
add_lift-returns t c =
    let whole : c.args.arguments.now ≡ c.in-Some.before.now ++ c.in-Some.function.now ∷ [] = search rules in
    lift_added c.args.arguments.now c.in-Some.before.now c.in-Some.function.now (parts_in c.args.out.now.items) (parts_in c.add_arguments.new.out.items) (parts_in c.push.new.self.items) whole c.in_ok-add_arguments.ensures
    (ap parts_in c.in_ok-push.ensures.items ∙ parts_more c.add_arguments.new.out.items (part.Function c.in-Some.function))
