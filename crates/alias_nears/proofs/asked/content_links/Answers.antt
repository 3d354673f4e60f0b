use Rattle.std.proofs.Common.{◌≡◌, length, sym, subst}
use Rattle.std.proofs.lemmas.Result.{IfOk-weaker}
use Rattle.translation_order.specs.Order.{AreOfSteps}
use Rattle.alias_nears.proofs.Linking.{links_of_steps}
use Rattle.alias_nears.proofs.asked.content_links.Goals as goal

pub of-requires : goal.of-requires
of-requires c =
    subst (λ n. AreOfSteps n c.push_all-4.new.pairs) (sym c.count.ensures.count)
    (links_of_steps c.args.flat.now c.args.uses.now c.requires c.new-pairs.result c.push_all.new.pairs c.push_all-2.new.pairs c.push_all-3.new.pairs c.push_all-4.new.pairs c.as_slice.result.now c.as_slice-2.result.now c.as_slice-3.result.now c.as_slice-4.result.now c.in_ok-back.back c.as_slice-5.result.now
    c.new-pairs.ensures c.as_slice.ensures c.as_slice-2.ensures c.as_slice-3.ensures c.in_ok-push_all.ensures c.in_ok-push_all-2.ensures c.in_ok-push_all-3.ensures c.as_slice-4.ensures c.in_ok-back.ensures c.as_slice-5.ensures c.in_ok-push_all-4.ensures)

pub returns : goal.returns
returns c =
    let n = length c.args.flat.now.equations in
    let pairs = c.push_all-4.new.pairs in
    let steps = links_of_steps c.args.flat.now c.args.uses.now c.requires c.new-pairs.result c.push_all.new.pairs c.push_all-2.new.pairs c.push_all-3.new.pairs pairs c.as_slice.result.now c.as_slice-2.result.now c.as_slice-3.result.now c.as_slice-4.result.now c.in_ok-back.back c.as_slice-5.result.now
    c.new-pairs.ensures c.as_slice.ensures c.as_slice-2.ensures c.as_slice-3.ensures c.in_ok-push_all.ensures c.in_ok-push_all-2.ensures c.in_ok-push_all-3.ensures c.as_slice-4.ensures c.in_ok-back.ensures c.as_slice-5.ensures c.in_ok-push_all-4.ensures in
    IfOk-weaker c.of.result (λ l. l ≡ pairs) (AreOfSteps n) (λ l is. subst (AreOfSteps n) (sym is) steps) c.of.ensures
