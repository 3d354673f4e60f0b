use Rattle.std.proofs.Common.{◌+◌, ap, drop}
use Rattle.std.specs.Option.{option_to_list}
use Rattle.name_check.specs.Scope.{seen}
use Rattle.name_check.specs.inner.Shown.{part_of, parts_in}
use Rattle.tsl_value.proofs.Lists.{left_at}
use Rattle.definition_cycles.specs.inner.Walk.{mention_in}
use Rattle.definition_cycles.proofs.ListLemmas.{filtered_step, front_kept}
use Rattle.definition_cycles.proofs.mention.append_mentions.Goals as goal

pub loop-part-preserved : goal.loop-part-preserved
loop-part-preserved c =
    let ps = c.deref-part-items.result.now in let i = c.loop-part.part-index in record {
      made =
          filtered_step (mention_in c.args.item c.args.node (seen c.args.scope.now)) (parts_in (drop i ps)) (parts_in (drop (i + 1) ps)) (part_of c.part-item.result) c.mention_in.result c.loop-part.mentions.items c.push_some.new.list.items _
          (ap parts_in (left_at ps i c.part-item.result c.loop-part-test.true c.part-item.is))
          c.mention_in.ensures
          c.loop-part.invariant.made
          c.in_ok-push_some.ensures.added;
      front = front_kept c.args.mentions.now.items c.loop-part.mentions.items (option_to_list c.mention_in.result) c.push_some.new.list.items c.loop-part.invariant.front c.in_ok-push_some.ensures.added;
    }
