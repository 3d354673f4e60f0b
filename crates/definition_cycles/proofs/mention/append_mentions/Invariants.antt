use Rattle.std.proofs.Common.{◌≡◌, ◌++◌, drop, length, take}
use Rattle.name_check.specs.Scope.{seen}
use Rattle.name_check.specs.inner.Shown.{parts_in}
use Rattle.definition_cycles.specs.inner.Walk.{mentions_among}
use Rattle.definition_cycles.proofs.mention.append_mentions.Given as goal

abbrev pub invariant-loop-part : goal.invariant-loop-part
invariant-loop-part l = record {
  made : l.mentions.items ++ mentions_among l.item l.node (seen l.scope) (parts_in (drop l.part-index l.part-items)) ≡ l.initial.mentions.items ++ mentions_among l.item l.node (seen l.scope) (parts_in l.part-items);
  front : take (length l.initial.mentions.items) l.mentions.items ≡ l.initial.mentions.items;
}
