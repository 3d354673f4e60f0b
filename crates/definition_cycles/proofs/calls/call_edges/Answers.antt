use Rattle.std.proofs.Common.{false}
use Rattle.name_check.specs.declared.declaration.Declaration.TheVariants as declaration
use Rattle.definition_cycles.specs.declared.mention.Mention.{Mention}
use Rattle.definition_cycles.proofs.calls.call_edges.Goals as goal

pub call_edge-requires : goal.call_edge-requires
call_edge-requires c =
    let none : Mention = record { item = 0; node = 0; is = declaration.Input 0; calls = false } in c.requires c.loop-mention.mention-index none c.loop-mention-test.true
