use Rattle.std.proofs.Common.{sym, ◌∙◌}
use Rattle.macro_flatten.proofs.Places.{is_named, name_there}
use Rattle.macro_flatten.proofs.context.Context.named.Goals as goal

pub unreachable-requires : goal.unreachable-requires
unreachable-requires c = name_there c.args.self.now c.args.here.now c.args.name.now c.requires (sym c.stream.ensures ∙ c.in-None.is)

pub returns : goal.returns
returns c = is_named c.args.self.now c.args.here.now c.args.name.now c.in-Some.stream (sym c.stream.ensures ∙ c.in-Some.is)
