use Rattle.std.proofs.Common.{◌<◌, length, sym, subst}
use Rattle.source_rules.proofs.CycleLemmas.{walked_there, walked_some, there_at}
use Rattle.spec_reader.proofs.cycle.cyclic.Goals as goal

pub names_of-requires : goal.names_of-requires
names_of-requires c = walked_there c.args.flat.now c.args.equations.now c.requires

pub unreachable-requires : goal.unreachable-requires
unreachable-requires c = walked_some c.args.flat.now c.args.equations.now c.requires (sym c.in-None.ensures)

pub equation-requires : goal.equation-requires
equation-requires c =
    subst (λ i. i < length c.args.flat.now.equations) (sym c.new.ensures) (there_at c.args.flat.now c.args.equations.now c.requires 0 c.in-Some.first.now (sym c.in-Some.ensures))
