use Rattle.std.proofs.Common.{map}
use Rattle.syntax_tree.specs.inner.OneLevel.{item_of}
use Rattle.expr_types.specs.inner.Shown.{kinds_of}
use Rattle.expr_types.proofs.BlockLemmas.{found_is, none_found}
use Rattle.expr_types.proofs.define.block_kind.Goals as goal

pub returns-in-Some : goal.returns-in-Some
returns-in-Some c =
    found_is c.kind_within.result (map item_of c.args.items.now) (kinds_of c.args.kinds.now) c.args.number c.args.local c.args.blocks.now c.at.result c.in-Some.block c.requires.blocks c.in-Some.is c.at.ensures c.kind_within.ensures

pub returns-in-None : goal.returns-in-None
returns-in-None c =
    none_found (map item_of c.args.items.now) (kinds_of c.args.kinds.now) c.args.number c.args.local c.args.blocks.now c.at.result c.requires.blocks c.in-None.is c.at.ensures
