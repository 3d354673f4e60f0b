use Rattle.std.proofs.Common.{map}
use Rattle.syntax_tree.specs.inner.OneLevel.{definition_of, item_of}
use Rattle.expr_types.specs.inner.Shown.{kinds_of}
use Rattle.expr_types.proofs.BlockLemmas.{within_is, none_within}
use Rattle.expr_types.proofs.define.kind_within.Goals as goal

pub returns-in-Some : goal.returns-in-Some
returns-in-Some c =
    within_is c.local_definition_kind.result (map item_of c.args.items.now) (kinds_of c.args.kinds.now) c.args.number c.args.local c.args.block.now c.args.names.now c.all-outer.result c.within-around.result c.within-scope.result c.definition.result c.in-Some.definition (definition_of c.parts.result.now) c.requires c.all-outer.ensures c.within-around.ensures c.within-scope.ensures c.in-Some.is c.definition.ensures c.parts.ensures.is c.local_definition_kind.ensures

pub returns : goal.returns
returns c =
    none_within (map item_of c.args.items.now) (kinds_of c.args.kinds.now) c.args.number c.args.local c.args.block.now c.definition.result c.in-None.is c.definition.ensures
