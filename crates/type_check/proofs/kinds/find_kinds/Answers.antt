use Rattle.std.proofs.Common.{map}
use Rattle.syntax_tree.specs.inner.OneLevel.{item_of}
use Rattle.expr_types.specs.inner.Shown.{kinds_of}
use Rattle.type_check.proofs.KindLemmas.{nothing_else, are_kinds}
use Rattle.type_check.proofs.kinds.find_kinds.Goals as goal

pub returns : goal.returns
returns c =
    let items = map item_of c.args.items.now in
    let none = nothing_else items (kinds_of c.new-kinds.result) c.new-kinds.ensures.items c.new-kinds.ensures.locals in
    are_kinds items (kinds_of c.settle-2.new.kinds) (c.in_ok-settle-2.ensures.nothing (c.in_ok-settle.ensures.nothing none)) (c.in_ok-settle-2.ensures.all c.in_ok-settle.ensures.written)
