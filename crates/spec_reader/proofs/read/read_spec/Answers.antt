use Rattle.std.proofs.lemmas.Result.{err_from_is_err_and}
use Rattle.syntax_tree.specs.inner.OneLevel.{items_of}
use Rattle.source_rules.proofs.CountLemmas.{few_nodes}
use Rattle.expr_types.specs.inner.Shown.{kinds_of}
use Rattle.source_rules.proofs.SourceLemmas.{tree_typed}
use Rattle.spec_reader.proofs.WholeLemmas.{spells_something}
use Rattle.spec_reader.proofs.read.read_spec.Goals as goal

pub check-requires : goal.check-requires
check-requires c = few_nodes c.args.source.now c.in_ok-tokens.tokens (items_of c.in_ok-tree.tree) c.in_ok-tokens.ensures.tokens c.in_ok-tree.ensures.tree

pub returns-in_err-flat-clause-fault : goal.returns-in_err-flat-clause-fault
returns-in_err-flat-clause-fault c =
    let p = err_from_is_err_and c.from_residual-in_err-flat.result c.from_residual-in_err-flat.ensures.1 in
    let typed = tree_typed c.args.source.now c.in_ok-tokens.tokens c.in_ok-tree.tree c.in_ok-typed.typed.tree.now (kinds_of c.in_ok-typed.typed.kinds) c.in_ok-tokens.ensures.tokens c.in_ok-tree.ensures.tree c.in_ok-tree.ensures.end c.in_ok-typed.ensures.tree c.in_ok-typed.ensures.accepted in
    rw (p.1, p.2) (c.in_err-flat.ensures.refused c.args.source.now typed)

pub returns-clause-system : goal.returns-clause-system
returns-clause-system c =
    let typed = tree_typed c.args.source.now c.in_ok-tokens.tokens c.in_ok-tree.tree c.in_ok-typed.typed.tree.now (kinds_of c.in_ok-typed.typed.kinds) c.in_ok-tokens.ensures.tokens c.in_ok-tree.ensures.tree c.in_ok-tree.ensures.end c.in_ok-typed.ensures.tree c.in_ok-typed.ensures.accepted in
    let has = c.in_ok-flat.ensures.system c.args.source.now typed in
    spells_something c.args.source.now (items_of c.in_ok-typed.typed.tree.now) c.in_ok-flat.flat c.in_order.result has c.in_order.ensures.flat c.in_order.ensures.well_formed

pub returns-clause-fault : goal.returns-clause-fault
returns-clause-fault c =
    let typed = tree_typed c.args.source.now c.in_ok-tokens.tokens c.in_ok-tree.tree c.in_ok-typed.typed.tree.now (kinds_of c.in_ok-typed.typed.kinds) c.in_ok-tokens.ensures.tokens c.in_ok-tree.ensures.tree c.in_ok-tree.ensures.end c.in_ok-typed.ensures.tree c.in_ok-typed.ensures.accepted in
    let has = c.in_ok-flat.ensures.system c.args.source.now typed in
    c.in_order.ensures.cyclic c.args.source.now (items_of c.in_ok-typed.typed.tree.now) has
