use Rattle.std.proofs.Common.{map, arith}
use Rattle.std.proofs.lemmas.List.{length-map}
use Rattle.std.proofs.lemmas.Result.{err_from_is_err_and}
use Rattle.syntax_tree.specs.inner.OneLevel.{item_of}
use Rattle.call_limits.proofs.ChainLemmas.{macros_limited}
use Rattle.source_rules.proofs.SourceLemmas.{flat_refused, make_refused, has_system}
use Rattle.source_rules.proofs.TypedLemmas.{is_checked, has_outputs, have_short_texts, has_few_nodes, few_items, are_plain}
use Rattle.spec_reader.proofs.read.flat_of.Goals as goal

pub bodies_of-requires-clause-few : goal.bodies_of-requires-clause-few
bodies_of-requires-clause-few c = has_few_nodes c.requires.typed.0 _ _ _ c.items-items.ensures c.requires.typed.1

pub bodies_of-requires-clause-plain : goal.bodies_of-requires-clause-plain
bodies_of-requires-clause-plain c = are_plain c.requires.typed.0 _ _ _ c.items-items.ensures c.requires.typed.1

pub returns-in_err-functions-clause-refused : goal.returns-in_err-functions-clause-refused
returns-in_err-functions-clause-refused c = λ source typed.
    let p = err_from_is_err_and c.from_residual.result c.from_residual.ensures.1 in
    rw (p.1, p.2) (flat_refused source _ _ _ c.items-items.ensures typed c.in_err-functions.field-0.0 (c.in_err-functions.ensures.refused _))

pub flatten-requires-clause-checked : goal.flatten-requires-clause-checked
flatten-requires-clause-checked c = is_checked c.requires.typed.0 _ _ _ c.items-items.ensures c.requires.typed.1

pub flatten-requires-clause-outputs : goal.flatten-requires-clause-outputs
flatten-requires-clause-outputs c = has_outputs c.requires.typed.0 _ _ _ c.items-items.ensures c.requires.typed.1

pub flatten-requires-clause-short : goal.flatten-requires-clause-short
flatten-requires-clause-short c = have_short_texts c.requires.typed.0 _ _ _ c.items-items.ensures c.requires.typed.1

pub flatten-requires-clause-nests : goal.flatten-requires-clause-nests
flatten-requires-clause-nests c = macros_limited (map item_of c.items-items.result.now) c.in_ok-functions.ensures.nests

pub flatten-requires-clause-few : goal.flatten-requires-clause-few
flatten-requires-clause-few c =
    let few = few_items c.requires.typed.0 _ _ _ c.items-items.ensures c.requires.typed.1 in
    omega (arith, few, length-map c.items-items.result.now item_of)

pub returns-in_err-flat-clause-refused : goal.returns-in_err-flat-clause-refused
returns-in_err-flat-clause-refused c = λ source typed.
    let p = err_from_is_err_and c.from_residual-in_err-flat.result c.from_residual-in_err-flat.ensures.1 in
    rw (p.1, p.2)
    (make_refused source _ _ _ c.items-items.ensures typed c.in_ok-functions.ensures.no_macro_cycle c.in_ok-functions.ensures.nests c.in_ok-functions.ensures.small c.in_err-flat.field-0.0 c.in_err-flat.ensures.refused)

pub returns-clause-system : goal.returns-clause-system
returns-clause-system c = λ source typed.
    has_system source _ _ _ c.items-items.ensures typed c.in_ok-functions.ensures.no_macro_cycle c.in_ok-functions.ensures.nests c.in_ok-functions.ensures.small c.in_ok-flat.flat c.in_ok-flat.ensures.within c.in_ok-flat.ensures.flat c.in_ok-flat.ensures.is_flat c.in_ok-flat.ensures.needed
