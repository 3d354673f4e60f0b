use Rattle.std.proofs.Common.{◌∙◌, sym}
use Rattle.std.proofs.lemmas.Result.{err_from_is_err_and}
use Rattle.code_reader.specs.Parts.{code_in}
use Rattle.code_reader.proofs.Whole.{few_read, more_follow, none_read, not_joined, parts_taken}
use Rattle.code_reader.proofs.read.read_whole.Goals as goal

pub returns-in_err-parts-clause-fault : goal.returns-in_err-parts-clause-fault
returns-in_err-parts-clause-fault c =
    let p = err_from_is_err_and c.from_residual.result c.from_residual.ensures.1 in
    rw (p.1, p.2) (none_read c.in_err-parts.field-0.0 c.args.bytes.now c.in_err-parts.ensures)

pub returns-then-not-is_empty-clause-fault : goal.returns-then-not-is_empty-clause-fault
returns-then-not-is_empty-clause-fault c =
    more_follow c.args.bytes.now (code_in c.in_ok-parts.parts) c.in_ok-parts.rest.now c.in_ok-parts.ensures (sym c.is_empty.ensures ∙ c.if-not-is_empty.true)

pub are_joined-requires : goal.are_joined-requires
are_joined-requires c =
    few_read c.args.bytes.now (code_in c.in_ok-parts.parts) c.in_ok-parts.rest.now (λ i. (c.type_inv.bytes i).fits) c.in_ok-parts.ensures

pub returns-then-branch-clause-ok : goal.returns-then-branch-clause-ok
returns-then-branch-clause-ok c =
    parts_taken c.args.bytes.now (code_in c.in_ok-parts.parts) c.in_ok-parts.rest.now (λ i. (c.type_inv.bytes i).fits) c.in_ok-parts.ensures
    (sym c.is_empty.ensures ∙ c.if-not-is_empty.false) (sym c.in_ok-are_joined.ensures ∙ c.if-branch.true)

pub returns-else-branch-clause-fault : goal.returns-else-branch-clause-fault
returns-else-branch-clause-fault c =
    not_joined c.args.bytes.now (code_in c.in_ok-parts.parts) c.in_ok-parts.rest.now c.in_ok-parts.ensures (sym c.in_ok-are_joined.ensures ∙ c.if-branch.false)
