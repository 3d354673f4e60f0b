use Rattle.std.proofs.Common.{◌≡◌, sym, subst}
use Rattle.std.proofs.lemmas.Result.{IfErr-weaker, IfOk-weaker, err_from_is_err_and}
use Rattle.register_code.specs.Code.{Code}
use Rattle.code_check.specs.Checked.{IsRefusedFor}
use Rattle.code_check.specs.Read.{IsReadFault, SpellCode}
use Rattle.code_check.proofs.ReadFaults.{check_fault, form_fault}
use Rattle.code_check.proofs.Refused.{err_with}
use Rattle.code_reader.specs.Parts.{code_in}
use Rattle.code_check.proofs.read.read_code.Goals as goal

pub returns-in_err-parts-clause-fault : goal.returns-in_err-parts-clause-fault
returns-in_err-parts-clause-fault c =
    let why = c.in_err-parts.field-0.0 in
    let p = err_from_is_err_and c.from_residual.result c.from_residual.ensures.1 in
    err_with (IsReadFault c.args.bytes.now) c.from_residual.result p.0 why p.1 p.2 (form_fault c.args.bytes.now why c.in_err-parts.ensures.fault)

pub returns-clause-spelled : goal.returns-clause-spelled
returns-clause-spelled c =
    let code = code_in c.in_ok-parts.parts in
    let read = c.in_ok-parts.ensures in
    let spelled : SpellCode c.args.bytes.now code = record { short = read.short; form = read.form; is = read.spelled; bare = read.bare } in
    IfOk-weaker c.checked.result (λ (d : Code). d ≡ code) (SpellCode c.args.bytes.now) (λ d same. subst (SpellCode c.args.bytes.now) (sym same) spelled) c.checked.ensures.code

pub returns-clause-fault : goal.returns-clause-fault
returns-clause-fault c =
    let code = code_in c.in_ok-parts.parts in
    let read = c.in_ok-parts.ensures in
    let spelled : SpellCode c.args.bytes.now code = record { short = read.short; form = read.form; is = read.spelled; bare = read.bare } in
    IfErr-weaker c.checked.result (IsRefusedFor code) (IsReadFault c.args.bytes.now) (λ why f. check_fault c.args.bytes.now code why spelled f) c.checked.ensures.fault
