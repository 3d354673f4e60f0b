use Rattle.std.proofs.Common.{◌<◌, List, length, refl, sym, subst}
use Rattle.std.proofs.lemmas.Result.{err_from_is_err_and}
use Rattle.flat_core.specs.declared.equation.Equation.{Equation}
use Rattle.code_check.specs.Checked.{IsRefusedFor}
use Rattle.code_check.specs.inner.Planning.{code_by}
use Rattle.code_check.specs.inner.Typing.{IsTypeFault, NoneBreaks}
use Rattle.code_check.proofs.Refused.{all_refused, all_taken, err_with, type_refused, typed}
use Rattle.code_check.proofs.Whole.{there, whole}
use Rattle.code_reader.specs.Parts.{code_in}
use Rattle.code_check.proofs.check.checked.Goals as goal

pub returns-in_err-check_types-clause-fault : goal.returns-in_err-check_types-clause-fault
returns-in_err-check_types-clause-fault c =
    let code = code_in c.args.parts in
    let why = c.in_err-check_types.field-0.0 in
    let p = err_from_is_err_and c.from_residual.result c.from_residual.ensures.1 in
    let fault = subst (λ (equations : List Equation). IsTypeFault equations c.args.parts.running why) c.deref.ensures.value c.in_err-check_types.ensures.fault in
    err_with (IsRefusedFor code) c.from_residual.result p.0 why p.1 p.2 (type_refused code why fault)

pub system_of-requires : goal.system_of-requires
system_of-requires c =
    let code = code_in c.args.parts in
    let form = c.requires.form in
    let same = sym c.deref.ensures.value in
    let proper = c.in_ok-check_types.ensures.proper code.system same refl
    (λ i run. subst (λ (equations : List Equation). i < length equations) same (there code form i run)) in
    whole code form c.requires.bare (c.in_ok-check_types.ensures.typed code.system same) proper

pub returns-clause-checked : goal.returns-clause-checked
returns-clause-checked c =
    let code = code_in c.args.parts in
    let plan = c.args.parts.plan in
    let types = typed code (subst (λ (equations : List Equation). NoneBreaks equations c.args.parts.running) c.deref.ensures.value c.in_ok-check_types.ensures.none_breaks) in
    all_taken c.in_ok-flat.flat plan.in_place plan.order code (λ k. code_by (c.in_ok-flat.ensures k) plan.in_place plan.order) types c.planned.result c.planned.ensures.code c.planned.ensures.well_formed c.planned.ensures.fine

pub returns-clause-fault : goal.returns-clause-fault
returns-clause-fault c =
    let code = code_in c.args.parts in
    let plan = c.args.parts.plan in
    let types = typed code (subst (λ (equations : List Equation). NoneBreaks equations c.args.parts.running) c.deref.ensures.value c.in_ok-check_types.ensures.none_breaks) in
    all_refused c.in_ok-flat.flat plan.in_place plan.order code (λ k. code_by (c.in_ok-flat.ensures k) plan.in_place plan.order) types c.planned.result c.planned.ensures.fault
