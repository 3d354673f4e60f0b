use Rattle.std.proofs.Common.{◌++◌, ◌∙◌, ◌<◌, ℕ, ap, length, subst, arith}
use Rattle.std.proofs.lemmas.Result.{on_err_weaker, on_ok_weaker}
use Rattle.std.specs.List.Sorted.{IsStrictlyIncreasing}
use Rattle.program_text.proofs.Joined.{kept}
use Rattle.code_file.specs.Spelling.{equations_bytes, list_bytes, mark, outputs_bytes}
use Rattle.code_file.specs.inner.Writing.{IsFormAt}
use Rattle.code_file.proofs.Joined.{joined}
use Rattle.code_file.proofs.Spelled.{few_in_place, few_steps, form_of}
use Rattle.code_file.proofs.write.put_code.Goals as goal

pub put_plan-requires-clause-few_updates : goal.put_plan-requires-clause-few_updates
put_plan-requires-clause-few_updates c =
    let few = few_in_place c.args.code.now c.assert_whole.ensures (subst IsStrictlyIncreasing c.plan.ensures.in_place c.assert_ascending.ensures) in
    let same = ap length c.plan-2.ensures.in_place in
    omega (arith, few, same)

pub put_plan-requires-clause-few_steps : goal.put_plan-requires-clause-few_steps
put_plan-requires-clause-few_steps c =
    let few = few_steps c.args.code.now c.assert_whole.ensures in
    let same = ap length c.plan-2.ensures.order in
    omega (arith, few, same)

pub returns-clause-ok : goal.returns-clause-ok
returns-clause-ok c =
    let code = c.args.code.now in
    let s = code.system in
    let plan = list_bytes code.in_place ++ list_bytes code.order in
    let outputs = outputs_bytes s.outputs ++ plan in
    let equations = c.in_ok-put_equations.ensures.ok ∙ ap (λ u. c.append.new.self ++ equations_bytes u) c.flat.ensures.flat in
    let printed = c.in_ok-put_outputs.ensures.ok ∙ ap (λ os. c.put_equations.new.out ++ outputs_bytes os) (c.outputs.ensures ∙ ap (λ u. u.outputs) c.flat-2.ensures.flat) in
    on_ok_weaker c.put_plan.result (λ is.
    joined c.args.out.now c.append.new.self c.put_plan.new.out mark (equations_bytes s ++ outputs) c.in_ok-append.ensures.ok
    (joined c.append.new.self c.put_equations.new.out c.put_plan.new.out (equations_bytes s) outputs equations
    (joined c.put_equations.new.out c.put_outputs.new.out c.put_plan.new.out (outputs_bytes s.outputs) plan printed
    (is ∙ (λ k. c.put_outputs.new.out ++ (list_bytes (c.plan-2.ensures.in_place k) ++ list_bytes (c.plan-2.ensures.order k))))))) c.put_plan.ensures.ok

pub returns-clause-err : goal.returns-clause-err
returns-clause-err c =
    let equations = equations_bytes c.flat.result.now in
    let outputs = outputs_bytes c.outputs.result.now in
    on_err_weaker c.put_plan.result (kept c.args.out.now c.put_outputs.new.out c.put_plan.new.out (mark ++ (equations ++ outputs))
    (joined c.args.out.now c.append.new.self c.put_outputs.new.out mark (equations ++ outputs) c.in_ok-append.ensures.ok
    (joined c.append.new.self c.put_equations.new.out c.put_outputs.new.out equations outputs c.in_ok-put_equations.ensures.ok c.in_ok-put_outputs.ensures.ok))) c.put_plan.ensures.err

pub returns-clause-form : goal.returns-clause-form
returns-clause-form c =
    let up = subst IsStrictlyIncreasing c.plan.ensures.in_place c.assert_ascending.ensures in
    let forms = subst (λ s. (i : ℕ) → i < length s.equations → IsFormAt s i) c.flat.ensures.flat c.in_ok-put_equations.ensures.form in
    on_ok_weaker c.put_plan.result (λ is. form_of c.args.code.now c.assert_whole.ensures c.requires up forms) c.put_plan.ensures.ok
