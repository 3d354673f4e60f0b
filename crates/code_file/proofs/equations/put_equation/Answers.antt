use Rattle.std.proofs.Common.{◌++◌, ◌∙◌, sym, ap}
use Rattle.std.proofs.lemmas.Result.{on_ok_weaker}
use Rattle.code_file.specs.Form.{is_spelled}
use Rattle.code_file.specs.Spelling.{entry_in}
use Rattle.code_file.proofs.Spelled.{can_spell, form_at}
use Rattle.code_file.proofs.equations.put_equation.Goals as goal

pub put_entry-requires : goal.put_entry-requires
put_entry-requires c = λ spelled.
    can_spell c.args.flat.now c.assert_whole.ensures.is_flat c.requires.spelled c.args.id c.equation.result.now
    (record { is = c.equation.ensures; spelled = ap (λ r. is_spelled r c.equation.result.now.op) (sym c.runs.ensures) ∙ spelled })

pub returns-clause-ok : goal.returns-clause-ok
returns-clause-ok c =
    on_ok_weaker c.put_entry.result (λ is. is ∙ (λ k. c.args.out.now ++ entry_in (c.runs.ensures k) (sym c.equation.ensures k))) c.put_entry.ensures.ok

pub returns-clause-form : goal.returns-clause-form
returns-clause-form c =
    on_ok_weaker c.put_entry.result (form_at c.args.flat.now c.args.id c.equation.result.now c.runs.result c.equation.ensures c.runs.ensures) c.put_entry.ensures.form
