use Rattle.std.proofs.Common.{ap, sym, ◌∙◌}
use Rattle.std.specs.List.{list_all}
use Rattle.flat_core.specs.Members.{is_in}
use Rattle.equation_types.proofs.TypedArguments.{all_pass, pass_all}
use Rattle.equation_types.proofs.equation.arguments_run.Goals as goal

pub returns : goal.returns
returns c =
    let runs = is_in c.args.running.now in
    let args = c.args.equation.now.args in
    let is = c.all_run.ensures ∙ ap (list_all runs) c.ids.ensures in
    ((λ h. all_pass runs args (sym is ∙ h)), (λ all. is ∙ pass_all runs args all))
