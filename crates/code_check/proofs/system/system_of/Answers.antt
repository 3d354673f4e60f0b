use Rattle.std.proofs.Common.{◌≡◌, [], ap, sym, subst, ◌∙◌}
use Rattle.std.proofs.lemmas.Result.{IfOk-weaker}
use Rattle.flat_core.specs.Complete.{IsComplete, IsFlat}
use Rattle.flat_core.specs.System.{System}
use Rattle.code_check.specs.inner.Unchanged.{system_in}
use Rattle.code_check.proofs.Unchanged.{complete_with}
use Rattle.code_check.proofs.system.system_of.Goals as goal

pub finish-requires : goal.finish-requires
finish-requires c =
    let equations = c.args.equations.items in
    let outputs = c.args.outputs.items in
    let built : c.in_ok-builder.builder ≡ system_in equations outputs [] =
    c.in_ok-builder.ensures ∙ ap (λ (s : System). system_in s.equations outputs []) c.in_ok-started.ensures in
    subst IsComplete (sym built) (complete_with equations outputs c.args.running [] c.requires.complete)

pub with_running-requires : goal.with_running-requires
with_running-requires c =
    let equations = c.args.equations.items in
    let outputs = c.args.outputs.items in
    let built : c.in_ok-builder.builder ≡ system_in equations outputs [] =
    c.in_ok-builder.ensures ∙ ap (λ (s : System). system_in s.equations outputs []) c.in_ok-started.ensures in
    let all = c.in_ok-flat.ensures.equations ∙ ap (λ (s : System). s.equations) built in
    let printed = c.in_ok-flat.ensures.outputs ∙ ap (λ (s : System). s.outputs) built in
    subst IsFlat (λ k. system_in (sym all k) (sym printed k) c.args.running) c.requires

pub returns : goal.returns
returns c =
    let equations = c.args.equations.items in
    let outputs = c.args.outputs.items in
    let built : c.in_ok-builder.builder ≡ system_in equations outputs [] =
    c.in_ok-builder.ensures ∙ ap (λ (s : System). system_in s.equations outputs []) c.in_ok-started.ensures in
    let all = c.in_ok-flat.ensures.equations ∙ ap (λ (s : System). s.equations) built in
    let printed = c.in_ok-flat.ensures.outputs ∙ ap (λ (s : System). s.outputs) built in
    IfOk-weaker c.with_running.result _ _ (λ f is. is ∙ (λ k. system_in (all k) (printed k) c.args.running)) c.with_running.ensures
