use Rattle.std.proofs.Common.{[], ◌∷◌, ◌++◌, is_none, if◌then◌else◌, ap, ◌∙◌}
use Rattle.name_check.specs.declared.declaration.Declaration.TheVariants as declaration
use Rattle.name_check.specs.Scope.{meaning}
use Rattle.name_check.proofs.AgreeLemmas.{parameters_turn}
use Rattle.name_check.proofs.scope.parameters.Goals as goal

pub loop-number-preserved : goal.loop-number-preserved
loop-number-preserved c =
    parameters_turn c.args.params.now c.loop-number.number c.index-params-number.result c.loop-number.names c.declare.new.self _ c.in_ok-_new._new c.loop-number-test.true c.index-params-number.is
    (c.in_ok-_new.ensures.new ∙ ap (λ n. is_none (meaning c.loop-number.names n)) c.as_str.ensures)
    (c.in_ok-_new.ensures.added ∙ ap (λ n. if c.in_ok-_new._new then c.loop-number.names ++ record { name = n; is = declaration.Parameter c.loop-number.number } ∷ [] else c.loop-number.names) c.as_str.ensures)
    c.loop-number.invariant
