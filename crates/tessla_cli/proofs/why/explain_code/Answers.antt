use Rattle.std.specs.Prelude.{IfNone, IfSome}
use Rattle.std.proofs.Common.{Option, ℕ, ap, refl, subst, ◌∙◌}
use Rattle.slice_text.specs.Text.{HasOutput, IsOutputCalled}
use Rattle.tsl_world.proofs.Runs.{grows_none}
use Rattle.tessla_cli.specs.declared.ending.Ending.TheVariants as ending
use Rattle.tessla_cli.specs.inner.RunPhases.{HasExplained, no_output}
use Rattle.tessla_cli.proofs.why.explain_code.Goals as goal

pub explain_output-requires-clause-called : goal.explain_output-requires-clause-called
explain_output-requires-clause-called g c =
    let some = rw (c.flat.ensures.flat, c.as_str.ensures) at c.number_of.ensures.some in
    subst (λ (x : Option ℕ). IfSome x (IsOutputCalled c.args.code.now.system c.args.why.now.output)) c.in-Some.is some

pub returns-in_ok-alone-in-None-clause-ending : goal.returns-in_ok-alone-in-None-clause-ending
returns-in_ok-alone-in-None-clause-ending g c = λ source items compiles.
    let why = c.args.why.now in
    let system = c.args.code.now.system in
    let none = rw (c.flat.ensures.flat, c.as_str.ensures) at c.number_of.ensures.none in
    grows_none g.W.World.told g.W.World.journal c.args.world.now (HasExplained source why c.in_ok-alone-in-None.field-0) (record {
      told = c.in_ok-alone-in-None.ensures.text;
      done = no_output (c.in_ok-alone-in-None.ensures.ending ∙ ap ending.NoOutput c.in_ok-copy-in-None.ensures) (record {
        items = items;
        system = system;
        compiles = compiles;
        none = subst (λ (x : Option ℕ). IfNone x (HasOutput system why.output → ⊥)) c.in-None.is none;
      }) refl;
    })
