use Rattle.std.proofs.Common.{refl, subst, sym}
use Rattle.tsl_world.proofs.Runs.{grows_none, grows_weaker}
use Rattle.tessla_cli.specs.Printed.{HasText, RefusesForm}
use Rattle.tessla_cli.specs.inner.RunPhases.{HasPut, HasWritten, IsMadeOf, Prints, Puts, RunsSource, all_written, compiled, none_written}
use Rattle.tessla_cli.proofs.Printing.{prints_all, prints_some}
use Rattle.tessla_cli.proofs.run.write_text.Goals as goal

pub returns-in_err-put_text-in-Text-clause-calls : goal.returns-in_err-put_text-in-Text-clause-calls
returns-in_err-put_text-in-Text-clause-calls g c = λ source compiles.
    let form = c.args.form.now in
    let code = c.args.compiled.now.code in
    let is : HasText form code c.in-Text.text = subst (IsMadeOf form code) c.in-Text.is c.in_ok-text.ensures in
    let puts = rw c.as_slice.ensures at c.put_text.ensures.calls in
    grows_weaker g.W.World.told g.W.World.journal c.args.world.now c.put_text.new.world (Puts c.in-Text.text form) (RunsSource (Prints source form)) puts
    (λ p r. compiled (prints_some source form code c.requires.taken compiles c.in-Text.text is p r))

pub returns-in_ok-put_text-in-Text-clause-calls : goal.returns-in_ok-put_text-in-Text-clause-calls
returns-in_ok-put_text-in-Text-clause-calls g c = λ source compiles.
    let form = c.args.form.now in
    let code = c.args.compiled.now.code in
    let is : HasText form code c.in-Text.text = subst (IsMadeOf form code) c.in-Text.is c.in_ok-text.ensures in
    let puts = rw c.as_slice.ensures at c.put_text.ensures.calls in
    grows_weaker g.W.World.told g.W.World.journal c.args.world.now c.put_text.new.world (Puts c.in-Text.text form) (RunsSource (Prints source form)) puts
    (λ p r. compiled (prints_some source form code c.requires.taken compiles c.in-Text.text is p r))

pub returns-in_ok-put_text-in-Text-clause-ending : goal.returns-in_ok-put_text-in-Text-clause-ending
returns-in_ok-put_text-in-Text-clause-ending g c = λ source compiles.
    let form = c.args.form.now in
    let code = c.args.compiled.now.code in
    let is : HasText form code c.in-Text.text = subst (IsMadeOf form code) c.in-Text.is c.in_ok-text.ensures in
    let whole = rw c.as_slice.ensures at c.in_ok-put_text-in-Text.ensures.whole in
    grows_weaker g.W.World.told g.W.World.journal c.args.world.now c.put_text.new.world (HasPut c.in-Text.text form) (HasWritten source form c.in_ok-ended-in-Text.ended) whole
    (λ p r. record {
      told = c.in_ok-ended-in-Text.ensures.text;
      done = all_written c.in_ok-ended-in-Text.ensures.ending (prints_all source form code c.requires.taken compiles c.in-Text.text is p r);
    })

pub returns-in_ok-alone-in-Stops-clause-ending : goal.returns-in_ok-alone-in-Stops-clause-ending
returns-in_ok-alone-in-Stops-clause-ending g c = λ source compiles.
    let form = c.args.form.now in
    let code = c.args.compiled.now.code in
    let refuses : RefusesForm form code.system c.in-Stops.ending = subst (IsMadeOf form code) c.in-Stops.is c.in_ok-text.ensures in
    grows_none g.W.World.told g.W.World.journal c.args.world.now (HasWritten source form c.in_ok-alone-in-Stops.field-0) (record {
      told = c.in_ok-alone-in-Stops.ensures.text;
      done = none_written (record {
        items = compiles.0;
        system = code.system;
        compiles = compiles.1;
        refuses = subst (RefusesForm form code.system) (sym c.in_ok-alone-in-Stops.ensures.ending) refuses;
      }) refl;
    })
