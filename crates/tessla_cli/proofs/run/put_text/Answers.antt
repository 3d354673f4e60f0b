use Rattle.std.proofs.Common.{◌≡◌, refl, subst, sym, OnOk}
use Rattle.std.proofs.lemmas.Result.{on_ok_weaker}
use Rattle.command_words.specs.declared.command.Form.{Form}
use Rattle.command_words.specs.declared.command.Form.TheVariants.{File}
use Rattle.trace_run.specs.Effects.{Gives}
use Rattle.tsl_world.specs.declared.outside.Channel.TheVariants.{Code, Out}
use Rattle.tsl_world.specs.Runs.{Grows}
use Rattle.tsl_world.proofs.Runs.{grows_run, grows_weaker}
use Rattle.tessla_cli.specs.Printed.{channel_of}
use Rattle.tessla_cli.specs.inner.RunPhases.{HasPut, HasPutFile, has_put_file, Puts, PutsFile, puts_file, puts_out}
use Rattle.tessla_cli.proofs.Writing.{grows_ok, has_put_on_out, out_unless_file}
use Rattle.tessla_cli.proofs.run.put_text.Goals as goal

pub returns-in-File-clause-calls : goal.returns-in-File-clause-calls
returns-in-File-clause-calls g c =
    let name = c.in-File.name in
    let text = c.args.text.now in
    let puts = rw c.as_str.ensures at c.put_file.ensures.calls in
    subst (λ (f : Form). Grows g.W.World.told g.W.World.journal c.args.world.now c.put_file.new.world (Puts text f)) (sym c.in-File.is)
    (grows_weaker g.W.World.told g.W.World.journal c.args.world.now c.put_file.new.world (PutsFile Code name text) (Puts text (File name)) puts (λ p r. puts_file p r))

pub returns-in-File-clause-whole : goal.returns-in-File-clause-whole
returns-in-File-clause-whole g c =
    let name = c.in-File.name in
    let text = c.args.text.now in
    let put = rw c.as_str.ensures at c.put_file.ensures.whole in
    subst (λ (f : Form). OnOk c.put_file.result (Grows g.W.World.told g.W.World.journal c.args.world.now c.put_file.new.world (HasPut text f))) (sym c.in-File.is)
    (on_ok_weaker c.put_file.result (λ whole. grows_weaker g.W.World.told g.W.World.journal c.args.world.now c.put_file.new.world (HasPutFile Code name text) (HasPut text (File name)) whole (λ p r. has_put_file p r)) put)

pub returns-in_default : goal.returns-in_default
returns-in_default g c =
    let out : channel_of c.args.form.now ≡ Out = out_unless_file c.args.form.now c.in_default.not-File in
    let new = c.write_all.new.world in
    let result = c.write_all.result in
    let gives = grows_run g.W.World.told g.W.World.journal g.W.World.standing c.args.world.now new (Gives Out c.args.text.now result) c.write_all.ensures.calls in
    record {
      ok = c.write_all.ensures.ok;
      failed = c.write_all.ensures.failed;
      heard = c.write_all.ensures.heard.elsewhere refl;
      calls = grows_weaker g.W.World.told g.W.World.journal c.args.world.now new (Gives Out c.args.text.now result) (Puts c.args.text.now c.args.form.now) gives (λ p r. puts_out p out r.writes r.some);
      whole = grows_ok g.W.World.told g.W.World.journal result c.args.world.now new (HasPut c.args.text.now c.args.form.now)
          (grows_weaker g.W.World.told g.W.World.journal c.args.world.now new (Gives Out c.args.text.now result) (λ p. OnOk result (HasPut c.args.text.now c.args.form.now p)) gives
          (λ p r. has_put_on_out c.args.form.now out c.args.text.now result p r));
    }
