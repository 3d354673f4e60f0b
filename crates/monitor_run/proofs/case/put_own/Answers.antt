use Rattle.std.proofs.Common.{sym, ◌∙◌}
use Rattle.flat_core.specs.Members.{is_in}
use Rattle.monitor_run.proofs.CaseLemmas.{update_effect, put_as, no_update_op}
use Rattle.monitor_run.proofs.case.put_own.Goals as goal

pub put_plain-requires-clause-plain : goal.put_plain-requires-clause-plain
put_plain-requires-clause-plain c = no_update_op c.args.e.now.op (sym c.update.ensures ∙ c.in-None.is)

pub returns-in-Some-clause-effect : goal.returns-in-Some-clause-effect
returns-in-Some-clause-effect c =
    λ last. put_as _ _ c.get-place.result c.args.id c.args.registers.now c.put_updated.new.registers c.put_updated.result c.get-place.ensures
    (update_effect c.contains.result (is_in c.args.in_place.now c.args.id) c.args.id c.args.time c.args.e.now c.in-Some.update c.args.registers.now last c.args.store.now c.put_updated.new.store c.requires.typed
    (sym c.update.ensures ∙ c.in-Some.is) c.contains.ensures)
    c.put_updated.ensures.updated

pub returns-in-None-clause-effect : goal.returns-in-None-clause-effect
returns-in-None-clause-effect c =
    λ last. put_as _ _ c.get-place.result c.args.id c.args.registers.now c.put_plain.new.registers c.put_plain.result c.get-place.ensures (λ r does. does)
    (c.put_plain.ensures.effect (is_in c.args.in_place.now c.args.id) c.args.id last)
