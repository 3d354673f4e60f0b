use Rattle.std.proofs.Common.{ap, map, ◌∙◌, refl}
use Rattle.std.specs.List.{list_any}
use Rattle.std.specs.Prelude.{is_some}
use Rattle.monitor_run.specs.inner.Registers.{value_at}
use Rattle.monitor_run.proofs.CaseLemmas.{liftable, takes_empty, unit_effect, any_effect, lift_effect, put_one, put_as}
use Rattle.monitor_run.proofs.case.put_plain.Goals as goal

pub put_lifted-requires-clause-typed : goal.put_lifted-requires-clause-typed
put_lifted-requires-clause-typed c = liftable c.args.store.now.cells c.args.registers.now c.args.e.now c.in-Lift.body c.in-Lift.strict c.requires.known c.requires.typed c.in-Lift.is

pub put_empty-requires-clause-aggregate : goal.put_empty-requires-clause-aggregate
put_empty-requires-clause-aggregate c = takes_empty c.args.store.now.cells c.args.registers.now c.args.e.now c.requires.typed c.in-Empty.is

pub returns-in-Unit-clause-effect : goal.returns-in-Unit-clause-effect
returns-in-Unit-clause-effect c =
    λ in_place i last. put_one _ c.args.place c.args.place c.args.registers.now c.put_value-in-Unit.new.registers c.put_value-in-Unit.result c.unit_if.result
    c.put_value-in-Unit.ensures.ok c.put_value-in-Unit.ensures.put refl
    (unit_effect in_place i c.args.time c.args.e.now c.args.registers.now last c.args.store.now c.requires.typed c.unit_if.result c.get.result
    c.in-Unit.is c.requires.shape c.get.ensures.value c.unit_if.ensures.bare (c.unit_if.ensures.value c.args.store.now.cells))

pub returns-in-Lift-clause-effect : goal.returns-in-Lift-clause-effect
returns-in-Lift-clause-effect c =
    λ in_place i last. put_as _ _ c.args.place c.args.place c.args.registers.now c.put_lifted.new.registers c.put_lifted.result refl
    (λ r is. lift_effect in_place i c.args.time c.args.e.now c.args.registers.now last c.args.store.now c.requires.typed r c.in-Lift.body c.in-Lift.strict
    c.in-Lift.is is.0 is.1)
    c.put_lifted.ensures.put

pub returns-in-Any-clause-effect : goal.returns-in-Any-clause-effect
returns-in-Any-clause-effect c =
    λ in_place i last. put_one _ c.args.place c.args.place c.args.registers.now c.put_value-in-Any.new.registers c.put_value-in-Any.result c.unit_if-in-Any.result
    c.put_value-in-Any.ensures.ok c.put_value-in-Any.ensures.put refl
    (any_effect in_place i c.args.time c.args.e.now c.args.registers.now last c.args.store.now c.requires.typed c.unit_if-in-Any.result c.is_one_there.result
    c.in-Any.is c.unit_if-in-Any.ensures.bare (c.is_one_there.ensures c.args.store.now.cells ∙ ap (λ xs. list_any is_some (map (value_at c.args.store.now.cells c.args.registers.now) xs)) c.ids.ensures)
    (c.unit_if-in-Any.ensures.value c.args.store.now.cells))
