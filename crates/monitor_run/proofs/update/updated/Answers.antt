use Rattle.std.proofs.Common.{ℕ, Option, Result, Ok, refl}
use Rattle.tsl_value.specs.declared.operation.Update.TheVariants as update
use Rattle.monitor_run.specs.inner.Here.{made_of}
use Rattle.monitor_run.proofs.UpdateLemmas.{is_removal, made_one, made_three, made_two, removal_beside, takes_one, takes_three, takes_two}
use Rattle.monitor_run.proofs.update.updated.Goals as goal

pub key_added-requires-clause-typed : goal.key_added-requires-clause-typed
key_added-requires-clause-typed c =
    rw (c.argument-aggregate.ensures, c.argument.ensures) (takes_two c.args.store.now.cells c.args.registers.now c.args.args.now c.args.update update.SetAdd c.in-SetAdd.is c.requires.many refl c.requires.typed)

pub entry_added-requires-clause-typed : goal.entry_added-requires-clause-typed
entry_added-requires-clause-typed c =
    rw (c.argument-aggregate.ensures, c.argument-in-MapAdd.ensures, c.argument-in-MapAdd-2.ensures)
    (takes_three c.args.store.now.cells c.args.registers.now c.args.args.now c.args.update update.MapAdd c.in-MapAdd.is c.requires.many refl c.requires.typed)

pub key_removed-requires-clause-removes : goal.key_removed-requires-clause-removes
key_removed-requires-clause-removes c = is_removal c.args.update c.in-SetRemove.is

pub key_removed-requires-clause-typed : goal.key_removed-requires-clause-typed
key_removed-requires-clause-typed c =
    rw (c.argument-aggregate.ensures, c.argument-in-SetRemove.ensures)
    (takes_two c.args.store.now.cells c.args.registers.now c.args.args.now c.args.update c.args.update refl c.requires.many (removal_beside c.args.update c.in-SetRemove.is) c.requires.typed)

pub element_added-requires-clause-typed : goal.element_added-requires-clause-typed
element_added-requires-clause-typed c =
    rw (c.argument-aggregate.ensures, c.argument-in-QueueAdd.ensures)
    (takes_two c.args.store.now.cells c.args.registers.now c.args.args.now c.args.update update.QueueAdd c.in-QueueAdd.is c.requires.many refl c.requires.typed)

pub element_taken-requires-clause-typed : goal.element_taken-requires-clause-typed
element_taken-requires-clause-typed c =
    rw c.argument-aggregate.ensures (takes_one c.args.store.now.cells c.args.registers.now c.args.args.now c.args.update update.QueueTake c.in-QueueTake.is c.requires.many refl c.requires.typed)

pub returns-in_ok-key_added-in-SetAdd-clause-updated : goal.returns-in_ok-key_added-in-SetAdd-clause-updated
returns-in_ok-key_added-in-SetAdd-clause-updated c =
    let made : Result (Option ℕ) (Unit {0}) = Ok c.in_ok-key_added-in-SetAdd.field-0 in
    made_two c.args.store.now.cells c.args.registers.now c.args.args.now c.args.update update.SetAdd c.in-SetAdd.is c.requires.many c.args.run.in_place c.args.run.id c.args.store.now c.key_added.new.store
    c.argument-aggregate.result.now c.argument.result.now c.argument-aggregate.ensures c.argument.ensures refl made c.in_ok-key_added-in-SetAdd.ensures.updated

pub returns-in_ok-key_removed-in-SetRemove-clause-updated : goal.returns-in_ok-key_removed-in-SetRemove-clause-updated
returns-in_ok-key_removed-in-SetRemove-clause-updated c =
    let made : Result (Option ℕ) (Unit {0}) = Ok c.in_ok-key_removed-in-SetRemove.field-0 in
    made_two c.args.store.now.cells c.args.registers.now c.args.args.now c.args.update c.args.update refl c.requires.many c.args.run.in_place c.args.run.id c.args.store.now c.key_removed.new.store
    c.argument-aggregate.result.now c.argument-in-SetRemove.result.now c.argument-aggregate.ensures c.argument-in-SetRemove.ensures (removal_beside c.args.update c.in-SetRemove.is) made c.in_ok-key_removed-in-SetRemove.ensures.updated

pub returns-in_ok-entry_added-in-MapAdd-clause-updated : goal.returns-in_ok-entry_added-in-MapAdd-clause-updated
returns-in_ok-entry_added-in-MapAdd-clause-updated c =
    let made : Result (Option ℕ) (Unit {0}) = Ok c.in_ok-entry_added-in-MapAdd.field-0 in
    made_three c.args.store.now.cells c.args.registers.now c.args.args.now c.args.update update.MapAdd c.in-MapAdd.is c.requires.many c.args.run.in_place c.args.run.id c.args.store.now c.entry_added.new.store
    c.argument-aggregate.result.now c.argument-in-MapAdd.result.now c.argument-aggregate.ensures c.argument-in-MapAdd.ensures refl c.argument-in-MapAdd-2.result.now c.argument-in-MapAdd-2.ensures made c.in_ok-entry_added-in-MapAdd.ensures.updated

pub returns-in_ok-element_added-in-QueueAdd-clause-updated : goal.returns-in_ok-element_added-in-QueueAdd-clause-updated
returns-in_ok-element_added-in-QueueAdd-clause-updated c =
    let made : Result (Option ℕ) (Unit {0}) = Ok c.in_ok-element_added-in-QueueAdd.field-0 in
    made_two c.args.store.now.cells c.args.registers.now c.args.args.now c.args.update update.QueueAdd c.in-QueueAdd.is c.requires.many c.args.run.in_place c.args.run.id c.args.store.now c.element_added.new.store
    c.argument-aggregate.result.now c.argument-in-QueueAdd.result.now c.argument-aggregate.ensures c.argument-in-QueueAdd.ensures refl made c.in_ok-element_added-in-QueueAdd.ensures.updated

pub returns-in-QueueTake-clause-updated : goal.returns-in-QueueTake-clause-updated
returns-in-QueueTake-clause-updated c =
    made_one c.args.store.now.cells c.args.registers.now c.args.args.now c.args.update update.QueueTake c.in-QueueTake.is c.requires.many c.args.run.in_place c.args.run.id c.args.store.now c.element_taken.new.store
    c.argument-aggregate.result.now c.argument-aggregate.ensures refl (made_of c.element_taken.result) c.element_taken.ensures.updated
