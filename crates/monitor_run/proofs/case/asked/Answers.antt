use Rattle.std.proofs.Common.{rules, ◌≡◌, sym, subst, ◌∙◌}
use Rattle.lift_func.specs.BodyTree.{Two}
use Rattle.tsl_value.specs.declared.operation.Binary.TheVariants as binary
use Rattle.monitor_run.specs.inner.Here.{IsNamed}
use Rattle.monitor_run.proofs.AskedLemmas.{asked_fits, asked_is}
use Rattle.monitor_run.proofs.case.asked.Goals as goal

pub contains-requires-clause-typed : goal.contains-requires-clause-typed
contains-requires-clause-typed c =
    let two = c.in-Two-Contains-default-default in
    let is : c.args.body.now ≡ Two binary.Contains two.aggregate.value two.key.value = search rules in
    asked_fits c.args.store.now.cells c.args.registers.now c.args.args.now c.args.body.now two.aggregate.value two.key.value c.in_ok-aggregate.aggregate c.in_ok-key.key c.in-Aggregate-Scalar.cell c.in-Aggregate-Scalar.key
    c.requires.typed is
    (subst (λ t. IsNamed t c.args.args.now c.in_ok-aggregate.aggregate) c.deref.ensures c.in_ok-aggregate.ensures)
    (subst (λ t. IsNamed t c.args.args.now c.in_ok-key.key) c.deref-2.ensures c.in_ok-key.ensures)
    (sym c.in-Aggregate-Scalar.is-0 ∙ c.register.ensures) (sym c.in-Aggregate-Scalar.is-1 ∙ c.register-2.ensures)

pub returns-in-Aggregate-Scalar : goal.returns-in-Aggregate-Scalar
returns-in-Aggregate-Scalar c =
    let two = c.in-Two-Contains-default-default in
    let is : c.args.body.now ≡ Two binary.Contains two.aggregate.value two.key.value = search rules in
    asked_is c.args.store.now.cells c.args.registers.now c.args.args.now c.args.body.now two.aggregate.value two.key.value c.in_ok-aggregate.aggregate c.in_ok-key.key c.in-Aggregate-Scalar.cell c.in-Aggregate-Scalar.key
    c.requires.typed is
    (subst (λ t. IsNamed t c.args.args.now c.in_ok-aggregate.aggregate) c.deref.ensures c.in_ok-aggregate.ensures)
    (subst (λ t. IsNamed t c.args.args.now c.in_ok-key.key) c.deref-2.ensures c.in_ok-key.ensures)
    (sym c.in-Aggregate-Scalar.is-0 ∙ c.register.ensures) (sym c.in-Aggregate-Scalar.is-1 ∙ c.register-2.ensures)
    c.contains.result c.contains.ensures
