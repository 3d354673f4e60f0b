use Rattle.syntax_tree.specs.inner.OneLevel.{items_of}
use Rattle.expr_types.specs.inner.Shown.{kinds_of}
use Rattle.type_check.proofs.LawLemmas.{only_accepted, only_fault}
use Rattle.type_check.proofs.check.check.Goals as goal

pub returns-clause-accepted_exactly : goal.returns-clause-accepted_exactly
returns-clause-accepted_exactly c = λ kinds is. only_accepted c.checked.result (items_of c.args.tree.now) c.args.tree.now.end kinds c.checked.ensures.fault is

pub returns-clause-fault_exactly : goal.returns-clause-fault_exactly
returns-clause-fault_exactly c = λ f first. only_fault c.checked.result (items_of c.args.tree.now) c.args.tree.now.end f (λ typed. kinds_of typed.kinds) c.checked.ensures.accepted c.checked.ensures.fault first
