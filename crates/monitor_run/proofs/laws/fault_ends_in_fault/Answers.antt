use Rattle.monitor_run.proofs.LawLemmas.{named_below}
use Rattle.monitor_run.proofs.laws.fault_ends_in_fault.Goals as goal

pub returns : goal.returns
returns c = λ old new lines text before after t i kind ready written stepped w solves. named_below old new lines text t i kind ready written stepped.1 w solves
