use Rattle.compiled_meaning.proofs.Readiness.{ready_of}
use Rattle.spec_compiler.proofs.compile.compile.Goals as goal

pub returns-clause-ready : goal.returns-clause-ready
returns-clause-ready c = ready_of c.in_ok-compiled.compiled.code.system c.in_ok-compiled.ensures.is_flat c.in_ok-compiled.ensures.well_formed
