use Rattle.std.proofs.Common.{map, sym}
use Rattle.flat_core.specs.Line.{inputs_of}
use Rattle.event_why.specs.Said.{said}
use Rattle.event_why.proofs.Iff.{through}
use Rattle.event_why.proofs.ListedFacts.{empty_test}
use Rattle.event_why.proofs.SilentLemmas.{not_given_when}
use Rattle.event_why.proofs.silent.is_not_given.Goals as goal

pub returns-in-None : goal.returns-in-None
returns-in-None c e op_is =
    through (empty_test said c.args.named.now c.is_empty.result c.is_empty.ensures)
    (not_given_when (inputs_of c.args.lines.now) c.args.i e c.args.t (map said c.args.named.now) op_is (sym c.in-None.ensures))
