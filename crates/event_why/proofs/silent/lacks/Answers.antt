use Rattle.std.proofs.Common.{map}
use Rattle.flat_core.specs.Line.{inputs_of}
use Rattle.event_why.specs.Said.{said}
use Rattle.event_why.proofs.Iff.{through}
use Rattle.event_why.proofs.ListedFacts.{empty_test}
use Rattle.event_why.proofs.SilentLemmas.{never_test}
use Rattle.event_why.proofs.silent.lacks.Goals as goal

pub returns-in-Nil : goal.returns-in-Nil
returns-in-Nil c =
    through (empty_test said c.args.named.now c.is_empty.result c.is_empty.ensures)
    (never_test (inputs_of c.args.lines.now) c.args.i c.args.e.now c.args.t (map said c.args.named.now) c.in-Nil.is)
