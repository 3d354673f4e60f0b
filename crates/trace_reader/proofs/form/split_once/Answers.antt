use Rattle.std.proofs.Common.{Some, ◌+◌, ◌∙◌, ap, sym, take}
use Rattle.trace_reader.proofs.SplitLemmas.{rest_is, split_once-none, split_once-some}
use Rattle.trace_reader.proofs.form.split_once.Goals as goal

pub returns-in-Some : goal.returns-in-Some
returns-in-Some c =
    ap (λ rest. Some (take c.in-Some.at c.args.bytes.now, rest)) (rest_is (c.in-Some.at + 1) c.args.bytes.now)
    ∙ sym (split_once-some c.args.mark c.in-Some.at c.args.bytes.now c.in-Some.ensures)

pub returns-in-None : goal.returns-in-None
returns-in-None c = sym (split_once-none c.args.mark c.args.bytes.now c.in-None.ensures)
