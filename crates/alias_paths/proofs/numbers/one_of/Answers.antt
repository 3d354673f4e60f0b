use Rattle.alias_paths.specs.inner.Marking.{IsChosen}
use Rattle.alias_paths.proofs.Adding.{first_added}
use Rattle.alias_paths.proofs.numbers.one_of.Goals as goal

pub returns : goal.returns
returns c = first_added c.args.count (IsChosen c.args.wanted c.args.number) c.in_ok-one.one c.mark_if.new.self c.in_ok-one.ensures c.in_ok-mark_if.ensures
