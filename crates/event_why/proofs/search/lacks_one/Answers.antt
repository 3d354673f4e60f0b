use Rattle.std.proofs.Common.{sym, ◌∙◌}
use Rattle.std.proofs.lemmas.Bool.{false≢true}
use Rattle.event_why.specs.inner.Search as search_in
use Rattle.event_why.proofs.search.lacks_one.Goals as goal

pub returns-then-is_among-clause-one : goal.returns-then-is_among-clause-one
returns-then-is_among-clause-one c = search_in.Lack.chosen_one (c.is_among.ensures.0 c.if-is_among.true) search_in.Lack.done

pub returns-else-is_among-clause-one : goal.returns-else-is_among-clause-one
returns-else-is_among-clause-one c = search_in.Lack.other (λ is. false≢true (sym c.if-is_among.false ∙ c.is_among.ensures.1 is)) search_in.Lack.done
