use Rattle.std.proofs.Common.{length, sym, ap, subst, ◌∙◌}
use Rattle.alias_paths.specs.inner.Search.{marks_of}
use Rattle.alias_paths.proofs.Rooting.{carriers_of_steps}
use Rattle.alias_nears.specs.inner.Contents.{IsPairAround, AreReachedOn}
use Rattle.alias_nears.proofs.GoingOn.{goes_on, reached_all}
use Rattle.alias_analysis.proofs.onward.reached_on.Goals as goal

pub mark_each-requires : goal.mark_each-requires
mark_each-requires c = c.requires.begins ∙ sym (ap length c.in_ok-search.ensures.same ∙ c.requires.one_each)

pub spread_around-requires-clause-one_each : goal.spread_around-requires-clause-one_each
spread_around-requires-clause-one_each c = c.in_ok-mark_each.ensures.marked.marked.one_each ∙ ap length c.in_ok-search.ensures.same ∙ c.requires.one_each

pub spread_around-requires-clause-there : goal.spread_around-requires-clause-there
spread_around-requires-clause-there c = let some = c.requires.carriers in carriers_of_steps c.args.flat.now some.0 c.args.carriers.now some.1

pub spread_around-requires-clause-goes_on : goal.spread_around-requires-clause-goes_on
spread_around-requires-clause-goes_on c =
    goes_on (IsPairAround c.args.flat.now c.args.update c.args.carriers.now) c.args.found.now c.args.begins.now (marks_of c.in_ok-search.search) (marks_of c.mark_each.new.search)
    c.in_ok-search.ensures.same c.in_ok-search.ensures.none_waits c.in_ok-mark_each.ensures.marked c.requires.closed

pub of-requires : goal.of-requires
of-requires c = c.in_ok-spread_around.ensures.listed (c.in_ok-mark_each.ensures.listed c.in_ok-search.ensures.listed)

pub returns-clause-one_each : goal.returns-clause-one_each
returns-clause-one_each c =
    ap length c.of.ensures ∙ c.in_ok-spread_around.ensures.spread.one_each ∙ c.in_ok-mark_each.ensures.marked.marked.one_each ∙ ap length c.in_ok-search.ensures.same ∙ c.requires.one_each

pub returns-clause-exact : goal.returns-clause-exact
returns-clause-exact c =
    let E = IsPairAround c.args.flat.now c.args.update c.args.carriers.now in
    subst (AreReachedOn E c.args.found.now c.args.begins.now) (sym c.of.ensures)
    (reached_all E c.args.found.now c.args.begins.now (marks_of c.in_ok-search.search) (marks_of c.mark_each.new.search)
    c.in_ok-search.ensures.same c.in_ok-search.ensures.none_waits c.in_ok-mark_each.ensures.marked (marks_of c.spread_around.new.search) c.in_ok-spread_around.ensures.spread)
