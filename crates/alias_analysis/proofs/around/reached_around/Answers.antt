use Rattle.std.proofs.Common.{length, ap, ◌∙◌, sym, subst}
use Rattle.alias_paths.specs.inner.Search.{marks_of, AreReached}
use Rattle.alias_nears.specs.inner.Contents.{IsPairAround}
use Rattle.flat_core.proofs.Spreads.{spreading_none}
use Rattle.alias_nears.proofs.Bypassing.{reached_around}
use Rattle.alias_paths.proofs.Rooting.{carriers_of_steps}
use Rattle.alias_paths.proofs.Spreads.{spread_reaches}
use Rattle.alias_analysis.proofs.around.reached_around.Goals as goal

pub spread_around-requires-clause-there : goal.spread_around-requires-clause-there
spread_around-requires-clause-there c = let some = c.requires.carriers in carriers_of_steps c.args.flat.now some.0 c.args.carriers.now some.1

pub spread_around-requires-clause-one_each : goal.spread_around-requires-clause-one_each
spread_around-requires-clause-one_each c = ap length c.in_ok-search.ensures.same ∙ c.requires.one_each

pub spread_around-requires-clause-goes_on : goal.spread_around-requires-clause-goes_on
spread_around-requires-clause-goes_on c = spreading_none (IsPairAround c.args.flat.now c.args.update c.args.carriers.now) (marks_of c.in_ok-search.search) c.in_ok-search.ensures.all_wait

pub of-requires : goal.of-requires
of-requires c = c.in_ok-spread_around.ensures.listed c.in_ok-search.ensures.listed

pub returns-clause-one_each : goal.returns-clause-one_each
returns-clause-one_each c = ap length c.of.ensures ∙ c.in_ok-spread_around.ensures.spread.one_each ∙ ap length c.in_ok-search.ensures.same

pub returns-clause-exact : goal.returns-clause-exact
returns-clause-exact c set are =
    let E = IsPairAround c.args.flat.now c.args.update c.args.carriers.now in
    let begins = c.args.begins.now in
    let spread = spread_reaches E (marks_of c.in_ok-search.search) (marks_of c.spread_around.new.search) c.in_ok-spread_around.ensures.spread in
    reached_around c.args.flat.now set c.args.update c.args.carriers.now begins _ are
    (subst (AreReached E begins) (sym c.of.ensures) (subst (λ m. AreReached E m c.spread_around.new.search.marked.items) c.in_ok-search.ensures.same spread))
