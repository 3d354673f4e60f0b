use Rattle.std.proofs.Common.{length, ap, ◌∙◌, sym, subst}
use Rattle.translation_order.specs.Order.{Before}
use Rattle.alias_paths.specs.inner.Search.{marks_of, AreReached}
use Rattle.alias_paths.proofs.Spreads.{spread_reaches}
use Rattle.alias_paths.proofs.reach.reached.Goals as goal

pub of-requires : goal.of-requires
of-requires c = c.in_ok-spread.ensures.listed c.in_ok-search.ensures.listed

pub returns-clause-one_each : goal.returns-clause-one_each
returns-clause-one_each c = ap length c.of.ensures ∙ c.in_ok-spread.ensures.spread.one_each ∙ ap length c.in_ok-search.ensures.same

pub returns-clause-exact : goal.returns-clause-exact
returns-clause-exact c =
    let E = Before c.args.links.now in
    let spread = spread_reaches E (marks_of c.in_ok-search.search) (marks_of c.spread.new.self) c.in_ok-spread.ensures.spread in
    subst (AreReached E c.args.begins.now) (sym c.of.ensures) (subst (λ m. AreReached E m c.spread.new.self.marked.items) c.in_ok-search.ensures.same spread)
