use Rattle.std.proofs.Common.{refl, sym, ◌∙◌}
use Rattle.std.proofs.lemmas.Bool.{false≢true}
use Rattle.decision_diagrams.proofs.Finding.{decided_is, from_low, from_high, no_side, refuted_more}
use Rattle.decision_diagrams.proofs.arena.Arena.+found.Goals as goal

pub returns-in-Some-clause-exact : goal.returns-in-Some-clause-exact
returns-in-Some-clause-exact t c = decided_is c.args.self.now c.requires.canonical c.args.both c.args.pair c.requires.there c.in-Some.answer (sym c.decided.ensures ∙ c.in-Some.is)

pub returns-then-contains-clause-exact : goal.returns-then-contains-clause-exact
returns-then-contains-clause-exact t c = (λ h. absurd (false≢true h), λ f. absurd (c.requires.refuted c.args.pair (sym c.contains.ensures ∙ c.if-contains.true) f))

pub returns-then-low-clause-exact : goal.returns-then-low-clause-exact
returns-then-low-clause-exact t c = (λ h. from_low c.args.self.now c.requires.canonical c.args.both c.args.pair c.split-split.result c.split-split.ensures (c.in_ok-low.ensures.exact.0 c.if-low.true), λ f. refl)

pub returns-then-high-clause-exact : goal.returns-then-high-clause-exact
returns-then-high-clause-exact t c = (λ h. from_high c.args.self.now c.requires.canonical c.args.both c.args.pair c.split-split.result c.split-split.ensures (c.in_ok-high.ensures.exact.0 c.if-high.true), λ f. refl)

pub returns-clause-refuted : goal.returns-clause-refuted
returns-clause-refuted t c =
    let none = no_side c.args.self.now c.requires.canonical c.args.both c.args.pair c.split-split.result c.split-split.ensures c.in_ok-low.low c.in_ok-high.high c.in_ok-low.ensures.exact c.if-low.false c.in_ok-high.ensures.exact c.if-high.false in
    refuted_more c.args.self.now c.args.both c.found-2.new.refuted c.insert.new.self c.args.pair c.in_ok-high.ensures.refuted none c.in_ok-insert.ensures.updates.0

pub returns-clause-exact : goal.returns-clause-exact
returns-clause-exact t c = (
  λ h. absurd (false≢true h),
  λ f. absurd (no_side c.args.self.now c.requires.canonical c.args.both c.args.pair c.split-split.result c.split-split.ensures c.in_ok-low.low c.in_ok-high.high c.in_ok-low.ensures.exact c.if-low.false c.in_ok-high.ensures.exact c.if-high.false f),
)
