use Rattle.std.proofs.Common.{◌≡◌, ◌+◌, ◌-◌, sym, subst, ◌∙◌, ap, arith}
use Rattle.std.specs.Option.{option_copied}
use Rattle.decision_diagrams.specs.inner.Arena.{IsSound}
use Rattle.decision_diagrams.proofs.arena.Arena.branch.Goals as goal

pub returns : goal.returns
returns c =
    let low = c.requires.other in
    let same : c.args.node - 2 + 2 ≡ c.args.node = omega arith in
    let sound = c.self.invariant.sound (c.args.node - 2) c.unwrap.result.now (sym c.get_index.ensures.key ∙ ap option_copied c.unwrap.ensures) in
    subst (λ l. IsSound l c.args.node c.unwrap.result.now) c.self.view_is (subst (λ n. IsSound c.self.inside.branches.keys n c.unwrap.result.now) same sound)
