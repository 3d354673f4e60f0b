use Rattle.std.proofs.Common.{ℕ, ◌<◌, List, Contains, length, drop, sym, ap, subst, ◌∙◌}
use Rattle.std.proofs.lemmas.List.{take_at}
use Rattle.trigger_diagram.specs.inner.Kept.{Kept}
use Rattle.trigger_diagram.proofs.Keeping.{formula_told, keeps_told, once_told}
use Rattle.trigger_diagram.proofs.diagrams.Diagrams.of_formula.Goals as goal

pub needed-requires-clause-there : goal.needed-requires-clause-there
needed-requires-clause-there c =
    let rules_are = ap (λ (k : Kept). k.rules) c.self.view_is in
    subst (λ (l : List ℕ). Contains l c.args.a) (sym c.as_slice.ensures.value) (c.self.invariant.ordered.all c.args.a (subst (λ n. c.args.a < n) (sym (ap length rules_are)) c.requires))

pub returns-in_err-make_all-clause-keeps : goal.returns-in_err-make_all-clause-keeps
returns-in_err-make_all-clause-keeps c = keeps_told c.args.self.now c.self.inside.rules.items c.self.inside.arena c.make_all.new.arena c.self.view_is c.make_all.ensures.grows

pub returns-clause-keeps : goal.returns-clause-keeps
returns-clause-keeps c = keeps_told c.args.self.now c.self.inside.rules.items c.self.inside.arena c.make_all.new.arena c.self.view_is c.make_all.ensures.grows

pub returns-clause-exact : goal.returns-clause-exact
returns-clause-exact c =
    formula_told c.self.inside.rules.items c.deref-2.result.now c.self.inside.starts.items c.deref-3.result.now c.make_all.new.arena c.make_all.new.nodes c.deref-4.result.now c.args.a c.node_at.result c.deref-2.ensures.value c.deref-3.ensures.value (c.deref-4.ensures.value ∙ take_at c.make_all.new.nodes (drop (length c.make_all.new.nodes) c.self.inside.nodes.items) c.self.inside.nodes.len (c.make_all.auto.nodes ∙ c.deref_mut.ensures.len)) c.make_all.ensures.nodes
    c.node_at.ensures c.self.invariant.starts_are
    (c.in_ok-make_all.ensures.made c.args.a (subst (λ (l : List ℕ). Contains l c.args.a) (sym c.as_slice-2.ensures) c.in_ok-steps.ensures.there))

pub returns-clause-once : goal.returns-clause-once
returns-clause-once c =
    once_told c.self.inside.rules.items c.deref-2.result.now c.self.inside.starts.items c.deref-3.result.now c.make_all.new.arena c.make_all.new.nodes c.deref-4.result.now c.args.a c.node_at.result c.deref-2.ensures.value c.deref-3.ensures.value (c.deref-4.ensures.value ∙ take_at c.make_all.new.nodes (drop (length c.make_all.new.nodes) c.self.inside.nodes.items) c.self.inside.nodes.len (c.make_all.auto.nodes ∙ c.deref_mut.ensures.len)) c.make_all.ensures.nodes
    c.node_at.ensures c.canonical.ensures
