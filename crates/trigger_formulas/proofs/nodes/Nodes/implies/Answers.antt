use Rattle.std.proofs.Common.{◌≡◌, ℕ, List, Option, Some, None, sym, ap, subst, ◌∙◌}
use Rattle.std.specs.Prelude.{slice_index_or}
use Rattle.trigger_diagram.specs.inner.Kept.{Kept, AreDiagramsOf}
use Rattle.trigger_formulas.proofs.Answering.{nodes_told}
use Rattle.trigger_formulas.proofs.nodes.Nodes.implies.Goals as goal

pub returns : goal.returns
returns c s are =
    let k = c.self.inside in
    let made = c.self.invariant.made in
    let first : slice_index_or k.nodes.items c.args.a None ≡ Some c.in-Some.first =
    sym (c.node_of.ensures ∙ ap (λ (l : List (Option ℕ)). slice_index_or l c.args.a None) c.deref.ensures.value) ∙ c.in-Some.is in
    let second : slice_index_or k.nodes.items c.args.b None ≡ Some c.in-Some-node_of.second =
    sym (c.node_of-2.ensures ∙ ap (λ (l : List (Option ℕ)). slice_index_or l c.args.b None) c.deref-2.ensures.value) ∙ c.in-Some-node_of.is in
    nodes_told k.diagrams c.args.a c.args.b c.in-Some.first c.in-Some-node_of.second (made c.args.a c.in-Some.first first) (made c.args.b c.in-Some-node_of.second second) c.in_ok-told.told c.in_ok-told.ensures s (subst (λ (d : Kept). AreDiagramsOf d s) (sym c.self.view_is) are)
