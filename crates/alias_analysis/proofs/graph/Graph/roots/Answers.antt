use Rattle.std.proofs.Common.{◌≡◌, ℕ, ◌↔◌, length, refl, subst}
use Rattle.std.specs.Prelude.{IsTrue}
use Rattle.std.proofs.lemmas.Result.{IfOk-weaker}
use Rattle.flat_core.specs.inner.Marks.{has_mark}
use Rattle.flat_core.specs.Members.{is_in}
use Rattle.flat_core.specs.System.{System}
use Rattle.alias_rules.specs.Roots.{IsRoot}
use Rattle.alias_paths.specs.inner.Marking.{AreJust}
use Rattle.alias_paths.proofs.Rooting.{set_members}
use Rattle.alias_analysis.proofs.graph.Graph.roots.Goals as goal

pub returns-clause-members : goal.returns-clause-members
returns-clause-members c =
    let n = length c.self.inside.flat.now.equations in
    let set = c.args.set.now in
    let marks = c.in_ok-roots.roots in
    let just = subst (λ (s : System). AreJust n (λ r. IsRoot s set r c.args.x) marks) c.self.view_is c.in_ok-roots.ensures in
    IfOk-weaker c.set_of.result (λ r. (i : ℕ) → is_in r i ≡ has_mark marks i) (λ r. (x : ℕ) → IsTrue (is_in r x) ↔ IsRoot c.args.self.now set x c.args.x)
    (λ r members. set_members n (λ r. IsRoot c.args.self.now set r c.args.x) marks marks r refl just members) c.set_of.ensures.members
