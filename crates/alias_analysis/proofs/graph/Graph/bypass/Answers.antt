use Rattle.std.proofs.Common.{◌≡◌, ℕ, ◌↔◌, length, refl, subst}
use Rattle.std.specs.Prelude.{IsTrue}
use Rattle.std.proofs.lemmas.Result.{IfOk-weaker}
use Rattle.flat_core.specs.inner.Marks.{has_mark}
use Rattle.flat_core.specs.Members.{is_in}
use Rattle.flat_core.specs.System.{System}
use Rattle.alias_rules.specs.Bypass.{Bypasses}
use Rattle.alias_paths.specs.inner.Marking.{AreJust}
use Rattle.alias_paths.proofs.Rooting.{set_members}
use Rattle.alias_analysis.proofs.graph.Graph.bypass.Goals as goal

pub returns-clause-members : goal.returns-clause-members
returns-clause-members c =
    let n = length c.self.inside.flat.now.equations in
    let set = c.args.set.now in
    let marks = c.in_ok-near.near.bypassed in
    let just = subst (λ (s : System). AreJust n (Bypasses s set c.args.update) marks) c.self.view_is c.in_ok-near.ensures.bypassed in
    IfOk-weaker c.set_of.result (λ r. (i : ℕ) → is_in r i ≡ has_mark marks i) (λ r. (x : ℕ) → IsTrue (is_in r x) ↔ Bypasses c.args.self.now set c.args.update x)
    (λ r members. set_members n (Bypasses c.args.self.now set c.args.update) marks marks r refl just members) c.set_of.ensures.members
