use Rattle.std.proofs.Common.{◌≡◌, ℕ, List, ◌++◌, map, length, take, drop, sym, ap, subst, ◌∙◌}
use Rattle.std.proofs.Math.Seq.{take-append_seam}
use Rattle.std.proofs.lemmas.List.{length-map}
use Rattle.flat_core.specs.Complete.{IsFlat}
use Rattle.flat_core.specs.Renumbered.{with_new_args, with_new_equation}
use Rattle.flat_core.specs.System.{System}
use Rattle.flat_core.proofs.Renumbering.{renumbered_flat}
use Rattle.flat_core.proofs.flat.Flat.simplified.Goals as goal

-- what a list has after all its items were written
written : {A : Type 0} (f : A → A) (count : ℕ) (items lent new whole : List A) → length lent ≡ count → lent ≡ whole → new ≡ map f lent → take count (new ++ drop (length new) items) ≡ map f whole
written f count items lent new whole all same is =
    let long : length new ≡ count = ap length is ∙ length-map lent f ∙ all in
    ap (λ k. take k (new ++ drop (length new) items)) (sym long) ∙ take-append_seam new (drop (length new) items) ∙ is ∙ ap (map f) same

same_flat : (u v : System) → u ≡ v → IsFlat v → IsFlat u
same_flat u v same flat = subst IsFlat (sym same) flat

pub invariant_of-result : goal.invariant_of-result
invariant_of-result c =
    let s = c.args.self in
    let held = c.self.inside in
    let equations = written (with_new_args c.args.replaced) held.equations.len held.equations.items c.deref_mut.result.now c.replace_args.new.equations s.equations c.deref_mut.ensures.len (c.deref_mut.ensures.value ∙ ap (λ (v : System). v.equations) c.self.view_is) c.replace_args.ensures in
    let outputs = written (with_new_equation c.args.replaced) held.outputs.len held.outputs.items c.deref_mut-2.result.now c.replace_outputs.new.outputs s.outputs c.deref_mut-2.ensures.len (c.deref_mut-2.ensures.value ∙ ap (λ (v : System). v.outputs) c.self.view_is) c.replace_outputs.ensures in
    let flat = subst IsFlat c.self.view_is c.self.invariant in
    same_flat _ _ (λ k. record { equations = equations k; outputs = outputs k; running = c.args.running }) (renumbered_flat s c.args.replaced c.args.running c.requires.replaced.same_type flat c.assert_ascending.ensures c.requires.outputs_run c.requires.proper)
