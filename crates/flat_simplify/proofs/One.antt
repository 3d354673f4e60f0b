-- At most one system is what simplification makes of a system.
use Rattle.std.proofs.Common.{◌≡◌, ℕ, List, length, map, sym, ap, subst, ◌∙◌, inl, inr, arith}
use Rattle.std.specs.List.{Contains}
use Rattle.std.proofs.lemmas.List.{same_lists}
use Rattle.std.proofs.lemmas.List.Kept.{AllPairs-from_increasing}
use Rattle.std.proofs.lemmas.Option.{slice_get-get_or}
use Rattle.translation_order.specs.Graph.{Walk}
use Rattle.flat_core.specs.Needed.{HasArgument}
use Rattle.flat_core.specs.System.{System}
use Rattle.flat_simplify.specs.Replaced.{IsReplacement}
use Rattle.flat_core.specs.Renumbered.{with_new_args, with_new_equation}
use Rattle.flat_core.proofs.Rising.{same_rising}
use Rattle.flat_simplify.specs.Simplified.{Remains, IsSimplified}
use Rattle.flat_simplify.proofs.Stands.{one_stands}

same_replaced : (s : System) (p q : List ℕ) → IsReplacement s p → IsReplacement s q → p ≡ q
same_replaced s p q by_p by_q =
    let count : length p ≡ length q = by_p.one_each ∙ sym by_q.one_each in
    same_lists p q count (λ k d lt. one_stands s (by_p.each k _ (slice_get-get_or p k d lt)) (by_q.each k _ (slice_get-get_or q k d (omega arith))))

remains_by : (s u v : System) → u.equations ≡ v.equations → u.outputs ≡ v.outputs → (i : ℕ) → Remains s u i → Remains s v i
remains_by s u v equations outputs i (inl needed) =
    inl record { output = needed.output; printed = subst (λ os. Contains os needed.output) outputs needed.printed; walk = subst (λ es. Walk (HasArgument es) needed.output.equation i) equations needed.walk }
remains_by s u v equations outputs i (inr after) =
    inr record { start = after.start; faults = after.faults; walk = subst (λ es. Walk (HasArgument es) after.start i) equations after.walk }

pub one_simplified : (s u v : System) → IsSimplified s u → IsSimplified s v → u ≡ v
one_simplified s u v a b =
    let same = same_replaced s a.replaced b.replaced a.replacement b.replacement in
    let equations : u.equations ≡ v.equations = a.renumbered.equations_are ∙ ap (λ r. map (with_new_args r) s.equations) same ∙ sym b.renumbered.equations_are in
    let outputs : u.outputs ≡ v.outputs = a.renumbered.outputs_are ∙ ap (λ r. map (with_new_equation r) s.outputs) same ∙ sym b.renumbered.outputs_are in
    let running : u.running ≡ v.running =
    same_rising u.running v.running (AllPairs-from_increasing u.running a.renumbered.ascending) (AllPairs-from_increasing v.running b.renumbered.ascending)
    (λ i run. (b.renumbered.remains i).1 (remains_by s u v equations outputs i ((a.renumbered.remains i).0 run)))
    (λ i run. (a.renumbered.remains i).1 (remains_by s v u (sym equations) (sym outputs) i ((b.renumbered.remains i).0 run))) in
    λ k. record { equations = equations k; outputs = outputs k; running = running k }
