use Rattle.std.proofs.Common.{◌≡◌, ℕ, ◌<◌, Bool, List, false, drop, length, sym, subst, ◌∙◌}
use Rattle.std.proofs.lemmas.List.{take_at}
use Rattle.std.proofs.lemmas.Result.{IfOk-weaker}
use Rattle.event_why.specs.inner.Pruned.{AreKept, AreNumbers, IsEndOf, IsMarkedFrom, is_marked}
use Rattle.event_why.specs.inner.Used.{NamesEarlier}
use Rattle.event_why.proofs.MarkLemmas.{none_marked}
use Rattle.event_why.proofs.PruneLemmas.{ends_kept}
use Rattle.event_why.proofs.prune.grounds_of.Goals as goal

pub returns : goal.returns
returns c =
    let steps = c.args.steps.items in
    let last = c.args.last in
    let none = c.deref_mut.result.now in
    let marks = c.mark_from.new.marks in
    let numbers = c.in_ok-numbers.numbers.items in
    let many = c.mark_from.auto.marks ∙ c.deref_mut.ensures.len in
    let same = take_at c.mark_from.new.marks (drop (length c.mark_from.new.marks) c.in_ok-marks.marks.items) c.in_ok-marks.marks.len many in
    let unmarked = subst (λ (ms : List Bool). (k : ℕ) → is_marked ms k ≡ false) (sym (c.deref_mut.ensures.value ∙ c.in_ok-marks.ensures.items_if_clones_equal (λ y h. h))) (none_marked _) in
    let from = subst (λ ws. NamesEarlier ws → last < length ws → IsMarkedFrom ws last none marks) c.deref.ensures.value c.mark_from.ensures in
    let are = subst (λ ms. AreNumbers ms numbers) (c.deref-2.ensures.value ∙ same) c.in_ok-numbers.ensures in
    IfOk-weaker c.kept_steps.result _ (λ v. IsEndOf steps last v.items)
    (λ v kept s slice p right there.
    ends_kept steps last none marks numbers v.items s slice p right there unmarked from are
    (subst (λ ns. AreKept ns marks steps v.items) c.deref-4.ensures.value (subst (λ ms. AreKept c.deref-4.result.now ms steps v.items) (c.deref-3.ensures.value ∙ same) kept)))
    c.kept_steps.ensures
