use Rattle.std.proofs.Common.{◌≡◌, ℕ, suc, ◌+◌, ◌++◌, ◌∷◌, [], Some, rules, length, slice_get, sym, ap, subst, ◌∙◌, arith}
use Rattle.std.proofs.lemmas.List.{length_push}
use Rattle.event_why.specs.inner.Pruned.{marked_before}
use Rattle.event_why.proofs.PruneLemmas.{before_no, before_yes, numbers_push}
use Rattle.event_why.proofs.prune.new_numbers.Goals as goal
use Rattle.event_why.proofs.prune.new_numbers.Goals.{else-marked, then-marked}

pub loop-marked-preserved : goal.loop-marked-preserved
loop-marked-preserved c =
    let marks = c.args.marks.now in
    let i = c.loop-marked.marked-index in
    let before = c.loop-marked.invariant in
    let old = c.loop-marked.numbers.items in
    let low = c.loop-marked-test.true in
    let more : suc c.loop-marked.marked-index ≡ c.loop-marked.marked-index + 1 = omega arith in
    let one : marked_before c.args.marks.now c.loop-marked.marked-index + 1 ≡ suc (marked_before c.args.marks.now c.loop-marked.marked-index) = omega arith in
    let pushed : c.push.new.self.items ≡ c.loop-marked.numbers.items ++ c.loop-marked.next ∷ [] = search rules in
    record {
      few = elim c.if-marked.branch [ then-marked w ↦ omega arith | else-marked w ↦ omega arith ];
      next = elim c.if-marked.branch [
        | then-marked w ↦ w.next-is ∙ ap (λ n. n + 1) before.next ∙ one ∙ sym (before_yes marks i low w.if-marked.true) ∙ ap (marked_before marks) more
        | else-marked w ↦ w.next-is ∙ before.next ∙ sym (before_no marks i low w.if-marked.false) ∙ ap (marked_before marks) more
      ];
      one_each = ap length pushed ∙ length_push old c.loop-marked.next ∙ ap (λ n. n + 1) before.one_each;
      each = subst (λ xs. (k n : ℕ) → slice_get xs k ≡ Some n → n ≡ marked_before c.args.marks.now k) (sym pushed)
          (numbers_push old c.loop-marked.next (marked_before marks) before.each (before.next ∙ ap (marked_before marks) (sym before.one_each)));
    }
