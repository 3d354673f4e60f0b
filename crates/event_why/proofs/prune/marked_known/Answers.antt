use Rattle.std.proofs.Common.{Bool, List, ◌≡◌, drop, length, sym, subst, ◌∙◌, arith}
use Rattle.std.proofs.lemmas.List.{take_at}
use Rattle.event_why.specs.inner.Pruned.{HasKnown}
use Rattle.event_why.specs.inner.Used.{NamesEarlier}
use Rattle.event_why.proofs.prune.marked_known.Goals as goal

pub returns : goal.returns
returns c =
    let draft = c.args.draft.now in
    let many = c.mark_all_known.auto.marks ∙ c.deref_mut.ensures.len in
    let same = sym (take_at c.mark_all_known.new.marks (drop (length c.mark_all_known.new.marks) c.in_ok-marks.marks.items) c.in_ok-marks.marks.len many) in
    record {
      one_each = subst (λ (ms : List Bool). length ms ≡ length draft.steps.items) same (omega (arith, many, c.in_ok-marks.ensures.len, c.len.ensures, c.args.draft.now.steps.ok.0));
      known = subst (λ ms. NamesEarlier draft.steps.items → HasKnown draft ms) same c.mark_all_known.ensures;
    }
