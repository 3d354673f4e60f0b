use Rattle.std.proofs.Common.{◌≡◌, [], ◌∷◌, suc, ◌-◌, ◌<◌, length, drop, slice_index_or, sym, subst, ◌∙◌, arith}
use Rattle.flat_core.specs.inner.Marks.{Marked}
use Rattle.flat_core.proofs.MarkLemmas.{marked_none}
use Rattle.translation_order.specs.inner.Taking.{seconds_of}
use Rattle.alias_paths.specs.inner.Search.{marks_of, first_at, IsAfterLast}
use Rattle.alias_paths.proofs.Chaining.{marked_front, skipped, one_more, from_last}
use Rattle.alias_paths.proofs.reach.Search.mark_seconds.Goals as goal

pub loop-next-init : goal.loop-next-init
loop-next-init c =
    let pairs = c.args.links.now in
    let old = marks_of c.args.self.now in
    let after = c.after_last-next.ensures in
    record {
      within = after.within;
      at = after.at;
      listed = λ h. h;
      marked = subst (λ xs. Marked xs old old) (sym (from_last c.args.number pairs c.after_last-next.result after)) (marked_none old);
    }

pub second-requires : goal.second-requires
second-requires c = let within = c.loop-next.invariant.within in let positive = c.loop-next-test.true in omega arith

pub after_earlier-next-requires : goal.after_earlier-next-requires
after_earlier-next-requires c = let within = c.loop-next.invariant.within in let positive = c.loop-next-test.true in omega arith

pub mark-requires : goal.mark-requires
mark-requires c =
    let low : c.loop-next.next - 1 < length c.args.links.now = let within = c.loop-next.invariant.within in let positive = c.loop-next-test.true in omega arith in
    let step = (c.requires (c.loop-next.next - 1) (0, 0) low).1 in
    let size = c.loop-next.invariant.marked.one_each in
    let is = c.second.ensures in
    omega arith

pub loop-next-preserved : goal.loop-next-preserved
loop-next-preserved c =
    let pairs = c.args.links.now in
    let number = c.args.number in
    let old = marks_of c.args.self.now in
    let so_far = c.loop-next.invariant in
    let next = c.loop-next.next in
    let k = next - 1 in
    let is : next ≡ suc k = let positive = c.loop-next-test.true in omega arith in
    let first : first_at pairs k ≡ number = so_far.at k is in
    let low : k < length pairs = let within = so_far.within in omega arith in
    let x = (slice_index_or pairs k (0, 0)).1 in
    let r = c.after_earlier-next.result in
    let after : IsAfterLast pairs number k r = subst (λ a. IsAfterLast pairs a k r) first c.after_earlier-next.ensures in
    let so_many = subst (λ n. Marked (seconds_of (drop n pairs) number) old (marks_of c.loop-next.self)) is so_far.marked in
    let marked = marked_front x (seconds_of (drop (suc k) pairs) number) old (marks_of c.loop-next.self) (marks_of c.mark.new.self) so_many (subst (λ z. Marked (z ∷ []) (marks_of c.loop-next.self) (marks_of c.mark.new.self)) c.second.ensures c.in_ok-mark.ensures.marked) in
    let all = skipped number pairs r k after.within after.none ∙ one_more number pairs k low first in
    record {
      within = let le = after.within in omega arith;
      at = after.at;
      listed = λ h. c.in_ok-mark.ensures.listed (so_far.listed h);
      marked = subst (λ xs. Marked xs old (marks_of c.mark.new.self)) (sym all) marked;
    }
