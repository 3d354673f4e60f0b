use Rattle.std.proofs.Common.{◌≡◌, suc, ◌-◌, ◌<◌, length, subst, arith}
use Rattle.alias_paths.specs.inner.Search.{marks_of, first_at, IsAfterLast, MarkedAll}
use Rattle.alias_nears.proofs.Circling.{IsAroundFrom, around_none, around_more, around_all}
use Rattle.alias_analysis.proofs.around.mark_around.Goals as goal

pub loop-next-init : goal.loop-next-init
loop-next-init c =
    let after = c.after_last-next.ensures in
    record {
      within = after.within;
      at = after.at;
      listed = λ h. h;
      marked = around_none c.args.flat.now c.args.update c.args.carriers.now c.args.number c.after_last-next.result (marks_of c.args.search.now) after;
    }

pub second-requires : goal.second-requires
second-requires c = let within = c.loop-next.invariant.within in let positive = c.loop-next-test.true in omega arith

pub after_earlier-next-requires : goal.after_earlier-next-requires
after_earlier-next-requires c = let within = c.loop-next.invariant.within in let positive = c.loop-next-test.true in omega arith

pub mark_if_around-requires-clause-one_each : goal.mark_if_around-requires-clause-one_each
mark_if_around-requires-clause-one_each c =
    let size = c.loop-next.invariant.marked.marked.one_each in
    let all = c.requires.one_each in
    omega arith

pub mark_if_around-requires-clause-there : goal.mark_if_around-requires-clause-there
mark_if_around-requires-clause-there c =
    let low : c.loop-next.next - 1 < length c.args.carriers.now = let within = c.loop-next.invariant.within in let positive = c.loop-next-test.true in omega arith in
    let step = (c.requires.there (c.loop-next.next - 1) (0, 0) low).1 in
    let is = c.second.ensures in
    omega arith

pub loop-next-preserved : goal.loop-next-preserved
loop-next-preserved c =
    let s = c.args.flat.now in
    let y = c.args.update in
    let pairs = c.args.carriers.now in
    let number = c.args.number in
    let old = marks_of c.args.search.now in
    let so_far = c.loop-next.invariant in
    let next = c.loop-next.next in
    let k = next - 1 in
    let is : next ≡ suc k = let positive = c.loop-next-test.true in omega arith in
    let first : first_at pairs k ≡ number = so_far.at k is in
    let low : k < length pairs = let within = so_far.within in omega arith in
    let r = c.after_earlier-next.result in
    let after : IsAfterLast pairs number k r = subst (λ a. IsAfterLast pairs a k r) first c.after_earlier-next.ensures in
    let so_many = subst (λ n. MarkedAll (IsAroundFrom s y pairs number n) old (marks_of c.loop-next.search)) is so_far.marked in
    record {
      within = let le = after.within in omega arith;
      at = after.at;
      listed = λ h. c.in_ok-mark_if_around.ensures.listed (so_far.listed h);
      marked = around_more s y pairs number k r c.second.result old (marks_of c.loop-next.search) (marks_of c.mark_if_around.new.search) low first c.second.ensures after so_many c.in_ok-mark_if_around.ensures.marked;
    }

pub returns-clause-marked : goal.returns-clause-marked
returns-clause-marked c =
    let s = c.args.flat.now in
    let y = c.args.update in
    let pairs = c.args.carriers.now in
    let number = c.args.number in
    let done : c.loop-next.next ≡ 0 = let over = c.loop-next-test.false in omega arith in
    around_all s y pairs number (marks_of c.args.search.now) (marks_of c.loop-next.search)
    (subst (λ n. MarkedAll (IsAroundFrom s y pairs number n) (marks_of c.args.search.now) (marks_of c.loop-next.search)) done c.loop-next.invariant.marked)
