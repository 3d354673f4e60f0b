use Rattle.std.proofs.Common.{rules, ◌≡◌, ◌<◌, ◌-◌, ◌∷◌, [], arith, map, subst, sym, ◌∙◌}
use Rattle.why_rules.specs.Facts.{Pending}
use Rattle.event_why.specs.Said.{said}
use Rattle.event_why.proofs.Iff.{not_test, through}
use Rattle.event_why.proofs.ListedFacts.{none_listed, one_is}
use Rattle.event_why.proofs.TellLemmas.{due_from}
use Rattle.event_why.proofs.SilentLemmas.{delay_start_test, not_due_test}
use Rattle.event_why.proofs.silent.is_not_due.Goals as goal

pub returns-then-is_empty : goal.returns-then-is_empty
returns-then-is_empty c p e op_is =
    let none : map said c.args.named.now ≡ [] = none_listed said c.args.named.now c.is_empty.result c.is_empty.ensures c.if-is_empty.true in
    delay_start_test p c.args.i e c.args.t c.get.result (map said c.args.named.now) op_is c.get.ensures.value none

pub returns-in-Some-due_in : goal.returns-in-Some-due_in
returns-in-Some-due_in c p e op_is =
    let i = c.args.i in
    let t = c.args.t in
    let fs = map said c.args.named.now in
    let f = said c.in-Some.fact.now in
    let due = c.in-Some-due_in.due in
    let single : fs ≡ f ∷ [] = one_is fs f (search rules) in
    let value = c.get-2.ensures.value in
    let some = c.if-get-eq0.false in
    let later : 0 < t = omega (arith, value, some) in
    let is = due_from i (c.get-in-Some.result - 1) f due (sym c.due_in.ensures ∙ c.in-Some-due_in.is) in
    let at : f ≡ Pending i (t - 1) due = subst (λ n. f ≡ Pending i (n - 1) due) c.get-in-Some.ensures.value is in
    through (not_test c.is_due_at.result c.is_due_at.ensures) (not_due_test p i e t fs f due op_is later single at)
