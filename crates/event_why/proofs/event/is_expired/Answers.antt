use Rattle.std.proofs.Common.{rules, ◌≡◌, ◌↔◌, ◌<◌, ◌-◌, ◌∷◌, [], Some, arith, map, subst}
use Rattle.std.specs.Prelude.{IsTrue}
use Rattle.why_rules.specs.Facts.{Pending}
use Rattle.event_why.specs.Said.{said}
use Rattle.event_why.proofs.Iff.{through}
use Rattle.event_why.proofs.ListedFacts.{one_is}
use Rattle.event_why.proofs.EventLemmas.{expired_test}
use Rattle.event_why.proofs.event.is_expired.Goals as goal

pub returns-in-Some : goal.returns-in-Some
returns-in-Some c p e op_is =
    let fs = map said c.args.named.now in
    let t = c.args.t in
    let f = said c.in-Some.fact.now in
    let single : fs ≡ f ∷ [] = one_is fs f (search rules) in
    let yes : IsTrue c.is_scalar.result = search rules in
    let same = c.get.ensures.value in
    let some = c.if-get-eq0.false in
    let later : 0 < t = omega (arith, same, some) in
    let due : IsTrue c.is_due_so.result ↔ (f ≡ Pending c.args.i (t - 1) (Some t)) =
    subst (λ n. IsTrue c.is_due_so.result ↔ (f ≡ Pending c.args.i (n - 1) (Some t))) c.get-in-Some.ensures.value c.is_due_so.ensures in
    through due (expired_test p c.args.i e t c.args.value.now fs f op_is later (c.is_scalar.ensures.0 yes) single)
