use Rattle.std.proofs.Common.{rules, ◌≡◌, ◌↔◌, ◌<◌, ◌-◌, ◌∷◌, [], arith, map, subst, sym, ◌∙◌}
use Rattle.std.proofs.lemmas.Bool.{ltb-true}
use Rattle.std.specs.Prelude.{IsTrue}
use Rattle.why_rules.specs.Facts.{Pending}
use Rattle.event_why.specs.Said.{said}
use Rattle.event_why.proofs.Iff.{through}
use Rattle.event_why.proofs.ListedFacts.{three_is}
use Rattle.event_why.proofs.PendingLemmas.{kept_on_test}
use Rattle.event_why.proofs.pending.is_kept_on.Goals.{then-get-gt0, else-get-gt0}
use Rattle.event_why.proofs.pending.is_kept_on.Goals as goal

pub returns-then-is_not_set : goal.returns-then-is_not_set
returns-then-is_not_set c =
    let fs = map said c.args.named.now in
    let t = c.args.t in
    let delay = c.args.delay.now in
    let f = said c.in-Some.reset.now in
    let g = said c.in-Some.itself.now in
    let h = said c.in-Some.pending.now in
    let all : fs ≡ f ∷ g ∷ h ∷ [] = three_is fs f g h (search rules) in
    let due : IsTrue c.is_due_so.result ↔ (h ≡ Pending delay.itself (t - 1) c.args.due.now) =
    subst (λ n. IsTrue c.is_due_so.result ↔ (h ≡ Pending delay.itself (n - 1) c.args.due.now)) c.get-then-is_not_set.ensures.value c.is_due_so.ensures in
    elim c.if-get-gt0.branch [
      | then-get-gt0 w ↦
          let same = c.get.ensures.value in
          let some = w.if-get-gt0.true in
          let later : 0 < t = omega (arith, same, some) in
          through due (kept_on_test delay t c.args.due.now fs f g h all later (w.is_not_set.ensures.0 (sym w.value-is ∙ c.if-is_not_set.true)))
      | else-get-gt0 w ↦
          let more = ltb-true 0 c.get.result (sym w.value-is ∙ c.if-is_not_set.true) in
          let none = w.if-get-gt0.false in
          absurd (omega (arith, more, none))
    ]
