use Rattle.std.proofs.Common.{ℕ, Bool, ◌+◌, sym, subst, ap, ◌∙◌, arith}
use Rattle.std.proofs.lemmas.Option.{slice_get_within}
use Rattle.flat_core.specs.Pending.{option_is}
use Rattle.flat_core.specs.System.{runs}
use Rattle.plain_solver.specs.inner.Lines.{IsLeast}
use Rattle.plain_solver.proofs.NextLemmas.{IsLeastOf, least-next, least-skip}
use Rattle.event_why.specs.inner.Drafted.{due_of, fact_of}
use Rattle.event_why.proofs.NextLemmas.{due_end}
use Rattle.event_why.proofs.next.least_due.Goals as goal
use Rattle.event_why.proofs.next.least_due.Goals.{then-runs, else-runs}

pub loop-n-preserved : goal.loop-n-preserved
loop-n-preserved c =
    let s = c.args.flat.now in
    let draft = c.args.draft.now in
    let low = c.args.low in
    let p : ℕ → ℕ → Bool = λ i u. option_is u (due_of (fact_of draft.steps.items draft.pending.numbers.items i)) in
    let n = c.loop-n.n in
    let is = c.new-i.ensures in
    elim c.if-runs.branch [
      | then-runs w ↦
          let due = w.due.ensures ∙ ap (λ i. due_of (fact_of draft.steps.items draft.pending.numbers.items i)) is in
          let one : IsLeast (p n) low c.loop-n.least w.least_of-least.result = subst (λ o. IsLeast (λ u. option_is u o) low c.loop-n.least w.least_of-least.result) due w.least_of-least.ensures in
          subst (IsLeastOf s p (n + 1) low c.args.high) (sym w.least-is)
          (least-next s p low c.args.high n c.loop-n.least w.least_of-least.result (ap (runs s) (sym is) ∙ sym c.runs.ensures ∙ w.if-runs.true) c.loop-n.invariant one)
      | else-runs w ↦
          subst (IsLeastOf s p (n + 1) low c.args.high) (sym w.least-is)
          (least-skip s p low c.args.high n c.loop-n.least (ap (runs s) (sym is) ∙ sym c.runs.ensures ∙ w.if-runs.false) c.loop-n.invariant)
    ]

pub returns : goal.returns
returns c =
    let s = c.args.flat.now in
    let draft = c.args.draft.now in
    let p : ℕ → ℕ → Bool = λ i u. option_is u (due_of (fact_of draft.steps.items draft.pending.numbers.items i)) in
    let count = c.count-n-end.ensures.count in
    let past = c.loop-n-test.false in
    due_end s p c.args.low c.args.high c.loop-n.n c.loop-n.least
    (λ i run.
    let found = c.count-n-end.ensures.is_flat.proper.runs_all i run in
    let there = slice_get_within s.equations i found.0 found.1 in
    omega (arith, there, count, past))
    c.loop-n.invariant
