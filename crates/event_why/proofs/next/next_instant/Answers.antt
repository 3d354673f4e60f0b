use Rattle.std.proofs.Common.{◌≡◌, ◌<◌, inl, inr, arith}
use Rattle.std.specs.Prelude.{◌⊎◌}
use Rattle.event_why.proofs.NextLemmas.{first_none, first_time}
use Rattle.event_why.proofs.next.next_instant.Goals as goal
use Rattle.event_why.proofs.next.next_instant.Goals.{else-from-eq0-via-then-from-eq0+else-from-bound, else-from-eq0-via-else-from-eq0}

pub returns-then-least-bound : goal.returns-then-least-bound
returns-then-least-bound c =
    let later : 0 < c.args.from ⊎ (c.args.bound ≡ 0) = elim c.else-from-eq0.branch [
      | else-from-eq0-via-then-from-eq0+else-from-bound w ↦ let start = w.if-from-eq0.true in let none = w.if-from-bound.false in inr (omega (arith, start, none))
      | else-from-eq0-via-else-from-eq0 w ↦ let other = w.if-from-eq0.false in inl (omega (arith, other))
    ] in
    first_time c.args.flat.now c.args.lines.now c.args.draft.now c.args.from c.args.bound c.least_due-due.result c.least_line-least.result
    c.least_due-due.ensures (c.least_line-least.ensures c.args.flat.now c.args.from c.requires.placed) later
    c.requires.small c.if-least-bound.true c.new-then-least-bound.result c.new-then-least-bound.ensures

pub returns-else-least-bound : goal.returns-else-least-bound
returns-else-least-bound c =
    let later : 0 < c.args.from ⊎ (c.args.bound ≡ 0) = elim c.else-from-eq0.branch [
      | else-from-eq0-via-then-from-eq0+else-from-bound w ↦ let start = w.if-from-eq0.true in let none = w.if-from-bound.false in inr (omega (arith, start, none))
      | else-from-eq0-via-else-from-eq0 w ↦ let other = w.if-from-eq0.false in inl (omega (arith, other))
    ] in
    first_none c.args.flat.now c.args.lines.now c.args.draft.now c.args.from c.args.bound c.least_due-due.result c.least_line-least.result
    c.least_due-due.ensures (c.least_line-least.ensures c.args.flat.now c.args.from c.requires.placed) later
    c.if-least-bound.false
