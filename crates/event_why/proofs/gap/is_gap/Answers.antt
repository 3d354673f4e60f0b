use Rattle.std.proofs.Common.{rules, ◌≡◌, ◌-◌, ◌≤◌, suc, false, inl, inr, arith, filter, map, subst, sym, ◌∙◌}
use Rattle.std.proofs.lemmas.Bool.{cases_lt, eq-eqb, eqb-true, false≢true}
use Rattle.std.specs.Prelude.{IsTrue}
use Rattle.std.specs.Option.{option_map}
use Rattle.flat_core.specs.Instant.{is_delay}
use Rattle.flat_core.specs.Line.{inputs_of}
use Rattle.flat_core.specs.System.{equation}
use Rattle.event_why.specs.Said.{said}
use Rattle.event_why.specs.inner.Search.{Lack}
use Rattle.event_why.specs.inner.Waits.{IsWaitingOf}
use Rattle.event_why.proofs.GapLemmas.{gap_all, gap_found, gap_none, no_gap}
use Rattle.event_why.proofs.SearchLemmas.{all_among, lack_zero}
use Rattle.event_why.proofs.gap.is_gap.Goals as goal

pub returns-then-first-eq0 : goal.returns-then-first-eq0
returns-then-first-eq0 c =
    let s = c.args.grounds.now.flat.now in
    let slice = c.args.grounds.now.slice.now in
    let p = inputs_of c.args.grounds.now.lines.now in
    let facts = map said c.args.facts.now in
    let value = c.get-first.ensures.value in
    let zero_is = c.if-first-eq0.true in
    let never = no_gap s slice p 0 c.args.to facts c.args.from (λ positive low nothing. absurd (omega (arith, value, zero_is, positive))) in
    (λ is. absurd (false≢true is), λ o. absurd (never o))

pub returns-then-is_before : goal.returns-then-is_before
returns-then-is_before c =
    let s = c.args.grounds.now.flat.now in
    let slice = c.args.grounds.now.slice.now in
    let p = inputs_of c.args.grounds.now.lines.now in
    let facts = map said c.args.facts.now in
    let never = no_gap s slice p 0 c.args.to facts c.args.from (λ positive low nothing. let less = c.is_before.ensures.0 c.if-is_before.true in absurd (omega (arith, less, low))) in
    (λ is. absurd (false≢true is), λ o. absurd (never o))

pub returns-then-not-is_nothing_given : goal.returns-then-not-is_nothing_given
returns-then-not-is_nothing_given c =
    let s = c.args.grounds.now.flat.now in
    let slice = c.args.grounds.now.slice.now in
    let p = inputs_of c.args.grounds.now.lines.now in
    let facts = map said c.args.facts.now in
    let no : c.is_nothing_given.result ≡ false = search rules in
    let never = no_gap s slice p 0 c.args.to facts c.args.from (λ positive low nothing. absurd (false≢true (sym no ∙ c.is_nothing_given.ensures.1 nothing))) in
    (λ is. absurd (false≢true is), λ o. absurd (never o))

pub returns-in-Some : goal.returns-in-Some
returns-in-Some c =
    let s = c.args.grounds.now.flat.now in
    let slice = c.args.grounds.now.slice.now in
    let p = inputs_of c.args.grounds.now.lines.now in
    let facts = map said c.args.facts.now in
    let before = c.get-first.result - 1 in
    let value = c.get-first.ensures.value in
    let some = c.if-first-eq0.false in
    let next : c.args.from ≡ suc before = omega (arith, value, some) in
    let uses = map said c.in-Some.uses.items in
    let found = subst (λ r. IsWaitingOf before c.args.to (filter (λ i. is_delay (equation s i)) slice) facts (option_map (λ v. map said v.items) r)) c.in-Some.is c.in_ok-uses.ensures in
    let n = c.count_lacking.result in
    let lack : Lack uses facts n = subst (λ xs. Lack (map said xs) facts n) c.deref.ensures.value c.count_lacking.ensures in
    let yes : IsTrue c.is_nothing_given.result = search rules in
    let nothing = c.is_nothing_given.ensures.0 yes in
    let low : c.args.from ≤ c.args.to = elim (cases_lt c.args.to c.args.from) [
      | inl less ↦ absurd (false≢true (sym c.if-is_before.false ∙ c.is_before.ensures.1 less))
      | inr late ↦ late
    ] in (
      λ is. let none = eqb-true n 0 is in gap_found s slice p before c.args.to facts c.args.from next uses found low nothing (all_among uses facts n lack (omega (arith, none))),
      λ o. eq-eqb n 0 (lack_zero uses facts n lack (gap_all s slice p before c.args.to facts c.args.from next uses found c.requires.ascending o)),
    )

pub returns-in-None : goal.returns-in-None
returns-in-None c =
    let s = c.args.grounds.now.flat.now in
    let slice = c.args.grounds.now.slice.now in
    let p = inputs_of c.args.grounds.now.lines.now in
    let facts = map said c.args.facts.now in
    let before = c.get-first.result - 1 in
    let value = c.get-first.ensures.value in
    let some = c.if-first-eq0.false in
    let next : c.args.from ≡ suc before = omega (arith, value, some) in
    let found = subst (λ r. IsWaitingOf before c.args.to (filter (λ i. is_delay (equation s i)) slice) facts (option_map (λ v. map said v.items) r)) c.in-None.is c.in_ok-uses.ensures in
    let never = gap_none s slice p before c.args.to facts c.args.from next found in
    (λ is. absurd (false≢true is), λ o. absurd (never o))
