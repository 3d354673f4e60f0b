use Rattle.std.proofs.Common.{◌≡◌, ◌<◌, suc, false, arith, inl, inr, length, slice_index_or, subst, sym, ◌∙◌}
use Rattle.std.proofs.lemmas.Bool.{false≢true}
use Rattle.std.proofs.lemmas.Bool.{cases_Bool, cases_lt}
use Rattle.event_why.specs.Check.{IsUsed}
use Rattle.event_why.proofs.UsedLemmas.{named_of, used_of}
use Rattle.event_why.proofs.used.first_unused.Goals as goal

pub returns-then-is_left : goal.returns-then-is_left
returns-then-is_left c =
    let k = c.loop-k.k in
    let left = c.is_left.ensures.0 c.if-is_left.true in
    let count = c.in_ok-marks.ensures.count in
    let first : suc k < length c.in_ok-marks.marks.items = subst (λ xs. suc k < length xs) c.deref.ensures.value left.0 in
    let none : slice_index_or c.in_ok-marks.marks.items k false ≡ false = subst (λ xs. slice_index_or xs k false ≡ false) c.deref.ensures.value left.1 in
    let low = c.loop-k-test.true in
    record {
      there = omega (arith, first, count);
      unused = λ used. false≢true (sym none ∙ c.in_ok-marks.ensures.each k low ∙ named_of c.args.steps.now k used);
      before = λ j earlier. c.loop-k.invariant j earlier (omega (arith, earlier, low));
    }

pub loop-k-preserved : goal.loop-k-preserved
loop-k-preserved c j low there =
    let k = c.loop-k.k in
    let count = c.in_ok-marks.ensures.count in
    elim (cases_lt j k) [
      | inl earlier ↦ c.loop-k.invariant j earlier there
      | inr late ↦
          let same : k ≡ j = omega (arith, low, late) in
          let within = c.loop-k-test.true in
          elim (cases_Bool (slice_index_or c.in_ok-marks.marks.items k false)) [
            | inl marked ↦ subst (IsUsed c.args.steps.now) same (used_of c.args.steps.now k c.requires (sym (c.in_ok-marks.ensures.each k within) ∙ marked))
            | inr none ↦
                let first : suc k < length c.in_ok-marks.marks.items = omega (arith, count, there, same) in
                absurd (false≢true (sym c.if-is_left.false ∙ c.is_left.ensures.1
                (subst (λ xs. suc k < length xs) (sym c.deref.ensures.value) first, subst (λ xs. slice_index_or xs k false ≡ false) (sym c.deref.ensures.value) none)))
          ]
    ]
