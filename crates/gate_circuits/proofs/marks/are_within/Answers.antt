use Rattle.std.proofs.Common.{◌≡◌, ℕ, ◌<◌, ◌^◌, get_or, sym, ap, subst, ◌∙◌, inl, inr, arith}
use Rattle.std.specs.Prelude.{bit_and}
use Rattle.std.specs.Int.{bit_not, w64}
use Rattle.std.proofs.lemmas.Bool.{cases_eq}
use Rattle.gate_circuits.proofs.Words.{within_is}
use Rattle.gate_circuits.proofs.marks.are_within.Goals as goal

pub loop-place-preserved : goal.loop-place-preserved
loop-place-preserved c k low =
    let words = c.args.words.now in
    let other = c.args.other.now in
    let place = c.loop-place.place in
    elim (cases_eq k place) [
      | inl same ↦
          subst (λ (m : ℕ). bit_and (get_or words m 0) (bit_not w64 (get_or other m 0)) ≡ 0) (sym same)
          (ap (λ (n : ℕ). bit_and (get_or words place 0) (bit_not w64 n)) (sym c.word.ensures) ∙ c.if-words-place-ne0.false)
      | inr ne ↦ c.loop-place.invariant k (omega arith)
    ]

pub returns : goal.returns
returns c t x is =
    let fits : (k : ℕ) → get_or c.args.other.now k 0 < 2 ^ 64 = λ k. (c.type_inv.other k).fits in
    within_is c.args.words.now c.args.other.now fits (λ k low. c.loop-place.invariant k (omega arith)) x is
