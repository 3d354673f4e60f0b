use Rattle.std.proofs.Common.{ℕ, ◌++◌, ◌∙◌, sym, ap, subst, append_assoc, inl, inr, arith}
use Rattle.std.proofs.lemmas.Bool.{cases_lt}
use Rattle.std.specs.List.{flat_map, range_with_len}
use Rattle.register_code.proofs.Gathered.{gathered_more}
use Rattle.code_file.specs.Spelling.{entry_at}
use Rattle.code_file.specs.inner.Writing.{IsFormAt}
use Rattle.code_file.proofs.equations.put_entries.Goals as goal

pub loop-number-preserved : goal.loop-number-preserved
loop-number-preserved c =
    let s = c.args.flat.now in
    let n = c.loop-number.number in
    let before = flat_map (entry_at s) (range_with_len 0 n) in (
      c.in_ok-put_equation.ensures.ok
          ∙ ap (λ t. t ++ entry_at s c.new.result) c.loop-number.invariant.0
          ∙ ap (λ (j : ℕ). (c.args.out.now ++ before) ++ entry_at s j) c.new.ensures
          ∙ append_assoc c.args.out.now before (entry_at s n)
          ∙ ap (λ l. c.args.out.now ++ l) (sym (gathered_more (entry_at s) n)),
      (λ i low. elim (cases_lt i n) [
        | inl less ↦ c.loop-number.invariant.1 i less
        | inr more ↦ let new = c.new.ensures in subst (IsFormAt s) (omega (arith, low, more, new)) c.in_ok-put_equation.ensures.form
      ]),
    )
