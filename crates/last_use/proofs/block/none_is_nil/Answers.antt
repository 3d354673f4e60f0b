use Rattle.std.proofs.Common.{◌≡◌, inl, inr, sym, subst, ◌∙◌, arith}
use Rattle.std.proofs.lemmas.Bool.{cases_lt, false≢true}
use Rattle.std.proofs.lemmas.Option.{slice_get_within}
use Rattle.alias_nears.specs.inner.Beginning.{IsNilVariable}
use Rattle.last_use.proofs.block.none_is_nil.Goals as goal

pub loop-number-preserved : goal.loop-number-preserved
loop-number-preserved c x low nil = elim (cases_lt x c.loop-number.number) [
  | inl before ↦ c.loop-number.invariant x before nil
  | inr after ↦
      let here : x ≡ c.new.result = let is = c.new.ensures in omega arith in
      false≢true (sym c.if-is_nil_variable.false ∙ c.is_nil_variable.ensures.1 (subst (IsNilVariable c.args.flat.now) here nil))
]

pub returns : goal.returns
returns c h x nil = let low = slice_get_within c.args.flat.now.equations x nil.at nil.is in c.loop-number.invariant x (let all = c.count-number-end.ensures.count in let end = c.loop-number-test.false in omega arith) nil
