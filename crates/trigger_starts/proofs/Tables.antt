-- The formulas of rules are those of the system.
use Rattle.std.proofs.Common.{◌≡◌, ℕ, suc, ◌+◌, true, false, List, [], ◌∷◌, ◌++◌, take, Option, Some, None, refl, sym, ap, ◌∙◌, arith}
use Rattle.std.specs.Prelude.{slice_get}
use Rattle.std.specs.Option.{option_map, option_map_or}
use Rattle.std.proofs.Math.Seq.{take-suc}
use Rattle.std.proofs.lemmas.Option.{get_or_from_slice_get, slice_get-map, slice_get_within}
use Rattle.flat_core.specs.declared.equation.Equation.{Equation}
use Rattle.flat_core.specs.declared.equation.Op.{Op}
use Rattle.flat_core.specs.declared.equation.Op.TheVariants as op
use Rattle.flat_core.specs.System.{System, equation}
use Rattle.trigger_rules.specs.Formula.{Never}
use Rattle.trigger_rules.specs.Table.{formula_of, at_zero, formula, zero_formula}
use Rattle.trigger_starts.specs.declared.rules.Rule.{Rule}
use Rattle.trigger_starts.specs.inner.Rules.{rule_by, rule_of, rules_of, formula_by, zero_formula_by, ruled}

formula_is : (o : Op) (args : List ℕ) (x : ℕ) → formula_by (rule_by o args) x ≡ formula_of o x args
formula_is (op.Lift body true) args x = refl
formula_is (op.Lift body false) args x = refl
formula_is op.Filter [] x = refl
formula_is op.Filter (a ∷ []) x = refl
formula_is op.Filter (a ∷ b ∷ []) x = refl
formula_is op.Filter (a ∷ b ∷ c ∷ args) x = refl
formula_is op.Last [] x = refl
formula_is op.Last (a ∷ []) x = refl
formula_is op.Last (a ∷ b ∷ []) x = refl
formula_is op.Last (a ∷ b ∷ c ∷ args) x = refl
formula_is o args x = refl

zero_is : (o : Op) (args : List ℕ) (x : ℕ) → zero_formula_by (rule_by o args) x ≡ at_zero o (formula_of o x args)
zero_is (op.Lift body true) args x = refl
zero_is (op.Lift body false) args x = refl
zero_is op.Filter [] x = refl
zero_is op.Filter (a ∷ []) x = refl
zero_is op.Filter (a ∷ b ∷ []) x = refl
zero_is op.Filter (a ∷ b ∷ c ∷ args) x = refl
zero_is op.Last [] x = refl
zero_is op.Last (a ∷ []) x = refl
zero_is op.Last (a ∷ b ∷ []) x = refl
zero_is op.Last (a ∷ b ∷ c ∷ args) x = refl
zero_is o args x = refl

module _ (s : System) (rules : List Rule) (are : rules ≡ rules_of s) where
  rule_at : (x : ℕ) → slice_get rules x ≡ option_map rule_of (equation s x)
  rule_at x = ap (λ l. slice_get l x) are ∙ slice_get-map rule_of s.equations x

  found : (x : ℕ) (e : Option Equation) → option_map_or (λ it. formula_by it x) (option_map rule_of e) Never ≡ option_map_or (λ e. formula_of e.op x e.args) e Never
  found x None = refl
  found x (Some e) = formula_is e.op e.args x

  found_zero : (x : ℕ) (e : Option Equation) → option_map_or (λ it. zero_formula_by it x) (option_map rule_of e) Never ≡ option_map_or (λ e. at_zero e.op (formula_of e.op x e.args)) e Never
  found_zero x None = refl
  found_zero x (Some e) = zero_is e.op e.args x

  table_at : (x : ℕ) → ruled false rules x ≡ formula s x
  table_at x = ap (λ o. option_map_or (λ it. formula_by it x) o Never) (rule_at x) ∙ found x (equation s x)

  zero_at : (x : ℕ) → ruled true rules x ≡ zero_formula s x
  zero_at x = ap (λ o. option_map_or (λ it. zero_formula_by it x) o Never) (rule_at x) ∙ found_zero x (equation s x)

  pub table_is : ruled false rules ≡ formula s
  table_is k x = table_at x k

  pub zero_table_is : ruled true rules ≡ zero_formula s
  zero_table_is k x = zero_at x k

-- one more rule
pub rules_more : (s : System) (n id : ℕ) (e : Equation) (it : Rule) (ys zs : List Rule) → id ≡ n → equation s id ≡ Some e → it ≡ rule_of e → ys ≡ take n (rules_of s) → zs ≡ ys ++ it ∷ [] → zs ≡ take (n + 1) (rules_of s)
rules_more s n id e it ys zs at is rule_is so_far more =
    let one : suc n ≡ n + 1 = omega arith in
    let rule_at : slice_get (rules_of s) n ≡ Some it = slice_get-map rule_of s.equations n ∙ ap (option_map rule_of) (ap (equation s) (sym at) ∙ is) ∙ ap Some (sym rule_is) in
    more ∙ (λ k. so_far k ++ sym (get_or_from_slice_get (rules_of s) n it it rule_at) k ∷ []) ∙ sym (take-suc (rules_of s) n it (slice_get_within (rules_of s) n it rule_at)) ∙ ap (λ m. take m (rules_of s)) one
