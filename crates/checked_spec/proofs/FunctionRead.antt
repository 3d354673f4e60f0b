-- What the parts of a typed expression are.
use Rattle.std.proofs.Common.{◌≡◌, suc, List, [], ◌∷◌, length, Option, Some, None, refl, ap, sym, ◌∙◌}
use Rattle.std.specs.Prelude.{Ok, Err}
use Rattle.std.specs.Option.{option_map}
use Rattle.std.proofs.lemmas.Option.{same_Some, none-some}
use Rattle.syntax_tree.specs.Tree.{Exprs, no_exprs, more_exprs}
use Rattle.type_rules.specs.declared.rule.ExprType.{ExprType}
use Rattle.type_rules.specs.Asked.{Verdict}
use Rattle.form_check.specs.Arity.{count}
use Rattle.expr_types.specs.Around.{Around, cons}
use Rattle.expr_types.specs.Judge.{allowed, with_one, with_two, with_three, is_just, of_verdict, type_of, types_of}

pub allowed_is : (v : Verdict) (u : ExprType) → allowed v ≡ Some u → v ≡ Ok u
allowed_is (Ok t) u h = ap Ok (same_Some t u h)
allowed_is (Err clash) u h = absurd (none-some u h)

pub verdict_is : (v : Option Verdict) (u : ExprType) → of_verdict v ≡ Some u → v ≡ Some (Ok u)
verdict_is (Some v) u h = ap (λ w. Some w) (allowed_is v u h)
verdict_is None u h = absurd (none-some u h)

pub just_is : (x : Option ExprType) (u : ExprType) → of_verdict (is_just x) ≡ Some u → x ≡ Some u
just_is (Some a) u h = h
just_is None u h = absurd (none-some u h)

pub record IsOne (rule : ExprType → Verdict) (x : Option ExprType) (u : ExprType) : Type 0 where
  pub a : ExprType
  pub is : x ≡ Some a
  pub allows : rule a ≡ Ok u

pub one_part : (rule : ExprType → Verdict) (x : Option ExprType) (u : ExprType) → of_verdict (with_one rule x) ≡ Some u → IsOne rule x u
one_part rule (Some a) u h = record { a = a; is = refl; allows = allowed_is (rule a) u h }
one_part rule None u h = absurd (none-some u h)

pub record AreTwo (rule : ExprType → ExprType → Verdict) (x y : Option ExprType) (u : ExprType) : Type 0 where
  pub a : ExprType
  pub b : ExprType
  pub first : x ≡ Some a
  pub second : y ≡ Some b
  pub allows : rule a b ≡ Ok u

pub two_parts : (rule : ExprType → ExprType → Verdict) (x y : Option ExprType) (u : ExprType) → of_verdict (with_two rule x y) ≡ Some u → AreTwo rule x y u
two_parts rule (Some a) (Some b) u h = record { a = a; b = b; first = refl; second = refl; allows = allowed_is (rule a b) u h }
two_parts rule (Some a) None u h = absurd (none-some u h)
two_parts rule None y u h = absurd (none-some u h)

pub record AreThree (rule : ExprType → ExprType → ExprType → Verdict) (x y z : Option ExprType) (u : ExprType) : Type 0 where
  pub a : ExprType
  pub b : ExprType
  pub c : ExprType
  pub first : x ≡ Some a
  pub second : y ≡ Some b
  pub third : z ≡ Some c
  pub allows : rule a b c ≡ Ok u

pub three_parts : (rule : ExprType → ExprType → ExprType → Verdict) (x y z : Option ExprType) (u : ExprType) → of_verdict (with_three rule x y z) ≡ Some u → AreThree rule x y z u
three_parts rule (Some a) (Some b) (Some c) u h = record { a = a; b = b; c = c; first = refl; second = refl; third = refl; allows = allowed_is (rule a b c) u h }
three_parts rule (Some a) (Some b) None u h = absurd (none-some u h)
three_parts rule (Some a) None z u h = absurd (none-some u h)
three_parts rule None y z u h = absurd (none-some u h)

-- ---- arguments
pub record AreArguments (rule : List ExprType → Verdict) (x : Option (List ExprType)) (u : ExprType) : Type 0 where
  pub args : List ExprType
  pub are : x ≡ Some args
  pub allows : rule args ≡ Ok u

pub arguments_are : (rule : List ExprType → Verdict) (x : Option (List ExprType)) (u : ExprType) → of_verdict (option_map rule x) ≡ Some u → AreArguments rule x u
arguments_are rule (Some args) u h = record { args = args; are = refl; allows = allowed_is (rule args) u h }
arguments_are rule None u h = absurd (none-some u h)

pub record IsCons (x : Option ExprType) (xs : Option (List ExprType)) (args : List ExprType) : Type 0 where
  pub a : ExprType
  pub rest : List ExprType
  pub first : x ≡ Some a
  pub more : xs ≡ Some rest
  pub are : args ≡ a ∷ rest

pub cons_is : (x : Option ExprType) (xs : Option (List ExprType)) (args : List ExprType) → cons x xs ≡ Some args → IsCons x xs args
cons_is (Some a) (Some rest) args h = record { a = a; rest = rest; first = refl; more = refl; are = sym (same_Some (a ∷ rest) args h) }
cons_is (Some a) None args h = absurd (none-some args h)
cons_is None xs args h = absurd (none-some args h)

pub types_count : (at : Around) (es : Exprs) (args : List ExprType) → types_of at es ≡ Some args → length args ≡ count es
types_count at no_exprs args h = ap length (sym (same_Some [] args h))
types_count at (more_exprs e es) args h =
    let c = cons_is (type_of at e) (types_of at es) args h in
    ap length c.are ∙ ap suc (types_count at es c.rest c.more)
