-- What the arguments of a typed expression are, and streams among them.
use Rattle.std.proofs.Common.{◌≡◌, List, [], ◌∷◌, Option, Some, None, ap, sym, subst, ◌∙◌}
use Rattle.std.specs.Option.{option_map}
use Rattle.std.proofs.lemmas.Option.{same_Some, none-some}
use Rattle.tsl_value.specs.declared.scalar.ValueType.{ValueType}
use Rattle.syntax_tree.specs.Tree.{Expr, Exprs, no_exprs, more_exprs}
use Rattle.type_rules.specs.declared.rule.ExprType.{ExprType}
use Rattle.type_rules.specs.declared.rule.ExprType.TheVariants as expr_type
use Rattle.type_rules.specs.Asked.{inner, unit}
use Rattle.expr_types.specs.Around.{Around}
use Rattle.expr_types.specs.Judge.{is_just, of_verdict, type_of, types_of}
use Rattle.spec_meaning.specs.Shape.{expressions}
use Rattle.checked_spec.proofs.FunctionRead.{cons_is}

-- expressions, each of its type
abbrev pub AreTyped : Around → List Expr → List ExprType → Type 0
AreTyped at [] [] = Unit {0}
AreTyped at (e ∷ es) (a ∷ args) = (type_of at e ≡ Some a) × AreTyped at es args
AreTyped at _ _ = ⊥

pub types_are : (at : Around) (es : Exprs) (args : List ExprType) → types_of at es ≡ Some args → AreTyped at (expressions es) args
types_are at no_exprs [] h = tt
types_are at no_exprs (a ∷ args) h = (cc)
types_are at (more_exprs e es) args h =
    let c = cons_is (type_of at e) (types_of at es) args h in
    typed args c.are (c.first, types_are at es c.rest c.more)
  where
    typed : {a : ExprType} {rest : List ExprType} (args : List ExprType) → args ≡ a ∷ rest → (type_of at e ≡ Some a) × AreTyped at (expressions es) rest → AreTyped at (e ∷ expressions es) args
    typed args are both = subst (AreTyped at (e ∷ expressions es)) (sym are) both

-- ---- streams
pub inner_is : (x : Option ExprType) (t u : ValueType) → x ≡ Some (expr_type.Stream t) → x ≡ Some (expr_type.Stream u) → t ≡ u
inner_is x t u h k = ap within (sym h ∙ k)
  where
    within : Option ExprType → ValueType
    within (Some v) = inner v
    within None = unit

pub just_stream : (o : Option ValueType) (t : ValueType) → of_verdict (is_just (option_map expr_type.Stream o)) ≡ Some (expr_type.Stream t) → o ≡ Some t
just_stream (Some v) t h = ap (λ w. Some w) (ap inner (same_Some (expr_type.Stream v) (expr_type.Stream t) h))
just_stream None t h = absurd (none-some (expr_type.Stream t) h)
