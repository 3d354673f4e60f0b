-- Where expressions are typed and where they stand are the same place.
use Rattle.std.specs.Prelude.{◌≡◌, ℕ, List, [], ◌∷◌, Some}
use Rattle.tsl_value.specs.declared.scalar.ValueType.{ValueType}
use Rattle.syntax_tree.specs.Tree as tree
use Rattle.syntax_tree.specs.Tree.{Expr}
use Rattle.name_check.specs.declared.declaration.Declaration.{Declaration}
use Rattle.type_rules.specs.declared.rule.ExprType.TheVariants as expr_type
use Rattle.type_rules.specs.declared.rule.Setting.TheVariants as setting
use Rattle.expr_types.specs.Around.{Around, declared_type}
use Rattle.expr_types.specs.Judge.{type_of}
use Rattle.stream_constructs.specs.declared.construct.Stream.{Stream}
use Rattle.spec_meaning.specs.Occurrence.{scope_at}
use Rattle.spec_meaning.specs.Makes.{Standing, Stands}
use Rattle.checked_spec.specs.inner.Formed.{IsDeclared, IsFormed}
use Rattle.checked_spec.specs.inner.Functions.{AreTypedFunctions}

-- Expressions of streams are typed where they stand, and what is declared has the type of its stream.
pub record Matches (items : List tree.Item) (top : ℕ → Stream) (at : Around) (st : Standing) : Type 0 where
  pub items_are : at.items ≡ items
  pub scope_is : at.scope ≡ scope_at items st.calls
  pub setting_is : at.setting ≡ setting.Streams
  pub types :
      (d : Declaration) (s : Stream) →
      IsDeclared items d →
      Stands items top st d s →
      declared_type at d ≡ Some (expr_type.Stream s.of)

-- an expression is a stream of this type, where it stands
pub record IsTypedAt (items : List tree.Item) (top : ℕ → Stream) (at : Around) (st : Standing) (e : Expr) (t : ValueType) : Type 0 where
  pub matches : Matches items top at st
  pub functions : AreTypedFunctions items at.kinds
  pub formed : IsFormed items at.scope e
  pub is : type_of at e ≡ Some (expr_type.Stream t)

-- streams, each of the type of its expression
abbrev pub HaveTheirTypes : Around → List Expr → List Stream → Type 0
HaveTheirTypes at [] [] = Unit {0}
HaveTheirTypes at (e ∷ es) (s ∷ ss) = (type_of at e ≡ Some (expr_type.Stream s.of)) × HaveTheirTypes at es ss
HaveTheirTypes at _ _ = ⊥
