-- What holds of the equations of each construct holds of all that an expression makes.
use Rattle.std.proofs.Common.{◌≡◌, ℕ, ◌+◌, List, ◌++◌, length, Some, sym, subst}
use Rattle.std.specs.List.{AllByRecursion}
use Rattle.tsl_value.specs.declared.place.Place.{Place}
use Rattle.tsl_value.specs.declared.scalar.ValueType.{ValueType}
use Rattle.flat_core.specs.declared.equation.Equation.{Equation}
use Rattle.flat_core.proofs.Members.{all_append}
use Rattle.stream_constructs.specs.declared.construct.Stream.{Stream}
use Rattle.stream_constructs.specs.Construct.{Operand}
use Rattle.stream_constructs.specs.Equations.{own_equations, choice_equations, alias_equation}
use Rattle.syntax_tree.specs.Tree as tree
use Rattle.syntax_tree.specs.Tree.{Expr, place_of}
use Rattle.type_rules.specs.Kinds.{Kinds}
use Rattle.spec_meaning.specs.Makes as makes
use Rattle.spec_meaning.specs.Makes.{Standing, Makes, MakesAll, MakesBody, MakesBlock, occurrence, choice_operands}
use Rattle.spec_meaning.specs.Shape.{Shape, shape}

module _ (items : List tree.Item) (kinds : Kinds) (top : ℕ → Stream) (P : Equation → Type 0) where
  abbrev AllHold : List Equation → Type 0
  AllHold es = AllByRecursion P es

  -- it holds of the equations of constructs, of choices between aggregates, and of names as definitions
  pub record HoldsOfEach : Type 0 where
    pub own :
        (at : Standing) (e : Expr) (sh : Shape) (parts : List Stream) (n : ℕ) (of : ValueType)
        → shape items (occurrence items top at e) ≡ Some sh
        → AllHold (own_equations (place_of e) of n sh.construct parts)
    pub choice : (p : Place) (of : ValueType) (n : ℕ) (os : List Operand) (parts : List Stream) → AllHold (choice_equations p of n os parts)
    pub alias : (p : Place) (a : Stream) → P (alias_equation p a)

  joined : (xs ys all : List Equation) → all ≡ xs ++ ys → AllHold xs → AllHold ys → AllHold all
  joined xs ys all is first second = subst AllHold (sym is) (all_append P xs ys first second)

  module _ (each : HoldsOfEach) where
    mutual
      pub all_made : {at : Standing} {e : Expr} {n : ℕ} {made : List Equation} {s : Stream} → Makes items kinds top at e n made s → AllHold made
      all_made (makes.Makes.name d known is stands) = tt
      all_made (makes.Makes.chain inner) = all_made inner
      all_made (makes.Makes.own {at = at} {e = e} {n = n} sh parts before after {of = of} is own other inner written fits after_is made_is s_is) =
          joined before after _ made_is (each_made inner) (subst AllHold (sym after_is) (each.own at e sh _ _ of is))
      all_made (makes.Makes.choice {e = e} {n = n} sh parts before after {of = of} is chooses inner fits after_is made_is s_is) =
          joined before after _ made_is (each_made inner) (subst AllHold (sym after_is) (each.choice (place_of e) of (n + length before) (choice_operands e) parts))
      all_made (makes.Makes.call i params locals b before block after called is body first local inner result made_is) =
          joined (before ++ block) after _ made_is (all_append P before block (each_made first) (block_made inner)) (body_made result)

      each_made : {at : Standing} {es : List Expr} {n : ℕ} {made : List Equation} {ss : List Stream} → MakesAll items kinds top at es n made ss → AllHold made
      each_made makes.MakesAll.no_part = tt
      each_made (makes.MakesAll.part first rest one others made_is) = joined first rest _ made_is (all_made one) (each_made others)

      pub body_made : {at : Standing} {e : Expr} {n : ℕ} {made : List Equation} {s : Stream} → MakesBody items kinds top at e n made s → AllHold made
      body_made (makes.MakesBody.plain no_name inner) = all_made inner
      body_made (makes.MakesBody.alias a is_name inner made_is s_is) = subst AllHold (sym made_is) (each.alias _ a, tt)

      block_made : {at : Standing} {ds : tree.Definitions} {n : ℕ} {made : List Equation} {ss : List Stream} → MakesBlock items kinds top at ds n made ss → AllHold made
      block_made makes.MakesBlock.no_definition = tt
      block_made (makes.MakesBlock.definition first rest one others made_is) = joined first rest _ made_is (body_made one) (block_made others)
