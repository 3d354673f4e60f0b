-- What the definitions say of some expressions.
use Rattle.std.proofs.Common.{◌≡◌, true, [], ◌∷◌, Some, None, codes, refl}
use Rattle.tsl_value.specs.declared.place.Place.{Place}
use Rattle.syntax_tree.specs.Tree as tree
use Rattle.syntax_tree.specs.declared.tree.Level.TheVariants as level
use Rattle.syntax_tree.specs.declared.tree.Operator.TheVariants as operator
use Rattle.name_check.specs.Builtin.{is_unit}
use Rattle.type_rules.specs.declared.rule.ExprType.TheVariants as expr_type
use Rattle.type_rules.specs.declared.rule.Setting.TheVariants as setting
use Rattle.type_rules.specs.declared.rule.Asked.TheVariants as asked
use Rattle.type_rules.specs.Asked.{int, bool}
use Rattle.expr_types.specs.declared.wrong.Wrong.TheVariants as wrong
use Rattle.expr_types.specs.Around.{Around}
use Rattle.expr_types.specs.Judge.{type_of, wrongs}

-- nothing is declared
abbrev alone : Around
alone = record {
  items = [];
  kinds = record { item = λ i. None; local = λ i k. None };
  scope = [];
  setting = setting.Streams;
  number = 0;
  params = [];
}

abbrev at : Place
at = record { line = 1; column = 1 }

abbrev here : Place
here = record { line = 1; column = 5 }

abbrev there : Place
there = record { line = 1; column = 9 }

-- 1 + 2 is a stream of integers
a_sum : type_of alone (tree.Chain at level.Sum (tree.Number at 1) (tree.more_links operator.Add (tree.Number here 2) tree.no_links)) ≡ Some (expr_type.Stream int)
a_sum = refl

-- 1 + true is refused at its first token
a_wrong_sum : wrongs alone (tree.Chain at level.Sum (tree.Number at 1) (tree.more_links operator.Add (tree.Boolean here true) tree.no_links)) ≡ wrong.Part at (record { have = expr_type.Stream bool; want = asked.Exactly (expr_type.Stream int) }) ∷ []
a_wrong_sum = refl

-- of a + (1 + true) the refusal is inside; a is not known, so that the whole is not judged
a_wrong_part : wrongs alone (tree.Chain at level.Sum (tree.Name at (codes "a")) (tree.more_links operator.Add (tree.Chain here level.Sum (tree.Number here 1) (tree.more_links operator.Add (tree.Boolean there true) tree.no_links)) tree.no_links)) ≡ wrong.Part here (record { have = expr_type.Stream bool; want = asked.Exactly (expr_type.Stream int) }) ∷ []
unfolding is_unit
a_wrong_part = refl
