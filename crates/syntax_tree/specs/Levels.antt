-- The level of a chain at which each operator stands.
use Rattle.syntax_tree.specs.declared.tree.Level.{Level}
use Rattle.syntax_tree.specs.declared.tree.Level.TheVariants as level
use Rattle.syntax_tree.specs.declared.tree.Operator.{Operator}
use Rattle.syntax_tree.specs.declared.tree.Operator.TheVariants as operator

abbrev pub level_of : Operator → Level
level_of operator.Or = level.Disjunction
level_of operator.And = level.Conjunction
level_of operator.Add = level.Sum
level_of operator.Subtract = level.Sum
level_of operator.Multiply = level.Product
level_of operator.Divide = level.Product
level_of operator.Remainder = level.Product
