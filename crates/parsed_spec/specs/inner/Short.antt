-- Texts of a specification that are as short as the lexer lets them be.
use Rattle.std.specs.Prelude.{ℕ, ◌≤◌, List, length}
use Rattle.std.specs.List.{Contains}
use Rattle.tsl_value.specs.declared.place.Place.{Place}
use Rattle.tsl_value.specs.declared.limits.TheConstants.{MOST_TEXT_BYTES}
use Rattle.syntax_tree.specs.Tree as tree
use Rattle.name_check.specs.Bodies.{Seen, item_bodies}
use Rattle.name_check.specs.Parts.{Operand, parts}
use Rattle.name_check.specs.Scope.{top}

-- each text that stands in a body has at most 65,536 bytes
pub record HaveShortTexts (items : List tree.Item) : Type 0 where
  pub each :
      (item : tree.Item) (seen : Seen) (p : Place) (text : List ℕ) →
      Contains items item →
      Contains (item_bodies (top items) item) seen →
      Contains (parts seen.expr) (Operand (tree.Text p text)) →
      length text ≤ MOST_TEXT_BYTES
