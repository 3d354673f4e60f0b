-- The marks of an expression of some shape.
use Rattle.std.specs.Prelude.{◌&&◌, if◌then◌else◌, List, length}
use Rattle.syntax_tree.specs.Tree.{Expr, place_of}
use Rattle.expr_types.specs.Around.{Around}
use Rattle.expr_types.specs.Judge.{type_of}
use Rattle.spec_meaning.specs.Shape.{Shape}
use Rattle.spec_meaning.specs.Makes.{is_choice, choice_operands}
use Rattle.equation_marks.specs.Marks.{Mark, own_marks, choice_own_marks, holds_aggregate}

-- besides those of its parts
abbrev pub marks_of_shape : Around → Expr → Shape → List Mark
marks_of_shape at e sh =
    if is_choice e && holds_aggregate (type_of at e) then choice_own_marks (place_of e) (length sh.parts) (choice_operands e)
    else own_marks (place_of e) sh.construct (length sh.parts)
