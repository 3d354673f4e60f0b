-- What groups of operations make of the events of their arguments.
use Rattle.std.specs.Prelude.{Bool, true, false, if◌then◌else◌, List, Option, None, is_some, Ok}
use Rattle.std.specs.List.{list_any, list_all}
use Rattle.tsl_value.specs.View.{View}
use Rattle.lift_func.specs.Apply.{Answer, apply}
use Rattle.lift_func.specs.BodyTree.{BodyTree}

-- the values of a lift count: all of them are there, or one of them is
abbrev pub counts : Bool → List (Option View) → Bool
counts true values = list_all is_some values
counts false values = list_any is_some values

abbrev pub lift_answer : BodyTree → Bool → List (Option View) → Answer
lift_answer body strict values = if counts strict values then apply body values else Ok None
