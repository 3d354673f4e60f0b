-- Parts of expressions, without where these lie in memory.
use Rattle.std.specs.Prelude.{List, [], ◌∷◌, map}
use Rattle.tsl_value.specs.declared.place.Place.{Place}
use Rattle.syntax_tree.specs.Tree.{Expr}
use Rattle.name_check.specs.Parts as spec
use Rattle.name_check.specs.Parts.{parts}
use Rattle.name_check.specs.declared.parts.Part.{Part}
use Rattle.name_check.specs.declared.parts.Part.TheVariants as part

abbrev pub part_of : Part → spec.Part
part_of (part.Operand e) = spec.Operand e.now
part_of (part.Function e) = spec.Function e.now

abbrev pub parts_in : List Part → List spec.Part
parts_in ps = map part_of ps

-- a place for what stands at none
abbrev pub nowhere : Place
nowhere = record { line = 1; column = 1 }

abbrev pub after_the_first : List spec.Part → List spec.Part
after_the_first [] = []
after_the_first (p ∷ ps) = ps

-- what stands in an expression, without itself
abbrev pub inner_parts : Expr → List spec.Part
inner_parts e = after_the_first (parts e)
