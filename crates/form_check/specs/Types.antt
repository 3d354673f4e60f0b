-- Written types that may not stand where they do: their places, in the order of the source. What stands in such a type itself is
-- not looked at.
use Rattle.std.specs.Prelude.{List, [], ◌∷◌, ◌++◌, Option, Some, None}
use Rattle.std.specs.List.{flat_map}
use Rattle.tsl_value.specs.declared.place.Place.{Place}
use Rattle.syntax_tree.specs.Tree as tree
use Rattle.syntax_tree.specs.Tree.{Expr, TypeName}
use Rattle.name_check.specs.Parts.{Part, Operand, Function, parts}
use Rattle.type_rules.specs.Written.{bad_in, bad_inside, bad_as_written, bad_as_stream}

-- What is written in one part, without what stands in it. What stands where `lift` has its function is no expression.
abbrev pub bad_in_part : Part → List Place
bad_in_part (Operand (tree.Nil p y)) = bad_inside y
bad_in_part (Operand (tree.None p y)) = bad_inside y
bad_in_part (Operand (tree.Empty p a)) = bad_in a
bad_in_part (Operand e) = []
bad_in_part (Function e) = []

abbrev pub bad_in_expression : Expr → List Place
bad_in_expression e = flat_map bad_in_part (parts e)

-- the written type of what has no parameters
abbrev pub bad_stream : Option TypeName → List Place
bad_stream None = []
bad_stream (Some y) = bad_as_stream y

-- the written type of what has these parameters
abbrev pub bad_written : List tree.Param → Option TypeName → List Place
bad_written ps None = []
bad_written [] (Some y) = bad_as_stream y
bad_written (p ∷ ps) (Some y) = bad_as_written y

abbrev mutual
  pub bad_in_body : tree.Body → List Place
  bad_in_body (tree.Plain e) = bad_in_expression e
  bad_in_body (tree.Block ds e) = bad_in_locals ds ++ bad_in_expression e

  pub bad_in_locals : tree.Definitions → List Place
  bad_in_locals tree.no_definitions = []
  bad_in_locals (tree.more_definitions d ds) = bad_in_local d ++ bad_in_locals ds

  -- a definition of a block, which has no parameters
  pub bad_in_local : tree.Definition → List Place
  bad_in_local (tree.Define q n ps w b) = bad_stream w ++ bad_in_body b

abbrev pub bad_in_params : List tree.Param → List Place
bad_in_params ps = flat_map (λ p. bad_as_written p.of) ps

abbrev pub bad_in_definition : tree.Definition → List Place
bad_in_definition (tree.Define q n ps w b) = bad_in_params ps ++ bad_written ps w ++ bad_in_body b

abbrev pub bad_in_item : tree.Item → List Place
bad_in_item (tree.Input p q n y) = bad_as_stream y
bad_in_item (tree.Defined p d) = bad_in_definition d
bad_in_item (tree.Output p q n) = []
bad_in_item (tree.OutputAs p e q n) = bad_in_expression e

abbrev pub bad_types : List tree.Item → List Place
bad_types items = flat_map bad_in_item items
