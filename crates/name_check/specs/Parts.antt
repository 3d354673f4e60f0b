-- The expressions that stand in an expression, itself first, in the order of the source.
use Rattle.std.specs.Prelude.{List, [], ◌∷◌, ◌++◌, if◌then◌else◌}
use Rattle.tsl_value.specs.declared.place.Place.{Place}
use Rattle.syntax_tree.specs.Tree as tree
use Rattle.syntax_tree.specs.Tree.{Expr, Exprs, no_exprs, more_exprs, Links, no_links, more_links, place_of}
use Rattle.name_check.specs.Builtin.{is_lift}

-- An expression, or what stands where `lift` has the name of its function. That is no expression of its own: what it has in it is
-- not listed.
pub data Part : Type 0 where
  Operand : Expr → Part
  Function : Expr → Part

abbrev mutual
  pub parts : Expr → List Part
  parts (tree.If p c a b) = Operand (tree.If p c a b) ∷ parts c ++ parts a ++ parts b
  parts (tree.Chain p l e ls) = Operand (tree.Chain p l e ls) ∷ parts e ++ link_parts ls
  parts (tree.Compare p o a b) = Operand (tree.Compare p o a b) ∷ parts a ++ parts b
  parts (tree.Negate p e) = Operand (tree.Negate p e) ∷ parts e
  parts (tree.Not p e) = Operand (tree.Not p e) ∷ parts e
  parts (tree.Number p n) = Operand (tree.Number p n) ∷ []
  parts (tree.Negative p n) = Operand (tree.Negative p n) ∷ []
  parts (tree.Text p t) = Operand (tree.Text p t) ∷ []
  parts (tree.Boolean p b) = Operand (tree.Boolean p b) ∷ []
  parts (tree.Unit p) = Operand (tree.Unit p) ∷ []
  parts (tree.Name p n) = Operand (tree.Name p n) ∷ []
  parts (tree.Call p n es) = Operand (tree.Call p n es) ∷ (if is_lift n then lift_parts es else argument_parts es)
  parts (tree.CallDotted p d es) = Operand (tree.CallDotted p d es) ∷ argument_parts es
  parts (tree.Nil p y) = Operand (tree.Nil p y) ∷ []
  parts (tree.None p y) = Operand (tree.None p y) ∷ []
  parts (tree.Empty p a) = Operand (tree.Empty p a) ∷ []

  pub argument_parts : Exprs → List Part
  argument_parts no_exprs = []
  argument_parts (more_exprs e es) = parts e ++ argument_parts es

  -- the last argument of a `lift` names a function
  pub lift_parts : Exprs → List Part
  lift_parts no_exprs = []
  lift_parts (more_exprs e no_exprs) = Function e ∷ []
  lift_parts (more_exprs e (more_exprs f es)) = parts e ++ lift_parts (more_exprs f es)

  pub link_parts : Links → List Part
  link_parts no_links = []
  link_parts (more_links o e ls) = parts e ++ link_parts ls

abbrev pub part_place : Part → Place
part_place (Operand e) = place_of e
part_place (Function e) = place_of e
