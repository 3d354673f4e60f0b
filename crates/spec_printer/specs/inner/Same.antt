-- The same trees, places aside: they are equal once each place is forgotten.
use Rattle.std.specs.Prelude.{◌≡◌, List, map, Option, Some, None}
use Rattle.tsl_value.specs.declared.place.Place.{Place}
use Rattle.syntax_tree.specs.Tree as tree
use Rattle.syntax_tree.specs.Tree.{TypeName, Aggregate, Expr, Exprs, no_exprs, more_exprs, Links, no_links, more_links, Param, Body}
use Rattle.syntax_tree.specs.Tree.{Definition}
use Rattle.syntax_tree.specs.Tree.{Definitions, no_definitions, more_definitions, Item}

abbrev pub nowhere : Place
nowhere = record { line = 0; column = 0 }

abbrev mutual
  pub bare_type : TypeName → TypeName
  bare_type (tree.UnitType p) = tree.UnitType nowhere
  bare_type (tree.IntType p) = tree.IntType nowhere
  bare_type (tree.BoolType p) = tree.BoolType nowhere
  bare_type (tree.TextType p) = tree.TextType nowhere
  bare_type (tree.AggregateType p a) = tree.AggregateType nowhere (bare_aggregate a)
  bare_type (tree.OptionType p y) = tree.OptionType nowhere (bare_type y)
  bare_type (tree.EventsType p y) = tree.EventsType nowhere (bare_type y)

  pub bare_aggregate : Aggregate → Aggregate
  bare_aggregate (tree.SetOf y) = tree.SetOf (bare_type y)
  bare_aggregate (tree.MapOf x y) = tree.MapOf (bare_type x) (bare_type y)
  bare_aggregate (tree.QueueOf y) = tree.QueueOf (bare_type y)

abbrev mutual
  pub bare : Expr → Expr
  bare (tree.If p c a b) = tree.If nowhere (bare c) (bare a) (bare b)
  bare (tree.Chain p l e ls) = tree.Chain nowhere l (bare e) (bare_links ls)
  bare (tree.Compare p o a b) = tree.Compare nowhere o (bare a) (bare b)
  bare (tree.Negate p e) = tree.Negate nowhere (bare e)
  bare (tree.Not p e) = tree.Not nowhere (bare e)
  bare (tree.Number p n) = tree.Number nowhere n
  bare (tree.Negative p n) = tree.Negative nowhere n
  bare (tree.Text p t) = tree.Text nowhere t
  bare (tree.Boolean p b) = tree.Boolean nowhere b
  bare (tree.Unit p) = tree.Unit nowhere
  bare (tree.Name p n) = tree.Name nowhere n
  bare (tree.Call p n es) = tree.Call nowhere n (bare_exprs es)
  bare (tree.CallDotted p d es) = tree.CallDotted nowhere d (bare_exprs es)
  bare (tree.Nil p y) = tree.Nil nowhere (bare_type y)
  bare (tree.None p y) = tree.None nowhere (bare_type y)
  bare (tree.Empty p a) = tree.Empty nowhere (bare_aggregate a)

  pub bare_exprs : Exprs → Exprs
  bare_exprs no_exprs = no_exprs
  bare_exprs (more_exprs e es) = more_exprs (bare e) (bare_exprs es)

  pub bare_links : Links → Links
  bare_links no_links = no_links
  bare_links (more_links o e ls) = more_links o (bare e) (bare_links ls)

abbrev pub bare_param : Param → Param
bare_param p = record { place = nowhere; name = p.name; of = bare_type p.of }

abbrev pub bare_written : Option TypeName → Option TypeName
bare_written None = None
bare_written (Some y) = Some (bare_type y)

abbrev mutual
  pub bare_body : Body → Body
  bare_body (tree.Plain e) = tree.Plain (bare e)
  bare_body (tree.Block ds e) = tree.Block (bare_definitions ds) (bare e)

  pub bare_definition : Definition → Definition
  bare_definition (tree.Define p n ps w b) = tree.Define nowhere n (map bare_param ps) (bare_written w) (bare_body b)

  pub bare_definitions : Definitions → Definitions
  bare_definitions no_definitions = no_definitions
  bare_definitions (more_definitions d ds) = more_definitions (bare_definition d) (bare_definitions ds)

abbrev pub bare_item : Item → Item
bare_item (tree.Input p q n y) = tree.Input nowhere nowhere n (bare_type y)
bare_item (tree.Defined p d) = tree.Defined nowhere (bare_definition d)
bare_item (tree.Output p q n) = tree.Output nowhere nowhere n
bare_item (tree.OutputAs p e q n) = tree.OutputAs nowhere (bare e) nowhere n

abbrev pub AreSame : List Item → List Item → Type 0
AreSame a b = map bare_item a ≡ map bare_item b
