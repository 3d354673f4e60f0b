-- One level of a tree.
use Rattle.std.specs.Prelude.{◌≡◌, ℕ, ◌+◌, List, [], ◌∷◌, map, refl}
use Rattle.tsl_value.specs.declared.place.Place.{Place}
use Rattle.syntax_tree.specs.Tree as tree
use Rattle.syntax_tree.specs.Tree.{TypeName, Expr, Exprs, no_exprs, more_exprs, Links, no_links, more_links, place_of}
use Rattle.syntax_tree.specs.declared.tree.TypeShape.{TypeShape}
use Rattle.syntax_tree.specs.declared.tree.TypeShape.TheVariants as shape
use Rattle.syntax_tree.specs.declared.tree.Aggregate.{Aggregate}
use Rattle.syntax_tree.specs.declared.tree.Aggregate.TheVariants as aggregate
use Rattle.syntax_tree.specs.declared.tree.Node.{Node}
use Rattle.syntax_tree.specs.declared.tree.Node.TheVariants as node
use Rattle.syntax_tree.specs.declared.tree.Link.{Link}
use Rattle.syntax_tree.specs.declared.tree.Param.{Param}
use Rattle.syntax_tree.specs.declared.tree.DefinitionParts.{DefinitionParts}
use Rattle.syntax_tree.specs.declared.tree.Body.{Body}
use Rattle.syntax_tree.specs.declared.tree.Body.TheVariants as body
use Rattle.syntax_tree.specs.declared.tree.Item.{Item}
use Rattle.syntax_tree.specs.declared.tree.Item.TheVariants as item
use Rattle.syntax_tree.specs.declared.tree.Tree.{Tree}

abbrev pub aggregate_in : Aggregate → tree.Aggregate
aggregate_in (aggregate.Set y) = tree.SetOf y.value
aggregate_in (aggregate.Map x y) = tree.MapOf x.value y.value
aggregate_in (aggregate.Queue y) = tree.QueueOf y.value

abbrev pub type_of : Place → TypeShape → TypeName
type_of p shape.Unit = tree.UnitType p
type_of p shape.Int = tree.IntType p
type_of p shape.Bool = tree.BoolType p
type_of p shape.Text = tree.TextType p
type_of p (shape.Aggregate a) = tree.AggregateType p (aggregate_in a)
type_of p (shape.Option y) = tree.OptionType p y.value
type_of p (shape.Events y) = tree.EventsType p y.value

abbrev mutual
  pub size_of_type : TypeName → ℕ
  size_of_type (tree.UnitType p) = 1
  size_of_type (tree.IntType p) = 1
  size_of_type (tree.BoolType p) = 1
  size_of_type (tree.TextType p) = 1
  size_of_type (tree.AggregateType p a) = 1 + size_of_aggregate a
  size_of_type (tree.OptionType p y) = 1 + size_of_type y
  size_of_type (tree.EventsType p y) = 1 + size_of_type y

  pub size_of_aggregate : tree.Aggregate → ℕ
  size_of_aggregate (tree.SetOf y) = 1 + size_of_type y
  size_of_aggregate (tree.MapOf x y) = 1 + size_of_type x + size_of_type y
  size_of_aggregate (tree.QueueOf y) = 1 + size_of_type y

abbrev pub exprs_of : List Expr → Exprs
exprs_of [] = no_exprs
exprs_of (e ∷ es) = more_exprs e (exprs_of es)

abbrev pub links_in : List Link → Links
links_in [] = no_links
links_in (l ∷ ls) = more_links l.operator l.operand (links_in ls)

abbrev pub expr_of : Place → Node → Expr
expr_of p (node.If c a b) = tree.If p c.value a.value b.value
expr_of p (node.Chain l e ls) = tree.Chain p l e.value (links_in ls.items)
expr_of p (node.Compare o a b) = tree.Compare p o a.value b.value
expr_of p (node.Negate e) = tree.Negate p e.value
expr_of p (node.Not e) = tree.Not p e.value
expr_of p (node.Number n) = tree.Number p n
expr_of p (node.Negative n) = tree.Negative p n
expr_of p (node.Text t) = tree.Text p t
expr_of p (node.Boolean b) = tree.Boolean p b
expr_of p node.Unit = tree.Unit p
expr_of p (node.Name n) = tree.Name p n
expr_of p (node.Call n es) = tree.Call p n (exprs_of es.items)
expr_of p (node.CallDotted d es) = tree.CallDotted p d (exprs_of es.items)
expr_of p (node.Nil y) = tree.Nil p y
expr_of p (node.None y) = tree.None p y
expr_of p (node.Empty a) = tree.Empty p (aggregate_in a)

pub place_again : (p : Place) (n : Node) → place_of (expr_of p n) ≡ p
place_again p (node.If a b c) = refl
place_again p (node.Chain a b c) = refl
place_again p (node.Compare a b c) = refl
place_again p (node.Negate a) = refl
place_again p (node.Not a) = refl
place_again p (node.Number a) = refl
place_again p (node.Negative a) = refl
place_again p (node.Text a) = refl
place_again p (node.Boolean a) = refl
place_again p node.Unit = refl
place_again p (node.Name a) = refl
place_again p (node.Call a b) = refl
place_again p (node.CallDotted a b) = refl
place_again p (node.Nil a) = refl
place_again p (node.None a) = refl
place_again p (node.Empty a) = refl

abbrev mutual
  pub size_of : Expr → ℕ
  size_of (tree.If p c a b) = 1 + size_of c + size_of a + size_of b
  size_of (tree.Chain p l e ls) = 1 + size_of e + size_of_links ls
  size_of (tree.Compare p o a b) = 1 + size_of a + size_of b
  size_of (tree.Negate p e) = 1 + size_of e
  size_of (tree.Not p e) = 1 + size_of e
  size_of (tree.Number p n) = 1
  size_of (tree.Negative p n) = 1
  size_of (tree.Text p t) = 1
  size_of (tree.Boolean p b) = 1
  size_of (tree.Unit p) = 1
  size_of (tree.Name p n) = 1
  size_of (tree.Call p n es) = 1 + size_of_exprs es
  size_of (tree.CallDotted p d es) = 1 + size_of_exprs es
  size_of (tree.Nil p y) = 1
  size_of (tree.None p y) = 1
  size_of (tree.Empty p a) = 1

  pub size_of_exprs : Exprs → ℕ
  size_of_exprs no_exprs = 1
  size_of_exprs (more_exprs e es) = 1 + size_of e + size_of_exprs es

  pub size_of_links : Links → ℕ
  size_of_links no_links = 1
  size_of_links (more_links o e ls) = 1 + size_of e + size_of_links ls

abbrev pub param_of : Param → tree.Param
param_of p = record { place = p.place; name = p.name; of = p.of }

abbrev pub params_in : List Param → List tree.Param
params_in ps = map param_of ps

abbrev pub definitions_of : List tree.Definition → tree.Definitions
definitions_of [] = tree.no_definitions
definitions_of (d ∷ ds) = tree.more_definitions d (definitions_of ds)

abbrev pub body_of : Body → tree.Body
body_of (body.Plain e) = tree.Plain e
body_of (body.Block ds e) = tree.Block (definitions_of ds.items) e

abbrev pub definition_of : DefinitionParts → tree.Definition
definition_of d = tree.Define d.place d.name (params_in d.params.items) d.written (body_of d.body)

abbrev mutual
  pub size_of_definition : tree.Definition → ℕ
  size_of_definition (tree.Define p n ps w b) = 1 + size_of_body b

  pub size_of_body : tree.Body → ℕ
  size_of_body (tree.Plain e) = 1
  size_of_body (tree.Block ds e) = 1 + size_of_definitions ds

  pub size_of_definitions : tree.Definitions → ℕ
  size_of_definitions tree.no_definitions = 1
  size_of_definitions (tree.more_definitions d ds) = 1 + size_of_definition d + size_of_definitions ds

abbrev pub item_of : Item → tree.Item
item_of (item.Input p q n y) = tree.Input p q n y
item_of (item.Defined p d) = tree.Defined p d
item_of (item.Output p q n) = tree.Output p q n
item_of (item.OutputAs p e q n) = tree.OutputAs p e q n

abbrev pub items_of : Tree → List tree.Item
items_of t = map item_of t.items.items
