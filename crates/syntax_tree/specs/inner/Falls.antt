-- A part is smaller than the whole.
use Rattle.std.specs.Prelude.{◌+◌, ◌≤◌, List, [], ◌∷◌}
use Rattle.std.proofs.Common.{arith}
use denote.Param.Weighed.{most}
use Rattle.tsl_value.specs.declared.place.Place.{Place}
use Rattle.syntax_tree.specs.Tree.{Expr}
use Rattle.syntax_tree.specs.declared.tree.Link.{Link}
use Rattle.syntax_tree.specs.inner.OneLevel.{aggregate_in, type_of, size_of_type, size_of_aggregate, expr_of, exprs_of, links_in, size_of}
use Rattle.syntax_tree.specs.inner.OneLevel.{size_of_exprs, size_of_links}
use Rattle.syntax_tree.specs.declared.tree.TypeShape.{TypeShape}
use Rattle.syntax_tree.specs.declared.tree.TypeShape.TheVariants as shape
use Rattle.syntax_tree.specs.declared.tree.Aggregate.{Aggregate}
use Rattle.syntax_tree.specs.declared.tree.Aggregate.TheVariants as aggregate
use Rattle.syntax_tree.specs.declared.tree.TypeName.TheDeep.{deep-TypeShape, deep-Aggregate}
use Rattle.syntax_tree.specs.Tree as tree
use Rattle.syntax_tree.specs.inner.OneLevel.{body_of, definition_of, definitions_of, size_of_definition, size_of_body, size_of_definitions}
use Rattle.syntax_tree.specs.declared.tree.Body.{Body}
use Rattle.syntax_tree.specs.declared.tree.Body.TheVariants as body
use Rattle.syntax_tree.specs.declared.tree.DefinitionParts.{DefinitionParts}
use Rattle.syntax_tree.specs.declared.tree.Definition.TheDeep.{deep-DefinitionParts, deep-Body}
use Rattle.syntax_tree.specs.declared.tree.Node.{Node}
use Rattle.syntax_tree.specs.declared.tree.Node.TheVariants as node
use Rattle.syntax_tree.specs.declared.tree.Expr.TheDeep.{deep-Node, deep-Link}

pub aggregate_falls : (a : Aggregate) → deep-Aggregate a ≤ size_of_aggregate (aggregate_in a)
aggregate_falls (aggregate.Set y) = omega arith
aggregate_falls (aggregate.Map x y) = omega arith
aggregate_falls (aggregate.Queue y) = omega arith

pub type_falls : (p : Place) (s : TypeShape) → deep-TypeShape s ≤ size_of_type (type_of p s)
type_falls p shape.Unit = omega arith
type_falls p shape.Int = omega arith
type_falls p shape.Bool = omega arith
type_falls p shape.Text = omega arith
type_falls p (shape.Aggregate a) = omega (arith, aggregate_falls a)
type_falls p (shape.Option y) = omega arith
type_falls p (shape.Events y) = omega arith

pub most_exprs : (es : List Expr) → most (λ e. size_of e + 1) es ≤ size_of_exprs (exprs_of es)
most_exprs [] = omega arith
most_exprs (e ∷ es) = omega (arith, most_exprs es)

pub most_links : (ls : List Link) → most deep-Link ls ≤ size_of_links (links_in ls)
most_links [] = omega arith
most_links (l ∷ ls) = omega (arith, most_links ls)

pub node_falls : (p : Place) (n : Node) → deep-Node n ≤ size_of (expr_of p n)
node_falls p (node.If c a b) = omega arith
node_falls p (node.Chain l e ls) = omega (arith, most_links ls.items)
node_falls p (node.Compare o a b) = omega arith
node_falls p (node.Negate e) = omega arith
node_falls p (node.Not e) = omega arith
node_falls p (node.Number n) = omega arith
node_falls p (node.Negative n) = omega arith
node_falls p (node.Text t) = omega arith
node_falls p (node.Boolean b) = omega arith
node_falls p node.Unit = omega arith
node_falls p (node.Name n) = omega arith
node_falls p (node.Call n es) = omega (arith, most_exprs es.items)
node_falls p (node.CallDotted d es) = omega (arith, most_exprs es.items)
node_falls p (node.Nil y) = omega arith
node_falls p (node.None y) = omega arith
node_falls p (node.Empty a) = omega arith

pub most_definitions : (ds : List tree.Definition) → most (λ d. size_of_definition d + 1) ds ≤ size_of_definitions (definitions_of ds)
most_definitions [] = omega arith
most_definitions (d ∷ ds) = omega (arith, most_definitions ds)

pub body_falls : (b : Body) → deep-Body b ≤ size_of_body (body_of b)
body_falls (body.Plain e) = omega arith
body_falls (body.Block ds e) = omega (arith, most_definitions ds.items)

pub definition_falls : (d : DefinitionParts) → deep-DefinitionParts d ≤ size_of_definition (definition_of d)
definition_falls d = omega (arith, body_falls d.body)
