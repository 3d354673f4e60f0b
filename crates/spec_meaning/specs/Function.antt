-- Value functions as bodies: a call of another value function stands for its body with the arguments in the place of the parameters.
use Rattle.std.specs.Prelude.{ℕ, zero, suc, pos, neg_ℤ, List, [], ◌∷◌, length, Option, Some, None}
use Rattle.std.specs.Prelude.{slice_get, slice_index_or}
use Rattle.std.specs.Option.{option_map_or}
use Rattle.tsl_value.specs.declared.scalar.Scalar.{Scalar}
use Rattle.tsl_value.specs.declared.scalar.Scalar.TheVariants as scalar
use Rattle.tsl_value.specs.declared.scalar.ValueType.{ValueType}
use Rattle.tsl_value.specs.declared.operation.Unary.TheVariants as unary
use Rattle.tsl_value.specs.declared.operation.Binary.{Binary}
use Rattle.tsl_value.specs.declared.operation.Binary.TheVariants as binary
use Rattle.lift_func.specs.BodyTree.{BodyTree, Literal, Argument, Absent, One, Two, Choice}
use Rattle.syntax_tree.specs.Tree as tree
use Rattle.syntax_tree.specs.Tree.{Expr, Exprs, no_exprs, more_exprs, Links, no_links, more_links}
use Rattle.syntax_tree.specs.declared.tree.Operator.{Operator}
use Rattle.syntax_tree.specs.declared.tree.Operator.TheVariants as operator
use Rattle.syntax_tree.specs.declared.tree.Comparison.{Comparison}
use Rattle.syntax_tree.specs.declared.tree.Comparison.TheVariants as comparison
use Rattle.vocabulary.specs.declared.dotted.Dotted.{Dotted}
use Rattle.vocabulary.specs.declared.signature.Role.{Role}
use Rattle.vocabulary.specs.declared.signature.Role.TheVariants as role
use Rattle.vocabulary.specs.Table.{role_of}
use Rattle.vocabulary.specs.PlainTable.{plain_role, entries, look_up}
use Rattle.name_check.specs.declared.declaration.Declaration.{Declaration}
use Rattle.name_check.specs.declared.declaration.Declaration.TheVariants as declaration
use Rattle.name_check.specs.Scope.{Scope, top, inside, meaning}
use Rattle.type_rules.specs.Written.{value_of}
use Rattle.spec_meaning.specs.Occurrence.{body_of, result_of}
use Rattle.syntax_tree.specs.Tree.{params_of}

-- ---- what is written as one
-- the value of a literal
abbrev pub literal : Expr → Option Scalar
literal (tree.Number p n) = Some (scalar.Int (pos n))
literal (tree.Negative p n) = Some (scalar.Int (neg_ℤ (pos n)))
literal (tree.Text p t) = Some (scalar.Text t)
literal (tree.Boolean p b) = Some (scalar.Bool b)
literal e = None

-- the operations of operators and comparisons
abbrev pub operation_of : Operator → Binary
operation_of operator.Or = binary.Or
operation_of operator.And = binary.And
operation_of operator.Add = binary.Add
operation_of operator.Subtract = binary.Sub
operation_of operator.Multiply = binary.Mul
operation_of operator.Divide = binary.Div
operation_of operator.Remainder = binary.Rem

abbrev pub comparison_of : Comparison → Binary
comparison_of comparison.Same = binary.Eq
comparison_of comparison.Differs = binary.Ne
comparison_of comparison.AtMost = binary.Le
comparison_of comparison.AtLeast = binary.Ge
comparison_of comparison.Below = binary.Lt
comparison_of comparison.Above = binary.Gt

-- what stands for an expression that no value function has
abbrev pub no_tree : BodyTree
no_tree = Literal scalar.Unit

-- what a function with a dot is, at as many operands as its operation has; an update is an operation of streams alone
abbrev pub role_tree : Role → List BodyTree → BodyTree
role_tree (role.Unary o) (a ∷ []) = One o a
role_tree (role.Binary o) (a ∷ b ∷ []) = Two o a b
role_tree r ts = no_tree

abbrev pub dotted_tree : Dotted → List BodyTree → BodyTree
dotted_tree d ts = role_tree (role_of d) ts

-- the operations on options
abbrev pub option_tree : List ℕ → BodyTree → BodyTree
option_tree n a = option_map_or (λ r. role_tree r (a ∷ [])) (look_up (entries plain_role) n) no_tree

abbrev pub absent : Option ValueType → BodyTree
absent None = no_tree
absent (Some t) = Absent t

-- ---- the tree of an expression, where parameters have these trees and a call of item i at trees is `call i`
module _ (scope : Scope) (args : List BodyTree) (call : ℕ → List BodyTree → BodyTree) where
  abbrev pub named_tree : Option Declaration → BodyTree
  named_tree (Some (declaration.Parameter k)) = slice_index_or args k no_tree
  named_tree d = no_tree

  abbrev pub call_tree : Option Declaration → List ℕ → List BodyTree → BodyTree
  call_tree (Some (declaration.Function i)) n ts = call i ts
  call_tree None n (a ∷ []) = option_tree n a
  call_tree d n ts = no_tree

  abbrev mutual
    pub tree_of : Expr → BodyTree
    tree_of (tree.If p c a b) = Choice (tree_of c) (tree_of a) (tree_of b)
    tree_of (tree.Chain p l e ls) = chain_tree (tree_of e) ls
    tree_of (tree.Compare p o a b) = Two (comparison_of o) (tree_of a) (tree_of b)
    tree_of (tree.Negate p e) = One unary.Neg (tree_of e)
    tree_of (tree.Not p e) = One unary.Not (tree_of e)
    tree_of (tree.Number p n) = Literal (scalar.Int (pos n))
    tree_of (tree.Negative p n) = Literal (scalar.Int (neg_ℤ (pos n)))
    tree_of (tree.Text p t) = Literal (scalar.Text t)
    tree_of (tree.Boolean p b) = Literal (scalar.Bool b)
    tree_of (tree.Unit p) = Literal scalar.Unit
    tree_of (tree.Name p n) = named_tree (meaning scope n)
    tree_of (tree.Call p n es) = call_tree (meaning scope n) n (trees_of es)
    tree_of (tree.CallDotted p d es) = dotted_tree d (trees_of es)
    tree_of (tree.Nil p y) = no_tree
    tree_of (tree.None p y) = absent (value_of y)
    tree_of (tree.Empty p a) = no_tree

    pub trees_of : Exprs → List BodyTree
    trees_of no_exprs = []
    trees_of (more_exprs e es) = tree_of e ∷ trees_of es

    -- the operators of a chain group to the left
    pub chain_tree : BodyTree → Links → BodyTree
    chain_tree t no_links = t
    chain_tree t (more_links o e ls) = chain_tree (Two (operation_of o) t (tree_of e)) ls

  abbrev pub body_tree : Option tree.Body → BodyTree
  body_tree None = no_tree
  body_tree (Some b) = tree_of (result_of b)

-- The body of value function i where its parameters have these trees. Calls nest no deeper than the number says.
abbrev pub function_tree : List tree.Item → ℕ → ℕ → List BodyTree → BodyTree
function_tree items zero i args = no_tree
function_tree items (suc deep) i args =
    body_tree (inside (top items) (params_of (slice_get items i))) args (function_tree items deep) (body_of (slice_get items i))

-- Value function i at operands. Where no function calls itself, calls nest no deeper than there are items.
abbrev pub function_at : List tree.Item → ℕ → List BodyTree → BodyTree
function_at items i operands = function_tree items (length items) i operands

-- the arguments of a body, as many as a list has, the first of which has this number
abbrev pub arguments_from : {A : Type 0} → ℕ → List A → List BodyTree
arguments_from k [] = []
arguments_from k (x ∷ xs) = Argument k ∷ arguments_from (suc k) xs

-- the body of value function i over its parameters
abbrev pub function_body : List tree.Item → ℕ → BodyTree
function_body items i = function_at items i (arguments_from 0 (params_of (slice_get items i)))
