-- Functions with a dot at a number of operands that they do not take.
use Rattle.std.proofs.Common.{◌≡◌, ℕ, suc, List, [], ◌∷◌, Result, refl, sym, ap, subst, ◌∙◌}
use Rattle.std.specs.Prelude.{IfOk}
use Rattle.lift_func.specs.BodyTree.{BodyTree, Literal, Argument}
use Rattle.syntax_tree.specs.Tree.{Expr}
use Rattle.vocabulary.specs.declared.dotted.Dotted.{Dotted}
use Rattle.vocabulary.specs.declared.signature.Role.{Role}
use Rattle.vocabulary.specs.declared.signature.Role.TheVariants as role
use Rattle.vocabulary.specs.Table.{role_of}
use Rattle.spec_meaning.specs.Function.{dotted_tree, role_tree, literal, no_tree}
use Rattle.spec_meaning.specs.Shape.{operand, operands}
use Rattle.stream_constructs.specs.Construct.{Operand, Fixed, Varying, operand_trees}
use Rattle.stream_constructs.specs.Construct as construct
use Rattle.stream_shapes.specs.declared.construct.Shape.{Shape}
use Rattle.stream_shapes.specs.inner.Shape.{HasShape}

-- an operand before others
record IsFront (k : ℕ) (o : Operand) (os : List Operand) : Type 0 where
  pub first : BodyTree
  pub next : ℕ
  pub is : operand_trees k (o ∷ os) ≡ first ∷ operand_trees next os

front : (k : ℕ) (o : Operand) (os : List Operand) → IsFront k o os
front k (Fixed s) os = record { first = Literal s; next = k; is = refl }
front k Varying os = record { first = Argument k; next = suc k; is = refl }

many : (r : Role) (a b c : BodyTree) (ts : List BodyTree) → role_tree r (a ∷ b ∷ c ∷ ts) ≡ no_tree
many (role.Unary o) a b c ts = refl
many (role.Binary o) a b c ts = refl
many (role.Update o) a b c ts = refl

many_at : (d : Dotted) (o p q : Operand) (os : List Operand) → dotted_tree d (operand_trees 0 (o ∷ p ∷ q ∷ os)) ≡ no_tree
many_at d o p q os =
    let one = front 0 o (p ∷ q ∷ os) in
    let two = front one.next p (q ∷ os) in
    let three = front two.next q os in
    ap (dotted_tree d) (one.is ∙ ap (λ ts. one.first ∷ ts) (two.is ∙ ap (λ ts. two.first ∷ ts) three.is))
    ∙ many (role_of d) one.first two.first three.first (operand_trees three.next os)

-- three operands or more
pub no_tree_of_many : (d : Dotted) (es : List Expr) (a b c : Expr) (rest : List Expr) → es ≡ a ∷ b ∷ c ∷ rest → no_tree ≡ dotted_tree d (operand_trees 0 (operands es))
no_tree_of_many d es a b c rest is =
    sym (ap (λ xs. dotted_tree d (operand_trees 0 (operands xs))) is ∙ many_at d (operand (literal a)) (operand (literal b)) (operand (literal c)) (operands rest))

-- two operands or more, where two are too many
pub no_tree_of_two : (d : Dotted) (es : List Expr) (a b : Expr) (rest : List Expr) → es ≡ a ∷ b ∷ rest → ((x y : BodyTree) → dotted_tree d (x ∷ y ∷ []) ≡ no_tree) → no_tree ≡ dotted_tree d (operand_trees 0 (operands es))
no_tree_of_two d es a b [] is none =
    let one = front 0 (operand (literal a)) (operand (literal b) ∷ []) in
    let two = front one.next (operand (literal b)) [] in
    sym (ap (λ xs. dotted_tree d (operand_trees 0 (operands xs))) is ∙ ap (dotted_tree d) (one.is ∙ ap (λ ts. one.first ∷ ts) two.is) ∙ none one.first two.first)
no_tree_of_two d es a b (c ∷ rest) is none = no_tree_of_many d es a b c rest is

-- the shape of equal bodies
pub shape_of_body : {E : Type 0} (r : Result Shape E) (t u : BodyTree) (es : List Expr) → t ≡ u → IfOk r (λ s. HasShape s (construct.Signal t) es) → IfOk r (λ s. HasShape s (construct.Signal u) es)
shape_of_body r t u es is h = let P : BodyTree → Type 0 = λ v. IfOk r (λ s. HasShape s (construct.Signal v) es) in subst P is h
