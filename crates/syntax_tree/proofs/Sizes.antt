-- Parts that are smaller than their list, and sizes that do not hang on places.
use Rattle.std.proofs.Common.{◌≡◌, ℕ, zero, suc, ◌<◌, ◌≤◌, List, [], ◌∷◌, ◌++◌, length, get_or, refl, sym, ap, ◌∙◌, arith}
use Rattle.tsl_value.specs.declared.place.Place.{Place}
use Rattle.syntax_tree.specs.Tree as tree
use Rattle.syntax_tree.specs.Tree.{Expr, place_of}
use Rattle.syntax_tree.specs.declared.tree.Link.{Link}
use Rattle.syntax_tree.specs.declared.tree.Node.{Node}
use Rattle.syntax_tree.specs.declared.tree.Node.TheVariants as node
use Rattle.syntax_tree.specs.inner.OneLevel.{exprs_of, links_in, expr_of, definitions_of, size_of, size_of_exprs, size_of_links, size_of_definition, size_of_definitions}

argument_within : (es : List Expr) (i : ℕ) (d : Expr) → i < length es → size_of (get_or es i d) < size_of_exprs (exprs_of es)
argument_within [] i d h = absurd (omega arith)
argument_within (e ∷ es) zero d h = omega arith
argument_within (e ∷ es) (suc i) d h = omega (arith, argument_within es i d (omega arith))

pub argument_smaller : (es : List Expr) (i : ℕ) (e : Expr) → i < length es → e ≡ get_or es i e → size_of e < size_of_exprs (exprs_of es)
argument_smaller es i e h is = let same = ap size_of is in omega (arith, same, argument_within es i e h)

link_within : (ls : List Link) (i : ℕ) (d : Link) → i < length ls → size_of ((get_or ls i d).operand) < size_of_links (links_in ls)
link_within [] i d h = absurd (omega arith)
link_within (l ∷ ls) zero d h = omega arith
link_within (l ∷ ls) (suc i) d h = omega (arith, link_within ls i d (omega arith))

pub link_smaller : (ls : List Link) (i : ℕ) (l : Link) → i < length ls → l ≡ get_or ls i l → size_of l.operand < size_of_links (links_in ls)
link_smaller ls i l h is = let same = ap (λ (l : Link). size_of l.operand) is in omega (arith, same, link_within ls i l h)

definition_within : (ds : List tree.Definition) (i : ℕ) (d : tree.Definition) → i < length ds → size_of_definition (get_or ds i d) < size_of_definitions (definitions_of ds)
definition_within [] i d h = absurd (omega arith)
definition_within (e ∷ es) zero d h = omega arith
definition_within (e ∷ es) (suc i) d h = omega (arith, definition_within es i d (omega arith))

pub definition_smaller : (ds : List tree.Definition) (i : ℕ) (d e : tree.Definition) → i < length ds → d ≡ get_or ds i d → e ≡ d → size_of_definition e < size_of_definitions (definitions_of ds)
definition_smaller ds i d e h is same =
    let one = ap size_of_definition is in
    let other = ap size_of_definition same in omega (arith, one, other, definition_within ds i d h)

-- all arguments but the last
front_smaller : (es : List Expr) (e : Expr) → size_of_exprs (exprs_of es) ≤ size_of_exprs (exprs_of (es ++ e ∷ []))
front_smaller [] e = omega arith
front_smaller (x ∷ xs) e = omega (arith, front_smaller xs e)

pub front_within : (all es : List Expr) (e : Expr) → all ≡ es ++ e ∷ [] → size_of_exprs (exprs_of es) ≤ size_of_exprs (exprs_of all)
front_within all es e h = let same = ap (λ (l : List Expr). size_of_exprs (exprs_of l)) h in omega (arith, same, front_smaller es e)

pub size_anywhere : (p q : Place) (n : Node) → size_of (expr_of p n) ≡ size_of (expr_of q n)
size_anywhere p q (node.If a b c) = refl
size_anywhere p q (node.Chain a b c) = refl
size_anywhere p q (node.Compare a b c) = refl
size_anywhere p q (node.Negate a) = refl
size_anywhere p q (node.Not a) = refl
size_anywhere p q (node.Number a) = refl
size_anywhere p q (node.Negative a) = refl
size_anywhere p q (node.Text a) = refl
size_anywhere p q (node.Boolean a) = refl
size_anywhere p q node.Unit = refl
size_anywhere p q (node.Name a) = refl
size_anywhere p q (node.Call a b) = refl
size_anywhere p q (node.CallDotted a b) = refl
size_anywhere p q (node.Nil a) = refl
size_anywhere p q (node.None a) = refl
size_anywhere p q (node.Empty a) = refl

pub size_of_node : (e : Expr) (n : Node) (p : Place) → expr_of (place_of e) n ≡ e → size_of e ≡ size_of (expr_of p n)
size_of_node e n p is = ap size_of (sym is) ∙ size_anywhere (place_of e) p n
