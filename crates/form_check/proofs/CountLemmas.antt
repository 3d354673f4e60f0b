-- Arguments of calls.
use Rattle.std.proofs.Common.{◌≡◌, ℕ, suc, List, [], ◌∷◌, ◌++◌, length, Option, Some, None, refl, sym, ap, ◌∙◌}
use Rattle.tsl_value.specs.declared.place.Place.{Place}
use Rattle.tsl_value.specs.declared.text.Text.{Text}
use Rattle.syntax_tree.specs.Tree as tree
use Rattle.syntax_tree.specs.Tree.{Expr}
use Rattle.syntax_tree.specs.declared.tree.Node.{Node}
use Rattle.syntax_tree.specs.declared.tree.Node.TheVariants as node
use Rattle.syntax_tree.specs.inner.OneLevel.{exprs_of, expr_of}
use Rattle.name_check.specs.declared.declaration.Declaration.{Declaration}
use Rattle.name_check.specs.Scope.{Scope, meaning}
use Rattle.form_check.specs.Arity.{count, last_of, function_takes, lifted_takes}

pub count_length : (es : List Expr) → count (exprs_of es) ≡ length es
count_length [] = refl
count_length (e ∷ es) = ap suc (count_length es)

last_after : (es : List Expr) (e : Expr) → last_of (exprs_of (es ++ e ∷ [])) ≡ Some e
last_after [] e = refl
last_after (x ∷ []) e = refl
last_after (x ∷ y ∷ ys) e = last_after (y ∷ ys) e

-- the last argument, where the others are split off
last_argument : (all es : List Expr) (e : Expr) → all ≡ es ++ e ∷ [] → last_of (exprs_of all) ≡ Some e
last_argument all es e h = ap (λ l. last_of (exprs_of l)) h ∙ last_after es e

-- ---- the function of a `lift`
pub named : (items : List tree.Item) (s : Scope) (all es : List Expr) (e : Expr) (p : Place) (n : List ℕ) (o : Option Declaration) (r : Option ℕ) → all ≡ es ++ e ∷ [] → tree.Name p n ≡ e → o ≡ meaning s n → r ≡ function_takes items o → r ≡ lifted_takes items s (last_of (exprs_of all))
named items s all es e p n o r h is found taken =
    taken ∙ ap (function_takes items) found
    ∙ ap (λ x. lifted_takes items s (Some x)) is
    ∙ ap (lifted_takes items s) (sym (last_argument all es e h))

not_named : (items : List tree.Item) (s : Scope) (p : Place) (n : Node) → ((x : Text) → n ≡ node.Name x → ⊥) → lifted_takes items s (Some (expr_of p n)) ≡ None
not_named items s p (node.If a b c) h = refl
not_named items s p (node.Chain a b c) h = refl
not_named items s p (node.Compare a b c) h = refl
not_named items s p (node.Negate a) h = refl
not_named items s p (node.Not a) h = refl
not_named items s p (node.Number a) h = refl
not_named items s p (node.Negative a) h = refl
not_named items s p (node.Text a) h = refl
not_named items s p (node.Boolean a) h = refl
not_named items s p node.Unit h = refl
not_named items s p (node.Name a) h = absurd (h a refl)
not_named items s p (node.Call a b) h = refl
not_named items s p (node.CallDotted a b) h = refl
not_named items s p (node.Nil a) h = refl
not_named items s p (node.None a) h = refl
not_named items s p (node.Empty a) h = refl

pub unnamed : (items : List tree.Item) (s : Scope) (all es : List Expr) (e : Expr) (p : Place) (n : Node) → all ≡ es ++ e ∷ [] → expr_of p n ≡ e → ((x : Text) → n ≡ node.Name x → ⊥) → None ≡ lifted_takes items s (last_of (exprs_of all))
unnamed items s all es e p n h is other =
    sym (not_named items s p n other)
    ∙ ap (λ x. lifted_takes items s (Some x)) is
    ∙ ap (lifted_takes items s) (sym (last_argument all es e h))
