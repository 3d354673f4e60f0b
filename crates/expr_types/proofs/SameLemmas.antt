-- Where each name stands for the same, bodies are the same.
use Rattle.std.proofs.Common.{◌≡◌, ℕ, Bool, true, false, List, [], ◌++◌, Option, Some, None, refl, ap}
use Rattle.std.specs.Option.{option_and_then}
use Rattle.std.specs.List.{flat_map}
use Rattle.syntax_tree.specs.Tree as tree
use Rattle.syntax_tree.specs.Tree.{Expr}
use Rattle.name_check.specs.Scope.{Scope, Agree, in_block, locals_from}
use Rattle.name_check.specs.Parts.{Part, Operand, Function, parts}
use Rattle.name_check.proofs.AgreeLemmas.{agree_same, agree_append}
use Rattle.type_rules.specs.declared.rule.ExprType.{ExprType}
use Rattle.type_rules.specs.Rules.{body_rule}
use Rattle.expr_types.specs.Around.{Around}
use Rattle.expr_types.specs.Judge.{judge, of_verdict, wrongs, own_wrong, broken}
use Rattle.expr_types.specs.Bodies.{expr_wrongs, asked_of, plain_wrongs, local_wrongs, macro_wrongs, body_wrongs, written_of, within_block, fitting, expr_kind, body_kind, definition_kind, may_have_braces}
use Rattle.expr_types.specs.inner.Alike.{IsAlike}
use Rattle.expr_types.proofs.AlikeLemmas.{judged_alike, names_alike}

abbrev pub moved : Around → Scope → Around
moved at t = record at { scope = t }

name_same : (at : Around) (t : Scope) → Agree at.scope t → (n : List ℕ) → IsAlike at (moved at t) n
name_same at t h n = record { stands = h.at n; types = λ d is. refl; calls = λ d is. refl }

same_judge : (at : Around) (t : Scope) → Agree at.scope t → (e : Expr) → judge at e ≡ judge (moved at t) e
same_judge at t h e = judged_alike at (moved at t) e (names_alike at (moved at t) e refl (name_same at t h))

same_part : (at : Around) (t : Scope) → Agree at.scope t → (p : Part) → own_wrong at p ≡ own_wrong (moved at t) p
same_part at t h (Operand e) = ap (broken e) (same_judge at t h e)
same_part at t h (Function e) = refl

same_wrongs : (at : Around) (t : Scope) → Agree at.scope t → (e : Expr) → wrongs at e ≡ wrongs (moved at t) e
same_wrongs at t h e = λ i. flat_map (λ p. same_part at t h p i) (parts e)

-- ---- what is wrong in bodies
pub same_expr : (at : Around) (t : Scope) → Agree at.scope t → (w : Option ExprType) (e : Expr) → expr_wrongs at w e ≡ expr_wrongs (moved at t) w e
same_expr at t h w e = λ i. same_wrongs at t h e i ++ asked_of at w e (of_verdict (same_judge at t h e i))

same_plain : (at : Around) (t : Scope) → Agree at.scope t → (w : Option ExprType) (b : tree.Body) → plain_wrongs at w b ≡ plain_wrongs (moved at t) w b
same_plain at t h w (tree.Plain e) = same_expr at t h w e
same_plain at t h w (tree.Block ds e) = refl

same_locals : (at : Around) (t : Scope) → Agree at.scope t → (ds : tree.Definitions) → local_wrongs at ds ≡ local_wrongs (moved at t) ds
same_locals at t h tree.no_definitions = refl
same_locals at t h (tree.more_definitions (tree.Define q n ps w b) ds) = λ i. same_plain at t h (written_of [] w) b i ++ same_locals at t h ds i

agree_block : (s t : Scope) (ds : tree.Definitions) → Agree s t → Agree (in_block 0 s ds) (in_block 0 t ds)
agree_block s t ds h = agree_append (locals_from 0 ds) (locals_from 0 ds) s t (agree_same _ _ refl) h

same_macro : (at : Around) (t : Scope) → Agree at.scope t → (w : Option ExprType) (b : tree.Body) → macro_wrongs at w b ≡ macro_wrongs (moved at t) w b
same_macro at t h w (tree.Plain e) = same_expr at t h w e
same_macro at t h w (tree.Block ds e) =
    λ i. same_locals (within_block at ds) (in_block 0 t ds) (agree_block at.scope t ds h) ds i ++ same_expr (within_block at ds) (in_block 0 t ds) (agree_block at.scope t ds h) w e i

pub same_body : (at : Around) (t : Scope) → Agree at.scope t → (m : Bool) (w : Option ExprType) (b : tree.Body) → body_wrongs at m w b ≡ body_wrongs (moved at t) m w b
same_body at t h true w b = same_macro at t h w b
same_body at t h false w b = same_plain at t h w b

-- what is seen in a block agrees with what its definitions declare
block_agrees : (at : Around) (level : Scope) (ds : tree.Definitions) → Agree level (locals_from 0 ds) → Agree (level ++ at.scope) (in_block 0 at.scope ds)
block_agrees at level ds h = agree_append level (locals_from 0 ds) at.scope at.scope h (agree_same _ _ refl)

pub block_same : (at : Around) (level : Scope) (ds : tree.Definitions) (w : Option ExprType) (e : Expr) → Agree level (locals_from 0 ds) → local_wrongs (moved at (level ++ at.scope)) ds ++ expr_wrongs (moved at (level ++ at.scope)) w e ≡ macro_wrongs at w (tree.Block ds e)
block_same at level ds w e h =
    let same = block_agrees at level ds h in
    λ i. same_locals (moved at (level ++ at.scope)) (in_block 0 at.scope ds) same ds i ++ same_expr (moved at (level ++ at.scope)) (in_block 0 at.scope ds) same w e i

-- ---- what bodies are
pub same_expr_kind : (at : Around) (t : Scope) → Agree at.scope t → (e : Expr) → expr_kind at e ≡ expr_kind (moved at t) e
same_expr_kind at t h e = ap (λ v. option_and_then (λ u. fitting (body_rule at.setting None u) u) (of_verdict v)) (same_judge at t h e)

same_body_kind : (at : Around) (t : Scope) → Agree at.scope t → (m : Bool) (b : tree.Body) → body_kind at m b ≡ body_kind (moved at t) m b
same_body_kind at t h m (tree.Plain e) = same_expr_kind at t h e
same_body_kind at t h true (tree.Block ds e) = same_expr_kind (within_block at ds) (in_block 0 t ds) (agree_block at.scope t ds h) e
same_body_kind at t h false (tree.Block ds e) = refl

pub same_kind : (at : Around) (t : Scope) → Agree at.scope t → (ps : List tree.Param) (w : Option tree.TypeName) (b : tree.Body) → definition_kind at ps w b ≡ definition_kind (moved at t) ps w b
same_kind at t h ps (Some w) b = refl
same_kind at t h ps None b = same_body_kind at t h (may_have_braces ps) b

pub block_kind_same : (at : Around) (level : Scope) (ds : tree.Definitions) (e : Expr) → Agree level (locals_from 0 ds) → expr_kind (moved at (level ++ at.scope)) e ≡ expr_kind (within_block at ds) e
block_kind_same at level ds e h = same_expr_kind (moved at (level ++ at.scope)) (in_block 0 at.scope ds) (block_agrees at level ds h) e
